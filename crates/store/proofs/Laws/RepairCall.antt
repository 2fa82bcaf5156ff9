-- Repair's call by what its tests say: a wrong size, too few places, carried out.
use Rattle.std.specs.Prelude.{ℕ, ◌/◌, ◌≤◌, ◌<◌, ◌≡◌, Bool, cond, not, ◌&&◌, List, ◌≢◌, length}
use Rattle.std.proofs.Math.Path.{refl}
use Rattle.std.proofs.Math.Bool.{true, false}
use Rattle.std.proofs.Common.{arith, eqb-true, ltb-true, ltb-false}
use Rattle.std.proofs.Math.Dec.{ltb}
use Rattle.store.specs.Numbers.{put}
use Rattle.store.specs.Segment.{size_ok, inv_ok}
use Rattle.store.specs.SoundSegment.{SoundSegment}
use Rattle.store.specs.Repair.{standing, seg_bytes, inv_after, entries, words, Repaired, repair_step}
use Rattle.store.proofs.Laws.SoundPage.{and_both}
use Rattle.store.proofs.Laws.SoundSegment.{sized}
use Rattle.store.proofs.Laws.Repair.{after_sound}

module _ (s v l : List ℕ) where
  abbrev pub wrong_size : Repaired
  wrong_size = record { answer = 1; count = 0; seg = s; inv = v; list = l }

  abbrev pub no_place : Repaired
  no_place = record { answer = 11; count = length (entries (standing s) v); seg = s; inv = v; list = l }

  abbrev pub carried_out : Repaired
  carried_out = record {
    answer = 0;
    count = length (entries (standing s) v);
    seg = seg_bytes (standing s) (length s / 16384) s;
    inv = inv_after (standing s) v;
    list = put l 0 (words (entries (standing s) v));
  }

  pub data Outcome : Repaired → Type 0 where
    of_size : (size_ok s && inv_ok v) ≡ false → Outcome wrong_size
    of_room : (size_ok s && inv_ok v) ≡ true → length l / 3 < length (entries (standing s) v) → Outcome no_place
    of_done : (size_ok s && inv_ok v) ≡ true → length (entries (standing s) v) ≤ length l / 3 → Outcome carried_out

  pub outcome : Outcome (repair_step s v l)
  unfolding repair_step
  outcome = go (size_ok s && inv_ok v) refl (ltb (length l / 3) (length (entries (standing s) v))) refl
    where
      go : (a : Bool) → (size_ok s && inv_ok v) ≡ a → (b : Bool) → ltb (length l / 3) (length (entries (standing s) v)) ≡ b
          → Outcome (cond (not a) wrong_size (cond b no_place carried_out))
      go true e true f = of_room e (ltb-true (length l / 3) (length (entries (standing s) v)) f)
      go true e false f = of_done e (ltb-false (length l / 3) (length (entries (standing s) v)) f)
      go false e b f = of_size e

  pub refused_by : (r : Repaired) → Outcome r → r.answer ≢ 0 → (r.seg ≡ s) × (r.inv ≡ v) × (r.list ≡ l)
  refused_by r (of_size e) n = (refl, refl, refl)
  refused_by r (of_room e f) n = (refl, refl, refl)
  refused_by r (of_done e f) n = absurd (n refl)

  pub room_by : (r : Repaired) → Outcome r → r.answer ≡ 11 → ((size_ok s && inv_ok v) ≡ true) × (length l / 3 < r.count)
  room_by r (of_size e) q = absurd (omega arith)
  room_by r (of_room e f) q = (e, f)
  room_by r (of_done e f) q = absurd (omega arith)

  pub room_in : (r : Repaired) → Outcome r → (size_ok s && inv_ok v) ≡ true → length l / 3 < r.count → r.answer ≡ 11
  room_in r (of_size e) q m = let z : ◌≡◌ {A = ℕ} 0 1 = cc in absurd (omega arith)
  room_in r (of_room e f) q m = refl
  room_in r (of_done e f) q m = absurd (omega arith)

  pub size_by : (r : Repaired) → Outcome r → r.answer ≡ 1 → ((size_ok s && inv_ok v) ≡ false) × (r.count ≡ 0)
  size_by r (of_size e) q = (e, refl)
  size_by r (of_room e f) q = absurd (omega arith)
  size_by r (of_done e f) q = absurd (omega arith)

  pub size_in : (r : Repaired) → Outcome r → (size_ok s && inv_ok v) ≡ false → r.answer ≡ 1
  size_in r (of_size e) q = refl
  size_in r (of_room e f) q = let z : ◌≡◌ {A = ℕ} 0 1 = cc in absurd (omega arith)
  size_in r (of_done e f) q = let z : ◌≡◌ {A = ℕ} 0 1 = cc in absurd (omega arith)

  pub count_by : (r : Repaired) → Outcome r → (size_ok s && inv_ok v) ≡ true → r.count ≡ length (entries (standing s) v)
  count_by r (of_size e) q = let z : ◌≡◌ {A = ℕ} 0 1 = cc in absurd (omega arith)
  count_by r (of_room e f) q = refl
  count_by r (of_done e f) q = refl

  pub sound_by : (r : Repaired) → Outcome r → r.answer ≡ 0 → SoundSegment r.seg r.inv
  sound_by r (of_size e) q = absurd (omega arith)
  sound_by r (of_room e f) q = absurd (omega arith)
  sound_by r (of_done e f) q =
      let b = and_both (size_ok s) (inv_ok v) e in
      let z = sized s b.0 in
      after_sound s z.whole z.few v (eqb-true (length v) 16384 b.1) b.0

  -- carried out: the sizes are right, and there are places enough
  pub done_by : (r : Repaired) → Outcome r → r.answer ≡ 0 → ((size_ok s && inv_ok v) ≡ true) × (r.count ≤ length l / 3)
  done_by r (of_size e) q = absurd (omega arith)
  done_by r (of_room e f) q = absurd (omega arith)
  done_by r (of_done e f) q = (e, f)
