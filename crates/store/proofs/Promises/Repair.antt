-- Repair, for every segment, inventory and list. Carried out it leaves a sound segment; a sound one it leaves as it is; refused it changes
-- nothing. What is kept: RepairKept. Which entries there are: RepairEntries. What is looked at: RepairSeen. All of it is about `repair_step`.
use Rattle.std.specs.Prelude.{ℕ, ◌/◌, ◌<◌, ◌≡◌, refl, Bool, true, false, ◌&&◌, List, [], ◌∷◌, ◌≢◌, length}
use Rattle.std.proofs.Common.{sym, ap, ◌∙◌, arith}
use Rattle.std.proofs.Math.Decide.{ℕ_discrete}
use Rattle.store.specs.Segment.{size_ok, inv_ok}
use Rattle.store.specs.Calls.{Call, results, Each}
use Rattle.store.specs.SoundSegment.{SoundSegment}
use Rattle.store.specs.Repair.{standing, Entry, entries, Repaired, repair_step}
use Rattle.store.proofs.Laws.SoundPage.{and_both}
use Rattle.store.proofs.Laws.RepairAlone.{left_alone, only_sound}
use Rattle.store.proofs.Laws.RepairCall.{outcome, refused_by, room_by, room_in, size_by, size_in, count_by, sound_by, done_by}
use Rattle.store.proofs.Promises.Sound.{Right, calls_right}

module _ (s v l : List ℕ) where
  -- "Afterwards the segment is sound."
  pub sound_afterwards : (repair_step s v l).answer ≡ 0 → SoundSegment (repair_step s v l).seg (repair_step s v l).inv
  sound_afterwards q = sound_by s v l (repair_step s v l) (outcome s v l) q

  -- "A sound one gets no entry and keeps each byte", also with an empty list
  pub sound_alone : SoundSegment s v → repair_step s v l ≡ record { answer = 0; count = 0; seg = s; inv = v; list = l }
  sound_alone h = left_alone s v h l

  -- with right sizes the count is that of the entries
  pub count_is : (size_ok s && inv_ok v) ≡ true → (repair_step s v l).count ≡ length (entries (standing s) v)
  count_is q = count_by s v l (repair_step s v l) (outcome s v l) q

  -- and only a sound one: "With right sizes the count is 0 exactly if the segment is sound"
  pub none_sound : (size_ok s && inv_ok v) ≡ true → (repair_step s v l).count ≡ 0 → SoundSegment s v
  none_sound e n =
      let b = and_both (size_ok s) (inv_ok v) e in
      only_sound s v b.0 b.1 (nil (entries (standing s) v) (sym (count_is e) ∙ n))
    where
      nil : (es : List Entry) → length es ≡ 0 → es ≡ []
      nil [] q = refl
      nil (x ∷ es) q = absurd (omega arith)

  -- "Twice is once. A second repair answers 0 with count 0", and changes nothing
  pub twice_once : (repair_step s v l).answer ≡ 0 → (m : List ℕ)
      → repair_step (repair_step s v l).seg (repair_step s v l).inv m
      ≡ record { answer = 0; count = 0; seg = (repair_step s v l).seg; inv = (repair_step s v l).inv; list = m }
  twice_once q m = left_alone (repair_step s v l).seg (repair_step s v l).inv (sound_afterwards q) m

  -- "after a repair that answers 0, no sequence of calls answers 4 or 8"
  pub right_afterwards : (repair_step s v l).answer ≡ 0 → (cs : List Call) → Each Right (results cs (repair_step s v l).seg (repair_step s v l).inv)
  right_afterwards q cs = calls_right cs (repair_step s v l).seg (repair_step s v l).inv (sound_afterwards q)

  -- "Refusals change nothing: segment, inventory and list."
  pub refused_same : (repair_step s v l).answer ≢ 0 → ((repair_step s v l).seg ≡ s) × ((repair_step s v l).inv ≡ v) × ((repair_step s v l).list ≡ l)
  refused_same n = refused_by s v l (repair_step s v l) (outcome s v l) n

  -- "The answer is 11 exactly if the sizes are right and the list has fewer places than the count": three words are a place
  pub room_only : (repair_step s v l).answer ≡ 11 → ((size_ok s && inv_ok v) ≡ true) × (length l / 3 < (repair_step s v l).count)
  room_only q = room_by s v l (repair_step s v l) (outcome s v l) q

  pub room_if : (size_ok s && inv_ok v) ≡ true → length l / 3 < (repair_step s v l).count → (repair_step s v l).answer ≡ 11
  room_if q m = room_in s v l (repair_step s v l) (outcome s v l) q m

  -- 1 exactly if a size is wrong; "Answer 1: count is 0"
  pub size_only : (repair_step s v l).answer ≡ 1 → ((size_ok s && inv_ok v) ≡ false) × ((repair_step s v l).count ≡ 0)
  size_only q = size_by s v l (repair_step s v l) (outcome s v l) q

  pub size_if : (size_ok s && inv_ok v) ≡ false → (repair_step s v l).answer ≡ 1
  size_if e = size_in s v l (repair_step s v l) (outcome s v l) e

-- "the count does not depend on the list"
pub count_same : (s v l m : List ℕ) → (repair_step s v l).count ≡ (repair_step s v m).count
count_same s v l m = go (size_ok s && inv_ok v) refl
  where
    go : (b : Bool) → (size_ok s && inv_ok v) ≡ b → (repair_step s v l).count ≡ (repair_step s v m).count
    go true e = count_is s v l e ∙ sym (count_is s v m e)
    go false e = (size_only s v l (size_if s v l e)).1 ∙ sym (size_only s v m (size_if s v m e)).1

-- "a call with an empty list is a check that changes nothing: it answers 0 exactly if the segment is sound"
pub check_if : (s v : List ℕ) → SoundSegment s v → (repair_step s v []).answer ≡ 0
check_if s v h = ap (λ (r : Repaired). r.answer) (sound_alone s v [] h)

pub check_only : (s v : List ℕ) → (repair_step s v []).answer ≡ 0 → SoundSegment s v
check_only s v q = let d = done_by s v [] (repair_step s v []) (outcome s v []) q in none_sound s v [] d.0 (omega (arith, d.1))

pub check_same : (s v : List ℕ) → ((repair_step s v []).seg ≡ s) × ((repair_step s v []).inv ≡ v)
check_same s v = go (ℕ_discrete (repair_step s v []).answer 0)
  where
    go : Dec ((repair_step s v []).answer ≡ 0) → ((repair_step s v []).seg ≡ s) × ((repair_step s v []).inv ≡ v)
    go (yes q) = let e = sound_alone s v [] (check_only s v q) in (ap (λ (r : Repaired). r.seg) e, ap (λ (r : Repaired). r.inv) e)
    go (no n) = let k = refused_same s v [] n in (k.0, k.1)
