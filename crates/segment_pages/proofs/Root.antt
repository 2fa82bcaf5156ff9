-- The own page of an id, test by test; and what its answer tells.
use Prim.Native.Nat.{ℕ, ◌/◌, ◌≤◌, ◌<◌}
use mathlib.Core.Path.{◌≡◌, ap, ◌∙◌}
use mathlib.Core.Bool.{true, false, not}
use mathlib.Core.List.{List}
use native.Mathlib.Omega.{arith}
use lib.ListN.{length}
use lib.Dec.{leb}
use borrow.Author.Tests.{le-leb, lt-leb, leb-false, not-false}
use Rattle.store.specs.Numbers.{page_no, slot_no}
use Rattle.store.specs.Slots.{is_free}
use Rattle.store.specs.Page.{sound}
use Rattle.store.specs.Segment.{seg_view, root_of, points_back}
use Rattle.store.proofs.Laws.SoundSegment.{seen_pages}
use Rattle.store.specs.Laws.Lent.{SoundOn, TakenOn, RootIs}
use Rattle.store.proofs.Laws.Calls.{page_below, back_ok, target_taken}
use Rattle.store.proofs.Laws.SoundPage.{sound_test}
use Rattle.store.proofs.Laws.Cases.{by_test}
use Rattle.std.proofs.Common.{Result, Ok, Err}
use Rattle.store.specs.declared.Refusal.{Refusal}
use Rattle.store.specs.declared.Refusal.TheVariants.{NoPage, Damaged}
use Rattle.store.specs.declared.Slot.{Slot}

module _ (s : List ℕ) (i : ℕ) where
  pub root_past : length s / 16384 ≤ page_no i → Err NoPage ≡ root_of (seg_view s) i
  unfolding root_of
  root_past h = rw (seen_pages s, le-leb (length s / 16384) (page_no i) h)

  module _ (inside : page_no i < length s / 16384) where
    pub root_damaged : sound ((seg_view s).page (page_no i)) ≡ false → Err Damaged ≡ root_of (seg_view s) i
    unfolding root_of
    root_damaged e = rw (seen_pages s, lt-leb (length s / 16384) (page_no i) inside, e)

    pub root_found : sound ((seg_view s).page (page_no i)) ≡ true → (x : Slot) → x ≡ ((seg_view s).page (page_no i)).at (slot_no i)
        → Ok x ≡ root_of (seg_view s) i
    unfolding root_of
    root_found e x q = rw (seen_pages s, lt-leb (length s / 16384) (page_no i) inside, e, q)

  -- an entry tells that the page is there and sound, and what the slot is
  pub root_is : (x : Slot) → root_of (seg_view s) i ≡ Ok x → RootIs s i x
  unfolding root_of
  root_is x =
      by_test (λ (r : Result Slot Refusal). r ≡ Ok x → RootIs s i x) (leb (seg_view s).pages (page_no i)) (Err NoPage) _ (λ e q. let z : ◌≡◌ {A = ℕ} 0 1 = cc in
      absurd (omega arith))
      (λ e. by_test (λ (r : Result Slot Refusal). r ≡ Ok x → RootIs s i x) (not (sound ((seg_view s).page (page_no i)))) (Err Damaged) _
      (λ d q. let z : ◌≡◌ {A = ℕ} 0 1 = cc in absurd (omega arith))
      (λ d q. record {
        whole = page_below s (page_no i) (leb-false (seg_view s).pages (page_no i) e);
        sound = not-false (sound ((seg_view s).page (page_no i))) d;
        entry = cc;
      }))

-- so it is a sound page, and a slot that is not free where the entry says so
pub root_sound : (s : List ℕ) (i : ℕ) (x : Slot) → RootIs s i x → SoundOn s (page_no i)
root_sound s i x r = record { whole = r.whole; sound = r.sound }

pub root_taken : (s : List ℕ) (i : ℕ) (x : Slot) → RootIs s i x → is_free x ≡ false → TakenOn s (page_no i) (slot_no i)
root_taken s i x r e = record { whole = r.whole; sound = r.sound; taken = ap is_free r.entry ∙ e }

-- and so is the page of a target that points back
pub back_taken : (s : List ℕ) (i t : ℕ) → points_back (seg_view s) i t ≡ true → TakenOn s (page_no t) (slot_no t)
back_taken s i t e =
    let b = back_ok s i t e in
    let u = (seg_view s).page (page_no t) in
    record { whole = b.0.fits; sound = sound_test u b.0.sound; taken = target_taken (u.at (slot_no t)) b.1 }
