-- The place that a function answers, from the promise of it in the paper's numbers.
use mathlib.Core.Path.{◌≡◌, refl, ap}
use Prim.Native.Nat.{ℕ}
use native.Mathlib.Omega.{arith}
use Rattle.store.specs.PageSteps.{Alloc, no_room, got}
use Rattle.store.specs.Answers.{Placed, given_place, allotted}
use Rattle.store.specs.declared.Place.{Place}
use Rattle.page_places.specs.Words.{place_at, place_of}
use Rattle.std.specs.Prelude.{Option, Some, None}

pub given_is : (r : Option Place) (a : Alloc) → given_place r ≡ allotted a → r ≡ place_of a
given_is (Some x) no_room e = absurd (omega (arith, ap (λ (y : Placed). y.answer) e))
given_is (Some x) (got j a) e = λ i. place_at (e i).slot (e i).offset
given_is None no_room e = refl
given_is None (got j a) e = absurd (omega (arith, ap (λ (y : Placed). y.answer) e))

-- ---- one place

abbrev slot_in : Option Place → ℕ
slot_in (Some x) = x.slot
slot_in None = 0

abbrev offset_in : Option Place → ℕ
offset_in (Some x) = x.offset
offset_in None = 0

module _ {k o j d : ℕ} (e : place_at k o ≡ place_at j d) where
  pub same_slot : k ≡ j
  same_slot = ap slot_in e

  pub same_offset : o ≡ d
  same_offset = ap offset_in e
