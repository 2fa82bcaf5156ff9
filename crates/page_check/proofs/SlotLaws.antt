-- One slot: its entry in two halves of 32 bits, and what `run_of` finds of each kind.
use Prim.Native.Nat.{ℕ, ◌+◌, ◌*◌, ◌^◌, ◌≤◌, ◌<◌}
use mathlib.Core.Path.{◌≡◌, refl, sym, subst, ◌∙◌}
use mathlib.Core.Bool.{Bool, true, false, false≢true}
use mathlib.Core.List.{List}
use lib.ListN.{length}
use Rattle.std.specs.Prelude.{Option, IfSome}
use Rattle.std.specs.Bool.{then_some}
use Rattle.store.specs.Numbers.{cut, be}
use Rattle.store.specs.Slots.{slot_of}
use Rattle.store.specs.Page.{view}
use Rattle.store.specs.declared.Part.{Part}
use Rattle.store.specs.declared.Slot.{Slot}
use Rattle.layout.proofs.Codec.{counted_slot}
use Rattle.page_check.specs.Fit.{Tells, Found}

pub refuted : {A : Type 0} → false ≡ true → A
refuted h = absurd (false≢true h)

pub tells_no : {A : Type 0} → (A → ⊥) → Tells false A
tells_no n = record { yes = refuted; back = λ x. absurd (n x) }

-- an answer is not yes and no
pub not_both : {r : Bool} → r ≡ true → r ≡ false → ⊥
not_both y n = refuted (sym n ∙ y)

-- what is told of a value just where a test passes
pub some_if : {A : Type 0} (P : A → Type 0) (b : Bool) (x : A) → (b ≡ true → P x) → IfSome (then_some b x) P
some_if P true x f = f refl
some_if P false x f = tt

-- ---- the entry

-- what is found of the two halves of slot k is found of the slot
pub found_at : (p : List ℕ) (k o l f low : ℕ) (r : Option Part) → 12 + 8 * k + 8 ≤ length p → k < (view p).slot_count
    → o ≡ be (cut p (12 + 8 * k) 4) → l ≡ be (cut p (12 + 8 * k + 4) 4)
    → Found (slot_of (o * 2 ^ 32 + l)) k f low r → Found ((view p).at k) k f low r
found_at p k o l f low r w h eo el x = subst (λ (s : Slot). Found s k f low r) (counted_slot p k o l w h eo el) x
