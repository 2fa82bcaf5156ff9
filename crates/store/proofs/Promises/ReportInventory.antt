-- Fill report, "By the inventory: with a true inventory, class c is the number of nibbles of pages below n that are c": of every segment of right
-- size, its pages sound or not; so of every sound segment.
use Rattle.std.specs.Prelude.{ℕ, ◌/◌, ◌<◌, ◌≡◌, true, List, length, eqb}
use Rattle.std.proofs.Common.{sym, ap, ◌∙◌, arith, lt-ltb, eqb-true}
use Rattle.store.specs.Numbers.{sum, one}
use Rattle.store.specs.Inventory.{nibble, Truth}
use Rattle.store.specs.Segment.{seg_view, size_ok, inv_ok}
use Rattle.store.specs.SoundSegment.{nibble_of, classes, SoundSegment}
use Rattle.store.specs.Report.{of_class, figures}
use Rattle.store.specs.ReportTold.{class_at}
use Rattle.store.proofs.Laws.Views.{sum_ext}
use Rattle.store.proofs.Laws.SoundSegment.{sized}
use Rattle.store.proofs.Laws.ReportClasses.{class_figure}

pub class_by_inventory : (s v : List ℕ) → size_ok s ≡ true → inv_ok v ≡ true → Truth (classes (seg_view s)) (length s / 16384) v
    → (c : ℕ) → c < 16 → class_at c (figures (seg_view s)) ≡ sum (length s / 16384) (λ p. one (eqb (nibble v p) c))
unfolding seg_view
class_by_inventory s v e i t c l =
    let n : ℕ = length s / 16384 in
    class_figure (seg_view s) n c l
    ∙ sum_ext n (λ p. of_class c ((seg_view s).page p)) (λ p. one (eqb (nibble v p) c)) (λ p m. ap (λ (k : ℕ). one (eqb k c)) (sym (same p m)))
  where
    same : (p : ℕ) → p < length s / 16384 → nibble v p ≡ nibble_of ((seg_view s).page p)
    same p m = t.nibbles p (omega (arith, (sized s e).few, eqb-true (length v) 16384 i)) ∙ rw (lt-ltb p (length s / 16384) m)

pub class_in_sound : (s v : List ℕ) → SoundSegment s v → (c : ℕ) → c < 16
    → class_at c (figures (seg_view s)) ≡ sum (length s / 16384) (λ p. one (eqb (nibble v p) c))
class_in_sound s v h = class_by_inventory s v h.whole h.page h.inventory
