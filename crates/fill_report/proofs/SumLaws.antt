-- Sums of tallies, figure by figure: when each fits, bounds, and one page more of a class.
use Prim.Native.Nat.{ℕ, zero, suc, ◌+◌, ◌^◌, ◌≤◌, ◌<◌}
use mathlib.Core.Path.{◌≡◌, refl, sym, ap, ◌∙◌}
use mathlib.Core.Bool.{true, false}
use mathlib.Core.List.{List, [], ◌∷◌}
use native.Mathlib.Omega.{arith}
use Rattle.std.specs.Prelude.{Option, Some, None}
use Rattle.store.specs.declared.Tally.{Tally}
use lib.ListN.{length, get_or, set}
use lib.Seq.{ext_get_or}
use borrow.Author.Tests.{eq-eqb, ne_eqb}
use Rattle.store.specs.Refusals.{DONE}
use Rattle.store.specs.Segment.{seg_view, size_ok}
use Rattle.store.specs.Report.{added, all_fit, figures, all_sound, report, report_step}
use Rattle.store.specs.Answers.{numbers, summed}
use Rattle.store.specs.declared.ReportRefusal.TheVariants as fill
use Rattle.std.specs.Option.{ok_or}
use Rattle.store.proofs.Laws.Cases.{false_by}
use Rattle.store.proofs.Laws.Report.{length_added, get_d_added, fits_at, fits_in, on_tally, on_done}
use Rattle.fill_report.specs.Words.{AtMost, Summed, class_is}

-- ---- each figure fits

pub not_fit : (l : List ℕ) (i : ℕ) → 2 ^ 64 ≤ get_or l i 0 → all_fit l ≡ false
not_fit l i h = false_by (all_fit l) (λ e. omega (arith, fits_at l e i))

-- a sum with a sound segment's figures is what its report tells
module _ (s : List ℕ) (t f : Tally) (size : size_ok s ≡ true) (pages : all_sound (seg_view s) ≡ true) (is : numbers f ≡ figures (seg_view s)) where
  pub sum_told : (r : Option Tally) → Summed numbers (added (numbers t) (numbers f)) r → summed (ok_or r fill.Tally) t ≡ report_step s (numbers t)
  sum_told (Some x) h =
      let after = ap (added (numbers t)) is in
      ap (report DONE) (h.1 ∙ after) ∙ sym (on_done s (numbers t) size pages (sym (ap all_fit after) ∙ h.0))
  sum_told None h = sym (on_tally s (numbers t) size pages (sym (ap all_fit (ap (added (numbers t)) is)) ∙ h))

-- the sum of two lists of equal length, from each of its figures
module _ (xs ys : List ℕ) (n : length xs ≡ length ys) where
  pub sum_not_fit : (i : ℕ) → i < length xs → 2 ^ 64 ≤ get_or xs i 0 + get_or ys i 0 → all_fit (added xs ys) ≡ false
  sum_not_fit i l h = not_fit (added xs ys) i (omega (arith, get_d_added xs ys i l))

  pub sum_fits : ((i : ℕ) → i < length xs → get_or xs i 0 + get_or ys i 0 < 2 ^ 64) → all_fit (added xs ys) ≡ true
  sum_fits h = fits_in (added xs ys) (λ i l. let m : i < length xs = omega (arith, length_added xs ys) in omega (arith, get_d_added xs ys i m, h i m))

  pub sum_is : (r : List ℕ) → length r ≡ length xs → ((i : ℕ) → i < length xs → get_or r i 0 ≡ get_or xs i 0 + get_or ys i 0) → r ≡ added xs ys
  sum_is r l h = ext_get_or 0 r (added xs ys) (l ∙ sym (length_added xs ys)) (λ i m. omega (arith, h i (omega arith), get_d_added xs ys i (omega arith)))

-- ---- bounds

pub most_at : (b : ℕ) (xs : List ℕ) (i : ℕ) → AtMost b xs → get_or xs i 0 ≤ b
most_at b [] i h = omega arith
most_at b (x ∷ xs) zero h = h.0
most_at b (x ∷ xs) (suc i) h = most_at b xs i h.1

pub most_more : (a b : ℕ) (xs : List ℕ) → a ≤ b → AtMost a xs → AtMost b xs
most_more a b [] l h = tt
most_more a b (x ∷ xs) l h = (omega arith, most_more a b xs l h.1)

pub most_added : (a b m : ℕ) (xs ys : List ℕ) → a + b ≤ m → AtMost a xs → AtMost b ys → AtMost m (added xs ys)
most_added a b m [] ys l g h = tt
most_added a b m (x ∷ xs) [] l g h = most_more a m (x ∷ xs) (omega arith) g
most_added a b m (x ∷ xs) (y ∷ ys) l g h = (omega arith, most_added a b m xs ys l g.1 h.1)

-- ---- one more of a class

-- no later class counts
past : (l : List ℕ) (c k : ℕ) → k < c → l ≡ added l (class_is (length l) c k)
past [] c k h = refl
past (x ∷ l) c k h = rw (ne_eqb k c (λ e. omega arith), ← past l (c + 1) k (omega arith)) (ap (λ y. y ∷ l) (omega arith))

pub one_more : (l : List ℕ) (c j k : ℕ) → k ≡ c + j → set l j (get_or l j 0 + 1) ≡ added l (class_is (length l) c k)
one_more [] c j k e = refl
one_more (x ∷ l) c zero k e = rw (eq-eqb k c (omega arith), ← past l (c + 1) k (omega arith))
one_more (x ∷ l) c (suc j) k e =
    rw (ne_eqb k c (λ q. omega arith), one_more l (c + 1) j k (omega arith)) (ap (λ y. y ∷ added l (class_is (length l) (c + 1) k)) (omega arith))

pub class_more : (l : List ℕ) (k : ℕ) → length l ≡ 16 → set l k (get_or l k 0 + 1) ≡ added l (class_is 16 0 k)
class_more l k n = one_more l 0 k k (omega arith) ∙ ap (λ m. added l (class_is m 0 k)) n
