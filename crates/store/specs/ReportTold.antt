-- What is said of the fill report: its tally's 23 numbers by name, what they must come to, what a call meets, and calls one after the other
-- (Promises/Report, ReportScan, ReportInventory).
use Rattle.std.specs.Prelude.{ℕ, ◌+◌, ◌-◌, ◌*◌, ◌/◌, ◌^◌, ◌≤◌, ◌<◌, ◌≡◌, false, cond, List, [], ◌∷◌, length, get_or, eqb}
use Rattle.store.specs.Numbers.{zeros, sum}
use Rattle.store.specs.Page.{view, sound}
use Rattle.store.specs.Refusals.{DONE}
use Rattle.store.specs.Segment.{seg_view, page_of}
use Rattle.store.specs.Report.{figures, added, report_step}

-- ---- the figures of a tally, in its order

abbrev pub pages_in : List ℕ → ℕ
pages_in t = get_or t 0 0

abbrev pub fresh_in : List ℕ → ℕ
fresh_in t = get_or t 1 0

abbrev pub slots_in : List ℕ → ℕ
slots_in t = get_or t 2 0

abbrev pub records_in : List ℕ → ℕ
records_in t = get_or t 3 0

abbrev pub record_bytes_in : List ℕ → ℕ
record_bytes_in t = get_or t 4 0

abbrev pub forwarded_in : List ℕ → ℕ
forwarded_in t = get_or t 5 0

abbrev pub free_in : List ℕ → ℕ
free_in t = get_or t 6 0

-- "pages per class 0 to 15"
abbrev pub class_at : ℕ → List ℕ → ℕ
class_at c t = get_or t (7 + c) 0

-- ---- what its figures must come to

abbrev pub used_in : List ℕ → ℕ
used_in t = pages_in t - fresh_in t

-- "12 each, 8 per slot, record bytes, 8 per forwarded record and free bytes must sum to 16,384 per page": of the pages in use
pub record AddsUp (t : List ℕ) : Type 0 where
  pub fresh : fresh_in t ≤ pages_in t
  pub sums : 12 * used_in t + 8 * slots_in t + record_bytes_in t + 8 * forwarded_in t + free_in t ≡ 16384 * used_in t

-- "the 16 class figures sum to pages; class 0 is fresh pages"
pub record ClassesAddUp (t : List ℕ) : Type 0 where
  pub all : sum 16 (λ c. class_at c t) ≡ pages_in t
  pub fresh : class_at 0 t ≡ fresh_in t

-- ---- what a call meets

-- one of the segment's pages is not sound
pub record Damage (s : List ℕ) : Type 0 where
  pub on : ℕ
  pub below : on < length s / 16384
  pub unsound : sound (view (page_of s on)) ≡ false

-- what figure j comes to, and "when a figure would pass 2^64 − 1"
abbrev pub sum_at : List ℕ → List ℕ → ℕ → ℕ
sum_at s t j = get_or t j 0 + get_or (figures (seg_view s)) j 0

pub record Passes (s t : List ℕ) : Type 0 where
  pub figure : ℕ
  pub of : figure < 23
  pub past : 2 ^ 64 ≤ sum_at s t figure

-- ---- "exact figures over any number of segments": one call for each, on one tally

-- the tally that the calls leave, one after the other
abbrev pub tally_after : List (List ℕ) → List ℕ → List ℕ
tally_after [] t = t
tally_after (s ∷ ss) t = tally_after ss (report_step s t).tally

-- each of them answers 0
abbrev pub AllDone : List (List ℕ) → List ℕ → Type 0
AllDone [] t = Unit {0}
AllDone (s ∷ ss) t = ((report_step s t).answer ≡ DONE) × AllDone ss (report_step s t).tally

-- the segments whose calls answer 0
abbrev pub counted : List (List ℕ) → List ℕ → List (List ℕ)
counted [] t = []
counted (s ∷ ss) t = let r = counted ss (report_step s t).tally in cond (eqb (report_step s t).answer DONE) (s ∷ r) r

-- "the sum of the segments' figures"
abbrev pub totals : List (List ℕ) → List ℕ
totals [] = zeros 23
totals (s ∷ ss) = added (figures (seg_view s)) (totals ss)

-- "in any order"
pub data Permuted : List (List ℕ) → List (List ℕ) → Type 0 where
  nil : Permuted [] []
  keep : {s : List ℕ} {ss rs : List (List ℕ)} → Permuted ss rs → Permuted (s ∷ ss) (s ∷ rs)
  swap : {s r : List ℕ} {ss : List (List ℕ)} → Permuted (s ∷ r ∷ ss) (r ∷ s ∷ ss)
  then : {ss rs qs : List (List ℕ)} → Permuted ss rs → Permuted rs qs → Permuted ss qs
