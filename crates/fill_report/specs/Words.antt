-- What the fill report's functions say of a slot, a page and a tally.
use Rattle.std.specs.Prelude.{ℕ, zero, suc, ◌+◌, ◌<◌, ◌≤◌, ◌≡◌, true, false, Option, Some, None, List, [], ◌∷◌, map, eqb}
use Rattle.store.specs.Numbers.{sum, one}
use Rattle.store.specs.Slots.{len, is_record, is_target}
use Rattle.store.specs.Page.{View}
use Rattle.store.specs.Segment.{SegView}
use Rattle.store.specs.Report.{plain_len, bytes_in, meanings, figures, added, all_sound, all_fit}
use Rattle.store.specs.Answers.{numbers}
use Rattle.store.specs.declared.Slot.{Slot}
use Rattle.store.specs.declared.Tally.{Tally}
use Rattle.fill_report.specs.declared.page.Counts.{Counts}

-- ---- slots

-- there is room for a slot more, and it is as on a sound page
pub record Room (c : Counts) (s : Slot) : Type 0 where
  pub records : c.records < 65536
  pub forwarded : c.forwarded < 65536
  pub bytes : c.bytes + len s < 65536
  pub target : is_target s ≡ true → 8 ≤ len s

-- r is c with the slot s
pub record WithSlot (c : Counts) (s : Slot) (r : Counts) : Type 0 where
  pub records : r.records ≡ c.records + one (is_record s)
  pub bytes : r.bytes ≡ c.bytes + plain_len s
  pub forwarded : r.forwarded ≡ c.forwarded + one (is_target s)

-- of the first n slots
pub record SlotsTo (v : View) (n : ℕ) (r : Counts) : Type 0 where
  pub records : r.records ≡ sum n (λ k. one (is_record (v.at k)))
  pub bytes : r.bytes ≡ sum n (bytes_in v)
  pub forwarded : r.forwarded ≡ sum n (λ k. one (is_target (v.at k)))

-- ---- tallies

-- each of them is at most b
abbrev pub AtMost : ℕ → List ℕ → Type 0
AtMost b [] = Unit {0}
AtMost b (x ∷ xs) = (x ≤ b) × AtMost b xs

-- the sum l, seen as a list, if each of its figures fits
abbrev pub Summed : {T : Type 0} → (T → List ℕ) → List ℕ → Option T → Type 0
Summed seen l (Some t) = (all_fit l ≡ true) × (seen t ≡ l)
Summed seen l None = all_fit l ≡ false

-- ---- pages

-- 1 for the class k, of m classes from c on
abbrev pub class_is : ℕ → ℕ → ℕ → List ℕ
class_is zero c k = []
class_is (suc m) c k = one (eqb k c) ∷ class_is m (c + 1) k

-- what the page seen counts for is added to the tally before, and is small
pub record Fills (v : View) (before after : Tally) : Type 0 where
  pub figures : numbers after ≡ added (numbers before) (map (λ g. g v) meanings)
  pub small : AtMost 65536 (map (λ g. g v) meanings)

-- the figures of the segment seen, if its pages are sound
abbrev pub Filled : SegView → Option Tally → Type 0
Filled u (Some t) = (all_sound u ≡ true) × (numbers t ≡ figures u)
Filled u None = all_sound u ≡ false
