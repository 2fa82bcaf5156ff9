-- The scan's step, page by page as the code makes it.
use Rattle.std.specs.Prelude.{ℕ, ◌+◌, ◌-◌, ◌≤◌, ◌<◌, ◌≡◌, Bool, true, cond, not, ◌&&◌, ◌||◌, List, eqb, leb}
use Rattle.std.specs.Prelude.{Option, Some, None, Result, Ok, Err}
use Rattle.std.specs.List.{find, range_with_len}
use Rattle.store.specs.Slots.{off, len, is_record, is_target}
use Rattle.store.specs.Page.{View, lies_well}
use Rattle.store.specs.Refusals.{DAMAGED}
use Rattle.store.specs.Segment.{seg_view}
use Rattle.store.specs.Scan.{Scanned, without, over_page, record_at, damaged_at}
use Rattle.store.specs.Laws.Lent.{Within}
use Rattle.store.specs.Answers.{scanned_of}
use Rattle.store.specs.declared.Slot.{Slot}
use Rattle.store.specs.declared.Step.{Step}
use Rattle.store.specs.declared.Refusal.{Refusal}

-- `lies_well`, of an entry and a data start
unfoldable pub lies_at : ℕ → ℕ → ℕ → Bool
lies_at d o l = cond (eqb l 0) (leb o 16384) (leb d o && leb (o + l) 16384)

unfoldable pub well_at : ℕ → Slot → Bool
well_at d s = lies_at d (off s) (len s) && (not (is_target s) || leb 8 (len s))

-- slot k's record, or 4 where it does not lie as on a sound page
unfoldable pub record_or : View → ℕ → ℕ → Scanned
record_or v p k = cond (lies_well v k) (record_at v p k) (without DAMAGED over_page 0)

-- the first slot from k on, of n, that holds a record
abbrev pub first_record : ℕ → View → ℕ → Option ℕ
first_record n v k = find (λ j. is_record (v.at j)) (range_with_len k (n - k))

-- the record of the slot found, or else `later`
abbrev pub or_record : Option ℕ → View → ℕ → Scanned → Scanned
or_record (Some j) v p later = record_or v p j
or_record None v p later = later

-- page p from slot k on, and then `later`
unfoldable pub on_page : View → ℕ → ℕ → Scanned → Scanned
on_page v p k later = cond (damaged_at v k) (without DAMAGED over_page 0) (or_record (first_record v.slot_count v k) v p later)

-- a page's answer stands, unless it has no record left
abbrev pub or_later : Result (Option Step) Refusal → List ℕ → Scanned → Scanned
or_later (Ok (Some t)) s later = scanned_of (Ok t) s
or_later (Ok None) s later = later
or_later (Err r) s later = scanned_of (Err r) s

-- ---- what is asked of page p of the segment s

-- its count is one that its directory can have
pub record Counted (s : List ℕ) (p : ℕ) : Type 0 where
  pub whole : Within s p
  pub few : ((seg_view s).page p).slot_count ≤ 2046

-- its slot k holds a record
pub record RecordOn (s : List ℕ) (p k : ℕ) : Type 0 where
  pub page : p ≤ 32527
  pub slot : k < 65536
  pub holds : is_record (((seg_view s).page p).at k) ≡ true

-- which is x and lies as on a sound page
pub record LiesOn (s : List ℕ) (p k : ℕ) (x : Slot) : Type 0 where
  pub whole : Within s p
  pub record_on : RecordOn s p k
  pub entry : x ≡ ((seg_view s).page p).at k
  pub lies : lies_well ((seg_view s).page p) k ≡ true
