-- Words for the contracts: what stands at a place of a file, and the readings and the file's bytes of a slot, a page and a segment.
use Rattle.std.specs.Prelude.{ℕ, ◌+◌, ◌-◌, ◌≤◌, ◌≡◌, true, false, Option, Some, None, Result, Ok, Err, cond, List, [], ◌∷◌, ◌++◌, length, drop, ltb}
use Rattle.store.specs.Numbers.{cut, to_be}
use Rattle.store.specs.Page.{View}
use Rattle.store.specs.Refusals.{DONE, LONG}
use Rattle.store.specs.Segment.{SegView}
use Rattle.store.specs.Records.{page_entries, records, rows_in}
use Rattle.store.specs.Report.{all_sound}
use Rattle.store.specs.Answers.{told_no}
use Rattle.store.specs.declared.Slot.{Slot}
use Rattle.store.specs.declared.Slot.TheVariants.{Ordinary, Free, Redirect, Target}
use Rattle.exchange.specs.Exchange.{MARK, SHORT, Parsed, wrong, holds, and_record, parse, file_record, file_of, readings, passed_over}
use Rattle.exchange.specs.declared.format.Record.{Record}
use Rattle.exchange.specs.declared.format.Fault.{Fault}
use Rattle.exchange.specs.declared.format.Fault.TheVariants as fault
use Rattle.exchange.specs.declared.ImportRefusal.{ImportRefusal}
use Rattle.exchange.specs.declared.ImportRefusal.TheVariants as import
use Rattle.exchange.specs.declared.parts.Part.{Part}
use Rattle.exchange.specs.declared.parts.Part.TheVariants as part
use Rattle.exchange.specs.declared.Exported.{Exported}

-- ---- reading

-- the number of a file's refusal, and the refusal that an import answers
abbrev pub fault_number : Fault → ℕ
fault_number fault.Short = SHORT
fault_number fault.Mark = MARK
fault_number fault.Long = LONG

abbrev pub of_fault : Fault → ImportRefusal
of_fault fault.Short = import.Short
of_fault fault.Mark = import.Mark
of_fault fault.Long = import.Long

-- what a file holds from a place on, by what stands there
abbrev pub follows : List ℕ → Result (Option Record) Fault → Parsed
follows f (Ok (Some r)) = and_record (to_be 8 r.head ++ cut f r.data (r.end - r.data)) (parse (drop r.end f))
follows f (Ok None) = holds []
follows f (Err e) = wrong (fault_number e)

-- the data of a record at `at` are the bytes of the file from d to e
pub record Inside (f : List ℕ) (at d e : ℕ) : Type 0 where
  pub begins : d ≡ at + 12
  pub long : d ≤ e
  pub short : e ≤ d + 16356
  pub within : e ≤ length f

abbrev pub Lies : List ℕ → ℕ → Result (Option Record) Fault → Type 0
Lies f at (Ok (Some r)) = Inside f at r.data r.end
Lies f at (Ok None) = Unit {0}
Lies f at (Err e) = Unit {0}

-- 0, or the number of a file's refusal
abbrev pub fault_of : Parsed → ℕ
fault_of (wrong a) = a
fault_of (holds rs) = DONE

abbrev pub format_no : Result (Unit {0}) Fault → ℕ
format_no r = told_no fault_number r

-- ---- writing

-- a slot as export takes it, by offset and length without a target's back id
abbrev pub part_at : ℕ → ℕ → Part
part_at o n = cond (ltb n 8) part.Passed (part.Reading o n)

abbrev pub part_of_slot : Slot → Part
part_of_slot (Ordinary o l) = part_at o l
part_of_slot Free = part.Nothing
part_of_slot (Redirect i) = part.Nothing
part_of_slot (Target o l) = part_at (o + 8) (l - 8)

-- the bytes that it takes in the file, what they are, and whether a record is passed over
abbrev pub part_length : Part → ℕ
part_length (part.Reading o n) = n + 4
part_length part.Passed = 0
part_length part.Nothing = 0

abbrev pub part_file : List ℕ → Part → List ℕ
part_file p (part.Reading o n) = file_record (cut p o n)
part_file p part.Passed = []
part_file p part.Nothing = []

abbrev pub part_passed : Part → ℕ
part_passed (part.Reading o n) = 0
part_passed part.Passed = 1
part_passed part.Nothing = 0

-- the readings that it is: one or none
abbrev pub part_rows : List ℕ → Part → List (List ℕ)
part_rows p (part.Reading o n) = cut p o n ∷ []
part_rows p part.Passed = []
part_rows p part.Nothing = []

-- a reading's bytes are on the page
pub record Reads (p : List ℕ) (o n : ℕ) : Type 0 where
  pub headed : 8 ≤ n
  pub within : o + n ≤ length p

abbrev pub OnPage : List ℕ → Part → Type 0
OnPage p (part.Reading o n) = Reads p o n
OnPage p part.Passed = Unit {0}
OnPage p part.Nothing = Unit {0}

-- the readings of a page, its file, and how many of its records are passed over; which page it is plays no part
abbrev pub page_readings : View → List (List ℕ)
page_readings v = readings (rows_in (page_entries v 0))

abbrev pub page_file : View → List ℕ
page_file v = file_of (page_readings v)

abbrev pub page_passed : View → ℕ
page_passed v = passed_over (rows_in (page_entries v 0))

abbrev pub segment_file : SegView → List ℕ
segment_file u = file_of (readings (records u))

-- they are measured; a page's file is no longer than its page
pub record PageSums (v : View) (r : Exported) : Type 0 where
  pub length : r.length ≡ length (page_file v)
  pub passed : r.passed ≡ page_passed v
  pub short : r.length ≤ 16372
  pub few : r.passed ≤ 2046

-- of a segment, if its pages are sound
pub record SegmentSums (u : SegView) (r : Exported) : Type 0 where
  pub sound : all_sound u ≡ true
  pub length : r.length ≡ length (segment_file u)
  pub passed : r.passed ≡ passed_over (records u)

abbrev pub Measured : SegView → Option Exported → Type 0
Measured u (Some r) = SegmentSums u r
Measured u None = all_sound u ≡ false
