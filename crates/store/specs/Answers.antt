-- Document 01, "Answers by number": each answer of the code, with the paper's number (Refusals.antt) and values, by case. The promises use
-- these.
use Rattle.std.specs.Prelude.{ℕ, ◌<◌, true, false, List, [], ◌∷◌, Option, Some, None, Ok, Err}
use Rattle.std.specs.Prelude.{Result as ResultOf}
use Rattle.store.specs.Segment.{Result, Read, no_read, Part, no_part, held, Located}
use Rattle.store.specs.Scan.{Scanned, over_page}
use Rattle.store.specs.Slots.{off}
use Rattle.store.specs.PageSteps.{Alloc, no_room, got}
use Rattle.store.specs.ManyRows.{Rows}
use Rattle.store.specs.Repair.{Repaired}
use Rattle.store.specs.Report.{Report}
use Rattle.store.specs.Refusals.{DONE, SIZE, DAMAGED, FULL, STALE, TALLY, LIST, ROOM, number_of}
use Rattle.store.specs.declared.Refusal.{Refusal}
use Rattle.store.specs.declared.Place.{Place}
use Rattle.store.specs.declared.Record.{Record}
use Rattle.store.specs.declared.Step.{Step}
use Rattle.store.specs.declared.ListRefusal.{ListRefusal}
use Rattle.store.specs.declared.ListRefusal.TheVariants as many
use Rattle.store.specs.declared.RepairRefusal.{RepairRefusal}
use Rattle.store.specs.declared.RepairRefusal.TheVariants as repair
use Rattle.store.specs.declared.Tally.{Tally}
use Rattle.store.specs.declared.ReportRefusal.{ReportRefusal}
use Rattle.store.specs.declared.ReportRefusal.TheVariants as fill

-- 0, or the number of a refusal
abbrev pub told_no : {T E : Type 0} → (E → ℕ) → ResultOf T E → ℕ
told_no f (Ok x) = DONE
told_no f (Err r) = f r

-- what is told beside it: the answer itself, or what goes with the refusal
abbrev pub told_count : {E : Type 0} → (E → ℕ) → ResultOf ℕ E → ℕ
told_count f (Ok n) = n
told_count f (Err r) = f r

-- ---- the calls that write

abbrev pub answer_no : ResultOf ℕ Refusal → ℕ
answer_no r = told_no number_of r

abbrev pub answer_id : ResultOf ℕ Refusal → ℕ
answer_id r = told_count (λ _. 0) r

-- what a call answered and left: the left side of every promise
abbrev pub outcome : ResultOf ℕ Refusal → List ℕ → List ℕ → Result
outcome r s v = record { answer = answer_no r; id = answer_id r; seg = s; inv = v }

-- ---- many rows: the number, and how many went in

abbrev pub list_number : ListRefusal → ℕ
list_number many.Size = SIZE
list_number many.List = LIST
list_number (many.Stopped n r) = number_of r

abbrev pub inserted_no : ResultOf ℕ ListRefusal → ℕ
inserted_no r = told_no list_number r

abbrev pub list_rows : ListRefusal → ℕ
list_rows many.Size = 0
list_rows many.List = 0
list_rows (many.Stopped n r) = n

abbrev pub inserted_rows : ResultOf ℕ ListRefusal → ℕ
inserted_rows r = told_count list_rows r

-- what the call answered and left: the id places, segment and inventory
abbrev pub told : ResultOf ℕ ListRefusal → List ℕ → List ℕ → List ℕ → Rows
told r is s v = record { answer = inserted_no r; inserted = inserted_rows r; ids = is; seg = s; inv = v }

-- where it stopped, it is by a refusal of the row's own: the number is not 1
abbrev pub ByRow : ResultOf ℕ ListRefusal → Type 0
ByRow (Ok n) = Unit {0}
ByRow (Err many.Size) = Unit {0}
ByRow (Err many.List) = Unit {0}
ByRow (Err (many.Stopped n r)) = SIZE < number_of r

-- ---- a read: its number, and the part of the segment that it answers

abbrev pub reading_no : {T : Type 0} → ResultOf T Refusal → ℕ
reading_no r = told_no number_of r

abbrev pub located : ResultOf Part Refusal → Located
located (Ok d) = record { answer = DONE; part = d }
located (Err r) = record { answer = number_of r; part = no_part }

-- the same by the record's bytes, as the caller sees them
abbrev pub read_as : {T : Type 0} → (T → List ℕ) → ResultOf T Refusal → Read
read_as seen (Ok d) = record { answer = DONE; bytes = seen d }
read_as seen (Err r) = no_read (number_of r)

-- ---- a step of a scan of the segment s

abbrev pub step_of : Option Record → ℕ → ℕ → List ℕ → Scanned
step_of (Some x) p k s =
    record {
      answer = DONE;
      some = true;
      id = x.id;
      bytes = held s x.part;
      part = x.part;
      page = p;
      slot = k;
    }
step_of None p k s = record { answer = DONE; some = false; id = 0; bytes = []; part = no_part; page = p; slot = k }

abbrev pub scanned_of : ResultOf Step Refusal → List ℕ → Scanned
scanned_of (Ok t) s = step_of t.found t.page t.slot s
scanned_of (Err r) s = record { answer = number_of r; some = false; id = 0; bytes = []; part = no_part; page = over_page; slot = 0 }

-- ---- repair: its number, and how many entries there are or would be

abbrev pub repair_number : RepairRefusal → ℕ
repair_number repair.Size = SIZE
repair_number (repair.Room n) = ROOM

abbrev pub repair_no : ResultOf ℕ RepairRefusal → ℕ
repair_no r = told_no repair_number r

abbrev pub repair_entries : RepairRefusal → ℕ
repair_entries repair.Size = 0
repair_entries (repair.Room n) = n

abbrev pub repair_count : ResultOf ℕ RepairRefusal → ℕ
repair_count r = told_count repair_entries r

-- what it answered and left: segment, inventory and list
abbrev pub repaired : ResultOf ℕ RepairRefusal → List ℕ → List ℕ → List ℕ → Repaired
repaired r s v l = record { answer = repair_no r; count = repair_count r; seg = s; inv = v; list = l }

-- ---- a fill report: its number, and the 23 numbers of the tally in their order

abbrev pub report_number : ReportRefusal → ℕ
report_number fill.Size = SIZE
report_number fill.Damaged = DAMAGED
report_number fill.Tally = TALLY

abbrev pub reported_no : {T : Type 0} → ResultOf T ReportRefusal → ℕ
reported_no r = told_no report_number r

abbrev pub numbers : Tally → List ℕ
numbers t =
    t.pages ∷ t.fresh_pages ∷ t.slots ∷ t.records ∷ t.record_bytes ∷ t.forwarded ∷ t.free_bytes ∷ t.classes

-- what it answered, and the tally that it left
abbrev pub reported : ResultOf (Unit {0}) ReportRefusal → Tally → Report
reported r t = record { answer = reported_no r; tally = numbers t }

-- the same by value: of the tally t a refusal leaves what it was
abbrev pub summed : ResultOf Tally ReportRefusal → Tally → Report
summed (Ok x) t = record { answer = DONE; tally = numbers x }
summed (Err r) t = record { answer = report_number r; tally = numbers t }

-- ---- inside a call: allocate on a page, the inventory (an id's own page: Segment.by_root)

-- "If the page's answer holds no place": 8, or the slot and where its record lies
pub record Placed : Type 0 where
  pub answer : ℕ
  pub slot : ℕ
  pub offset : ℕ

abbrev pub given_place : Option Place → Placed
given_place (Some x) = record { answer = DONE; slot = x.slot; offset = x.offset }
given_place None = record { answer = STALE; slot = 0; offset = 0 }

abbrev pub allotted : Alloc → Placed
allotted no_room = record { answer = STALE; slot = 0; offset = 0 }
allotted (got k a) = record { answer = DONE; slot = k; offset = off (a.after.at k) }

-- 7, or the page that the inventory names
pub record NamedPage : Type 0 where
  pub answer : ℕ
  pub page : ℕ

abbrev pub named_page : Option ℕ → NamedPage
named_page (Some p) = record { answer = DONE; page = p }
named_page None = record { answer = FULL; page = 0 }
