-- What the code's answers mean: the number of each, and what it tells.
use Rattle.std.specs.Prelude.{ℕ, ◌<◌, List, Result, Ok, Err}
use Rattle.store.specs.Refusals.{SIZE, LONG, DAMAGED, ROOM, number_of}
use Rattle.store.specs.Answers.{told_no, told_count}
use Rattle.exchange.specs.Exchange.{MARK, SHORT, Import, Export}
use Rattle.exchange.specs.declared.ImportRefusal.{ImportRefusal}
use Rattle.exchange.specs.declared.ImportRefusal.TheVariants as import
use Rattle.exchange.specs.declared.Exported.{Exported}
use Rattle.exchange.specs.declared.ExportRefusal.{ExportRefusal}
use Rattle.exchange.specs.declared.ExportRefusal.TheVariants as export

-- ---- import: its number, and how many records went in

abbrev pub import_number : ImportRefusal → ℕ
import_number import.Size = SIZE
import_number import.Short = SHORT
import_number import.Mark = MARK
import_number import.Long = LONG
import_number (import.Stopped n r) = number_of r

abbrev pub imported_no : Result ℕ ImportRefusal → ℕ
imported_no r = told_no import_number r

abbrev pub import_records : ImportRefusal → ℕ
import_records import.Size = 0
import_records import.Short = 0
import_records import.Mark = 0
import_records import.Long = 0
import_records (import.Stopped n r) = n

abbrev pub imported_records : Result ℕ ImportRefusal → ℕ
imported_records r = told_count import_records r

-- what the call answered and left
abbrev pub imported : Result ℕ ImportRefusal → List ℕ → List ℕ → Import
imported r s v = record { answer = imported_no r; inserted = imported_records r; seg = s; inv = v }

-- where it stopped, it is by a refusal of the insert's own: above 3, which is the file's
abbrev pub ByInsert : Result ℕ ImportRefusal → Type 0
ByInsert (Ok n) = Unit {0}
ByInsert (Err import.Size) = Unit {0}
ByInsert (Err import.Short) = Unit {0}
ByInsert (Err import.Mark) = Unit {0}
ByInsert (Err import.Long) = Unit {0}
ByInsert (Err (import.Stopped n r)) = LONG < number_of r

-- ---- export: its number, the file's length, and how many records were passed over

abbrev pub export_number : ExportRefusal → ℕ
export_number export.Size = SIZE
export_number export.Damaged = DAMAGED
export_number (export.Room e) = ROOM

abbrev pub exported_no : Result Exported ExportRefusal → ℕ
exported_no r = told_no export_number r

abbrev pub exported_length : Result Exported ExportRefusal → ℕ
exported_length (Ok e) = e.length
exported_length (Err export.Size) = 0
exported_length (Err export.Damaged) = 0
exported_length (Err (export.Room e)) = e.length

abbrev pub exported_passed : Result Exported ExportRefusal → ℕ
exported_passed (Ok e) = e.passed
exported_passed (Err export.Size) = 0
exported_passed (Err export.Damaged) = 0
exported_passed (Err (export.Room e)) = e.passed

-- what the call answered and left
abbrev pub exported : Result Exported ExportRefusal → List ℕ → Export
exported r p = record { answer = exported_no r; length = exported_length r; passed = exported_passed r; place = p }
