-- What is said of exchange files: which records a file can hold, what stands first in one, and where it is refused; what import and export tell
-- (Promises).
use Rattle.std.specs.Prelude.{ℕ, ◌+◌, ◌≤◌, ◌<◌, ◌≡◌, Bool, true, false, ◌||◌, List, [], ◌∷◌, ◌++◌, length, take, eqb}
use Rattle.store.specs.Numbers.{In}
use Rattle.store.specs.Refusals.{DONE, LONG, DAMAGED, FULL, STALE}
use Rattle.store.specs.Records.{rows_in, scan_all}
use Rattle.exchange.specs.Exchange.{MARK, SHORT, Parsed, and_record, marked, data_length, file_of, readings, passed_over}
use Rattle.exchange.specs.Exchange.{Import, Export}

-- ---- records

-- a record that a file can hold: eight bytes, and at most 16,356 of data
pub record Reading (r : List ℕ) : Type 0 where
  pub headed : 8 ≤ length r
  pub short : length r ≤ 16364

abbrev pub Readings : List (List ℕ) → Type 0
Readings rs = (r : List ℕ) → In r rs → Reading r

-- these records, and behind them what p says
abbrev pub and_all : List (List ℕ) → Parsed → Parsed
and_all [] p = p
and_all (r ∷ rs) p = and_record r (and_all rs p)

-- ---- what stands first in a file that has bytes left

-- a record that can be read
pub record Whole (f : List ℕ) : Type 0 where
  pub mark : marked f ≡ true
  pub short : data_length f ≤ 16356
  pub fits : 12 + data_length f ≤ length f

-- or one that is refused by a
pub data Faulty (f : List ℕ) (a : ℕ) : Type 0 where
  -- "13 SHORT when fewer than 12 bytes are left"
  few : 0 < length f → length f < 12 → a ≡ SHORT → Faulty f a
  -- "12 MARK for another mark"
  unmarked : 12 ≤ length f → marked f ≡ false → a ≡ MARK → Faulty f a
  -- "3 for a length above 16,356"
  long : 12 ≤ length f → marked f ≡ true → 16356 < data_length f → a ≡ LONG → Faulty f a
  -- "13 again when the data is cut off"
  off : 12 ≤ length f → marked f ≡ true → data_length f ≤ 16356 → length f < 12 + data_length f → a ≡ SHORT → Faulty f a

-- "record by record in file order": records that can be read, and behind them one that is refused by a
pub record RefusedAt (f : List ℕ) (a : ℕ) : Type 0 where
  pub before : List (List ℕ)
  pub rest : List ℕ
  pub readings : Readings before
  pub whole : file_of before ++ rest ≡ f
  pub fault : Faulty rest a

-- ---- import

-- answer a, and nothing changes
abbrev pub no_import : ℕ → List ℕ → List ℕ → Import
no_import a s v = record { answer = a; inserted = 0; seg = s; inv = v }

-- one import and then another: the answer of the second, with the records told added
abbrev pub then_import : Import → Import → Import
then_import a b = record { answer = b.answer; inserted = a.inserted + b.inserted; seg = b.seg; inv = b.inv }

-- "then each insert's own": 0, or "7, 4, 8. (3 can't occur any more)"
abbrev pub of_insert : ℕ → Bool
of_insert a = eqb a DONE || eqb a FULL || eqb a DAMAGED || eqb a STALE

-- two imports: equal answers, records told and inventories, and two segments that are left alike
pub record SameImports (like : List ℕ → List ℕ → Type 0) (a b : Import) : Type 0 where
  pub answer : a.answer ≡ b.answer
  pub inserted : a.inserted ≡ b.inserted
  pub inv : a.inv ≡ b.inv
  pub seg : like a.seg b.seg

-- ---- export

-- "the scan's records of 8 bytes or more", how many the others are, and the file of the segment
abbrev pub readings_in : List ℕ → List (List ℕ)
readings_in s = readings (rows_in (scan_all s))

abbrev pub passed_in : List ℕ → ℕ
passed_in s = passed_over (rows_in (scan_all s))

abbrev pub file_in : List ℕ → List ℕ
file_in s = file_of (readings_in s)

-- answer a with the two numbers, and the place p
abbrev pub with_numbers : ℕ → List ℕ → List ℕ → Export
with_numbers a s p = record { answer = a; length = length (file_in s); passed = passed_in s; place = p }

-- "On 0 `length` is the number of bytes written": these bytes
abbrev pub file_written : Export → List ℕ
file_written r = take r.length r.place
