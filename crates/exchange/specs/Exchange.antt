-- Document 02, "Bench exchange file": the file's format, and the two calls.
use Rattle.std.specs.Prelude.{ℕ, zero, suc, ◌+◌, ◌-◌, Bool, cond, not, ◌&&◌, List, [], ◌∷◌, ◌++◌, length, take, drop, get_or, eqb, ltb}
use Rattle.store.specs.Numbers.{cut, put, be, to_be}
use Rattle.store.specs.Refusals.{DONE, SIZE, LONG, DAMAGED, ROOM}
use Rattle.store.specs.Segment.{seg_view, size_ok, inv_ok}
use Rattle.store.specs.Records.{records, count_if}
use Rattle.store.specs.ManyRows.{Rows, no_row, insert_all}
use Rattle.store.specs.Report.{all_sound}

-- ---- the refusals of a file

-- "for another mark"
abbrev pub MARK : ℕ
MARK = 12

-- "when fewer than 12 bytes are left"; "when the data is cut off"
abbrev pub SHORT : ℕ
SHORT = 13

-- ---- a file is read

-- the store's records that a file holds, or the number of its refusal
pub data Parsed : Type 0 where
  wrong : ℕ → Parsed
  holds : List (List ℕ) → Parsed

abbrev pub and_record : List ℕ → Parsed → Parsed
and_record r (wrong a) = wrong a
and_record r (holds rs) = holds (r ∷ rs)

-- "a two-byte mark, 52 54"
abbrev pub marked : List ℕ → Bool
marked f = eqb (get_or f 0 0) 0x52 && eqb (get_or f 1 0) 0x54

-- "then mirror (u32), reading (u16), row (u16), length (u16), all big-endian"
abbrev pub data_length : List ℕ → ℕ
data_length f = be (cut f 10 2)

-- "The store's record is the 8 bytes of mirror, reading and row and then the data."
abbrev pub first_record : List ℕ → List ℕ
first_record f = cut f 2 8 ++ cut f 12 (data_length f)

-- "a length above 16,356"
abbrev pub too_long : List ℕ → Bool
too_long f = ltb 16356 (data_length f)

-- "the data is cut off"
abbrev pub cut_off : List ℕ → Bool
cut_off f = ltb (length f) (12 + data_length f)

abbrev pub behind : List ℕ → List ℕ
behind f = drop (12 + data_length f) f

-- "13 SHORT when fewer than 12 bytes are left, 12 MARK for another mark, 3 for a length above 16,356, 13 again when the data is cut off"; no byte
-- left is the file's end. r is what the bytes behind the first record hold
abbrev pub turn : List ℕ → Parsed → Parsed
turn f r =
    cond (eqb (length f) 0) (holds [])
    (cond (ltb (length f) 12) (wrong SHORT)
    (cond (not (marked f)) (wrong MARK)
    (cond (too_long f) (wrong LONG)
    (cond (cut_off f) (wrong SHORT)
    (and_record (first_record f) r)))))

-- "record by record in file order": at most m records
abbrev pub parse_from : ℕ → List ℕ → Parsed
parse_from zero f = holds []
parse_from (suc m) f = turn f (parse_from m (behind f))

-- a file has no more records than bytes
unfoldable pub parse : List ℕ → Parsed
parse f = parse_from (length f) f

-- ---- a file is written

abbrev pub file_record : List ℕ → List ℕ
file_record r = 0x52 ∷ 0x54 ∷ (take 8 r ++ (to_be 2 (length r - 8) ++ drop 8 r))

abbrev pub file_of : List (List ℕ) → List ℕ
file_of [] = []
file_of (r ∷ rs) = file_record r ++ file_of rs

-- "A record shorter than 8 bytes is not a reading"
abbrev pub is_short : List ℕ → Bool
is_short r = ltb (length r) 8

abbrev pub readings : List (List ℕ) → List (List ℕ)
readings [] = []
readings (r ∷ rs) = let t = readings rs in cond (is_short r) t (r ∷ t)

-- "export passes over it and says how many it passed"
abbrev pub passed_over : List (List ℕ) → ℕ
passed_over = count_if is_short

-- ---- import

-- the answer's number, how many records went in, and every byte of segment and inventory
pub record Import : Type 0 where
  pub answer : ℕ
  pub inserted : ℕ
  pub seg : List ℕ
  pub inv : List ℕ

-- "without id places"
abbrev pub without_ids : Rows → Import
without_ids r = record { answer = r.answer; inserted = r.inserted; seg = r.seg; inv = r.inv }

-- "Import reads the file through before inserting anything, then goes on as Ask 2 does"
abbrev pub insert_parsed : List ℕ → List ℕ → Parsed → Rows
insert_parsed s v (wrong a) = no_row a s v
insert_parsed s v (holds rs) = insert_all s v rs

-- "Refusals: 1, then .. all before any insert; then each insert's own."
unfoldable pub import_step : List ℕ → List ℕ → List ℕ → Import
import_step s v f = without_ids (cond (not (size_ok s && inv_ok v)) (no_row SIZE s v) (insert_parsed s v (parse f)))

-- ---- export

-- the answer's number, the file's length, how many records were passed over, and every byte of the place that is lent
pub record Export : Type 0 where
  pub answer : ℕ
  pub length : ℕ
  pub passed : ℕ
  pub place : List ℕ

abbrev pub no_export : ℕ → List ℕ → Export
no_export a p = record { answer = a; length = 0; passed = 0; place = p }

-- "11 when the lent place is too short, and it writes nothing then"; a place that is longer keeps its other bytes
abbrev pub export_of : List (List ℕ) → List ℕ → Export
export_of rs p =
    let f = file_of (readings rs) in
    cond (ltb (length p) (length f)) (record { answer = ROOM; length = length f; passed = passed_over rs; place = p })
    (record { answer = DONE; length = length f; passed = passed_over rs; place = put p 0 f })

-- "Export writes the records in scan order." "1, then 4 for a page that is not sound, then 11"
unfoldable pub export_step : List ℕ → List ℕ → Export
export_step s p =
    cond (not (size_ok s)) (no_export SIZE p)
    (cond (not (all_sound (seg_view s))) (no_export DAMAGED p)
    (export_of (records (seg_view s)) p))
