-- Document 01, "Segment steps", the scan: one record a step, by page and slot.
use Rattle.std.specs.Prelude.{ℕ, zero, suc, ◌+◌, ◌-◌, Bool, true, false, cond, not, List, [], take, drop, eqb, ltb}
use Rattle.store.specs.Numbers.{be, id_of}
use Rattle.store.specs.Slots.{is_record, is_target}
use Rattle.store.specs.Page.{View, sound, count_fits, lies_well}
use Rattle.store.specs.Refusals.{DONE, SIZE, DAMAGED}
use Rattle.store.specs.Segment.{SegView, seg_view, size_ok, Part, no_part, part_on}

-- the answer's number; whether there is a record, its id, its bytes and the part of the segment that they are; and the next position
pub record Scanned : Type 0 where
  pub answer : ℕ
  pub some : Bool
  pub id : ℕ
  pub bytes : List ℕ
  pub part : Part
  pub page : ℕ
  pub slot : ℕ

abbrev pub without : ℕ → ℕ → ℕ → Scanned
without a p k = record { answer = a; some = false; id = 0; bytes = []; part = no_part; page = p; slot = k }

-- "gives a target its root's id"
abbrev pub record_at : View → ℕ → ℕ → Scanned
record_at v p k =
    record {
      answer = DONE;
      some = true;
      id = cond (is_target (v.at k)) (be (take 8 (v.bytes k))) (id_of p k);
      bytes = cond (is_target (v.at k)) (drop 8 (v.bytes k)) (v.bytes k);
      part = part_on p (v.at k);
      page = p;
      slot = k + 1;
    }

-- "skips free slots and redirects": the first slot from k on, in at most m, that holds a record
abbrev pub next_record : ℕ → View → ℕ → ℕ
next_record zero v k = k
next_record (suc m) v k = let r = next_record m v (k + 1) in cond (is_record (v.at k)) k r

-- the position of a scan that is over: a page past every segment
abbrev pub over_page : ℕ
over_page = 32528

-- "checks each page on reaching it", at slot 0. A position inside a page may be one that no scan has made, or the page may have been damaged
-- since: there a count that no sound page has is damage, and so is a record that does not lie as on one
abbrev pub damaged_at : View → ℕ → Bool
damaged_at v k = cond (eqb k 0) (not (sound v)) (not (count_fits v))

-- from slot k of page p on, over at most m pages
abbrev pub scan_from : ℕ → SegView → ℕ → ℕ → Scanned
scan_from zero s p k = without DONE p k
scan_from (suc m) s p k =
    let v = s.page p in
    let j = next_record (v.slot_count - k) v k in
    let r = scan_from m s (p + 1) 0 in
    cond (damaged_at v k) (without DAMAGED over_page 0)
    (cond (ltb j v.slot_count) (cond (lies_well v j) (record_at v p j) (without DAMAGED over_page 0)) r)

unfoldable pub scan_plan : SegView → ℕ → ℕ → Scanned
scan_plan s p k = scan_from (s.pages - p) s p k

-- "past the end each step answers 0 without a record"; "A scan of a segment of wrong size answers 1 at its first step, one that meets a
-- damaged page 4 there; every later step of either answers 0 without a record."
unfoldable pub scan_step : List ℕ → ℕ → ℕ → Scanned
scan_step s p k =
    cond (ltb 32527 p) (without DONE p k)
    (cond (size_ok s) (scan_plan (seg_view s) p k) (without SIZE over_page 0))
