-- What is left of a file: from slot k of a page on it is what slot k is in the file, and then what is left from slot k + 1 on; and the same of
-- the pages of a segment.
use Prim.Native.Nat.{ℕ, ◌+◌, ◌-◌, ◌≤◌, ◌<◌}
use mathlib.Core.Path.{◌≡◌, refl, ap, ◌∙◌}
use mathlib.Core.Bool.{Bool, true, false, cond}
use mathlib.Core.List.{List, [], ◌∷◌, ◌++◌, append-nil}
use native.Mathlib.Omega.{arith}
use lib.ListN.{length}
use lib.Dec.{ltb}
use Rattle.store.specs.Numbers.{cut, one}
use Rattle.store.specs.Slots.{off, len}
use Rattle.store.specs.Page.{View, view, sound}
use Rattle.store.specs.PageSteps.{opened}
use Rattle.store.specs.Records.{page_entries, records, rows_in}
use Rattle.store.specs.Segment.{SegView}
use Rattle.store.proofs.Laws.Numbers.{cut_drop}
use Rattle.store.proofs.Laws.Writes.{length_cut}
use Rattle.store.specs.declared.Slot.{Slot}
use Rattle.store.specs.declared.Slot.TheVariants.{Ordinary, Free, Redirect, Target}
use Rattle.exchange.specs.Exchange.{file_record, file_of, passed_over}
use Rattle.exchange.specs.Words.{part_at, part_of_slot, part_length, part_file, part_passed, part_rows, OnPage, page_readings, page_file, page_passed}
use Rattle.exchange.specs.Words.{segment_file}
use Rattle.exchange.proofs.Laws.Files.{file_append, passed_append}
use Rattle.exchange.proofs.Laws.Left as left
use Rattle.exchange.proofs.Laws.Room.{record_length}
use Rattle.exchange.specs.declared.parts.Part.{Part}
use Rattle.exchange.specs.declared.parts.Part.TheVariants as part

-- ---- a part of a page

pub part_length_lem : (p : List ℕ) (a : Part) → OnPage p a → length (part_file p a) ≡ part_length a
part_length_lem p (part.Reading o n) h =
    let l = length_cut p o n h.within in
    omega (arith, record_length (cut p o n) (omega arith))
part_length_lem p part.Passed h = refl
part_length_lem p part.Nothing h = refl

part_file_lem : (p : List ℕ) (a : Part) → file_of (part_rows p a) ≡ part_file p a
part_file_lem p (part.Reading o n) = append-nil (file_record (cut p o n))
part_file_lem p part.Passed = refl
part_file_lem p part.Nothing = refl

-- the record at this offset, before others, is passed over or not
at_passed : (p : List ℕ) (o n : ℕ) → o + n ≤ length p → (rs : List (List ℕ)) → passed_over (cut p o n ∷ rs) ≡ part_passed (part_at o n) + passed_over rs
at_passed p o n within rs = ap (λ (l : ℕ). one (ltb l 8) + passed_over rs) (length_cut p o n within) ∙ go (ltb n 8)
  where
    go : (b : Bool) → one b + passed_over rs ≡ part_passed (cond b part.Passed (part.Reading o n)) + passed_over rs
    go true = refl
    go false = refl

slot_passed : (p : List ℕ) (x : Slot) → left.InPage p x → (rs : List (List ℕ))
    → passed_over (left.row_before x (cut p (off x) (len x)) rs) ≡ part_passed (part_of_slot x) + passed_over rs
slot_passed p (Ordinary o l) h rs = at_passed p o l h.high rs
slot_passed p Free h rs = omega arith
slot_passed p (Redirect i) h rs = omega arith
slot_passed p (Target o l) h rs =
    let e = h.target refl in
    ap (λ (r : List ℕ). passed_over (r ∷ rs)) (cut_drop p o l 8) ∙ at_passed p (o + 8) (l - 8) (omega arith) rs

-- ---- from slot k on

abbrev pub file_from : View → ℕ → List ℕ
file_from v k = file_of (left.readings_from v k)

abbrev pub passed_from : View → ℕ → ℕ
passed_from v k = passed_over (left.rows_from v k)

module _ (v : View) where
  pub file_all : page_file (opened v) ≡ file_from v 0
  file_all = ap file_of (left.readings_all v)

  pub passed_all : page_passed (opened v) ≡ passed_from v 0
  passed_all = ap passed_over (left.rows_all v)

  -- past the last
  module _ (k : ℕ) (h : v.slot_count ≤ k) where
    pub file_none : file_from v k ≡ []
    file_none = ap file_of (left.readings_none v k h)

    pub passed_none : passed_from v k ≡ 0
    passed_none = ap passed_over (left.rows_none v k h)

-- slot k of a page that is sound, and the slots behind it
module _ (p : List ℕ) (whole : length p ≡ 16384) (ok : sound (view p) ≡ true) (k : ℕ) (counted : k < (view p).slot_count) where
  pub file_next : file_from (view p) k ≡ part_file p (part_of_slot ((view p).at k)) ++ file_from (view p) (k + 1)
  file_next =
      let a = part_of_slot ((view p).at k) in
      ap file_of (left.readings_next p whole ok k counted) ∙ file_append (part_rows p a) (left.readings_from (view p) (k + 1))
      ∙ ap (λ (f : List ℕ). f ++ file_from (view p) (k + 1)) (part_file_lem p a)

  pub passed_next : passed_from (view p) k ≡ part_passed (part_of_slot ((view p).at k)) + passed_from (view p) (k + 1)
  passed_next =
      ap passed_over (left.rows_here p whole ok k counted)
      ∙ slot_passed p ((view p).at k) (left.slot_in_lem p whole ok k counted) (left.rows_from (view p) (k + 1))

-- ---- from page p on

abbrev pub pages_file : SegView → ℕ → List ℕ
pages_file u p = file_of (left.pages_readings u p)

abbrev pub pages_passed : SegView → ℕ → ℕ
pages_passed u p = passed_over (left.pages_rows u p)

module _ (u : SegView) where
  pub pages_all : segment_file u ≡ pages_file u 0
  pages_all = ap file_of (left.pages_readings_all u)

  pub pages_passed_all : passed_over (records u) ≡ pages_passed u 0
  pages_passed_all = ap passed_over (left.pages_rows_all u)

  module _ (p : ℕ) (h : u.pages ≤ p) where
    pub pages_none : pages_file u p ≡ []
    pages_none = ap file_of (left.pages_readings_none u p h)

    pub pages_passed_none : pages_passed u p ≡ 0
    pages_passed_none = ap passed_over (left.pages_rows_none u p h)

  module _ (p : ℕ) (h : p < u.pages) where
    pub pages_next : pages_file u p ≡ page_file (u.page p) ++ pages_file u (p + 1)
    pages_next = ap file_of (left.pages_readings_next u p h) ∙ file_append (page_readings (u.page p)) (left.pages_readings u (p + 1))

    pub pages_passed_next : pages_passed u p ≡ page_passed (u.page p) + pages_passed u (p + 1)
    pages_passed_next =
        ap passed_over (left.pages_rows_next u p h) ∙ passed_append (rows_in (page_entries (u.page p) 0)) (left.pages_rows u (p + 1))
