-- What is left of the readings: from slot k of a page on they are the reading that slot k is, if it is one, and then those from slot k + 1 on; and the
-- same of the pages of a segment. Every pass over readings goes by it.
use Rattle.std.specs.Prelude.{ℕ, suc, ◌+◌, ◌-◌, ◌≤◌, ◌<◌, ◌≡◌, Bool, true, false, cond, List, [], ◌∷◌, ◌++◌, length, drop, ltb}
use Rattle.std.proofs.Math.Path.{refl}
use Rattle.std.proofs.Common.{sym, ap, ◌∙◌, arith}
use Rattle.std.proofs.Math.Nat.{sub-zero}
use Rattle.store.specs.Numbers.{cut}
use Rattle.store.specs.Slots.{off, len, is_record, is_target}
use Rattle.store.specs.Page.{View, view, fresh, sound}
use Rattle.store.specs.PageSteps.{initialised, opened}
use Rattle.store.specs.Records.{Entry, entry_of, entries_from, page_entries, pages_entries, records, rows_in}
use Rattle.store.specs.Segment.{SegView}
use Rattle.store.proofs.Laws.Cases.{by_test, tests}
use Rattle.store.proofs.Laws.Numbers.{cut_drop}
use Rattle.store.proofs.Laws.SoundPage.{sound_page, fresh_none, used_not_fresh}
use Rattle.store.specs.Laws.Views.{Sound}
use Rattle.store.proofs.Laws.Writes.{length_cut}
use Rattle.store.specs.declared.Slot.{Slot}
use Rattle.store.specs.declared.Slot.TheVariants.{Ordinary, Free, Redirect, Target}
use Rattle.exchange.specs.Exchange.{readings}
use Rattle.exchange.specs.Words.{part_at, part_of_slot, part_rows, OnPage, page_readings}
use Rattle.exchange.proofs.Laws.Files.{rows_pages, readings_append}
use Rattle.exchange.specs.declared.parts.Part.TheVariants as part

-- ---- the part that a slot is

-- the record at this offset, before others
module _ (p : List ℕ) (o n : ℕ) (within : o + n ≤ length p) where
  at_readings : (rs : List (List ℕ)) → readings (cut p o n ∷ rs) ≡ part_rows p (part_at o n) ++ readings rs
  at_readings rs = ap (λ (l : ℕ). cond (ltb l 8) (readings rs) (cut p o n ∷ readings rs)) (length_cut p o n within) ∙ go (ltb n 8)
    where
      go : (b : Bool) → cond b (readings rs) (cut p o n ∷ readings rs) ≡ part_rows p (cond b part.Passed (part.Reading o n)) ++ readings rs
      go true = refl
      go false = refl

  at_lies : OnPage p (part_at o n)
  at_lies = by_test (OnPage p) (ltb n 8) part.Passed (part.Reading o n) (λ e. tt) (λ e. record { headed = omega tests; within = within })

-- a slot's row, before others: a target's without its 8 bytes
abbrev pub row_before : Slot → List ℕ → List (List ℕ) → List (List ℕ)
row_before x bs rs = cond (is_record x) (cond (is_target x) (drop 8 bs) bs ∷ rs) rs

-- a slot as on a sound page
pub record InPage (p : List ℕ) (x : Slot) : Type 0 where
  pub high : off x + len x ≤ length p
  pub target : is_target x ≡ true → 8 ≤ len x

module _ (p : List ℕ) where
  slot_readings : (x : Slot) → InPage p x → (rs : List (List ℕ))
      → readings (row_before x (cut p (off x) (len x)) rs) ≡ part_rows p (part_of_slot x) ++ readings rs
  slot_readings (Ordinary o l) h rs = at_readings p o l h.high rs
  slot_readings Free h rs = refl
  slot_readings (Redirect i) h rs = refl
  slot_readings (Target o l) h rs =
      let e = h.target refl in
      ap (λ (r : List ℕ). readings (r ∷ rs)) (cut_drop p o l 8) ∙ at_readings p (o + 8) (l - 8) (omega arith) rs

  slot_lies : (x : Slot) → InPage p x → OnPage p (part_of_slot x)
  slot_lies (Ordinary o l) h = at_lies p o l h.high
  slot_lies Free h = tt
  slot_lies (Redirect i) h = tt
  slot_lies (Target o l) h = let e = h.target refl in at_lies p (o + 8) (l - 8) (omega arith)

-- ---- from slot k on

abbrev pub rows_from : View → ℕ → List (List ℕ)
rows_from v k = rows_in (entries_from (v.slot_count - k) v 0 k)

abbrev pub readings_from : View → ℕ → List (List ℕ)
readings_from v k = readings (rows_from v k)

-- from the first on; a fresh page has none, as it stands and as it is seen
module _ (v : View) where
  pub rows_all : rows_in (page_entries (opened v) 0) ≡ rows_from v 0
  rows_all =
      by_test (λ (w : View). rows_in (page_entries w 0) ≡ rows_in (page_entries v 0)) (fresh v) initialised v
      (λ f. sym (ap (λ (m : ℕ). rows_in (entries_from m v 0 0)) (fresh_none v f))) (λ f. refl)
      ∙ ap (λ (m : ℕ). rows_in (entries_from m v 0 0)) (sym (sub-zero v.slot_count))

  pub readings_all : page_readings (opened v) ≡ readings_from v 0
  readings_all = ap readings rows_all

  -- past the last
  module _ (k : ℕ) (h : v.slot_count ≤ k) where
    pub rows_none : rows_from v k ≡ []
    rows_none = let e : v.slot_count - k ≡ 0 = omega arith in ap (λ (m : ℕ). rows_in (entries_from m v 0 k)) e

    pub readings_none : readings_from v k ≡ []
    readings_none = ap readings rows_none

rows_next : (v : View) (k : ℕ) → k < v.slot_count → rows_from v k ≡ row_before (v.at k) (v.bytes k) (rows_from v (k + 1))
rows_next v k l =
    let e : v.slot_count - k ≡ suc (v.slot_count - (k + 1)) = omega arith in
    ap (λ (m : ℕ). rows_in (entries_from m v 0 k)) e ∙ go (is_record (v.at k))
  where
    es : List Entry
    es = entries_from (v.slot_count - (k + 1)) v 0 (k + 1)

    go : (b : Bool) → rows_in (cond b (entry_of v 0 k ∷ es) es) ≡ cond b (cond (is_target (v.at k)) (drop 8 (v.bytes k)) (v.bytes k) ∷ rows_in es) (rows_in es)
    go true = refl
    go false = refl

-- slot k of a page that is sound, and the slots behind it
module _ (p : List ℕ) (whole : length p ≡ 16384) (ok : sound (view p) ≡ true) (k : ℕ) (counted : k < (view p).slot_count) where
  used : Sound (view p)
  used = sound_page p whole (used_not_fresh (view p) (λ e. omega arith)) ok

  pub slot_in_lem : InPage p ((view p).at k)
  slot_in_lem = record { high = omega (arith, used.high k); target = used.targets k }

  pub slot_few : k < 2046
  slot_few = omega (arith, used.few)

  pub slot_target : (x : Slot) → x ≡ (view p).at k → is_target x ≡ true → 8 ≤ len x
  slot_target x e = rw e (used.targets k)

  pub part_lies : OnPage p (part_of_slot ((view p).at k))
  part_lies = slot_lies p ((view p).at k) slot_in_lem

  own_row : (view p).bytes k ≡ cut p (off ((view p).at k)) (len ((view p).at k))
  unfolding view
  own_row = refl

  pub rows_here : rows_from (view p) k ≡ row_before ((view p).at k) (cut p (off ((view p).at k)) (len ((view p).at k))) (rows_from (view p) (k + 1))
  rows_here = rows_next (view p) k counted ∙ ap (λ (bs : List ℕ). row_before ((view p).at k) bs (rows_from (view p) (k + 1))) own_row

  pub readings_next : readings_from (view p) k ≡ part_rows p (part_of_slot ((view p).at k)) ++ readings_from (view p) (k + 1)
  readings_next = ap readings rows_here ∙ slot_readings p ((view p).at k) slot_in_lem (rows_from (view p) (k + 1))

-- ---- from page p on

abbrev pub pages_rows : SegView → ℕ → List (List ℕ)
pages_rows u p = rows_in (pages_entries (u.pages - p) u p)

abbrev pub pages_readings : SegView → ℕ → List (List ℕ)
pages_readings u p = readings (pages_rows u p)

module _ (u : SegView) where
  pub pages_rows_all : records u ≡ pages_rows u 0
  pages_rows_all = ap (λ (m : ℕ). rows_in (pages_entries m u 0)) (sym (sub-zero u.pages))

  pub pages_readings_all : readings (records u) ≡ pages_readings u 0
  pages_readings_all = ap readings pages_rows_all

  module _ (p : ℕ) (h : u.pages ≤ p) where
    pub pages_rows_none : pages_rows u p ≡ []
    pages_rows_none = let e : u.pages - p ≡ 0 = omega arith in ap (λ (m : ℕ). rows_in (pages_entries m u p)) e

    pub pages_readings_none : pages_readings u p ≡ []
    pages_readings_none = ap readings pages_rows_none

  module _ (p : ℕ) (h : p < u.pages) where
    pub pages_rows_next : pages_rows u p ≡ rows_in (page_entries (u.page p) 0) ++ pages_rows u (p + 1)
    pages_rows_next =
        let e : u.pages - p ≡ suc (u.pages - (p + 1)) = omega arith in
        ap (λ (m : ℕ). rows_in (pages_entries m u p)) e ∙ rows_pages (u.pages - (p + 1)) u p

    pub pages_readings_next : pages_readings u p ≡ page_readings (u.page p) ++ pages_readings u (p + 1)
    pages_readings_next = ap readings pages_rows_next ∙ readings_append (rows_in (page_entries (u.page p) 0)) (pages_rows u (p + 1))
