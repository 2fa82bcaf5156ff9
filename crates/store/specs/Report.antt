-- Document 02, "Fill report over the whole archive": the figures of a segment, and the tally that they are added to.
use Rattle.std.specs.Prelude.{ℕ, zero, suc, ◌+◌, ◌-◌, ◌^◌, Bool, true, cond, not, ◌&&◌, List, [], ◌∷◌, map, eqb, ltb}
use Rattle.store.specs.Numbers.{sum, all, one}
use Rattle.store.specs.Slots.{len, is_record, is_target}
use Rattle.store.specs.Page.{View, fresh, sound}
use Rattle.store.specs.Refusals.{DONE, SIZE, DAMAGED, TALLY}
use Rattle.store.specs.Segment.{SegView, seg_view, size_ok}
use Rattle.store.specs.SoundSegment.{nibble_of}
use Rattle.store.specs.declared.Slot.{Slot}

-- ---- "Each figure has its own meaning from the pages": what one page counts for

-- "pages"
abbrev pub pages_of : View → ℕ
pages_of v = 1

-- "fresh pages"
abbrev pub fresh_of : View → ℕ
fresh_of v = one (fresh v)

-- "slots": a fresh page has none
abbrev pub slots_of : View → ℕ
slots_of v = v.slot_count

-- "records"
abbrev pub records_of : View → ℕ
records_of v = sum v.slot_count (λ k. one (is_record (v.at k)))

-- "record bytes without back ids"
abbrev pub plain_len : Slot → ℕ
plain_len s = cond (is_target s) (len s - 8) (len s)

abbrev pub bytes_in : View → ℕ → ℕ
bytes_in v k = plain_len (v.at k)

abbrev pub bytes_of : View → ℕ
bytes_of v = sum v.slot_count (bytes_in v)

-- "forwarded records": "a forwarded record is one target"
abbrev pub forwarded_of : View → ℕ
forwarded_of v = sum v.slot_count (λ k. one (is_target (v.at k)))

-- "free bytes": "Slots and free bytes count pages in use only"
abbrev pub free_of : View → ℕ
free_of v = cond (fresh v) 0 v.free_space

-- "pages per class 0 to 15": by the nibble that a true inventory has
abbrev pub of_class : ℕ → View → ℕ
of_class c v = one (eqb (nibble_of v) c)

-- m classes from c on
abbrev pub classes_from : ℕ → ℕ → List (View → ℕ)
classes_from zero c = []
classes_from (suc m) c = of_class c ∷ classes_from m (c + 1)

-- the 23, in the tally's order
abbrev pub meanings : List (View → ℕ)
meanings = pages_of ∷ fresh_of ∷ slots_of ∷ records_of ∷ bytes_of ∷ forwarded_of ∷ free_of ∷ classes_from 16 0

-- ---- of pages, and of a segment

-- a figure over the first n pages
abbrev pub over : SegView → ℕ → (View → ℕ) → ℕ
over u n f = sum n (λ p. f (u.page p))

unfoldable pub figures_to : SegView → ℕ → List ℕ
figures_to u n = map (over u n) meanings

abbrev pub figures : SegView → List ℕ
figures u = figures_to u u.pages

-- ---- "One running tally is lent to each call and updated where it stands": 23 numbers

-- figure by figure
abbrev pub added : List ℕ → List ℕ → List ℕ
added [] ys = []
added (x ∷ xs) [] = x ∷ xs
added (x ∷ xs) (y ∷ ys) = (x + y) ∷ added xs ys

-- no figure has passed 2^64 − 1
abbrev pub all_fit : List ℕ → Bool
all_fit [] = true
all_fit (x ∷ xs) = ltb x (2 ^ 64) && all_fit xs

-- the answer's number, and the tally afterwards
pub record Report : Type 0 where
  pub answer : ℕ
  pub tally : List ℕ

abbrev pub report : ℕ → List ℕ → Report
report a t = record { answer = a; tally = t }

abbrev pub all_sound : SegView → Bool
all_sound u = all u.pages (λ p. sound (u.page p))

-- "A refused segment adds nothing. .. Refusals: 1 and 4 as in 01, then 9 TALLY when a figure would pass 2^64 − 1."
unfoldable pub report_step : List ℕ → List ℕ → Report
report_step s t =
    let after : List ℕ = added t (figures (seg_view s)) in
    cond (not (size_ok s)) (report SIZE t)
    (cond (not (all_sound (seg_view s))) (report DAMAGED t)
    (cond (not (all_fit after)) (report TALLY t)
    (report DONE after)))
