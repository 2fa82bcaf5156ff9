-- The worked examples of the polishing rule, by computation. First those of refusals, each for all pages that it speaks of. Then the others, on the bytes of
-- one page: records of mirror 7, of 9 bytes each, inserted into zeros.
use Rattle.std.specs.Prelude.{ℕ, ◌+◌, ◌/◌, ◌^◌, ◌<◌, ◌≡◌, refl, Bool, true, false, ◌&&◌, List, [], ◌∷◌, ◌++◌, map, length}
use Rattle.std.proofs.Common.{ap, ◌∙◌, arith}
use Rattle.store.specs.Numbers.{to_be, zeros, id_of}
use Rattle.store.specs.Page.{view, sound}
use Rattle.store.specs.PageSteps.{compactify, allocate, erase}
use Rattle.store.specs.Inventory.{class_of, nibble_at, set_nibble, entry_at, set_entry, first_from, next_page, run_end, set_from, pulled_back}
use Rattle.store.specs.Inventory.{moved_on, updated, update, found_in}
use Rattle.store.specs.Refusals.{DONE, SIZE, DAMAGED}
use Rattle.store.specs.Segment.{SegView, seg_view, page_of, size_ok, inv_ok, find, insert_plan, erase_plan, root_of, result, erase_step}
use Rattle.store.specs.Calls.{erase as erase_call}
use Rattle.store.specs.ManyRows.{Rows, insert_all}
use Rattle.store.specs.Records.{records}
use Rattle.store.specs.Report.{all_sound}
use Rattle.store.proofs.Laws.SoundPage.{and_both, and_in}
use Rattle.store.proofs.Laws.Report.{damaged}
use Rattle.store.proofs.Laws.Segments.{settled, carried_seen}
use Rattle.store.proofs.Laws.Calls.{erase_call_exact}
use Rattle.store.proofs.Promises.Blank.{blank_sound}
use Rattle.store.proofs.Promises.Refused.{sizes_kept}
use Rattle.store.proofs.Promises.ManyRows.{rows_sized}
use Rattle.store.proofs.Promises.ManyRowsExamples.{Seen, seen_of, all_seen, fresh_pages, blank_rows}
use Rattle.exchange.specs.Exchange.{readings}
use Rattle.polishing.specs.Polishing.{RULE, whole, demands_of, met, Cleared, not_cleared, named, cleared_step}
use Rattle.polishing.proofs.Laws.Judged.{answered, by_answer, on_size, on_rule, on_damage}
use Rattle.polishing.proofs.Laws.Whole.{rows_within, rows_named_lem}
use Rattle.polishing.proofs.Laws.Found.{found_met, numbers, rule_found}

-- cleared, and not
abbrev pub Yes : Cleared
Yes = record { answer = DONE; cleared = 1 }

abbrev pub No : Cleared
No = not_cleared DONE

-- ---- refusals

-- 13. "a second page all zero but its count 1; rows 2, edition 1": 4, 0, whatever the first page holds
pub example_13 : (s : List ℕ) (m : ℕ) → size_ok s ≡ true → 1 < length s / 16384 → page_of s 1 ≡ 0 ∷ 1 ∷ zeros 16382 → cleared_step s m 2 1 ≡ not_cleared DAMAGED
unfolding sound view
example_13 s m e l q = on_damage s m 2 1 e refl (damaged s (record { on = 1; below = l; unsound = ap (λ (p : List ℕ). sound (view p)) q }))

-- 14. "edition 3; or rows 0; or rows 2,049": 14, 0, whatever the pages hold
pub example_14 : (s : List ℕ) (m : ℕ) → size_ok s ≡ true
    → cleared_step s m 2 3 ∷ cleared_step s m 0 1 ∷ cleared_step s m 2049 1 ∷ [] ≡ not_cleared RULE ∷ not_cleared RULE ∷ not_cleared RULE ∷ []
example_14 s m e = λ i. on_rule s m 2 3 e refl i ∷ on_rule s m 0 1 e refl i ∷ on_rule s m 2049 1 e refl i ∷ []

-- 15. "16,383 bytes, edition 3": 1, 0
pub example_15 : (s : List ℕ) (m : ℕ) → length s ≡ 16383 → cleared_step s m 2 3 ≡ not_cleared SIZE
example_15 s m e = on_size s m 2 3 (rw e)

-- ---- on what is seen of the pages

-- the call, where the size is right: its tests, and the rule by the readings that the records name
unfoldable pub cleared_seen : SegView → ℕ → ℕ → ℕ → Cleared
cleared_seen u m rows e =
    let bs = readings (records u) in
    answered true (named rows e) (all_sound u) (found_met (whole bs m rows) (numbers bs) (demands_of e))

pub cleared_seen_lem : (s : List ℕ) (m rows e : ℕ) → size_ok s ≡ true → cleared_step s m rows e ≡ cleared_seen (seg_view s) m rows e
unfolding cleared_seen
cleared_seen_lem s m rows e size = by_answer s m rows e ∙ rw size (go (named rows e) refl)
  where
    bs : List (List ℕ)
    bs = readings (records (seg_view s))

    go : (b : Bool) → named rows e ≡ b → answered true b (all_sound (seg_view s)) (met (whole bs m rows) (demands_of e))
        ≡ answered true b (all_sound (seg_view s)) (found_met (whole bs m rows) (numbers bs) (demands_of e))
    go true q = ap (answered true true (all_sound (seg_view s))) (rule_found bs m rows (rows_within rows (rows_named_lem rows e q)).0 (demands_of e))
    go false q = refl

-- ---- records of mirror 7 on one page

-- reading and row, and a byte of data; a reading by its rows
abbrev pub row7 : ℕ → ℕ → List ℕ
row7 r k = to_be 4 7 ++ (to_be 2 r ++ (to_be 2 k ++ (0xAA ∷ [])))

abbrev pub reading7 : ℕ → List ℕ → List (List ℕ)
reading7 r = map (row7 r)

-- inserted into a page of zeros
abbrev pub inserted : List (List ℕ) → Rows
inserted bs = insert_all (zeros 16384) (zeros 16384) bs

seen_on : List (List ℕ) → Seen
seen_on bs = all_seen (fresh_pages 1) (zeros 16384) bs

one_page : (size_ok (zeros 16384) && inv_ok (zeros 16384)) ≡ true
one_page = let b = blank_sound 1 (omega arith) in and_in (size_ok (zeros 16384)) (inv_ok (zeros 16384)) b.whole b.page

inserted_sized : (bs : List (List ℕ)) → (size_ok (inserted bs).seg && inv_ok (inserted bs).inv) ≡ true
inserted_sized bs = rows_sized bs (zeros 16384) (zeros 16384) one_page

inserted_seen : (bs : List (List ℕ)) → seen_of (inserted bs) ≡ seen_on bs
unfolding seen_on
inserted_seen bs = blank_rows 1 (omega arith) bs

page_cleared : (bs : List (List ℕ)) → cleared_step (inserted bs).seg ≡ cleared_seen (seen_on bs).seen
page_cleared bs =
    (λ i m rows e. cleared_seen_lem (inserted bs).seg m rows e (and_both (size_ok (inserted bs).seg) (inv_ok (inserted bs).inv) (inserted_sized bs)).0 i)
    ∙ ap (λ (q : Seen). cleared_seen q.seen) (inserted_seen bs)

-- ---- the table

-- records, what the caller names, and the answer
pub record Case : Type 0 where
  pub records : List (List ℕ)
  pub mirror : ℕ
  pub rows : ℕ
  pub edition : ℕ
  pub want : Cleared

abbrev pub case : List (List ℕ) → ℕ → ℕ → ℕ → Cleared → Case
case bs m rows e r = record { records = bs; mirror = m; rows = rows; edition = e; want = r }

-- "1: 0 1; 2: 1 0"; "0 each", of these readings
abbrev pub two : List (List ℕ)
two = reading7 1 (0 ∷ 1 ∷ []) ++ reading7 2 (1 ∷ 0 ∷ [])

abbrev pub zero_each : List ℕ → List (List ℕ)
zero_each = map (λ (r : ℕ). row7 r 0)

-- 1 to 6, 8 to 12, 16 and 17
pub cases : List Case
cases =
    case two 7 2 1 Yes
    ∷ case two 7 2 2 No
    -- "both have another row"
    ∷ case two 7 1 1 No
    ∷ case two 7 3 1 No
    ∷ case (reading7 1 (0 ∷ 1 ∷ []) ++ reading7 2 (0 ∷ 1 ∷ 0 ∷ [])) 7 2 1 No
    ∷ case (reading7 1 (0 ∷ 1 ∷ []) ++ reading7 2 (0 ∷ 0 ∷ [])) 7 2 1 No
    ∷ case (zero_each (1 ∷ 2 ∷ 3 ∷ [])) 7 1 2 No
    ∷ case (zero_each (1 ∷ 32767 ∷ 32768 ∷ [])) 7 1 2 Yes
    ∷ case (zero_each (32768 ∷ 32769 ∷ 65535 ∷ [])) 7 1 2 No
    ∷ case (zero_each (1 ∷ 2 ∷ 32768 ∷ 32769 ∷ [])) 7 1 2 Yes
    -- "two are too few"
    ∷ case (zero_each (1 ∷ 32768 ∷ [])) 7 1 2 No
    -- "as 1, mirror 2^32 + 7"
    ∷ case two (2 ^ 32 + 7) 2 1 No
    -- "and a record of the 7 bytes 00 00 00 07 00 01 00"
    ∷ case (zero_each (1 ∷ 2 ∷ []) ++ ((0 ∷ 0 ∷ 0 ∷ 7 ∷ 0 ∷ 1 ∷ 0 ∷ []) ∷ [])) 7 1 1 Yes
    ∷ []

-- all of their records went in
all_seen_lem : map (λ (c : Case). (seen_on c.records).answer) cases ≡ map (λ (c : Case). DONE) cases
unfolding cases seen_on fresh_pages all_seen sound compactify allocate class_of nibble_at set_nibble entry_at set_entry first_from next_page run_end
    set_from pulled_back
    moved_on updated update found_in find insert_plan
all_seen_lem = refl

pub all_inserted : map (λ (c : Case). (inserted c.records).answer) cases ≡ map (λ (c : Case). DONE) cases
all_inserted = (λ i. map (λ (c : Case). (inserted_seen c.records i).answer) cases) ∙ all_seen_lem

-- and each is answered so
cases_seen : map (λ (c : Case). cleared_seen (seen_on c.records).seen c.mirror c.rows c.edition) cases ≡ map (λ (c : Case). c.want) cases
unfolding cases cleared_seen seen_on whole fresh_pages all_seen sound compactify allocate class_of nibble_at set_nibble entry_at set_entry first_from
    next_page run_end
    set_from pulled_back moved_on updated update found_in find insert_plan
cases_seen = refl

pub worked : map (λ (c : Case). cleared_step (inserted c.records).seg c.mirror c.rows c.edition) cases ≡ map (λ (c : Case). c.want) cases
worked = (λ i. map (λ (c : Case). page_cleared c.records i c.mirror c.rows c.edition) cases) ∙ cases_seen

-- ---- "1: 0 1; 2: 0 1 1, then (0,4) erased"

-- an erase, as far as it is seen
erase_seen : (s v : List ℕ) (i : ℕ) → (size_ok s && inv_ok v) ≡ true
    → seg_view (erase_step s v i).seg ≡ settled (erase_plan (seg_view s) v i).steps (seg_view s)
unfolding erase_step result
erase_seen s v i h = rw h (carried_seen (erase_plan (seg_view s) v i).steps s (erase_call_exact s v i))

without_four : Seen → SegView
without_four q = settled (erase_plan q.seen q.inv (id_of 0 4)).steps q.seen

abbrev pub five : List (List ℕ)
five = reading7 1 (0 ∷ 1 ∷ []) ++ reading7 2 (0 ∷ 1 ∷ 1 ∷ [])

seven_seen : cleared_seen (seen_on five).seen 7 2 1 ∷ cleared_seen (without_four (seen_on five)) 7 2 1 ∷ [] ≡ No ∷ Yes ∷ []
unfolding without_four cleared_seen seen_on whole fresh_pages all_seen sound compactify allocate erase class_of nibble_at set_nibble entry_at set_entry
    first_from next_page
    run_end set_from pulled_back moved_on updated update found_in find insert_plan erase_plan root_of
seven_seen = refl

-- 7. 0, 1; before the erase it is 0, 0
pub example_7 : let r = inserted five in
    cleared_step r.seg 7 2 1 ∷ cleared_step (erase_step r.seg r.inv (id_of 0 4)).seg 7 2 1 ∷ [] ≡ No ∷ Yes ∷ []
unfolding without_four
example_7 =
    let s = (inserted five).seg in
    let v = (inserted five).inv in
    let t = erase_step s v (id_of 0 4) in
    let right = sizes_kept (erase_call (id_of 0 4)) s v (inserted_sized five) in
    let after = cleared_seen_lem t.seg 7 2 1 (and_both (size_ok t.seg) (inv_ok t.inv) right).0
    ∙ ap (λ (u : SegView). cleared_seen u 7 2 1) (erase_seen s v (id_of 0 4) (inserted_sized five))
    ∙ ap (λ (q : Seen). cleared_seen (without_four q) 7 2 1) (inserted_seen five) in
    (λ i. page_cleared five i 7 2 1 ∷ after i ∷ []) ∙ seven_seen
