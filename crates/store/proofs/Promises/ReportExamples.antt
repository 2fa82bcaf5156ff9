-- Fill report: the worked examples. First those that hold whatever the pages hold besides, each for all of them. Then, in one table, those with the
-- pages' numbers, on what is seen of the pages.
use Rattle.std.specs.Prelude.{ℕ, ◌+◌, ◌-◌, ◌*◌, ◌/◌, ◌^◌, ◌<◌, ◌≡◌, refl, true, cond, not, List, [], ◌∷◌, ◌++◌, map, length, set, replicate, eqb}
use Rattle.std.proofs.Common.{sym, ap, ◌∙◌, subst, arith, take_all}
use Rattle.std.proofs.Math.Decide.{dec_lt}
use Rattle.store.specs.Numbers.{zeros}
use Rattle.store.specs.Slots.{off, len}
use Rattle.store.specs.Page.{View, view, sound}
use Rattle.store.specs.PageSteps.{initialised, opened, with_slot, compactify, allocate, erase, erase_for_redirect, relocate}
use Rattle.store.specs.Inventory.{class_of, nibble_at, set_nibble, entry_at, set_entry, first_from, next_page, run_end, set_from, pulled_back, moved_on}
use Rattle.store.specs.Inventory.{updated, update, found_in}
use Rattle.store.specs.Refusals.{DONE, SIZE, DAMAGED, TALLY}
use Rattle.store.specs.Segment.{SegView, seg_view, page_of, size_ok, find, insert_plan, store_plan, root_of}
use Rattle.store.specs.Report.{figures_to, figures, added, all_fit, Report, report, all_sound, report_step}
use Rattle.store.proofs.Laws.SoundSegment.{page_past}
use Rattle.store.proofs.Laws.Report.{on_size, on_damage, damaged}
use Rattle.store.proofs.Promises.Fresh.{FreshHeader, header_fresh}
use Rattle.store.proofs.Promises.Marked.{Row}
use Rattle.store.proofs.Promises.Examples.{into, without, start, did, then, three, forwarded}
use Rattle.store.proofs.Promises.ManyRowsExamples.{all_seen, fresh_pages}
use Rattle.store.specs.declared.Slot.TheVariants.{Target}

-- ---- whatever the pages hold besides

-- 1. No page, and each figure 2^64 − 1: 0
pub example_1 : let t = replicate 23 (2 ^ 64 - 1) in report_step [] t ≡ report DONE t
unfolding report_step figures_to seg_view
example_1 = refl

-- 9. Page 1 is all zero but its count 1: 4, whatever the tally was
pub example_9 : (s t : List ℕ) → size_ok s ≡ true → 1 < length s / 16384 → page_of s 1 ≡ 0 ∷ 1 ∷ zeros 16382 → report_step s t ≡ report DAMAGED t
unfolding sound view
example_9 s t e l q = on_damage s t e (damaged s (record { on = 1; below = l; unsound = ap (λ (p : List ℕ). sound (view p)) q }))

-- 11. 16,383 bytes: 1
pub example_11 : (s t : List ℕ) → length s ≡ 16383 → report_step s t ≡ report SIZE t
example_11 s t e = on_size s t (rw e)

-- a page alone
alone : (p : List ℕ) → length p ≡ 16384 → page_of p 0 ≡ p
alone p e = take_all 16384 p (omega arith)

-- 12b. "one page, two zero bytes and then EE everywhere: not fresh, not sound": 4
pub example_12b : (rest t : List ℕ) → let p = 0 ∷ 0 ∷ replicate 10 0xEE ++ rest in length p ≡ 16384 → report_step p t ≡ report DAMAGED t
unfolding sound view
example_12b rest t e =
    let p = 0 ∷ 0 ∷ replicate 10 0xEE ++ rest in
    on_damage p t (rw e) (damaged p (record { on = 0; below = omega arith; unsound = ap (λ (q : List ℕ). sound (view q)) (alone p e) }))

-- ---- on what is seen of the pages

unfoldable pub report_seen : SegView → List ℕ → Report
report_seen u t =
    let after = added t (figures u) in
    cond (not (all_sound u)) (report DAMAGED t) (cond (not (all_fit after)) (report TALLY t) (report DONE after))

-- that is the call, on a segment of a right size
pub report_seen_lem : (s t : List ℕ) → size_ok s ≡ true → report_step s t ≡ report_seen (seg_view s) t
unfolding report_step report_seen
report_seen_lem s t e = rw e

-- pages with either fresh header are seen as initialised, whatever stands behind it
fresh_seen : (s : List ℕ) (n : ℕ) → length s ≡ n * 16384 → ((p : ℕ) → p < n → FreshHeader (page_of s p)) → seg_view s ≡ fresh_pages n
unfolding seg_view fresh_pages view
fresh_seen s n e h = let m : length s / 16384 ≡ n = omega arith in λ i. record { pages = m i; page = λ p. each p (dec_lt p n) i }
  where
    each : (p : ℕ) → Dec (p < n) → opened (view (page_of s p)) ≡ initialised
    each p (yes l) = rw (header_fresh (page_of s p) (h p l))
    each p (no l) = ap (λ (q : List ℕ). opened (view q)) (page_past s p (omega arith) (omega arith))

-- 2. Two fresh pages
pub example_2 : (s : List ℕ) → length s ≡ 2 * 16384 → ((p : ℕ) → p < 2 → FreshHeader (page_of s p))
    → report_step s (zeros 23) ≡ report DONE (2 ∷ 2 ∷ zeros 5 ++ (2 ∷ zeros 15))
unfolding report_seen figures_to fresh_pages sound
example_2 s e h = report_seen_lem s (zeros 23) (rw e) ∙ ap (λ (u : SegView). report_seen u (zeros 23)) (fresh_seen s 2 e h)

-- 12. "one page, twelve zero bytes (or the initialised header) and then EE everywhere"
pub example_12 : (p : List ℕ) → length p ≡ 16384 → FreshHeader p → report_step p (zeros 23) ≡ report DONE (1 ∷ 1 ∷ zeros 5 ++ (1 ∷ zeros 15))
unfolding report_seen figures_to fresh_pages sound
example_12 p e h =
    report_seen_lem p (zeros 23) (rw e)
    ∙ ap (λ (u : SegView). report_seen u (zeros 23))
    (fresh_seen p 1 e (λ k l. let z : k ≡ 0 = omega arith in subst FreshHeader (sym (ap (page_of p) z ∙ alone p e)) h))

-- ---- with the pages' numbers: the answer and the tally afterwards, its seven figures and its classes

told : Report → List ℕ
told r = r.answer ∷ r.tally

-- a tally of zeros; of zeros but for figure j; m pages in class c and none in another
empty : List ℕ
empty = zeros 23

but : ℕ → ℕ → List ℕ
but j x = set empty j x

only : ℕ → ℕ → List ℕ
only c m = set (zeros 16) c m

-- 3. "n = 1, three bytes inserted (P2)"
abbrev e3 : SegView → Row
e3 u = record { got = told (report_seen u empty); want = 0 ∷ 1 ∷ 0 ∷ 1 ∷ 1 ∷ 3 ∷ 0 ∷ 16361 ∷ only 2 1 }

-- 7, 8. "as 3, record bytes 2^64 − 3 before", and 2^64 − 4
abbrev e7 : SegView → Row
e7 u = record { got = told (report_seen u (but 4 (2 ^ 64 - 3))); want = 9 ∷ but 4 (2 ^ 64 - 3) }

abbrev e8 : SegView → Row
e8 u = record { got = told (report_seen u (but 4 (2 ^ 64 - 4))); want = 0 ∷ 1 ∷ 0 ∷ 1 ∷ 1 ∷ (2 ^ 64 - 1) ∷ 0 ∷ 16361 ∷ only 2 1 }

-- 13, 14. "as 3, only the figure of class 2 is 2^64 − 1", and only the fresh pages are
abbrev e13 : SegView → Row
e13 u = record { got = told (report_seen u (but (7 + 2) (2 ^ 64 - 1))); want = 9 ∷ but (7 + 2) (2 ^ 64 - 1) }

abbrev e14 : SegView → Row
e14 u = record { got = told (report_seen u (but 1 (2 ^ 64 - 1))); want = 0 ∷ 1 ∷ (2 ^ 64 - 1) ∷ 1 ∷ 1 ∷ 3 ∷ 0 ∷ 16361 ∷ only 2 1 }

on_three : SegView → List Row
on_three u = e3 u ∷ e7 u ∷ e8 u ∷ e13 u ∷ e14 u ∷ []

-- 4. "document 01's n = 3 case after the write of 5,000"
abbrev e4 : SegView → Row
e4 u = record { got = told (report_seen u empty); want = 0 ∷ 3 ∷ 0 ∷ 4 ∷ 3 ∷ 33000 ∷ 1 ∷ 16076 ∷ set (set (only 3 1) 8 1) 15 1 }

-- 5. "the same again, with the tally of 4"
abbrev e5 : SegView → Row
e5 u = record { got = told (report_seen u (report_seen u empty).tally); want = 0 ∷ 6 ∷ 0 ∷ 8 ∷ 6 ∷ 66000 ∷ 2 ∷ 32152 ∷ set (set (only 3 2) 8 2) 15 2 }

on_forwarded : SegView → List Row
on_forwarded u = e4 u ∷ e5 u ∷ []

-- a page and n − 1 fresh ones behind it
before : ℕ → View → SegView
before n v = record { pages = n; page = λ p. cond (eqb p 0) v initialised }

-- 6. "lengths 3, 4, 5, erased in order 0, 1, 2"
emptied : View
emptied = without 2 (without 1 (without 0 (into 5 (into 4 (into 3 initialised)))))

e6 : SegView → Row
e6 u = record { got = told (report_seen u empty); want = 0 ∷ 1 ∷ 0 ∷ 1 ∷ 0 ∷ 0 ∷ 0 ∷ 16364 ∷ only 2 1 }

-- 10. "n = 2, a record of 12 bytes; its slot's first byte set to C0 by hand, so that it is a target that no redirect names"
turned : View → View
turned v = with_slot v 0 (Target (off (v.at 0)) (len (v.at 0))) (v.bytes 0)

e10 : SegView → Row
e10 u = record { got = told (report_seen u empty); want = 0 ∷ 2 ∷ 1 ∷ 1 ∷ 1 ∷ 4 ∷ 1 ∷ 16352 ∷ set (only 0 1) 2 1 }

-- ---- the table

-- three bytes in one page of zeros: what is seen of them (ManyRowsExamples, `blank_rows`)
in_one : SegView
in_one = (all_seen (fresh_pages 1) (zeros 16384) (zeros 3 ∷ [])).seen

on_three_is : map (λ r. r.got) (on_three in_one) ≡ map (λ r. r.want) (on_three in_one)
unfolding on_three in_one told empty but only report_seen figures_to fresh_pages all_seen sound compactify allocate class_of nibble_at set_nibble entry_at
    set_entry
    first_from next_page run_end set_from pulled_back moved_on updated update found_in find insert_plan
on_three_is = refl

on_forwarded_is : map (λ r. r.got) (on_forwarded forwarded.seen) ≡ map (λ r. r.want) (on_forwarded forwarded.seen)
unfolding on_forwarded told empty only report_seen figures_to start did then three forwarded sound compactify allocate erase_for_redirect relocate class_of
    nibble_at set_nibble entry_at set_entry first_from next_page run_end set_from pulled_back moved_on updated update found_in find insert_plan store_plan
    root_of
on_forwarded_is = refl

emptied_is : (e6 (before 1 emptied)).got ≡ (e6 (before 1 emptied)).want
unfolding e6 before emptied told empty only report_seen figures_to into without sound compactify allocate erase class_of
emptied_is = refl

turned_is : (e10 (before 2 (turned (into 12 initialised)))).got ≡ (e10 (before 2 (turned (into 12 initialised)))).want
unfolding e10 before turned told empty only report_seen figures_to into sound compactify allocate class_of
turned_is = refl

pub rows : List Row
rows = on_three in_one ++ (on_forwarded forwarded.seen ++ (e6 (before 1 emptied) ∷ e10 (before 2 (turned (into 12 initialised))) ∷ []))

-- 3 to 8, 10, 13 and 14
pub worked : map (λ r. r.got) rows ≡ map (λ r. r.want) rows
unfolding rows on_three on_forwarded
worked = λ i. on_three_is i ++ (on_forwarded_is i ++ (emptied_is i ∷ turned_is i ∷ []))
