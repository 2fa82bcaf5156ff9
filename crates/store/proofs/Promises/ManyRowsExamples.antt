-- Many rows in one call: the worked examples. First those that hold whatever the pages hold, each for all of them; i and j are what the places held.
-- Then, in one table, those with the pages' numbers, on what is seen of the pages.
use Rattle.std.specs.Prelude.{ℕ, ◌+◌, ◌*◌, ◌^◌, ◌≤◌, ◌≡◌, refl, Bool, true, false, cond, ◌&&◌, List, [], ◌∷◌, ◌++◌, map, length, eqb}
use Rattle.std.proofs.Common.{sym, ap, ◌∙◌, arith, le-ltb, eq-eqb, ne_eqb}
use Rattle.store.specs.Numbers.{zeros, id_of}
use Rattle.store.specs.Slots.{off, len}
use Rattle.store.specs.Page.{View, view, sound}
use Rattle.store.specs.PageSteps.{initialised, opened, compactify, allocate, erase}
use Rattle.store.specs.Inventory.{class_of, nibble_at, set_nibble, entry_at, set_entry, first_from, next_page, run_end, set_from, pulled_back, moved_on}
use Rattle.store.specs.Inventory.{updated, update, entry_for, found_in}
use Rattle.store.specs.Refusals.{DONE, SIZE, FULL, LIST}
use Rattle.store.specs.Segment.{SegView, Out, Result, seg_view, carried, size_ok, inv_ok, result, find, insert_plan, insert_step}
use Rattle.store.specs.ManyRows.{Rows, placed, insert_all, insert_rows_step}
use Rattle.store.specs.ManyRowsTold.{unchanged}
use Rattle.store.specs.Calls.{insert}
use Rattle.store.proofs.Laws.Segments.{settled, carried_seen}
use Rattle.store.proofs.Laws.Calls.{insert_exact}
use Rattle.store.proofs.Laws.SoundPage.{and_in}
use Rattle.store.proofs.Laws.Grown.{fresh_past, grown_seen}
use Rattle.store.proofs.Laws.Blank.{none_sound}
use Rattle.store.proofs.Laws.ManyRows.{by_row, no_row_lem, row_refused, rows_placed}
use Rattle.store.proofs.Promises.Refused.{sizes_kept}
use Rattle.store.proofs.Promises.Marked.{Row}
use Rattle.store.proofs.Promises.Examples.{into}
use Rattle.store.proofs.Promises.Blank.{blank_sound}
use Rattle.store.proofs.Promises.ManyRowsCall.{size_refused, list_refused, empty_list}
use Rattle.store.specs.declared.Slot.{Slot}

module _ (s v : List ℕ) (right : (size_ok s && inv_ok v) ≡ true) where
  -- 2. No lengths and no bytes: 0
  pub example_2 : (i : ℕ) → insert_rows_step s v [] [] (i ∷ []) ≡ unchanged DONE (i ∷ []) s v
  example_2 i = empty_list s v (i ∷ []) right

  -- 3. No lengths and one byte: 10
  pub example_3 : (b i : ℕ) → insert_rows_step s v (b ∷ []) [] (i ∷ []) ≡ unchanged LIST (i ∷ []) s v
  example_3 b i = list_refused s v (b ∷ []) [] (i ∷ []) right refl

  -- 4. Two lengths, 3 and 5, with their eight bytes, and one place: 10
  pub example_4 : (bs : List ℕ) (i : ℕ) → length bs ≡ 8 → insert_rows_step s v bs (3 ∷ 5 ∷ []) (i ∷ []) ≡ unchanged LIST (i ∷ []) s v
  example_4 bs i e = list_refused s v bs (3 ∷ 5 ∷ []) (i ∷ []) right (rw e)

  -- 5. "2^63 and 2^63 with no bytes is 10, not a sum of 0"
  pub example_5 : (i j : ℕ) → insert_rows_step s v [] (2 ^ 63 ∷ 2 ^ 63 ∷ []) (i ∷ j ∷ []) ≡ unchanged LIST (i ∷ j ∷ []) s v
  example_5 i j = list_refused s v [] (2 ^ 63 ∷ 2 ^ 63 ∷ []) (i ∷ j ∷ []) right refl

-- no page, so no room
none_full : (v : List ℕ) → inv_ok v ≡ true → (insert_step [] v []).answer ≡ FULL
unfolding insert_step result insert_plan find found_in seg_view
none_full v h = rw (h, le-ltb (entry_at v (entry_for 8)) 0 (omega arith))

-- 10. n = 0, and two rows of no bytes: 7
pub example_10 : (v : List ℕ) (i j : ℕ) → inv_ok v ≡ true → insert_rows_step [] v [] (0 ∷ 0 ∷ []) (i ∷ j ∷ []) ≡ unchanged FULL (i ∷ j ∷ []) [] v
example_10 v i j h =
    let a = none_full v h in
    rows_placed [] v [] (0 ∷ 0 ∷ []) (i ∷ j ∷ []) h refl
    ∙ ap (placed (i ∷ j ∷ [])) (row_refused [] v [] ([] ∷ []) (λ e. omega arith) ∙ ap (λ (k : ℕ). unchanged k [] [] v) a)

-- 12. "An empty list with an inventory of 16,383 bytes answers 1", and so does one with a byte and no length
pub example_12 : (s v bs : List ℕ) → length v ≡ 16383 → length bs ≤ 1 → insert_rows_step s v bs [] [] ≡ unchanged SIZE [] s v
example_12 s v bs e h = size_refused s v bs [] [] (rw e (go (size_ok s)))
  where
    go : (b : Bool) → (b && false) ≡ false
    go true = refl
    go false = refl

-- ---- on what is seen of the pages: the fold over the plans

pub record Seen : Type 0 where
  pub answer : ℕ
  pub inserted : ℕ
  pub ids : List ℕ
  pub seen : SegView
  pub inv : List ℕ

abbrev pub seen_of : Rows → Seen
seen_of r = record { answer = r.answer; inserted = r.inserted; ids = r.ids; seen = seg_view r.seg; inv = r.inv }

abbrev pub and_seen : ℕ → Seen → Seen
and_seen i r = record { answer = r.answer; inserted = r.inserted + 1; ids = i ∷ r.ids; seen = r.seen; inv = r.inv }

unfoldable pub all_seen : SegView → List ℕ → List (List ℕ) → Seen
all_seen u v [] = record { answer = DONE; inserted = 0; ids = []; seen = u; inv = v }
all_seen u v (b ∷ rows) =
    let o : Out = insert_plan found_in u v b in
    let r : Seen = and_seen o.id (all_seen (settled o.steps u) o.inv rows) in
    cond (eqb o.answer DONE) r (record { answer = o.answer; inserted = 0; ids = []; seen = u; inv = v })

insert_seen : (s v b : List ℕ) → (size_ok s && inv_ok v) ≡ true → let o = insert_plan found_in (seg_view s) v b in
    insert_step s v b ≡ record { answer = o.answer; id = o.id; seg = carried o.steps s; inv = o.inv }
unfolding insert_step result
insert_seen s v b h = rw h

-- that is the fold, as far as it is seen
pub rows_seen : (rows : List (List ℕ)) (s v : List ℕ) → (size_ok s && inv_ok v) ≡ true → seen_of (insert_all s v rows) ≡ all_seen (seg_view s) v rows
unfolding all_seen
rows_seen [] s v h = ap seen_of (no_row_lem s v)
rows_seen (b ∷ rows) s v h =
    let t : Result = insert_step s v b in
    let o : Out = insert_plan found_in (seg_view s) v b in
    let q = insert_seen s v b h in
    let x : Seen = and_seen o.id (all_seen (settled o.steps (seg_view s)) o.inv rows) in
    let y : Seen = record { answer = o.answer; inserted = 0; ids = []; seen = seg_view s; inv = v } in
    by_row s v b rows (λ (r : Rows). seen_of r ≡ cond (eqb o.answer DONE) x y)
    (λ e.
    ap (and_seen t.id) (rows_seen rows t.seg t.inv (sizes_kept (insert b) s v h))
    ∙ (λ i. and_seen (q i).id (all_seen (seg_view (q i).seg) (q i).inv rows))
    ∙ ap (λ (u : SegView). and_seen o.id (all_seen u o.inv rows)) (carried_seen o.steps s (insert_exact s v b))
    ∙ ap (λ (c : Bool). cond c x y) (sym (eq-eqb o.answer DONE (sym (ap (λ (r : Result). r.answer) q) ∙ e))))
    (λ n.
    (λ i. record { answer = (q i).answer; inserted = 0; ids = []; seen = seg_view s; inv = v })
    ∙ ap (λ (c : Bool). cond c x y) (sym (ne_eqb o.answer DONE (λ e. n (ap (λ (r : Result). r.answer) q ∙ e)))))

-- n fresh pages: so bytes all zero are seen, and with them what is computed below is the fold's
unfoldable pub fresh_pages : ℕ → SegView
fresh_pages n = record { pages = n; page = λ p. initialised }

blank_seen : (n : ℕ) → seg_view (zeros (n * 16384)) ≡ fresh_pages n
unfolding fresh_pages
blank_seen n =
    let m : 0 + n ≡ n = omega arith in
    grown_seen [] (zeros 16384) none_sound n
    ∙ (λ i. record { pages = m i; page = λ p. fresh_past [] (zeros 16384) none_sound p (omega arith) i })

pub blank_rows : (n : ℕ) → n ≤ 32527 → (rows : List (List ℕ))
    → seen_of (insert_all (zeros (n * 16384)) (zeros 16384) rows) ≡ all_seen (fresh_pages n) (zeros 16384) rows
blank_rows n h rows =
    let b = blank_sound n h in
    rows_seen rows (zeros (n * 16384)) (zeros 16384) (and_in (size_ok (zeros (n * 16384))) (inv_ok (zeros 16384)) b.whole b.page)
    ∙ ap (λ (u : SegView). all_seen u (zeros 16384) rows) (blank_seen n)

-- answer, rows told and ids; and a page's count, first free, data start and free space
told : Seen → List ℕ
told r = r.answer ∷ r.inserted ∷ r.ids

header : View → List ℕ
header p = p.slot_count ∷ p.first_free ∷ p.data_start ∷ p.free_space ∷ []

place : Slot → List ℕ
place x = off x ∷ len x ∷ []

both : Seen → List ℕ
both r = told r ++ header (r.seen.page 0)

-- 1. "Page 0 begins 00 03 00 03 00 00 3F F8 00 00 3F D4", and three slots
abbrev e1 : Seen → Row
e1 r = record {
  got = both r ++ (place ((r.seen.page 0).at 0) ++ (place ((r.seen.page 0).at 1) ++ place ((r.seen.page 0).at 2)));
  want = 0 ∷ 3 ∷ id_of 0 0 ∷ id_of 0 1 ∷ id_of 0 2 ∷ 3 ∷ 3 ∷ 0x3FF8 ∷ 0x3FD4 ∷ 0x3FFD ∷ 3 ∷ 0x3FFD ∷ 0 ∷ 0x3FF8 ∷ 5 ∷ [];
}

-- 6. The second row is too long, "page 0 as P2"
abbrev e6 : List ℕ → Row
e6 v = record { got = both (all_seen (fresh_pages 2) v (zeros 3 ∷ zeros 16365 ∷ zeros 3 ∷ [])); want = 3 ∷ 1 ∷ id_of 0 0 ∷ 1 ∷ 1 ∷ 16381 ∷ 16361 ∷ [] }

-- 7, 8. P11 and P10 as lists
abbrev e7 : List ℕ → Row
e7 v = record { got = told (all_seen (fresh_pages 1) v (zeros 3 ∷ zeros 12271 ∷ [])); want = 7 ∷ 1 ∷ id_of 0 0 ∷ [] }

abbrev e8 : List ℕ → Row
e8 v = record {
  got = both (all_seen (fresh_pages 1) v (zeros 3 ∷ zeros 12270 ∷ []));
  want = 0 ∷ 2 ∷ id_of 0 0 ∷ id_of 0 1 ∷ 2 ∷ 2 ∷ 4111 ∷ 4083 ∷ [];
}

-- 9. Long and short rows in turn
abbrev e9 : List ℕ → Row
e9 v = record {
  got = told (all_seen (fresh_pages 3) v (zeros 12000 ∷ zeros 20 ∷ zeros 12000 ∷ zeros 20 ∷ []));
  want = 0 ∷ 4 ∷ id_of 0 0 ∷ id_of 0 1 ∷ id_of 1 0 ∷ id_of 0 2 ∷ [];
}

on_fresh : List ℕ → List Row
on_fresh v = e1 (all_seen (fresh_pages 2) v (zeros 3 ∷ zeros 0 ∷ zeros 5 ∷ [])) ∷ e6 v ∷ e7 v ∷ e8 v ∷ e9 v ∷ []

-- 11. Three bytes at (0,0), "then page 1's count set to 1 by hand": 4 in the middle of the list
counted : Seen → SegView
counted r = record { pages = 2; page = λ p. cond (eqb p 1) (opened (view (0 ∷ 1 ∷ zeros 16382))) (r.seen.page p) }

e11 : Seen → Row
e11 r = record { got = told (all_seen (counted r) r.inv (zeros 100 ∷ zeros 16256 ∷ [])); want = 4 ∷ 1 ∷ id_of 0 1 ∷ [] }

-- 13. "document 01's page of 5,000, 5,000, 3,000 with slot 1 erased": "the page is compactified between the rows"
holed : View
holed = (erase (into 3000 (into 5000 (into 5000 initialised))) 1).after

e13 : List ℕ → View → Row
e13 v p = record {
  got = both (all_seen (record { pages = 1; page = λ k. p }) (update v 1 0 p.free_space) (zeros 10 ∷ zeros 3338 ∷ []));
  want = 0 ∷ 2 ∷ id_of 0 1 ∷ id_of 0 3 ∷ 4 ∷ 4 ∷ 5036 ∷ 4992 ∷ [];
}

-- ---- the table

on_fresh_is : map (λ r. r.got) (on_fresh (zeros 16384)) ≡ map (λ r. r.want) (on_fresh (zeros 16384))
unfolding on_fresh fresh_pages told header place both all_seen sound compactify allocate class_of nibble_at set_nibble entry_at set_entry first_from
    next_page run_end
    set_from pulled_back moved_on updated update found_in find insert_plan
on_fresh_is = refl

damaged_is : (e11 (all_seen (fresh_pages 2) (zeros 16384) (zeros 3 ∷ []))).got ≡ (e11 (all_seen (fresh_pages 2) (zeros 16384) (zeros 3 ∷ []))).want
unfolding e11 counted view fresh_pages told all_seen sound compactify allocate class_of nibble_at set_nibble entry_at set_entry first_from next_page run_end
    set_from pulled_back moved_on updated update found_in find insert_plan
damaged_is = refl

holed_is : (e13 (zeros 16384) holed).got ≡ (e13 (zeros 16384) holed).want
unfolding e13 holed into erase told header both all_seen sound compactify allocate class_of nibble_at set_nibble entry_at set_entry first_from next_page run_end
    set_from pulled_back moved_on updated update found_in find insert_plan
holed_is = refl

pub rows : List Row
rows = on_fresh (zeros 16384) ++ (e11 (all_seen (fresh_pages 2) (zeros 16384) (zeros 3 ∷ [])) ∷ e13 (zeros 16384) holed ∷ [])

-- 1, 6 to 9, 11 and 13
pub worked : map (λ r. r.got) rows ≡ map (λ r. r.want) rows
unfolding rows on_fresh
worked = λ i. on_fresh_is i ++ (damaged_is i ∷ holed_is i ∷ [])
