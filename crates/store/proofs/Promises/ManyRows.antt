-- Many rows, one at a time (document 02, "Store a whole map in one call"): the fold `insert_all` over a list of rows, and the rows in their bytes. For
-- all segments and inventories, damaged ones too. The call, which is this fold behind its two tests: ManyRowsCall.
use Rattle.std.specs.Prelude.{ℕ, ◌/◌, ◌%◌, ◌≤◌, ◌<◌, ◌≡◌, refl, true, false, cond, ◌&&◌}
use Rattle.std.specs.Prelude.{List, [], ◌∷◌, ◌++◌, ◌↔◌, ◌≢◌, length, get_or, take, eqb, leb}
use Rattle.std.proofs.Common.{sym, ap, ◌∙◌, ne_eqb}
use Rattle.store.specs.Numbers.{cut}
use Rattle.store.specs.Refusals.{DONE}
use Rattle.store.specs.Segment.{Result, insert_step, size_ok, inv_ok}
use Rattle.store.specs.Calls.{insert}
use Rattle.store.specs.ManyRows.{Rows, and_row, insert_all, rows_of, total}
use Rattle.store.specs.ManyRowsTold.{of_row, alone, carried_out, joined, OneAtATime}
use Rattle.store.proofs.Laws.ManyRows.{by_row, no_row_lem, counted, cut_joined, cut_refused, told_alone, as_calls, insert_own}
use Rattle.store.proofs.Laws.ManyRows.{length_rows, rows_join, row_at}
use Rattle.store.proofs.Promises.Refused.{refused_keeps, length_kept, inventory_kept, sizes_kept}

module _ (s v : List ℕ) where
  -- "with one row it is `insert_step`": its answer, its segment and inventory, and its id if it went in
  pub one_row : (b : List ℕ) → insert_all s v (b ∷ []) ≡ alone (insert_step s v b)
  one_row b =
      let t : Result = insert_step s v b in
      by_row s v b [] (λ (r : Rows). r ≡ alone t)
      (λ e.
      let f : DONE ≡ t.answer = sym e in
      ap (and_row t.id) (no_row_lem t.seg t.inv)
      ∙ (λ i. record {
        answer = f i;
        inserted = cond (eqb (f i) DONE) 1 0;
        ids = cond (eqb (f i) DONE) (t.id ∷ []) [];
        seg = t.seg;
        inv = t.inv;
      }))
      (λ n.
      let f : false ≡ eqb t.answer DONE = sym (ne_eqb t.answer DONE n) in
      let g : s ≡ t.seg = sym (refused_keeps (insert b) s v n).0 in
      let h : v ≡ t.inv = sym (refused_keeps (insert b) s v n).1 in
      λ i. record { answer = t.answer; inserted = cond (f i) 1 0; ids = cond (f i) (t.id ∷ []) []; seg = g i; inv = h i })

  -- "It must equal inserting them one at a time in that order: same ids, same pages, same inventory. At the first refusal it stops": the calls of
  -- the rows told answer 0 with these ids and leave this segment and inventory, and the next row's own call answers what is answered
  pub rows_as_calls : (rows : List (List ℕ)) → OneAtATime s v rows (insert_all s v rows)
  rows_as_calls rows = as_calls rows s v

  -- "if the first part answers 0, the whole list equals the first part and then the rest, with the rows told added"
  pub cut_anywhere : (xs ys : List (List ℕ)) → (insert_all s v xs).answer ≡ DONE
      → insert_all s v (xs ++ ys) ≡ joined (insert_all s v xs) (insert_all (insert_all s v xs).seg (insert_all s v xs).inv ys)
  cut_anywhere xs ys = cut_joined xs ys s v

  -- "if it doesn't, the whole list gives the first part's answer": nothing of the rest is done
  pub cut_stops : (xs ys : List (List ℕ)) → (insert_all s v xs).answer ≢ DONE → insert_all s v (xs ++ ys) ≡ insert_all s v xs
  cut_stops xs ys = cut_refused xs ys s v

  -- "`inserted` ≤ rows"; "answer 0 exactly if .. every row went in"; there are as many ids as rows told
  pub rows_few : (rows : List (List ℕ)) → (insert_all s v rows).inserted ≤ length rows
  rows_few rows = (counted rows s v).few

  pub rows_done : (rows : List (List ℕ)) → ((insert_all s v rows).answer ≡ DONE) ↔ ((insert_all s v rows).inserted ≡ length rows)
  rows_done rows = ((counted rows s v).whole, (counted rows s v).done)

  pub rows_ids : (rows : List (List ℕ)) → length (insert_all s v rows).ids ≡ (insert_all s v rows).inserted
  rows_ids rows = (counted rows s v).as_many

  -- "nothing beyond the rows told": "the list cut after `inserted` rows .. answers 0", with the same ids, segment and inventory
  pub rows_told : (rows : List (List ℕ)) → insert_all s v (take (insert_all s v rows).inserted rows) ≡ carried_out (insert_all s v rows)
  rows_told rows = told_alone rows s v

-- no row makes segment or inventory longer or shorter
pub rows_long : (rows : List (List ℕ)) (s v : List ℕ) → let r = insert_all s v rows in (length r.seg ≡ length s) × (length r.inv ≡ length v)
rows_long [] s v = rw (no_row_lem s v) (refl, refl)
rows_long (b ∷ rows) s v =
    by_row s v b rows (λ (r : Rows). (length r.seg ≡ length s) × (length r.inv ≡ length v))
    (λ e.
    let x = rows_long rows (insert_step s v b).seg (insert_step s v b).inv in
    (x.0 ∙ length_kept (insert b) s v, x.1 ∙ inventory_kept (insert b) s v))
    (λ n. (refl, refl))

pub rows_sized : (rows : List (List ℕ)) (s v : List ℕ) → (size_ok s && inv_ok v) ≡ true
    → (size_ok (insert_all s v rows).seg && inv_ok (insert_all s v rows).inv) ≡ true
rows_sized rows s v h =
    let x = rows_long rows s v in
    (λ i. (eqb (x.0 i % 16384) 0 && leb (x.0 i / 16384) 32527) && eqb (x.1 i) 16384) ∙ h

-- "then each row's own": 0, or 3, 7, 4 or 8, where the sizes are right
pub rows_own : (rows : List (List ℕ)) (s v : List ℕ) → (size_ok s && inv_ok v) ≡ true → of_row (insert_all s v rows).answer ≡ true
rows_own [] s v h = rw (no_row_lem s v)
rows_own (b ∷ rows) s v h =
    by_row s v b rows (λ (r : Rows). of_row r.answer ≡ true)
    (λ e. rows_own rows (insert_step s v b).seg (insert_step s v b).inv (sizes_kept (insert b) s v h)) (λ n. insert_own s v b h)

-- ---- the rows in their bytes

-- "Row k is the length-k bytes after those of the rows before it"
pub rows_many : (bs ls : List ℕ) → length (rows_of bs ls) ≡ length ls
rows_many bs ls = length_rows ls bs

pub row_bytes : (bs ls : List ℕ) (k : ℕ) → k < length ls → get_or (rows_of bs ls) k [] ≡ cut bs (total (take k ls)) (get_or ls k 0)
row_bytes bs ls k = row_at k ls bs

-- two lists end to end
pub rows_joined : (bs cs ls ms : List ℕ) → total ls ≡ length bs → rows_of (bs ++ cs) (ls ++ ms) ≡ rows_of bs ls ++ rows_of cs ms
rows_joined bs cs ls ms = rows_join ls ms bs cs
