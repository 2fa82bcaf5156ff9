-- Many rows in one call, `insert_rows_step` (document 02, "Store a whole map in one call"): it tests sizes and list, cuts the rows out of their bytes,
-- inserts them one at a time (ManyRows) and puts the ids to their places. For all segments and inventories, damaged ones too.
use Rattle.std.specs.Prelude.{ℕ, ◌+◌, ◌≤◌, ◌<◌, ◌≡◌, refl, Bool, true, false, cond, ◌&&◌}
use Rattle.std.specs.Prelude.{List, [], ◌∷◌, ◌++◌, ◌↔◌, ◌≢◌, ◌⊎◌, length, get_or, take, drop, eqb}
use Rattle.std.proofs.Common.{sym, ap, ◌∙◌, subst, inl, inr, arith, length-append, take-append-drop, length-take-le}
use Rattle.std.proofs.Math.Seq.{take-length}
use Rattle.store.specs.Numbers.{cut, put}
use Rattle.store.specs.Refusals.{DONE, SIZE, LIST}
use Rattle.store.specs.Segment.{Result, insert_step, size_ok, inv_ok}
use Rattle.store.specs.ManyRows.{Rows, insert_all, rows_of, total, list_ok, placed, insert_rows_step}
use Rattle.store.specs.ManyRowsTold.{of_row, unchanged, given, carried_out, joined, OneAtATime}
use Rattle.store.proofs.Laws.Cases.{never}
use Rattle.store.proofs.Laws.Numbers.{length_put, drop_put, put_nil}
use Rattle.store.proofs.Laws.ManyRows.{no_row_lem, counted, cut_joined, cut_refused, told_alone, as_calls}
use Rattle.store.proofs.Laws.ManyRows.{put_both, put_first, given_placed, list_tells, list_right, by_size, by_list, rows_placed, by_call, few_places}
use Rattle.store.proofs.Laws.ManyRows.{length_rows, total_join, total_take, rows_join, rows_take, row_at}
use Rattle.store.proofs.Promises.ManyRows.{one_row, rows_sized, rows_own}

-- "when the lengths don't sum to the bytes or the id places are fewer than the rows": the sum is a number, and no sum of u64
pub list_exactly : (bs ls is : List ℕ) → (list_ok bs ls is ≡ true) ↔ ((total ls ≡ length bs) × (length ls ≤ length is))
list_exactly bs ls is = (list_tells bs ls is, λ x. list_right bs ls is x.0 x.1)

module _ (s v bs ls is : List ℕ) where
  -- "1, then 10 LIST .., both before any insert": "On 1 and 10 they are as they were"
  pub size_refused : (size_ok s && inv_ok v) ≡ false → insert_rows_step s v bs ls is ≡ unchanged SIZE is s v
  size_refused = by_size s v bs ls is

  pub list_refused : (size_ok s && inv_ok v) ≡ true → list_ok bs ls is ≡ false → insert_rows_step s v bs ls is ≡ unchanged LIST is s v
  list_refused = by_list s v bs ls is

  -- "the fold of `insert_step` over the rows": answer, rows told, ids, segment and inventory
  pub call_fold : (size_ok s && inv_ok v) ≡ true → list_ok bs ls is ≡ true → given (insert_rows_step s v bs ls is) ≡ insert_all s v (rows_of bs ls)
  call_fold d e =
      ap given (rows_placed s v bs ls is d e)
      ∙ given_placed is (insert_all s v (rows_of bs ls)) (counted (rows_of bs ls) s v).as_many (few_places s v bs ls is e)

  -- "It must equal inserting them one at a time in that order: same ids, same pages, same inventory. At the first refusal it stops"
  pub call_as_calls : (size_ok s && inv_ok v) ≡ true → list_ok bs ls is ≡ true → OneAtATime s v (rows_of bs ls) (given (insert_rows_step s v bs ls is))
  call_as_calls d e = subst (OneAtATime s v (rows_of bs ls)) (sym (call_fold d e)) (as_calls (rows_of bs ls) s v)

  -- "`inserted` ≤ rows"
  pub call_few : (insert_rows_step s v bs ls is).inserted ≤ length ls
  call_few =
      by_call s v bs ls is (λ (r : Rows). r.inserted ≤ length ls) (λ d. omega arith) (λ d e. omega arith)
      (λ d e. omega (arith, (counted (rows_of bs ls) s v).few, length_rows ls bs))

  -- "answer 0 exactly if 1 and 10 don't hold and every row went in"
  pub call_done : let r = insert_rows_step s v bs ls is in
      (r.answer ≡ DONE) ↔ (((size_ok s && inv_ok v) ≡ true) × (list_ok bs ls is ≡ true) × (r.inserted ≡ length ls))
  call_done = (
    by_call s v bs ls is (λ (r : Rows). r.answer ≡ DONE → ((size_ok s && inv_ok v) ≡ true) × (list_ok bs ls is ≡ true) × (r.inserted ≡ length ls))
        (λ d z. absurd (omega arith)) (λ d e z. absurd (omega arith)) (λ d e z. (d, e, (counted (rows_of bs ls) s v).whole z ∙ length_rows ls bs)),
    by_call s v bs ls is (λ (r : Rows). ((size_ok s && inv_ok v) ≡ true) × (list_ok bs ls is ≡ true) × (r.inserted ≡ length ls) → r.answer ≡ DONE)
        (λ d z. never z.0 d) (λ d e z. never z.1 e) (λ d e z. (counted (rows_of bs ls) s v).done (z.2 ∙ sym (length_rows ls bs))),
  )

  -- "1 for segment and inventory; then 10": 1 exactly if a size is wrong
  pub call_size : ((insert_rows_step s v bs ls is).answer ≡ SIZE) ↔ ((size_ok s && inv_ok v) ≡ false)
  call_size = (
    by_call s v bs ls is (λ (r : Rows). r.answer ≡ SIZE → (size_ok s && inv_ok v) ≡ false) (λ d z. d) (λ d e z. absurd (omega arith))
        (λ d e z. never (rows_own (rows_of bs ls) s v d) (ap of_row z)),
    λ d. ap (λ (r : Rows). r.answer) (size_refused d),
  )

  -- 10 exactly if the sizes are right and the list is not
  pub call_list : ((insert_rows_step s v bs ls is).answer ≡ LIST) ↔ (((size_ok s && inv_ok v) ≡ true) × (list_ok bs ls is ≡ false))
  call_list = (
    by_call s v bs ls is (λ (r : Rows). r.answer ≡ LIST → ((size_ok s && inv_ok v) ≡ true) × (list_ok bs ls is ≡ false))
        (λ d z. absurd (omega arith)) (λ d e z. (d, e)) (λ d e z. never (rows_own (rows_of bs ls) s v d) (ap of_row z)),
    λ x. ap (λ (r : Rows). r.answer) (list_refused x.0 x.1),
  )

  -- so every answer is one of 0, 1, 3, 4, 7, 8 and 10
  pub call_answers : let r = insert_rows_step s v bs ls is in (r.answer ≡ SIZE) ⊎ (r.answer ≡ LIST) ⊎ (of_row r.answer ≡ true)
  call_answers =
      by_call s v bs ls is (λ (r : Rows). (r.answer ≡ SIZE) ⊎ (r.answer ≡ LIST) ⊎ (of_row r.answer ≡ true)) (λ d. inl refl) (λ d e. inr (inl refl))
      (λ d e. inr (inr (rows_own (rows_of bs ls) s v d)))

  -- "`ids` afterwards is the ids given, then the old places from `inserted` on; its length stays": on every answer
  pub places : let r = insert_rows_step s v bs ls is in r.ids ≡ take r.inserted r.ids ++ drop r.inserted is
  places =
      by_call s v bs ls is (λ (r : Rows). r.ids ≡ take r.inserted r.ids ++ drop r.inserted is) (λ d. refl) (λ d e. refl)
      (λ d e.
      let r : Rows = insert_all s v (rows_of bs ls) in
      let w : List ℕ = put is 0 r.ids in
      sym (take-append-drop r.inserted w)
      ∙ ap (λ (js : List ℕ). take r.inserted w ++ js) (drop_put is 0 r.ids r.inserted (omega (arith, (counted (rows_of bs ls) s v).as_many))))

  pub places_given : let r = insert_rows_step s v bs ls is in length (take r.inserted r.ids) ≡ r.inserted
  places_given =
      by_call s v bs ls is (λ (r : Rows). length (take r.inserted r.ids) ≡ r.inserted) (λ d. refl) (λ d e. refl)
      (λ d e.
      let r : Rows = insert_all s v (rows_of bs ls) in
      length-take-le r.inserted (put is 0 r.ids) (rw length_put (few_places s v bs ls is e)))

  pub places_long : length (insert_rows_step s v bs ls is).ids ≡ length is
  places_long =
      by_call s v bs ls is (λ (r : Rows). length r.ids ≡ length is) (λ d. refl) (λ d e. refl) (λ d e. length_put is 0 (insert_all s v (rows_of bs ls)).ids)

  -- "the answer is the refused row's own number; `inserted` is k, the number of rows before it": insert of that row answers it, on what is left
  pub call_stopped : let r = insert_rows_step s v bs ls is in
      (size_ok s && inv_ok v) ≡ true → list_ok bs ls is ≡ true → r.answer ≢ DONE
      → (r.inserted < length ls)
      × ((insert_step r.seg r.inv (cut bs (total (take r.inserted ls)) (get_or ls r.inserted 0))).answer ≡ r.answer)
  call_stopped d e n =
      let r : Rows = insert_rows_step s v bs ls is in
      let x = (call_as_calls d e).stops n in
      let l : r.inserted < length ls = omega (arith, x.before, length_rows ls bs) in
      (l, ap (λ (b : List ℕ). (insert_step r.seg r.inv b).answer) (sym (row_at r.inserted ls bs l)) ∙ x.own)

-- "An empty list without bytes does nothing and answers 0", "whatever the pages hold"
pub empty_list : (s v is : List ℕ) → (size_ok s && inv_ok v) ≡ true → insert_rows_step s v [] [] is ≡ unchanged DONE is s v
empty_list s v is d =
    rows_placed s v [] [] is d (list_right [] [] is refl (omega arith)) ∙ ap (placed is) (no_row_lem s v)
    ∙ ap (λ (js : List ℕ). unchanged DONE js s v) (put_nil is 0)

-- "nothing beyond the rows told": "on refusal segment and inventory are those of the list cut after `inserted` rows, which answers 0"; after 10
-- that is the empty list. On 1: `size_refused`
pub call_told : (s v bs ls is : List ℕ) → (size_ok s && inv_ok v) ≡ true → let r = insert_rows_step s v bs ls is in
    insert_rows_step s v (take (total (take r.inserted ls)) bs) (take r.inserted ls) is ≡ carried_out r
call_told s v bs ls is d =
    by_call s v bs ls is (λ (r : Rows). insert_rows_step s v (take (total (take r.inserted ls)) bs) (take r.inserted ls) is ≡ carried_out r)
    (λ f. never d f) (λ d e. empty_list s v is d)
    (λ d e.
    let r : Rows = insert_all s v (rows_of bs ls) in
    let k : ℕ = r.inserted in
    let m : total (take k ls) ≤ length bs = omega (arith, total_take k ls, (list_tells bs ls is e).0) in
    let n : length (take k ls) ≡ k = length-take-le k ls (omega (arith, (counted (rows_of bs ls) s v).few, length_rows ls bs)) in
    rows_placed s v (take (total (take k ls)) bs) (take k ls) is d
    (list_right (take (total (take k ls)) bs) (take k ls) is (sym (length-take-le (total (take k ls)) bs m)) (omega (arith, few_places s v bs ls is e)))
    ∙ ap (placed is) (ap (insert_all s v) (rows_take k ls bs) ∙ told_alone (rows_of bs ls) s v))

-- "with one row it is `insert_step`": its answer, its segment and inventory, and its id at the first place if it went in
pub one_row_call : (s v bs : List ℕ) (i : ℕ) (is : List ℕ) → (size_ok s && inv_ok v) ≡ true → let t = insert_step s v bs in
    insert_rows_step s v bs (length bs ∷ []) (i ∷ is) ≡ record {
      answer = t.answer;
      inserted = cond (eqb t.answer DONE) 1 0;
      ids = cond (eqb t.answer DONE) t.id i ∷ is;
      seg = t.seg;
      inv = t.inv;
    }
one_row_call s v bs i is d =
    let t : Result = insert_step s v bs in
    rows_placed s v bs (length bs ∷ []) (i ∷ is) d (list_right bs (length bs ∷ []) (i ∷ is) (omega arith) (omega arith))
    ∙ ap (placed (i ∷ is)) (ap (λ (b : List ℕ). insert_all s v (b ∷ [])) (take-length bs) ∙ one_row s v bs)
    ∙ ap
    (λ (js : List ℕ). record { answer = t.answer; inserted = cond (eqb t.answer DONE) 1 0; ids = js; seg = t.seg; inv = t.inv })
    (first (eqb t.answer DONE) t.id)
  where
    first : (b : Bool) (j : ℕ) → put (i ∷ is) 0 (cond b (j ∷ []) []) ≡ cond b j i ∷ is
    first true j = ap (λ (js : List ℕ). j ∷ js) (put_nil is 0)
    first false j = refl

-- "Cut anywhere", of the call: the bytes, the lengths and the places of two lists end to end, each list right with a place for each row of the first
module _ (s v bs cs ls ms is js : List ℕ) (first : list_ok bs ls is ≡ true) (rest : list_ok cs ms js ≡ true) (full : length is ≡ length ls) where
  list_joined : list_ok (bs ++ cs) (ls ++ ms) (is ++ js) ≡ true
  list_joined =
      let a = list_tells bs ls is first in
      let b = list_tells cs ms js rest in
      list_right (bs ++ cs) (ls ++ ms) (is ++ js) (rw (total_join, length-append, a.0, b.0))
      (rw (length-append ls ms, length-append is js) (omega (arith, b.1)))

  whole_rows : rows_of (bs ++ cs) (ls ++ ms) ≡ rows_of bs ls ++ rows_of cs ms
  whole_rows = rows_join ls ms bs cs (list_tells bs ls is first).0

  -- the first answers 0: one call is two
  pub calls_joined : let r = insert_rows_step s v bs ls is in
      r.answer ≡ DONE → insert_rows_step s v (bs ++ cs) (ls ++ ms) (is ++ js) ≡ joined r (insert_rows_step r.seg r.inv cs ms js)
  calls_joined =
      by_call s v bs ls is
      (λ (r : Rows). r.answer ≡ DONE → insert_rows_step s v (bs ++ cs) (ls ++ ms) (is ++ js) ≡ joined r (insert_rows_step r.seg r.inv cs ms js))
      (λ d z. absurd (omega arith)) (λ d e. never first e)
      (λ d e z.
      let r : Rows = insert_all s v (rows_of bs ls) in
      let q : Rows = insert_all r.seg r.inv (rows_of cs ms) in
      rows_placed s v (bs ++ cs) (ls ++ ms) (is ++ js) d list_joined
      ∙ ap (placed (is ++ js)) (ap (insert_all s v) whole_rows ∙ cut_joined (rows_of bs ls) (rows_of cs ms) s v z)
      ∙ ap (λ (ks : List ℕ). record { answer = q.answer; inserted = r.inserted + q.inserted; ids = ks; seg = q.seg; inv = q.inv })
      (put_both is js r.ids q.ids
      ((counted (rows_of bs ls) s v).as_many ∙ (counted (rows_of bs ls) s v).whole z ∙ length_rows ls bs ∙ sym full))
      ∙ ap (joined (placed is r)) (sym (rows_placed r.seg r.inv cs ms js (rows_sized (rows_of bs ls) s v d) rest)))

  -- it doesn't: the rest is not tried
  pub calls_stop : let r = insert_rows_step s v bs ls is in
      r.answer ≢ DONE → insert_rows_step s v (bs ++ cs) (ls ++ ms) (is ++ js)
      ≡ record { answer = r.answer; inserted = r.inserted; ids = r.ids ++ js; seg = r.seg; inv = r.inv }
  calls_stop =
      by_call s v bs ls is
      (λ (r : Rows). r.answer ≢ DONE → insert_rows_step s v (bs ++ cs) (ls ++ ms) (is ++ js)
      ≡ record { answer = r.answer; inserted = r.inserted; ids = r.ids ++ js; seg = r.seg; inv = r.inv })
      (λ d n. size_refused s v (bs ++ cs) (ls ++ ms) (is ++ js) d) (λ d e. never first e)
      (λ d e n.
      let r : Rows = insert_all s v (rows_of bs ls) in
      rows_placed s v (bs ++ cs) (ls ++ ms) (is ++ js) d list_joined
      ∙ ap (placed (is ++ js)) (ap (insert_all s v) whole_rows ∙ cut_refused (rows_of bs ls) (rows_of cs ms) s v n)
      ∙ ap (λ (ks : List ℕ). record { answer = r.answer; inserted = r.inserted; ids = ks; seg = r.seg; inv = r.inv })
      (put_first is js r.ids (omega (arith, (counted (rows_of bs ls) s v).as_many, few_places s v bs ls is e))))
