-- Many rows, one at a time: what the fold does with its next row, and what follows by going along the list. For all bytes, damaged ones too.
use Rattle.std.specs.Prelude.{ℕ, zero, suc, ◌+◌, ◌-◌, ◌≤◌, ◌<◌, ◌≡◌, refl, Bool, true}
use Rattle.std.specs.Prelude.{false, not, ◌&&◌, List, [], ◌∷◌, ◌++◌, ◌⊎◌, ◌≢◌, length, get_or, take}
use Rattle.std.specs.Prelude.{drop, eqb, ltb, leb}
use Rattle.std.proofs.Common.{sym, ap, ◌∙◌, subst, inl, inr, ⊎_elim, arith, zero-add, length-drop, take-take, drop-drop, eqb-true, eq-eqb, ne_eqb, le-leb}
use Rattle.std.proofs.Math.Seq.{take-nil}
use Rattle.std.proofs.lemmas.List.{take-append-le, drop-append-le}
use Rattle.std.proofs.lemmas.Bool.{eqb-false}
use Rattle.store.specs.Numbers.{cut, put}
use Rattle.store.specs.Page.{sound}
use Rattle.store.specs.PageSteps.{Alloc, no_room, got, allocate}
use Rattle.store.specs.Inventory.{found_in}
use Rattle.store.specs.Refusals.{DONE, SIZE, LONG, DAMAGED, FULL, STALE, LIST}
use Rattle.store.specs.Segment.{SegView, seg_view, size_ok, inv_ok, Out, Result, result, refuse, Found, nowhere, found, taken, find_on, need_for, find}
use Rattle.store.specs.Segment.{inserted, insert_plan, insert_step}
use Rattle.store.specs.ManyRows.{Rows, no_row, and_row, insert_all, rows_of, total, list_ok, placed, insert_rows_step}
use Rattle.store.specs.ManyRowsTold.{of_row, unchanged, given, carried_out, joined, StoppedAt, OneAtATime}
use Rattle.store.proofs.Laws.Numbers.{cut_drop, cut_same, put_nil}
use Rattle.store.proofs.Laws.SoundPage.{and_both, and_in}
use Rattle.store.proofs.Laws.Cases.{by_test, tests, never, eq_or_ne}
use Rattle.std.specs.Prelude.{Option, Some, None}

-- ---- the next row

module _ (s v b : List ℕ) (bs : List (List ℕ)) where
  -- what holds of the fold, if it does where the row goes in and where it is refused
  pub by_row : (P : Rows → Type 0)
      → ((insert_step s v b).answer ≡ 0 → P (and_row (insert_step s v b).id (insert_all (insert_step s v b).seg (insert_step s v b).inv bs)))
      → ((insert_step s v b).answer ≢ 0 → P (no_row (insert_step s v b).answer s v))
      → P (insert_all s v (b ∷ bs))
  unfolding insert_all
  by_row P f g =
      let t : Result = insert_step s v b in
      by_test P (eqb t.answer 0) (and_row t.id (insert_all t.seg t.inv bs)) (no_row t.answer s v)
      (λ e. f (eqb-true t.answer 0 e)) (λ e. g (eqb-false t.answer 0 e))

  pub row_in : (insert_step s v b).answer ≡ 0
      → insert_all s v (b ∷ bs) ≡ and_row (insert_step s v b).id (insert_all (insert_step s v b).seg (insert_step s v b).inv bs)
  row_in e =
      by_row (λ (r : Rows). r ≡ and_row (insert_step s v b).id (insert_all (insert_step s v b).seg (insert_step s v b).inv bs)) (λ f. refl) (λ n. absurd (n e))

  pub row_refused : (insert_step s v b).answer ≢ 0 → insert_all s v (b ∷ bs) ≡ no_row (insert_step s v b).answer s v
  row_refused n = by_row (λ (r : Rows). r ≡ no_row (insert_step s v b).answer s v) (λ e. absurd (n e)) (λ m. refl)

-- no row is left
pub no_row_lem : (s v : List ℕ) → insert_all s v [] ≡ no_row DONE s v
unfolding insert_all
no_row_lem s v = refl

-- ---- how many went in

-- of these rows, what is told of them
pub record Counted (rows : List (List ℕ)) (r : Rows) : Type 0 where
  pub few : r.inserted ≤ length rows
  pub as_many : length r.ids ≡ r.inserted
  pub whole : r.answer ≡ 0 → r.inserted ≡ length rows
  pub done : r.inserted ≡ length rows → r.answer ≡ 0

pub counted : (rows : List (List ℕ)) (s v : List ℕ) → Counted rows (insert_all s v rows)
counted [] s v = subst (Counted []) (sym (no_row_lem s v)) (record { few = omega arith; as_many = refl; whole = λ e. refl; done = λ e. refl })
counted (b ∷ rows) s v =
    by_row s v b rows (Counted (b ∷ rows))
    (λ e. let c = counted rows (insert_step s v b).seg (insert_step s v b).inv in
    record {
      few = omega (arith, c.few);
      as_many = omega (arith, c.as_many);
      whole = λ z. omega (arith, c.whole z);
      done = λ z. c.done (omega arith);
    })
    (λ n. record { few = omega arith; as_many = refl; whole = λ z. absurd (n z); done = λ z. absurd (omega arith) })

-- ---- a list cut in two

and_joined : (i : ℕ) (a b : Rows) → and_row i (joined a b) ≡ joined (and_row i a) b
and_joined i a b = let m : a.inserted + b.inserted + 1 ≡ a.inserted + 1 + b.inserted = omega arith in rw m

pub cut_joined : (xs ys : List (List ℕ)) (s v : List ℕ) → (insert_all s v xs).answer ≡ 0
    → insert_all s v (xs ++ ys) ≡ joined (insert_all s v xs) (insert_all (insert_all s v xs).seg (insert_all s v xs).inv ys)
cut_joined [] ys s v = rw (no_row_lem s v) (λ e. rw zero-add)
cut_joined (b ∷ xs) ys s v =
    by_row s v b xs (λ (r : Rows). r.answer ≡ 0 → insert_all s v (b ∷ xs ++ ys) ≡ joined r (insert_all r.seg r.inv ys))
    (λ e z.
    let t : Result = insert_step s v b in
    row_in s v b (xs ++ ys) e ∙ ap (and_row t.id) (cut_joined xs ys t.seg t.inv z)
    ∙ and_joined t.id (insert_all t.seg t.inv xs) (insert_all (insert_all t.seg t.inv xs).seg (insert_all t.seg t.inv xs).inv ys))
    (λ n z. absurd (n z))

pub cut_refused : (xs ys : List (List ℕ)) (s v : List ℕ) → (insert_all s v xs).answer ≢ 0 → insert_all s v (xs ++ ys) ≡ insert_all s v xs
cut_refused [] ys s v = rw (no_row_lem s v) (λ n. absurd (n refl))
cut_refused (b ∷ xs) ys s v =
    by_row s v b xs (λ (r : Rows). r.answer ≢ 0 → insert_all s v (b ∷ xs ++ ys) ≡ r)
    (λ e n. let t : Result = insert_step s v b in row_in s v b (xs ++ ys) e ∙ ap (and_row t.id) (cut_refused xs ys t.seg t.inv n))
    (λ m n. row_refused s v b (xs ++ ys) m)

-- ---- the rows told alone

pub told_alone : (rows : List (List ℕ)) (s v : List ℕ) → insert_all s v (take (insert_all s v rows).inserted rows) ≡ carried_out (insert_all s v rows)
told_alone [] s v = rw (no_row_lem s v, take-nil) (no_row_lem s v)
told_alone (b ∷ rows) s v =
    by_row s v b rows (λ (r : Rows). insert_all s v (take r.inserted (b ∷ rows)) ≡ carried_out r)
    (λ e.
    let t : Result = insert_step s v b in
    let n : ℕ = (insert_all t.seg t.inv rows).inserted in
    let m : n + 1 ≡ suc n = omega arith in
    ap (λ (k : ℕ). insert_all s v (take k (b ∷ rows))) m ∙ row_in s v b (take n rows) e ∙ ap (and_row t.id) (told_alone rows t.seg t.inv))
    (λ n. no_row_lem s v)

-- the row at which it stopped, on what is left
pub stopped_at : (rows : List (List ℕ)) (s v : List ℕ) → (insert_all s v rows).answer ≢ 0 → StoppedAt rows (insert_all s v rows)
stopped_at [] s v = rw (no_row_lem s v) (λ n. absurd (n refl))
stopped_at (b ∷ rows) s v =
    by_row s v b rows (λ (r : Rows). r.answer ≢ 0 → StoppedAt (b ∷ rows) r)
    (λ e n.
    let t : Result = insert_step s v b in
    let r : Rows = insert_all t.seg t.inv rows in
    let m : r.inserted + 1 ≡ suc r.inserted = omega arith in
    let x = stopped_at rows t.seg t.inv n in
    record { before = omega (arith, x.before); own = ap (λ (k : ℕ). (insert_step r.seg r.inv (get_or (b ∷ rows) k [])).answer) m ∙ x.own })
    (λ m n. record { before = omega arith; own = refl })

-- ---- as so many calls

pub as_calls : (rows : List (List ℕ)) (s v : List ℕ) → OneAtATime s v rows (insert_all s v rows)
as_calls [] s v =
    subst (OneAtATime s v []) (sym (no_row_lem s v)) (record { done = tt; ids = refl; seg = refl; inv = refl; stops = λ n. absurd (n refl) })
as_calls (b ∷ rows) s v =
    by_row s v b rows (λ (r : Rows). (r.answer ≢ 0 → StoppedAt (b ∷ rows) r) → OneAtATime s v (b ∷ rows) r)
    (λ e x.
    let t : Result = insert_step s v b in
    let r : Rows = insert_all t.seg t.inv rows in
    let m : r.inserted + 1 ≡ suc r.inserted = omega arith in
    let k = as_calls rows t.seg t.inv in
    record {
      done = rw m (e, k.done);
      ids = rw m (ap (λ (is : List ℕ). t.id ∷ is) k.ids);
      seg = rw m k.seg;
      inv = rw m k.inv;
      stops = x;
    })
    (λ n x. record { done = tt; ids = refl; seg = refl; inv = refl; stops = x })
    (stopped_at (b ∷ rows) s v)

-- ---- rows cut out of their bytes

pub length_rows : (ls bs : List ℕ) → length (rows_of bs ls) ≡ length ls
length_rows [] bs = refl
length_rows (l ∷ ls) bs = ap suc (length_rows ls (drop l bs))

pub total_join : (ls ms : List ℕ) → total (ls ++ ms) ≡ total ls + total ms
total_join [] ms = omega arith
total_join (l ∷ ls) ms = omega (arith, total_join ls ms)

pub total_take : (k : ℕ) (ls : List ℕ) → total (take k ls) ≤ total ls
total_take zero ls = omega arith
total_take (suc k) [] = omega arith
total_take (suc k) (l ∷ ls) = omega (arith, total_take k ls)

pub rows_join : (ls ms bs cs : List ℕ) → total ls ≡ length bs → rows_of (bs ++ cs) (ls ++ ms) ≡ rows_of bs ls ++ rows_of cs ms
rows_join [] ms [] cs e = refl
rows_join [] ms (b ∷ bs) cs e = absurd (omega arith)
rows_join (l ∷ ls) ms bs cs e =
    let h : l ≤ length bs = omega arith in
    rw (take-append-le l bs cs h, drop-append-le l bs cs h)
    (ap (λ (rs : List (List ℕ)). take l bs ∷ rs) (rows_join ls ms (drop l bs) cs (rw length-drop (omega arith))))

-- the first k rows are those of the first k lengths
pub rows_take : (k : ℕ) (ls bs : List ℕ) → rows_of (take (total (take k ls)) bs) (take k ls) ≡ take k (rows_of bs ls)
rows_take zero ls bs = refl
rows_take (suc k) [] bs = refl
rows_take (suc k) (l ∷ ls) bs =
    let n : ℕ = total (take k ls) in
    let m : l + n - l ≡ n = omega arith in
    rw (take-take l (l + n) bs (omega arith), cut_drop bs 0 (l + n) l, m, zero-add)
    (ap (λ (rs : List (List ℕ)). take l bs ∷ rs) (rows_take k ls (drop l bs)))

-- each row lies behind those before it
pub row_at : (k : ℕ) (ls bs : List ℕ) → k < length ls → get_or (rows_of bs ls) k [] ≡ cut bs (total (take k ls)) (get_or ls k 0)
row_at zero [] bs h = absurd (omega arith)
row_at (suc k) [] bs h = absurd (omega arith)
row_at zero (l ∷ ls) bs h = refl
row_at (suc k) (l ∷ ls) bs h = row_at k ls (drop l bs) (omega arith) ∙ ap (take (get_or ls k 0)) (drop-drop (total (take k ls)) l bs)

-- ---- a row's own answers: with right sizes, insert gives no 1

-- a page that was not found is no 3
abbrev OfFound : Found → Type 0
OfFound (nowhere a) = (of_row a ≡ true) × (a ≢ LONG)
OfFound (found p k a) = Unit {0}

taken_own : (p : ℕ) (a : Alloc) → OfFound (taken p a)
taken_own p no_room = (refl, λ e. omega arith)
taken_own p (got k a) = tt

found_own : (u : SegView) (m : ℕ) (n : Option ℕ) → OfFound (find_on u m (λ p. false) n)
found_own u m None = (refl, λ e. omega arith)
found_own u m (Some p) =
    by_test OfFound (not (sound (u.page p))) (nowhere DAMAGED) (taken p (allocate (u.page p) m)) (λ e. (refl, λ f. omega arith))
    (λ e. taken_own p (allocate (u.page p) m))

inserted_own : (u : SegView) (v bs : List ℕ) (f : Found) → OfFound f → (of_row (inserted u v bs f).answer ≡ true) × ((inserted u v bs f).answer ≢ LONG)
inserted_own u v bs (nowhere a) h = h
inserted_own u v bs (found p k a) h = (refl, λ e. omega arith)

plan_own : (u : SegView) (v bs : List ℕ) → let a = (insert_plan found_in u v bs).answer in (of_row a ≡ true) × (length bs ≤ 16364 → a ≢ LONG)
unfolding insert_plan find
plan_own u v bs =
    let f : Found = find_on u (length bs) (λ p. false) (found_in v u.pages (need_for (length bs))) in
    let k = inserted_own u v bs f (found_own u (length bs) (found_in v u.pages (need_for (length bs)))) in
    by_test (λ (o : Out). (of_row o.answer ≡ true) × (length bs ≤ 16364 → o.answer ≢ LONG)) (ltb 16364 (length bs)) (refuse v LONG) (inserted u v bs f)
    (λ e. (refl, λ l z. omega tests)) (λ e. (k.0, λ l. k.1))

module _ (s v bs : List ℕ) (h : (size_ok s && inv_ok v) ≡ true) where
  step_own : let a = (insert_step s v bs).answer in (of_row a ≡ true) × (length bs ≤ 16364 → a ≢ LONG)
  unfolding insert_step result
  step_own = rw h (plan_own (seg_view s) v bs)

  pub insert_own : of_row (insert_step s v bs).answer ≡ true
  insert_own = step_own.0

  -- a row that is short enough gives no 3; so where it gives no 4 and no 8 it is 0 or 7
  pub insert_fitted : length bs ≤ 16364 → (insert_step s v bs).answer ≢ DAMAGED → (insert_step s v bs).answer ≢ STALE
      → ((insert_step s v bs).answer ≡ DONE) ⊎ ((insert_step s v bs).answer ≡ FULL)
  insert_fitted l d t = go (insert_step s v bs).answer step_own.0 (step_own.1 l) d t
    where
      go : (a : ℕ) → of_row a ≡ true → a ≢ LONG → a ≢ DAMAGED → a ≢ STALE → (a ≡ DONE) ⊎ (a ≡ FULL)
      go a o x y z =
          ⊎_elim (λ e. inl e)
          (λ n. ⊎_elim (λ e. inr e)
          (λ m. never o (rw (ne_eqb a DONE n, ne_eqb a LONG x, ne_eqb a FULL m, ne_eqb a DAMAGED y, ne_eqb a STALE z))) (eq_or_ne a FULL))
          (eq_or_ne a DONE)

-- ---- the places

-- the ids of two parts, each at the places of its part
pub put_both : (is js xs ys : List ℕ) → length xs ≡ length is → put (is ++ js) 0 (xs ++ ys) ≡ put is 0 xs ++ put js 0 ys
put_both [] js [] ys e = refl
put_both [] js (x ∷ xs) ys e = absurd (omega arith)
put_both (i ∷ is) js [] ys e = absurd (omega arith)
put_both (i ∷ is) js (x ∷ xs) ys e = ap (λ (zs : List ℕ). x ∷ zs) (put_both is js xs ys (omega arith))

pub put_first : (is js xs : List ℕ) → length xs ≤ length is → put (is ++ js) 0 xs ≡ put is 0 xs ++ js
put_first [] js [] h = put_nil js 0
put_first [] js (x ∷ xs) h = absurd (omega arith)
put_first (i ∷ is) js [] h = refl
put_first (i ∷ is) js (x ∷ xs) h = ap (λ (zs : List ℕ). x ∷ zs) (put_first is js xs (omega arith))

-- the ids given stand in front
pub given_placed : (is : List ℕ) (r : Rows) → length r.ids ≡ r.inserted → r.inserted ≤ length is → given (placed is r) ≡ r
given_placed is r e h =
    ap (λ (js : List ℕ). record { answer = r.answer; inserted = r.inserted; ids = js; seg = r.seg; inv = r.inv })
    (cut_same is 0 r.ids r.inserted e (omega arith))

-- ---- the call

pub list_tells : (bs ls is : List ℕ) → list_ok bs ls is ≡ true → (total ls ≡ length bs) × (length ls ≤ length is)
list_tells bs ls is e =
    let a = and_both (eqb (total ls) (length bs)) (leb (length ls) (length is)) e in
    (omega (tests, a.0), omega (tests, a.1))

pub list_right : (bs ls is : List ℕ) → total ls ≡ length bs → length ls ≤ length is → list_ok bs ls is ≡ true
list_right bs ls is e h =
    and_in (eqb (total ls) (length bs)) (leb (length ls) (length is)) (eq-eqb (total ls) (length bs) e) (le-leb (length ls) (length is) h)

module _ (s v bs ls is : List ℕ) where
  pub by_size : (size_ok s && inv_ok v) ≡ false → insert_rows_step s v bs ls is ≡ unchanged SIZE is s v
  unfolding insert_rows_step
  by_size e = rw (e, put_nil)

  pub by_list : (size_ok s && inv_ok v) ≡ true → list_ok bs ls is ≡ false → insert_rows_step s v bs ls is ≡ unchanged LIST is s v
  unfolding insert_rows_step
  by_list e f = rw (e, f, put_nil)

  pub rows_placed : (size_ok s && inv_ok v) ≡ true → list_ok bs ls is ≡ true → insert_rows_step s v bs ls is ≡ placed is (insert_all s v (rows_of bs ls))
  unfolding insert_rows_step
  rows_placed e f = rw (e, f)

  -- what holds of it, from each of the three
  pub by_call : (P : Rows → Type 0) → ((size_ok s && inv_ok v) ≡ false → P (unchanged SIZE is s v))
      → ((size_ok s && inv_ok v) ≡ true → list_ok bs ls is ≡ false → P (unchanged LIST is s v))
      → ((size_ok s && inv_ok v) ≡ true → list_ok bs ls is ≡ true → P (placed is (insert_all s v (rows_of bs ls)))) → P (insert_rows_step s v bs ls is)
  by_call P f g h = go (size_ok s && inv_ok v) (list_ok bs ls is) refl refl
    where
      go : (b c : Bool) → (size_ok s && inv_ok v) ≡ b → list_ok bs ls is ≡ c → P (insert_rows_step s v bs ls is)
      go false c d e = subst P (sym (by_size d)) (f d)
      go true false d e = subst P (sym (by_list d e)) (g d e)
      go true true d e = subst P (sym (rows_placed d e)) (h d e)

  pub few_places : list_ok bs ls is ≡ true → (insert_all s v (rows_of bs ls)).inserted ≤ length is
  few_places f =
      omega (arith, (counted (rows_of bs ls) s v).few, length_rows ls bs, (list_tells bs ls is f).1)
