-- What a call does to the whole scan's list, with repetition counted (document 02, Ask 7: "the same readings, each as often as before; ids and order
-- may differ"). From a sound segment a call that is carried out adds its row once, takes it out once, or exchanges it, and changes nothing else in the
-- list but its order. With ids: `count_if f`, for every test f of an entry. Without: `times_in x`, for all bytes x.
use Rattle.std.specs.Prelude.{ℕ, suc, ◌+◌, ◌≤◌, ◌≡◌, refl, Bool, List, [], ◌∷◌, ◌⊎◌, ◌≢◌, length, take}
use Rattle.std.proofs.Common.{ap, ◌∙◌, inl, inr, ⊎_elim, arith}
use Rattle.store.specs.Numbers.{zeros, same_bytes, In, one}
use Rattle.store.specs.Refusals.{DONE, FULL}
use Rattle.store.specs.Segment.{Result, insert_step, size_ok, inv_ok}
use Rattle.store.specs.Calls.{Call, insert, allocate, erase, called, Makes}
use Rattle.store.specs.ManyRows.{Rows, insert_all}
use Rattle.store.specs.Records.{Entry, scan_all, count_if, times, times_in}
use Rattle.store.specs.SoundSegment.{SoundSegment}
use Rattle.store.specs.Book.{Row, book_of, new_row, count_row, times_row}
use Rattle.store.proofs.Laws.SoundPage.{and_in}
use Rattle.store.proofs.Laws.ManyRows.{by_row, no_row_lem, insert_fitted}
use Rattle.store.proofs.Laws.Counts.{counts_by, holding, times_count, row_count}
use Rattle.store.proofs.Promises.Refused.{refused_keeps}
use Rattle.store.proofs.Promises.Sound.{call_right}
use Rattle.store.proofs.Promises.Ids.{id_own}
use Rattle.store.proofs.Promises.Book.{scan_lists, book_others, book_own, book_unused}

-- ---- with their ids

-- the list is settled by the book but for its order
pub book_counts : (f : Entry → Bool) (s v t w : List ℕ) → SoundSegment s v → SoundSegment t w → ((i : ℕ) → book_of t i ≡ book_of s i)
    → count_if f (scan_all t) ≡ count_if f (scan_all s)
book_counts f s v t w h k e =
    let n = counts_by f (book_of s) (book_of t) (scan_all s) (scan_all t) (scan_lists s v h) (scan_lists t w k) 0 (λ j m. e j) in
    omega (arith, ap (count_row f 0) (e 0))

module _ (f : Entry → Bool) (c : Call) (s v : List ℕ) (h : SoundSegment s v) (done : (called c s v).answer ≡ DONE) where
  -- the id's old row is out of the list, its new one in it, and nothing else is changed
  pub scan_changes : let r = called c s v in
      count_if f (scan_all r.seg) + count_row f r.id (book_of s r.id) ≡ count_if f (scan_all s) + count_row f r.id (new_row c (book_of s))
  scan_changes =
      let r : Result = called c s v in
      counts_by f (book_of s) (book_of r.seg) (scan_all s) (scan_all r.seg) (scan_lists s v h) (scan_lists r.seg r.inv (call_right c s v h).sound)
      r.id (λ j n. book_others c s v h j (λ z. n))
      ∙ ap (λ (w : Row). count_if f (scan_all s) + count_row f r.id w) (book_own c s v h done)

  -- insert and allocate: one entry more
  pub scan_adds : Makes c → let r = called c s v in count_if f (scan_all r.seg) ≡ count_if f (scan_all s) + count_row f r.id (new_row c (book_of s))
  scan_adds m = omega (arith, scan_changes, ap (count_row f (called c s v).id) (book_unused c s v h m done))

-- a refused call leaves the same list, in its order; damaged segments too
pub scan_refused : (c : Call) (s v : List ℕ) → (called c s v).answer ≢ DONE → scan_all (called c s v).seg ≡ scan_all s
scan_refused c s v n = ap scan_all (refused_keeps c s v n).0

-- ---- the rows without their ids

module _ (x : List ℕ) (s v : List ℕ) (h : SoundSegment s v) where
  -- of each call that is carried out; so write and resize exchange the id's old row for its new one
  pub rows_change : (c : Call) → (called c s v).answer ≡ DONE
      → times_in x (called c s v).seg + times_row x (book_of s (called c s v).id) ≡ times_in x s + times_row x (new_row c (book_of s))
  rows_change c e =
      let r : Result = called c s v in
      omega (
        arith,
        times_count x (scan_all s),
        times_count x (scan_all r.seg),
        row_count x r.id (book_of s r.id),
        row_count x r.id (new_row c (book_of s)),
        scan_changes (holding x) c s v h e,
      )

  row_more : (c : Call) → Makes c → (called c s v).answer ≡ DONE → times_in x (called c s v).seg ≡ times_in x s + times_row x (new_row c (book_of s))
  row_more c m e = omega (arith, rows_change c e, ap (times_row x) (book_unused c s v h m e))

  -- an insert adds its row once and changes nothing else
  pub insert_adds : (bs : List ℕ) → (insert_step s v bs).answer ≡ DONE → times_in x (insert_step s v bs).seg ≡ times_in x s + one (same_bytes x bs)
  insert_adds bs = row_more (insert bs) tt

  -- an allocate adds a row of zeros once
  pub allocate_adds : (n : ℕ) → (called (allocate n) s v).answer ≡ DONE → times_in x (called (allocate n) s v).seg ≡ times_in x s + one (same_bytes x (zeros n))
  allocate_adds n = row_more (allocate n) tt

  -- an erase takes the id's row out once
  pub erase_takes : (i : ℕ) → (called (erase i) s v).answer ≡ DONE → times_in x (called (erase i) s v).seg + times_row x (book_of s i) ≡ times_in x s
  erase_takes i e = omega (arith, rows_change (erase i) e, ap (λ (j : ℕ). times_row x (book_of s j)) (id_own (erase i) s v i refl e).0)

-- ---- many rows

-- the rows told are added, each as often as it is among them, and nothing else is changed
pub insert_all_adds : (x : List ℕ) (rows : List (List ℕ)) (s v : List ℕ) → SoundSegment s v → let r = insert_all s v rows in
    times_in x r.seg ≡ times_in x s + times x (take r.inserted rows)
insert_all_adds x [] s v h = rw (no_row_lem s v) (omega arith)
insert_all_adds x (b ∷ rows) s v h =
    by_row s v b rows (λ (r : Rows). times_in x r.seg ≡ times_in x s + times x (take r.inserted (b ∷ rows)))
    (λ e.
    let t : Result = insert_step s v b in
    let n : ℕ = (insert_all t.seg t.inv rows).inserted in
    let q : n + 1 ≡ suc n = omega arith in
    rw q (omega (arith, insert_all_adds x rows t.seg t.inv (call_right (insert b) s v h).sound, insert_adds x s v h b e)))
    (λ n. omega arith)

-- ---- which answers

-- from a sound segment an insert of at most 16,364 bytes answers 0, or 7 where no page is named
pub insert_answers : (s v bs : List ℕ) → SoundSegment s v → length bs ≤ 16364 → ((insert_step s v bs).answer ≡ DONE) ⊎ ((insert_step s v bs).answer ≡ FULL)
insert_answers s v bs h l =
    let r = call_right (insert bs) s v h in
    insert_fitted s v bs (and_in (size_ok s) (inv_ok v) h.whole h.page) l r.whole r.current

-- and so do many rows of at most 16,364 bytes each
pub insert_all_answers : (rows : List (List ℕ)) (s v : List ℕ) → SoundSegment s v → ((b : List ℕ) → In b rows → length b ≤ 16364)
    → ((insert_all s v rows).answer ≡ DONE) ⊎ ((insert_all s v rows).answer ≡ FULL)
insert_all_answers [] s v h g = rw (no_row_lem s v) (inl refl)
insert_all_answers (b ∷ rows) s v h g =
    by_row s v b rows (λ (r : Rows). (r.answer ≡ DONE) ⊎ (r.answer ≡ FULL))
    (λ e. insert_all_answers rows (insert_step s v b).seg (insert_step s v b).inv (call_right (insert b) s v h).sound (λ c i. g c (inr i)))
    (λ n. ⊎_elim (λ z. absurd (n z)) (λ z. inr z) (insert_answers s v b h (g b (inl refl))))
