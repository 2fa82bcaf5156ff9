-- Lists end to end: the readings, the file and the number passed over of two lists are the one's and then the other's. A segment's rows are its
-- pages' rows, and which page it is plays no part.
use Rattle.std.specs.Prelude.{ℕ, zero, suc, ◌+◌, ◌≡◌, refl, Bool, true, false, cond, List, [], ◌∷◌, ◌++◌}
use Rattle.std.proofs.Common.{sym, ap, ◌∙◌, append_assoc, arith}
use Rattle.store.specs.Slots.{is_record}
use Rattle.store.specs.Page.{View}
use Rattle.store.specs.Segment.{SegView}
use Rattle.store.specs.Records.{Entry, entry_of, entries_from, page_entries, pages_entries, rows_in}
use Rattle.exchange.specs.Exchange.{file_record, file_of, is_short, readings, passed_over}

-- ---- two lists

pub rows_append : (xs ys : List Entry) → rows_in (xs ++ ys) ≡ rows_in xs ++ rows_in ys
rows_append [] ys = refl
rows_append (x ∷ xs) ys = ap {B = List (List ℕ)} (λ r. x.bytes ∷ r) (rows_append xs ys)

pub readings_append : (xs ys : List (List ℕ)) → readings (xs ++ ys) ≡ readings xs ++ readings ys
readings_append [] ys = refl
readings_append (x ∷ xs) ys = go (is_short x) (readings_append xs ys)
  where
    go : (b : Bool) → readings (xs ++ ys) ≡ readings xs ++ readings ys
        → cond b (readings (xs ++ ys)) (x ∷ readings (xs ++ ys)) ≡ cond b (readings xs) (x ∷ readings xs) ++ readings ys
    go true ih = ih
    go false ih = ap {B = List (List ℕ)} (λ r. x ∷ r) ih

pub file_append : (xs ys : List (List ℕ)) → file_of (xs ++ ys) ≡ file_of xs ++ file_of ys
file_append [] ys = refl
file_append (x ∷ xs) ys = ap (λ (r : List ℕ). file_record x ++ r) (file_append xs ys) ∙ sym (append_assoc (file_record x) (file_of xs) (file_of ys))

pub passed_append : (xs ys : List (List ℕ)) → passed_over (xs ++ ys) ≡ passed_over xs + passed_over ys
passed_append [] ys = omega arith
passed_append (x ∷ xs) ys = omega (arith, passed_append xs ys)

-- ---- pages

pub rows_any : (m : ℕ) (v : View) (p k : ℕ) → rows_in (entries_from m v p k) ≡ rows_in (entries_from m v 0 k)
rows_any zero v p k = refl
rows_any (suc m) v p k = go (is_record (v.at k)) (rows_any m v p (k + 1))
  where
    go : (b : Bool) → rows_in (entries_from m v p (k + 1)) ≡ rows_in (entries_from m v 0 (k + 1))
        → rows_in (cond b (entry_of v p k ∷ entries_from m v p (k + 1)) (entries_from m v p (k + 1)))
        ≡ rows_in (cond b (entry_of v 0 k ∷ entries_from m v 0 (k + 1)) (entries_from m v 0 (k + 1)))
    go true ih = ap {B = List (List ℕ)} (λ r. (entry_of v 0 k).bytes ∷ r) ih
    go false ih = ih

module _ (m : ℕ) (u : SegView) (p : ℕ) where
  -- page p and those behind it
  pub rows_pages : rows_in (pages_entries (suc m) u p) ≡ rows_in (page_entries (u.page p) 0) ++ rows_in (pages_entries m u (p + 1))
  rows_pages =
      rows_append (page_entries (u.page p) p) (pages_entries m u (p + 1))
      ∙ ap (λ (r : List (List ℕ)). r ++ rows_in (pages_entries m u (p + 1))) (rows_any (u.page p).slot_count (u.page p) p 0)
