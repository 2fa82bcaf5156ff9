-- How much room a file needs: a reading has 4 bytes more in it than in the scan, and on its page the 8 bytes of a slot. So a page's file is
-- shorter than a page, and a place as long as the segment is long enough for the segment's file.
use Rattle.std.specs.Prelude.{ℕ, zero, suc, ◌+◌, ◌-◌, ◌*◌, ◌≤◌, ◌≡◌, Bool, true, false, cond, List, [], ◌∷◌, ◌++◌, length, take, drop}
use Rattle.std.proofs.Common.{subst, arith, length-drop, length-append, length-take-le}
use Rattle.store.specs.Numbers.{to_be, sum}
use Rattle.store.specs.Slots.{len, is_target, is_record}
use Rattle.store.specs.Page.{View}
use Rattle.store.specs.Segment.{SegView, seg_view, size_ok}
use Rattle.store.specs.SoundSegment.{PagesSound}
use Rattle.store.specs.Records.{Entry, entry_of, entries_from, page_entries, pages_entries, entries, rows_in}
use Rattle.store.proofs.Laws.Cases.{by_test, tests}
use Rattle.store.specs.Laws.Views.{Sound}
use Rattle.store.proofs.Laws.Views.{one_few}
use Rattle.store.proofs.Laws.SoundSegment.{pages_sound, seen_pages}
use Rattle.exchange.specs.Exchange.{file_record, file_of, is_short, readings, passed_over}
use Rattle.exchange.specs.Words.{page_file, segment_file}

-- ---- records

pub record_length : (r : List ℕ) → 8 ≤ length r → length (file_record r) ≡ length r + 4
record_length r l =
    let a = length-append (take 8 r) (to_be 2 (length r - 8) ++ drop 8 r) in
    let b = length-append (to_be 2 (length r - 8)) (drop 8 r) in
    omega (arith, length-take-le 8 r l, length-drop 8 r)

-- what they need if each is a reading
abbrev pub file_room : List Entry → ℕ
file_room [] = 0
file_room (x ∷ xs) = length x.bytes + 4 + file_room xs

room_append : (xs ys : List Entry) → file_room (xs ++ ys) ≡ file_room xs + file_room ys
room_append [] ys = omega arith
room_append (x ∷ xs) ys = omega (arith, room_append xs ys)

file_length : (xs : List Entry) → length (file_of (readings (rows_in xs))) ≤ file_room xs
file_length [] = omega arith
file_length (x ∷ xs) =
    by_test (λ (rs : List (List ℕ)). length (file_of rs) ≤ file_room (x ∷ xs)) (is_short x.bytes) (readings (rows_in xs)) (x.bytes ∷ readings (rows_in xs))
    (λ e. omega (arith, file_length xs))
    (λ e. omega (arith, length-append (file_record x.bytes) (file_of (readings (rows_in xs))), record_length x.bytes (omega tests), file_length xs))

-- ---- the slots of a page

module _ (v : View) (s : Sound v) (p : ℕ) where
  entry_length : (k : ℕ) → length (entry_of v p k).bytes ≤ len (v.at k)
  entry_length k =
      by_test (λ (bs : List ℕ). length bs ≤ len (v.at k)) (is_target (v.at k)) (drop 8 (v.bytes k)) (v.bytes k)
      (λ e. omega (arith, s.lens k, length-drop 8 (v.bytes k))) (λ e. omega (arith, s.lens k))

  -- what the records and the slots below a number take of the page
  abbrev taken : ℕ → ℕ
  taken k = sum k (λ j. len (v.at j)) + 8 * k

  slots_room : (m k : ℕ) → file_room (entries_from m v p k) + taken k ≤ taken (k + m)
  slots_room zero k = let e : k + 0 ≡ k = omega arith in rw e (omega arith)
  slots_room (suc m) k =
      let a : k + 1 ≡ suc k = omega arith in
      let b : k + 1 + m ≡ k + suc m = omega arith in
      go (is_record (v.at k))
      (subst (λ (n : ℕ). file_room (entries_from m v p (k + 1)) + taken (suc k) ≤ taken n) b
      (subst (λ (n : ℕ). file_room (entries_from m v p (k + 1)) + taken n ≤ taken (k + 1 + m)) a (slots_room m (k + 1))))
    where
      go : (b : Bool) → file_room (entries_from m v p (k + 1)) + taken (suc k) ≤ taken (k + suc m)
          → file_room (cond b (entry_of v p k ∷ entries_from m v p (k + 1)) (entries_from m v p (k + 1))) + taken k ≤ taken (k + suc m)
      go true ih = omega (arith, entry_length k)
      go false ih = omega arith

  pub page_room : file_room (page_entries v p) ≤ 16372
  page_room =
      let e : 0 + v.slot_count ≡ v.slot_count = omega arith in
      let r = subst (λ (n : ℕ). file_room (page_entries v p) + taken 0 ≤ taken n) e (slots_room v.slot_count 0) in
      omega (arith, s.sums)

pub page_short : (v : View) → Sound v → length (page_file v) ≤ 16372
page_short v s = omega (arith, file_length (page_entries v 0), page_room v s 0)

-- no more are passed over than there are slots
pub passed_few : (m : ℕ) (v : View) (p k : ℕ) → passed_over (rows_in (entries_from m v p k)) ≤ m
passed_few zero v p k = omega arith
passed_few (suc m) v p k = go (is_record (v.at k)) (passed_few m v p (k + 1))
  where
    go : (b : Bool) → passed_over (rows_in (entries_from m v p (k + 1))) ≤ m
        → passed_over (rows_in (cond b (entry_of v p k ∷ entries_from m v p (k + 1)) (entries_from m v p (k + 1)))) ≤ suc m
    go true ih = omega (arith, one_few (is_short (entry_of v p k).bytes))
    go false ih = omega arith

-- ---- a segment

pages_room : (u : SegView) → ((p : ℕ) → Sound (u.page p)) → (m p : ℕ) → file_room (pages_entries m u p) ≤ m * 16384
pages_room u s zero p = omega arith
pages_room u s (suc m) p =
    omega (arith, room_append (page_entries (u.page p) p) (pages_entries m u (p + 1)), page_room (u.page p) (s p) p, pages_room u s m (p + 1))

pub file_fits : (s : List ℕ) → size_ok s ≡ true → PagesSound s → length (segment_file (seg_view s)) ≤ length s
file_fits s e h = omega (arith, file_length (entries (seg_view s)), pages_room (seg_view s) (pages_sound s e h) (seg_view s).pages 0, seen_pages s)
