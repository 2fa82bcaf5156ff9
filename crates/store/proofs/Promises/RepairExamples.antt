-- Repair's worked examples, those that cover the request's sentences: 9, 10, 12 to 15, 18, 19, 21, 22, 25, 26, 29. One table, by computation.
-- Repair looks at directories and back ids alone, so a page is given by its first 12 + 8 × count bytes, as the calls left them (`left_is`; for
-- n = 3 see Examples `moved`), and bytes are set by hand. What is shown: the entries' words, and the directories or the inventory afterwards.
use Rattle.std.specs.Prelude.{ℕ, ◌≡◌, refl, cond, List, [], ◌∷◌, ◌++◌, map, eqb}
use Rattle.store.specs.Numbers.{put, zeros, to_be, id_of}
use Rattle.store.specs.Slots.{slot_bytes}
use Rattle.store.specs.Page.{View, view}
use Rattle.store.specs.PageSteps.{initialised, head_bytes, compactify, allocate}
use Rattle.store.specs.Inventory.{class_of, nibble_at, nibble, set_nibble, entry_at, set_entry, first_from, next_page, run_end, set_from, pulled_back}
use Rattle.store.specs.Inventory.{moved_on, updated, update}
use Rattle.store.specs.Segment.{SegView}
use Rattle.store.specs.Repair.{standing, kept_below, keeps, kept, holds, named, deed, mended_by, page_after, seg_after, page_bytes}
use Rattle.store.specs.Repair.{seg_bytes, true_inv, same_inv, inv_after, page_entries, seg_entries, entries, words, Repaired, repair_step}
use Rattle.store.proofs.Promises.Marked.{Row}
use Rattle.store.proofs.Promises.Examples.{into}
use Rattle.store.specs.declared.Slot.TheVariants.{Ordinary, Redirect, Target}

-- count, first free, data start and free space; and a slot that is freed
abbrev header : ℕ → ℕ → ℕ → ℕ → List ℕ
header c f d n = to_be 2 c ++ (to_be 2 f ++ (to_be 4 d ++ to_be 4 n))

abbrev freed : List ℕ
freed = 0x40 ∷ zeros 7

-- the inventory's fifteen entries, and four nibbles
inventory : List ℕ → List ℕ
inventory v =
    map (entry_at v) (0 ∷ 1 ∷ 2 ∷ 3 ∷ 4 ∷ 5 ∷ 6 ∷ 7 ∷ 8 ∷ 9 ∷ 10 ∷ 11 ∷ 12 ∷ 13 ∷ 14 ∷ []) ++ map (nibble v) (0 ∷ 1 ∷ 2 ∷ 3 ∷ [])

-- ---- n = 1

-- "insert 3, insert 4, insert 5"; "insert 8, insert 7"; "insert 0, insert 10"
abbrev threes : List ℕ
threes = header 3 3 16372 16336 ++ (slot_bytes (Ordinary 16381 3) ++ (slot_bytes (Ordinary 16377 4) ++ slot_bytes (Ordinary 16372 5)))

abbrev eight : List ℕ
eight = header 2 2 16369 16341 ++ (slot_bytes (Ordinary 16376 8) ++ slot_bytes (Ordinary 16369 7))

abbrev ten : List ℕ
ten = header 2 2 16374 16346 ++ (slot_bytes (Ordinary 16384 0) ++ slot_bytes (Ordinary 16374 10))

-- and the inventory, of a page with so much free space: one class for all three
counted : ℕ → List ℕ
counted n = update (zeros 16384) 1 0 n

-- a page's directory, with two slots and with three
two : View → List ℕ
two v = head_bytes v ++ (slot_bytes (v.at 0) ++ slot_bytes (v.at 1))

pub left : View → List (List ℕ)
left v = (two (into 5 (into 4 (into 3 v))) ++ slot_bytes ((into 5 (into 4 (into 3 v))).at 2)) ∷ two (into 7 (into 8 v)) ∷ two (into 10 (into 0 v)) ∷ []

pub left_is : left initialised ≡ threes ∷ eight ∷ ten ∷ []
unfolding left two into compactify allocate
left_is = refl

abbrev one : List ℕ → SegView
one q = record { pages = 1; page = λ p. view q }

shown : List ℕ → List ℕ → List ℕ
shown v q = words (entries (one q) v) ++ page_bytes (one q) 0 q

-- 9. A record leaves the page by one byte
abbrev e9 : List ℕ → Row
e9 v = record {
  got = shown v (put threes 12 (slot_bytes (Ordinary 16381 4)));
  want = 0 ∷ 0 ∷ 1 ∷ 0 ∷ 65535 ∷ 4 ∷ header 3 0 16372 16339 ++ (freed ++ (slot_bytes (Ordinary 16377 4) ++ slot_bytes (Ordinary 16372 5)));
}

-- 10. The lower slot is kept; what overlaps only a freed record is kept too
abbrev e10 : List ℕ → Row
e10 v = record {
  got = shown v (put threes 20 (slot_bytes (Ordinary 16379 4) ++ slot_bytes (Ordinary 16376 5)));
  want = 0 ∷ 1 ∷ 1 ∷ 0 ∷ 65535 ∷ 4 ∷ header 3 1 16372 16340 ++ (slot_bytes (Ordinary 16381 3) ++ (freed ++ slot_bytes (Ordinary 16376 5)));
}

-- 12. Empty records: at 16,384 one stays, past it one goes
abbrev e12 : List ℕ → Row
e12 v = record {
  got = shown v (put threes 20 (slot_bytes (Ordinary 16384 0) ++ slot_bytes (Ordinary 16385 0)));
  want = 0 ∷ 2 ∷ 1 ∷ 0 ∷ 65535 ∷ 4 ∷ header 3 2 16372 16345 ++ (slot_bytes (Ordinary 16381 3) ++ (slot_bytes (Ordinary 16384 0) ++ freed));
}

-- 13. A count one too high: the leftover bytes behind the directory are read as a slot, and the upper of two records that overlap is freed
abbrev e13 : List ℕ → Row
e13 v = record {
  got = shown v (put threes 1 (4 ∷ []) ++ slot_bytes (Ordinary 16370 9));
  want =
      0 ∷ 3 ∷ 1 ∷ 0 ∷ 65535 ∷ 4 ∷ header 4 3 16372 16328
      ++ (slot_bytes (Ordinary 16381 3) ++ (slot_bytes (Ordinary 16377 4) ++ (slot_bytes (Ordinary 16372 5) ++ freed)));
}

-- 14. A target under 8 bytes, and one of exactly 8 that nothing names
abbrev e14 : List ℕ → Row
e14 v = record {
  got = shown v (put eight 12 (slot_bytes (Target 16376 8) ++ slot_bytes (Target 16369 7)));
  want = 0 ∷ 0 ∷ 3 ∷ 0 ∷ 1 ∷ 1 ∷ 0 ∷ 65535 ∷ 4 ∷ header 2 1 16369 16356 ++ (slot_bytes (Ordinary 16384 0) ++ freed);
}

-- 21. Redirect and target on one page: the 8 bytes at 16,374 are zeros
abbrev e21 : List ℕ → Row
e21 v = record {
  got = shown v (put ten 12 (slot_bytes (Redirect (id_of 0 1)) ++ slot_bytes (Target 16374 10)));
  want = 0 ∷ 0 ∷ 2 ∷ 0 ∷ 1 ∷ 3 ∷ 0 ∷ 65535 ∷ 4 ∷ header 2 0 16374 16354 ++ (freed ++ slot_bytes (Ordinary 16382 2));
}

-- 25. Nothing but the inventory: a nibble past the last page
abbrev e25 : List ℕ → Row
e25 v = record {
  got = words (entries (one threes) (put v 16383 (0xF0 ∷ []))) ++ inventory (inv_after (one threes) (put v 16383 (0xF0 ∷ [])));
  want = 1 ∷ 65536 ∷ 6 ∷ 1 ∷ 1 ∷ zeros 13 ++ (2 ∷ zeros 3);
}

-- 29. Empty records, one inside another record, one low in the page: they stay, and data start does not look at them
abbrev e29 : List ℕ → Row
e29 v = record {
  got = shown v (put (put threes 4 (zeros 4)) 20 (slot_bytes (Ordinary 16382 0) ++ slot_bytes (Ordinary 100 0)));
  want = 0 ∷ 65535 ∷ 4 ∷ header 3 3 16381 16345 ++ (slot_bytes (Ordinary 16381 3) ++ (slot_bytes (Ordinary 16382 0) ++ slot_bytes (Ordinary 100 0)));
}

on_one : List ℕ → List Row
on_one v = e9 v ∷ e10 v ∷ e12 v ∷ e13 v ∷ e14 v ∷ e21 v ∷ e25 v ∷ e29 v ∷ []

-- ---- n = 3: "insert 16000, insert 100, insert 12000, write (1,0) 5000"

abbrev page0 : List ℕ
page0 = header 1 1 384 364 ++ slot_bytes (Ordinary 384 16000)

abbrev page1 : List ℕ
page1 = header 2 2 4284 4356 ++ (slot_bytes (Redirect (id_of 2 0)) ++ slot_bytes (Ordinary 4284 12000))

abbrev page2 : List ℕ
page2 = header 1 1 11376 11356 ++ slot_bytes (Target 11376 5008)

-- and the back id, which is the first that the target's record holds
with_back : ℕ → View → View
with_back i v = record {
  slot_count = v.slot_count;
  first_free = v.first_free;
  data_start = v.data_start;
  free_space = v.free_space;
  at = v.at;
  bytes = λ k. to_be 8 i;
}

pairs : List ℕ
pairs = update (update (update (zeros 16384) 3 0 364) 3 1 4356) 3 2 11356

abbrev all : ℕ → List ℕ → List ℕ → SegView
all i q r = record { pages = 3; page = λ p. cond (eqb p 0) (view page0) (cond (eqb p 1) (view q) (with_back i (view r))) }

shown2 : List ℕ → ℕ → List ℕ → List ℕ → List ℕ
shown2 v i q r = words (entries (all i q r) v) ++ (page_bytes (all i q r) 1 q ++ page_bytes (all i q r) 2 r)

-- 15. The back id names another slot
abbrev e15 : List ℕ → Row
e15 v = record {
  got = shown2 v (id_of 1 1) page1 page2;
  want =
      1 ∷ 0 ∷ 2 ∷ 1 ∷ 65535 ∷ 4 ∷ 2 ∷ 0 ∷ 3 ∷ 2 ∷ 65535 ∷ 4 ∷ header 2 0 4284 4356
      ++ (freed ++ (slot_bytes (Ordinary 4284 12000) ++ (header 1 1 11376 11364 ++ slot_bytes (Ordinary 11384 5000))));
}

-- 18. A bit high in the redirect's id
abbrev e18 : List ℕ → Row
e18 v = record {
  got = shown2 v (id_of 1 0) (put page1 12 (0x80 ∷ 1 ∷ 0 ∷ 0 ∷ 0 ∷ 2 ∷ 0 ∷ 0 ∷ [])) page2;
  want = (e15 v).want;
}

-- 19. A second redirect names the target
abbrev e19 : List ℕ → Row
e19 v = record {
  got = shown2 v (id_of 1 0) (put page1 20 (slot_bytes (Redirect (id_of 2 0)))) page2;
  want =
      1 ∷ 1 ∷ 2 ∷ 1 ∷ 65535 ∷ 4 ∷ 3 ∷ 65536 ∷ 6 ∷ header 2 1 4284 16356
      ++ (slot_bytes (Redirect (id_of 2 0)) ++ (freed ++ page2));
}

-- 22. The target's page is lost
abbrev e22 : List ℕ → Row
e22 v = record {
  got = shown2 v (id_of 1 0) page1 (put page2 0 (0xFF ∷ 0xFF ∷ []));
  want =
      1 ∷ 0 ∷ 2 ∷ 1 ∷ 65535 ∷ 4 ∷ 2 ∷ 65535 ∷ 5 ∷ 3 ∷ 65536 ∷ 6 ∷ header 2 0 4284 4356
      ++ (freed ++ (slot_bytes (Ordinary 4284 12000) ++ (zeros 12 ++ slot_bytes (Target 11376 5008))));
}

on_three : List ℕ → List Row
on_three v = e15 v ∷ e18 v ∷ e19 v ∷ e22 v ∷ []

-- ---- n = 0, as it is called

-- answer, count, the list, the inventory
called : Repaired → List ℕ
called r = r.answer ∷ r.count ∷ r.list ++ inventory r.inv

-- 26. No page at all, and an inventory that is not all zero. And as in 16, with a list that is too short: nothing changes
abbrev e26 : List ℕ → Row
e26 v = record {
  got = called (repair_step [] (put v 0 (1 ∷ [])) (9 ∷ 9 ∷ 9 ∷ 9 ∷ 9 ∷ [])) ++ called (repair_step [] (put v 0 (1 ∷ [])) (9 ∷ 9 ∷ []));
  want = 0 ∷ 1 ∷ 0 ∷ 65536 ∷ 6 ∷ 9 ∷ 9 ∷ zeros 19 ++ (11 ∷ 1 ∷ 9 ∷ 9 ∷ 1 ∷ zeros 18);
}

-- ---- the table

-- one after the other, as each is given its own share of steps
on_one_is : map (λ r. r.got) (on_one (counted 16336)) ≡ map (λ r. r.want) (on_one (counted 16336))
unfolding on_one shown inventory counted view class_of nibble_at set_nibble entry_at set_entry first_from next_page run_end set_from pulled_back moved_on
    updated
    update kept_below keeps kept holds named deed mended_by page_after seg_after page_bytes true_inv same_inv inv_after page_entries seg_entries entries
on_one_is = refl

on_three_is : map (λ r. r.got) (on_three pairs) ≡ map (λ r. r.want) (on_three pairs)
unfolding on_three shown2 with_back pairs view class_of nibble_at set_nibble entry_at set_entry first_from next_page run_end set_from pulled_back moved_on
    updated
    update kept_below keeps kept holds named deed mended_by page_after seg_after page_bytes true_inv same_inv inv_after page_entries seg_entries entries
on_three_is = refl

on_none_is : (e26 (zeros 16384)).got ≡ (e26 (zeros 16384)).want
unfolding called inventory entry_at same_inv inv_after true_inv seg_entries entries seg_bytes repair_step standing seg_after nibble_at
on_none_is = refl

pub rows : List Row
rows = on_one (counted 16336) ++ (on_three pairs ++ (e26 (zeros 16384) ∷ []))

pub worked : map (λ r. r.got) rows ≡ map (λ r. r.want) rows
unfolding rows on_one on_three
worked = λ i. on_one_is i ++ (on_three_is i ++ (on_none_is i ∷ []))
