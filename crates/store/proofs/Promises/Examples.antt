-- Document 01, "Numbers to meet", those not marked: the same table for them, on what is seen of the pages. One theorem, by computation.
use Rattle.std.specs.Prelude.{ℕ, ◌≡◌, refl, List, [], ◌∷◌, ◌++◌, map}
use Rattle.store.specs.Numbers.{zeros, id_of}
use Rattle.store.specs.Slots.{off}
use Rattle.store.specs.Page.{View, sound}
use Rattle.store.specs.PageSteps.{initialised, compactify, Alloc, no_room, got, allocate, erase, erase_for_redirect, relocate}
use Rattle.store.specs.Inventory.{class_of, nibble_at, set_nibble, entry_at, set_entry, first_from, next_page, run_end, set_from, pulled_back, moved_on}
use Rattle.store.specs.Inventory.{updated, update, found_in}
use Rattle.store.specs.Segment.{SegView, Out, find, insert_plan, store_plan, write_plan, root_of}
use Rattle.store.proofs.Laws.Segments.{settled}
use Rattle.store.proofs.Promises.Marked.{Row}
use Rattle.store.specs.declared.Slot.{Slot}
use Rattle.store.specs.declared.Slot.TheVariants.{Ordinary, Free, Redirect, Target}

-- ---- one page

-- n bytes into a page, and slot k erased: what is seen afterwards
unfoldable pub into : ℕ → View → View
into n v = go (allocate v n)
  where
    go : Alloc → View
    go no_room = v
    go (got k a) = a.after

unfoldable pub without : ℕ → View → View
without k v = (erase v k).after

-- count, first free, data start and free space
header : View → List ℕ
header v = v.slot_count ∷ v.first_free ∷ v.data_start ∷ v.free_space ∷ []

-- "Lengths 5,000, 5,000, 3,000; erase slot 1; insert 10 (slot 1)."
abbrev holed : View
holed = into 10 (without 1 (into 3000 (into 5000 (into 5000 initialised))))

-- "16,364 bytes on a fresh page: free 0."
abbrev full : Row
full = record { got = header (into 16364 initialised); want = 1 ∷ 1 ∷ 20 ∷ 0 ∷ [] }

-- "Lengths 3, 4, 5, erased in order 0, 1, 2: count 1, first free 0, free 16,364, data start 16,377."
abbrev pruned : Row
pruned = record { got = header (without 2 (without 1 (without 0 (into 5 (into 4 (into 3 initialised)))))); want = 1 ∷ 0 ∷ 16377 ∷ 16364 ∷ [] }

-- "Then 3,338: compactified, offset 5,036, free 4,992." "3,330 instead: not compactified, offset 44." As functions of that page, which is
-- then computed once.
abbrev packed : View → Row
packed v = record { got = off ((into 3338 v).at 3) ∷ (into 3338 v).free_space ∷ []; want = 5036 ∷ 4992 ∷ [] }

abbrev unpacked : View → Row
unpacked v = record { got = off ((into 3330 v).at 3) ∷ []; want = 44 ∷ [] }

on_holed : View → List Row
on_holed v = packed v ∷ unpacked v ∷ []

-- ---- a segment: what is seen of it, and the inventory

pub record State : Type 0 where
  pub seen : SegView
  pub inv : List ℕ

-- n fresh pages, and an inventory all zero
unfoldable pub start : ℕ → State
start n = record { seen = record { pages = n; page = λ p. initialised }; inv = zeros 16384 }

unfoldable pub did : State → (SegView → List ℕ → Out) → Out
did s plan = plan s.seen s.inv

unfoldable pub then : State → (SegView → List ℕ → Out) → State
then s plan = record { seen = settled (did s plan).steps s.seen; inv = (did s plan).inv }

-- "n = 3: insert 16,000 at (0,0), 100 at (1,0), 12,000 at (1,1)."
unfoldable pub three : State
three = then (then (then (start 3) (λ u v. insert_plan found_in u v (zeros 16000))) (λ u v. insert_plan found_in u v (zeros 100)))
    (λ u v. insert_plan found_in u v (zeros 12000))

-- "Write 5,000 to (1,0)"
unfoldable pub forwarded : State
forwarded = then three (λ u v. write_plan found_in u v (id_of 1 0) (zeros 5000))

-- "16,365: 3."
abbrev long : Row
long = record {
  got = (did (start 1) (λ u v. insert_plan found_in u v (zeros 16365))).answer ∷ (did (start 1) (λ u v. insert_plan found_in u v (zeros 16364))).answer ∷ [];
  want = 3 ∷ 0 ∷ [];
}

-- a target's offset and length
abbrev place : Slot → List ℕ
place (Ordinary o l) = []
place Free = []
place (Redirect i) = []
place (Target o l) = o ∷ l ∷ []

-- Of the segment after that write, computed once too: "forwarded to (2,0), offset 11,376, length 5,008; page 1 free 4,356, page 2 free
-- 11,356."
abbrev moved : State → Row
moved s = record {
  got = place ((s.seen.page 2).at 0) ++ ((s.seen.page 1).free_space ∷ (s.seen.page 2).free_space ∷ []);
  want = 11376 ∷ 5008 ∷ 4356 ∷ 11356 ∷ [];
}

-- "Then write 16,356: stays, page 2 free 0."
abbrev fills : State → Row
fills s = record {
  got = (did s (λ u v. write_plan found_in u v (id_of 1 0) (zeros 16356))).answer
      ∷ ((then s (λ u v. write_plan found_in u v (id_of 1 0) (zeros 16356))).seen.page 2).free_space ∷ [];
  want = 0 ∷ 0 ∷ [];
}

-- "16,357 instead: 7."
abbrev over : State → Row
over s = record { got = (did s (λ u v. write_plan found_in u v (id_of 1 0) (zeros 16357))).answer ∷ []; want = 7 ∷ [] }

on_forwarded : State → List Row
on_forwarded s = moved s ∷ fills s ∷ over s ∷ []

full_is : full.got ≡ full.want
unfolding into header compactify allocate
full_is = refl

pruned_is : pruned.got ≡ pruned.want
unfolding into without header compactify allocate erase
pruned_is = refl

on_holed_is : map (λ r. r.got) (on_holed holed) ≡ map (λ r. r.want) (on_holed holed)
unfolding on_holed into without compactify allocate erase
on_holed_is = refl

long_is : long.got ≡ long.want
unfolding start did sound compactify allocate class_of nibble_at set_nibble entry_at set_entry first_from next_page run_end set_from pulled_back
    moved_on updated update found_in find insert_plan
long_is = refl

on_forwarded_is : map (λ r. r.got) (on_forwarded forwarded) ≡ map (λ r. r.want) (on_forwarded forwarded)
unfolding on_forwarded start did then three forwarded sound compactify allocate erase_for_redirect relocate class_of nibble_at set_nibble entry_at
    set_entry first_from next_page run_end set_from pulled_back moved_on updated update found_in find insert_plan store_plan root_of
on_forwarded_is = refl

pub rows : List Row
rows = full ∷ pruned ∷ long ∷ on_holed holed ++ on_forwarded forwarded

pub examples : map (λ r. r.got) rows ≡ map (λ r. r.want) rows
unfolding rows on_holed
examples = λ i. full_is i ∷ pruned_is i ∷ long_is i ∷ on_holed_is i ++ on_forwarded_is i
