-- Document 01, "Numbers to meet", those marked P: one table of what the definitions give and what they should, and one theorem, by
-- computation.
use Rattle.std.specs.Prelude.{ℕ, ◌≡◌, refl, List, [], ◌∷◌, ◌++◌, map}
use Rattle.store.specs.Numbers.{cut, to_be, to_le, zeros, id_of}
use Rattle.store.specs.Slots.{slot_bytes}
use Rattle.store.specs.Page.{view, sound}
use Rattle.store.specs.PageSteps.{initialised, head_bytes, apply, compactify, allocate, relocate}
use Rattle.store.specs.Inventory.{class_of, nibble_at, set_nibble, entry_at, set_entry, first_from, next_page, run_end, set_from, pulled_back}
use Rattle.store.specs.Inventory.{moved_on, updated, update, found_in}
use Rattle.store.specs.Segment.{Result, seg_view, result, find, insert_plan, store_plan, insert_step, resize_step, root_of}
use Rattle.store.specs.declared.Slot.TheVariants.{Redirect, Target}

pub record Row : Type 0 where
  pub got : List ℕ
  pub want : List ℕ

-- a fresh page, or an inventory all zero
blank : List ℕ
blank = zeros 16384

-- three bytes into n = 1. What is said of what they leave is a function of it, which is then computed once.
three : Result
three = insert_step blank blank (1 ∷ 2 ∷ 3 ∷ [])

-- n bytes more
then : Result → ℕ → ℕ
then r n = (insert_step r.seg r.inv (zeros n)).answer

-- the bytes of a header: count, first free, data start and free space
abbrev header : ℕ → ℕ → ℕ → ℕ → List ℕ
header count first start free = to_be 2 count ++ (to_be 2 first ++ (to_be 4 start ++ to_be 4 free))

-- a record of 100 alone
hundred : Result
hundred = insert_step blank blank (zeros 100)

-- P1 initialised header
abbrev p1 : Row
p1 = record { got = head_bytes initialised; want = 0 ∷ 0 ∷ 0 ∷ 0 ∷ 0 ∷ 0 ∷ 0x40 ∷ 0 ∷ 0 ∷ 0 ∷ 0x3F ∷ 0xF4 ∷ [] }

-- P2 three bytes into it
abbrev p2 : Result → Row
p2 r = record { got = cut r.seg 0 20; want = header 1 1 16381 16361 ++ (0 ∷ 0 ∷ 0x3F ∷ 0xFD ∷ 0 ∷ 0 ∷ 0 ∷ 3 ∷ []) }

-- P3 target at 16,368 of 16
abbrev p3 : Row
p3 = record { got = slot_bytes (Target 16368 16); want = 0xC0 ∷ 0 ∷ 0x3F ∷ 0xF0 ∷ 0 ∷ 0 ∷ 0 ∷ 0x10 ∷ [] }

-- P4 redirect to page 2 slot 5
abbrev p4 : Row
p4 = record { got = slot_bytes (Redirect (id_of 2 5)); want = 0x80 ∷ 0 ∷ 0 ∷ 0 ∷ 0 ∷ 2 ∷ 0 ∷ 5 ∷ [] }

-- P5 class of x = 0
abbrev p5 : Row
p5 = record { got = class_of 0 ∷ []; want = 1 ∷ [] }

-- P6 of 4,093
abbrev p6 : Row
p6 = record { got = class_of 4093 ∷ []; want = 2 ∷ [] }

-- P7 of 4,094
abbrev p7 : Row
p7 = record { got = class_of 4094 ∷ []; want = 3 ∷ [] }

-- P8 of 15,584
abbrev p8 : Row
p8 = record { got = class_of 15584 ∷ []; want = 15 ∷ [] }

-- P9 n = 1, inventory all zero, then P2: nibble 2, entries 0 and 1 are 1, the rest 0: fifteen entries of 8 bytes, and then page 0's nibble
abbrev p9 : Result → Row
p9 r = record { got = cut r.inv 0 121; want = to_le 8 1 ++ (to_le 8 1 ++ (zeros 104 ++ (2 ∷ []))) }

-- P10 then 12,270 bytes go in
abbrev p10 : Result → Row
p10 r = record { got = then r 12270 ∷ []; want = 0 ∷ [] }

-- P11 12,271 instead: 7, though the page has room
abbrev p11 : Result → Row
p11 r = record { got = then r 12271 ∷ []; want = 7 ∷ [] }

-- P12 a record of 100 alone, grown to 300: data start 15,984, free 16,064
abbrev p12 : Result → Row
p12 r = record { got = cut (resize_step r.seg r.inv 0 300).seg 0 12; want = header 1 1 15984 16064 }

on_three : Result → List Row
on_three r = p2 r ∷ p9 r ∷ p10 r ∷ p11 r ∷ []

on_hundred : Result → List Row
on_hundred r = p12 r ∷ []

coded : List Row
coded = p1 ∷ p3 ∷ p4 ∷ p5 ∷ p6 ∷ p7 ∷ p8 ∷ []

-- one after the other, as each is given its own share of steps
coded_is : map (λ r. r.got) coded ≡ map (λ r. r.want) coded
unfolding coded class_of
coded_is = refl

on_three_is : map (λ r. r.got) (on_three three) ≡ map (λ r. r.want) (on_three three)
unfolding on_three blank three view sound apply compactify allocate class_of nibble_at set_nibble entry_at set_entry first_from next_page run_end
    set_from pulled_back moved_on updated update found_in seg_view result find insert_plan insert_step then
on_three_is = refl

on_hundred_is : map (λ r. r.got) (on_hundred hundred) ≡ map (λ r. r.want) (on_hundred hundred)
unfolding on_hundred blank hundred view sound apply compactify allocate relocate class_of nibble_at set_nibble entry_at set_entry first_from next_page
    run_end set_from pulled_back moved_on updated update found_in seg_view result find insert_plan insert_step store_plan root_of resize_step
on_hundred_is = refl

pub rows : List Row
rows = coded ++ (on_three three ++ on_hundred hundred)

pub marked : map (λ r. r.got) rows ≡ map (λ r. r.want) rows
unfolding rows coded on_three
marked = λ i. coded_is i ++ (on_three_is i ++ on_hundred_is i)
