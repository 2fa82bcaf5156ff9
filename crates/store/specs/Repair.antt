-- Document 02, Ask 4: repair.
--
-- Everything is a function of what stands there before: the views of the pages, and the inventory. There is no state in between, and
-- no byte of a page but its header, its slots and the record bytes that a slot names can reach an answer, an entry or a written byte.
use Rattle.std.specs.Prelude.{ℕ, zero, suc, ◌+◌, ◌-◌, ◌*◌, ◌/◌, min, Bool, true, false, cond, not, ◌&&◌, ◌||◌, List, [], ◌∷◌, ◌++◌, length, drop, eqb, ltb, leb}
use Rattle.store.specs.Numbers.{put, zeros, same_bytes, all, sum, id_of, page_no, slot_no}
use Rattle.store.specs.Slots.{slot_bytes, off, len, is_record, is_target}
use Rattle.store.specs.Page.{View, view, fresh, apart}
use Rattle.store.specs.PageSteps.{put_head, next_free}
use Rattle.store.specs.Inventory.{entry_at, update}
use Rattle.store.specs.Refusals.{DONE, SIZE, ROOM}
use Rattle.store.specs.Segment.{SegView, page_of, size_ok, inv_ok}
use Rattle.store.specs.SoundSegment.{slot_on, back_id}
use Rattle.store.specs.declared.Deed.{Deed}
use Rattle.store.specs.declared.Deed.TheVariants.{Stays, RecordFreed, RedirectFreed, MadeOrdinary}
use Rattle.store.specs.declared.Slot.{Slot}
use Rattle.store.specs.declared.Slot.TheVariants.{Ordinary, Free, Redirect, Target}

-- the pages as they stand: a fresh one is not seen as initialised
unfoldable pub standing : List ℕ → SegView
standing s = record { pages = length s / 16384; page = λ p. view (page_of s p) }

-- ---- "Page by page"

-- "a page whose count is above 2,046, or is 0 without being fresh"
abbrev pub lost : View → Bool
lost v = ltb 2046 v.slot_count || eqb v.slot_count 0 && not (fresh v)

-- not "whose record leaves the page, is a target under 8 bytes, or has positive length and reaches into the directory"
abbrev pub lies_in : ℕ → Slot → Bool
lies_in c x = leb (off x + len x) 16384 && ((not (is_target x) || leb 8 (len x)) && (eqb (len x) 0 || leb (12 + 8 * c) (off x)))

abbrev pub lies : View → ℕ → Bool
lies v k = lies_in v.slot_count (v.at k)

-- not "overlaps a record already kept"
abbrev pub clear : View → ℕ → List ℕ → Bool
clear v k [] = true
clear v k (j ∷ js) = apart v j k && clear v k js

-- "go through the slots upward": those below k whose record is kept
unfoldable pub kept_below : View → ℕ → List ℕ
kept_below v zero = []
kept_below v (suc k) = let js = kept_below v k in cond (is_record (v.at k) && (lies v k && clear v k js)) (k ∷ js) js

abbrev pub is_in : ℕ → List ℕ → Bool
is_in k [] = false
is_in k (j ∷ js) = eqb k j || is_in k js

-- slot k of a page that is not lost holds a record, and it is kept
unfoldable pub keeps : View → ℕ → Bool
keeps v k = is_in k (kept_below v v.slot_count)

-- ---- "Then free redirects without a kept target pointing back from another page"

-- the same of the record of id t, on any page
unfoldable pub kept : SegView → ℕ → Bool
kept u t = ltb (page_no t) u.pages && (not (lost (u.page (page_no t))) && keeps (u.page (page_no t)) (slot_no t))

-- the redirect of id i, which names t, is kept
unfoldable pub holds : SegView → ℕ → ℕ → Bool
holds u i t = kept u t && (is_target (slot_on u t) && (not (eqb (page_no t) (page_no i)) && eqb (back_id u t) i))

-- ---- "a target that no kept redirect names becomes an ordinary record without its 8 bytes, under its own id"

abbrev pub redirects_to : ℕ → Slot → Bool
redirects_to t (Ordinary o l) = false
redirects_to t Free = false
redirects_to t (Redirect i) = eqb i t
redirects_to t (Target o l) = false

-- t is named by a kept redirect: only the one at its back id can be that (Promises/RepairNamed)
unfoldable pub named : SegView → ℕ → Bool
named u t =
    ltb (page_no (back_id u t)) u.pages
    && (not (lost (u.page (page_no (back_id u t)))) && (redirects_to t (slot_on u (back_id u t)) && holds u (back_id u t) t))

-- ---- what is done to slot k of page p, which is in use

abbrev pub deed_by : SegView → ℕ → ℕ → Slot → Deed
deed_by u p k (Ordinary o l) = cond (keeps (u.page p) k) Stays RecordFreed
deed_by u p k Free = Stays
deed_by u p k (Redirect t) = cond (holds u (id_of p k) t) Stays RedirectFreed
deed_by u p k (Target o l) = cond (keeps (u.page p) k) (cond (named u (id_of p k)) Stays MadeOrdinary) RecordFreed

unfoldable pub deed : SegView → ℕ → ℕ → Deed
deed u p k = deed_by u p k ((u.page p).at k)

abbrev pub changes : Deed → Bool
changes Stays = false
changes RecordFreed = true
changes RedirectFreed = true
changes MadeOrdinary = true

-- the slot afterwards, and its record's bytes: nothing is moved
abbrev pub slot_done : Deed → Slot → Slot
slot_done Stays x = x
slot_done RecordFreed x = Free
slot_done RedirectFreed x = Free
slot_done MadeOrdinary x = Ordinary (off x + 8) (len x - 8)

abbrev pub bytes_done : Deed → List ℕ → List ℕ
bytes_done Stays bs = bs
bytes_done RecordFreed bs = []
bytes_done RedirectFreed bs = []
bytes_done MadeOrdinary bs = drop 8 bs

-- of each slot of a page, by what is done to it
abbrev pub slot_by : (ℕ → Deed) → View → ℕ → Slot
slot_by d v k = slot_done (d k) (v.at k)

abbrev pub bytes_by : (ℕ → Deed) → View → ℕ → List ℕ
bytes_by d v k = bytes_done (d k) (v.bytes k)

abbrev pub slot_after : SegView → ℕ → ℕ → Slot
slot_after u p = slot_by (deed u p) (u.page p)

abbrev pub bytes_after : SegView → ℕ → ℕ → List ℕ
bytes_after u p = bytes_by (deed u p) (u.page p)

-- ---- "Header numbers that break the sound-page rule are worked out anew"

-- "the lowest offset of a record of positive length (16,384 if there is none)", below slot n
abbrev pub lowest : ℕ → (ℕ → Slot) → ℕ
lowest zero at = 16384
lowest (suc n) at = let r = lowest n at in cond (eqb (len (at n)) 0) r (min (off (at n)) r)

-- "data start", where it is below the directory's end, above 16,384 or above the offset of a record of positive length
abbrev pub start_after : ℕ → ℕ → (ℕ → Slot) → ℕ
start_after c d at = cond (leb (12 + 8 * c) d && leb d (lowest c at)) d (lowest c at)

abbrev pub space_after : ℕ → (ℕ → Slot) → ℕ
space_after c at = 16372 - (8 * c + sum c (λ k. len (at k)))

-- a page in use afterwards: the count stays; first free is the lowest free slot, the count if none is free
unfoldable pub mended_by : (ℕ → Deed) → View → View
mended_by d v =
    record {
      slot_count = v.slot_count;
      first_free = next_free v.slot_count (slot_by d v) 0;
      data_start = start_after v.slot_count v.data_start (slot_by d v);
      free_space = space_after v.slot_count (slot_by d v);
      at = slot_by d v;
      bytes = bytes_by d v;
    }

abbrev pub mended : SegView → ℕ → View
mended u p = mended_by (deed u p) (u.page p)

-- "gets a zero header"
abbrev pub emptied : View
emptied = record { slot_count = 0; first_free = 0; data_start = 0; free_space = 0; at = λ k. Free; bytes = λ k. [] }

-- what is seen of page p, and of all pages, afterwards
unfoldable pub page_after : SegView → ℕ → View
page_after u p = cond (lost (u.page p)) emptied (cond (fresh (u.page p)) (u.page p) (mended u p))

unfoldable pub seg_after : SegView → SegView
seg_after u = record { pages = u.pages; page = page_after u }

-- ---- what is written

-- number by number the same: then no byte of the header is written
abbrev pub same_head : View → View → Bool
same_head v w = eqb v.first_free w.first_free && (eqb v.data_start w.data_start && eqb v.free_space w.free_space)

-- the slots below k that change
abbrev pub put_slots : (ℕ → Deed) → View → ℕ → List ℕ → List ℕ
put_slots d v zero q = q
put_slots d v (suc k) q = let r = put_slots d v k q in cond (changes (d k)) (put r (12 + 8 * k) (slot_bytes (slot_by d v k))) r

abbrev pub put_mended : (ℕ → Deed) → View → List ℕ → List ℕ
put_mended d v q = let r = put_slots d v v.slot_count q in cond (same_head v (mended_by d v)) r (put_head (mended_by d v) r)

unfoldable pub page_bytes : SegView → ℕ → List ℕ → List ℕ
page_bytes u p q = cond (lost (u.page p)) (put q 0 (zeros 12)) (cond (fresh (u.page p)) q (put_mended (deed u p) (u.page p) q))

-- the pages below n
unfoldable pub seg_bytes : SegView → ℕ → List ℕ → List ℕ
seg_bytes u zero s = s
seg_bytes u (suc p) s = put (seg_bytes u p s) (p * 16384) (page_bytes u p (page_of s p))

-- ---- "and the inventory last"

-- the true inventory of n pages of which the first p are as seen, and the others fresh
unfoldable pub true_inv : SegView → ℕ → ℕ → List ℕ
true_inv w n zero = zeros 16384
true_inv w n (suc p) = let r = true_inv w n p in cond (fresh (w.page p)) r (update r n p (w.page p).free_space)

-- "if it is not the true one": the fifteen entries as numbers, and each byte behind them
unfoldable pub same_inv : List ℕ → List ℕ → Bool
same_inv v w = all 15 (λ c. eqb (entry_at v c) (entry_at w c)) && same_bytes (drop 120 v) (drop 120 w)

abbrev pub true_of : SegView → List ℕ
true_of u = true_inv (seg_after u) u.pages u.pages

unfoldable pub inv_after : SegView → List ℕ → List ℕ
inv_after u v = cond (same_inv v (true_of u)) v (true_of u)

-- ---- "Each slot changed is one entry, each page's header one, the inventory one: page, slot or header or inventory, what was done."

pub record Entry : Type 0 where
  pub page : ℕ
  pub place : ℕ
  pub what : ℕ

abbrev pub entry : ℕ → ℕ → ℕ → Entry
entry p k d = record { page = p; place = k; what = d }

-- 1 a record freed, 2 a redirect freed, 3 a target made ordinary
abbrev pub deed_no : Deed → ℕ
deed_no Stays = 0
deed_no RecordFreed = 1
deed_no RedirectFreed = 2
deed_no MadeOrdinary = 3

abbrev pub slot_entries : (ℕ → Deed) → ℕ → ℕ → List Entry
slot_entries d p zero = []
slot_entries d p (suc k) = slot_entries d p k ++ cond (changes (d k)) (entry p k (deed_no (d k)) ∷ []) []

-- the header's place is 65,535: 4 worked out, 5 zeroed
abbrev pub head_entries : (ℕ → Deed) → View → ℕ → List Entry
head_entries d v p = cond (same_head v (mended_by d v)) [] (entry p 65535 4 ∷ [])

unfoldable pub page_entries : SegView → ℕ → List Entry
page_entries u p =
    cond (lost (u.page p)) (entry p 65535 5 ∷ [])
    (cond (fresh (u.page p)) [] (slot_entries (deed u p) p (u.page p).slot_count ++ head_entries (deed u p) (u.page p) p))

unfoldable pub seg_entries : SegView → ℕ → List Entry
seg_entries u zero = []
seg_entries u (suc p) = seg_entries u p ++ page_entries u p

-- the inventory's place is 65,536, on page n: 6
abbrev pub inv_entries : SegView → List ℕ → List Entry
inv_entries u v = cond (same_inv v (true_of u)) [] (entry u.pages 65536 6 ∷ [])

unfoldable pub entries : SegView → List ℕ → List Entry
entries u v = seg_entries u u.pages ++ inv_entries u v

-- "Three words are one entry: page, place, what was done."
abbrev pub words : List Entry → List ℕ
words [] = []
words (e ∷ es) = e.page ∷ e.place ∷ e.what ∷ words es

-- ---- the call

pub record Repaired : Type 0 where
  pub answer : ℕ
  pub count : ℕ
  pub seg : List ℕ
  pub inv : List ℕ
  pub list : List ℕ

-- "Refusals: 1, then 11 ROOM when the entry list is too short for all changes, nothing changed."
unfoldable pub repair_step : List ℕ → List ℕ → List ℕ → Repaired
repair_step s v l =
    cond (not (size_ok s && inv_ok v)) (record { answer = SIZE; count = 0; seg = s; inv = v; list = l })
    (let es = entries (standing s) v in
    cond (ltb (length l / 3) (length es)) (record { answer = ROOM; count = length es; seg = s; inv = v; list = l })
    (record {
      answer = DONE;
      count = length es;
      seg = seg_bytes (standing s) (length s / 16384) s;
      inv = inv_after (standing s) v;
      list = put l 0 (words es);
    }))
