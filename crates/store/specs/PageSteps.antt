-- Document 01, "Page steps": what each step on one page answers, writes and leaves.
--
-- A step is planned from the view alone, and says what it writes as a list of edits; `run` writes them. So a step's answer is a
-- function of the view, and no other byte of the page can reach it.
use Rattle.std.specs.Prelude.{ℕ, zero, suc, ◌+◌, ◌-◌, ◌*◌, min, Bool, true, false, cond, ◌&&◌, ◌||◌, List, [], ◌∷◌, ◌++◌, take, eqb, ltb}
use Rattle.store.specs.Numbers.{put, to_be, zeros, fit, upd}
use Rattle.store.specs.Slots.{slot_bytes, off, len, is_free, is_record, placed}
use Rattle.store.specs.Page.{View, fresh}
use Rattle.store.specs.declared.Slot.{Slot}
use Rattle.store.specs.declared.Slot.TheVariants.{Ordinary, Free, Redirect, Target}

-- ---- edits

abbrev pub head_bytes : View → List ℕ
head_bytes v = to_be 2 v.slot_count ++ (to_be 2 v.first_free ++ (to_be 4 v.data_start ++ to_be 4 v.free_space))

abbrev pub put_head : View → List ℕ → List ℕ
put_head v p = put p 0 (head_bytes v)

abbrev pub put_slot : ℕ → View → List ℕ → List ℕ
put_slot k v p = put p (12 + 8 * k) (slot_bytes (v.at k))

abbrev pub put_bytes : ℕ → View → List ℕ → List ℕ
put_bytes k v p = put p (off (v.at k)) (v.bytes k)

-- the header; slot k's entry and record; the header, slot k's entry and record; slot k's record
pub data Edit : Type 0 where
  head : View → Edit
  move : ℕ → View → Edit
  commit : ℕ → View → Edit
  fill : ℕ → View → Edit

unfoldable pub apply : Edit → List ℕ → List ℕ
apply (head v) p = put_head v p
apply (move k v) p = put_bytes k v (put_slot k v p)
apply (commit k v) p = put_bytes k v (put_slot k v (put_head v p))
apply (fill k v) p = put_bytes k v p

abbrev pub run : List Edit → List ℕ → List ℕ
run [] p = p
run (e ∷ es) p = run es (apply e p)

-- ---- plans

-- what a step writes, the view it leaves, and whether compactify was run in it
pub record Plan : Type 0 where
  pub edits : List Edit
  pub after : View
  pub compacted : Bool

abbrev pub plan : List Edit → View → Plan
plan es v = record { edits = es; after = v; compacted = false }

abbrev pub stay : View → Plan
stay v = plan [] v

abbrev pub and_then : Plan → (View → Plan) → Plan
and_then a f =
    record { edits = a.edits ++ (f a.after).edits; after = (f a.after).after; compacted = a.compacted || (f a.after).compacted }

-- slot k gets this entry and these bytes; the rest of the view as given
abbrev pub with_slot : View → ℕ → Slot → List ℕ → View
with_slot v k s bs =
    record {
      slot_count = v.slot_count;
      first_free = v.first_free;
      data_start = v.data_start;
      free_space = v.free_space;
      at = upd v.at k s;
      bytes = upd v.bytes k bs;
    }

-- another header; the slots as they are
abbrev pub with_head : View → ℕ → ℕ → ℕ → ℕ → View
with_head v count first start free = record { slot_count = count; first_free = first; data_start = start; free_space = free; at = v.at; bytes = v.bytes }

-- the view that a page step leaves in the end: as the step says. A rule about what every step leaves would stand here
abbrev pub finished : View → View
finished v = v

-- ---- compactify

-- "from the highest offset down (ties by greater length, then greater slot)"
abbrev pub before : View → ℕ → ℕ → Bool
before v i j =
    ltb (off (v.at j)) (off (v.at i))
    || eqb (off (v.at j)) (off (v.at i)) && (ltb (len (v.at j)) (len (v.at i)) || eqb (len (v.at j)) (len (v.at i)) && ltb j i)

abbrev pub in_order : View → ℕ → List ℕ → List ℕ
in_order v k [] = k ∷ []
in_order v k (j ∷ js) = cond (before v k j) (k ∷ j ∷ js) (j ∷ in_order v k js)

-- the slots below k that hold a record, in that order
abbrev pub records : View → ℕ → List ℕ
records v zero = []
records v (suc k) = cond (is_record (v.at k)) (in_order v k (records v k)) (records v k)

-- "all are kept, with their kind": the record of entry s where it ends at d; and slot k so
abbrev pub packed_to : ℕ → Slot → Slot
packed_to d s = placed s (d - len s) (len s)

abbrev pub with_packed : View → ℕ → ℕ → View
with_packed v k d = with_slot v k (packed_to d (v.at k)) (v.bytes k)

-- "data start is the last place"
abbrev pub starting_at : ℕ → View → View
starting_at d v = with_head v v.slot_count v.first_free d v.free_space

-- "and packs them": the records of the list, down from d
abbrev pub pack : List ℕ → ℕ → View → Plan
pack [] d v = record { edits = head (starting_at d v) ∷ []; after = starting_at d v; compacted = true }
pack (k ∷ ks) d v =
    let r = pack ks (d - len (v.at k)) (with_packed v k d) in
    record { edits = move k (with_packed v k d) ∷ r.edits; after = r.after; compacted = r.compacted }

-- "against 16,384"
unfoldable pub compactify : View → Plan
compactify v = pack (records v v.slot_count) 16384 v

-- "If the gap between directory and data start is too small for what is added, the page is compactified first; otherwise it isn't."
abbrev pub gap : View → ℕ
gap v = v.data_start - (12 + 8 * v.slot_count)

abbrev pub make_room : View → ℕ → Plan
make_room v need = cond (ltb (gap v) need) (compactify v) (stay v)

-- ---- allocate

-- the header of P1; "a fresh page is initialised first": whatever its other bytes, it is seen as one just initialised
abbrev pub initialised : View
initialised = record { slot_count = 0; first_free = 0; data_start = 16384; free_space = 16372; at = λ k. Free; bytes = λ k. [] }

abbrev pub opened : View → View
opened v = cond (fresh v) initialised v

-- "takes the first free slot, or a new one at 8 bytes more"
abbrev pub is_new : View → Bool
is_new v = eqb v.first_free v.slot_count

abbrev pub cost : View → ℕ → ℕ
cost v n = cond (is_new v) (n + 8) n

-- the lowest free slot from j on, in at most n steps
abbrev pub next_free : ℕ → (ℕ → Slot) → ℕ → ℕ
next_free zero at j = j
next_free (suc n) at j = let r = next_free n at (j + 1) in cond (is_free (at j)) j r

-- "Data goes just under data start. First free becomes the next free slot, else the count." The bytes are zeros until written.
abbrev pub allocated : View → ℕ → View
allocated v n =
    finished
    (with_slot
    (with_head v (cond (is_new v) (v.slot_count + 1) v.slot_count) (next_free (v.slot_count - (v.first_free + 1)) v.at (v.first_free + 1))
    (v.data_start - n) (v.free_space - cost v n))
    v.first_free (Ordinary (v.data_start - n) n) (zeros n))

pub data Alloc : Type 0 where
  no_room : Alloc
  got : ℕ → Plan → Alloc

-- "the gap must hold both": room for the record and its slot, and both put there
abbrev pub room_for : View → ℕ → Plan
room_for v n = make_room v (cost v n)

abbrev pub allocating : View → ℕ → Plan
allocating v n = and_then (room_for v n) (λ w. plan (commit w.first_free (allocated w n) ∷ []) (allocated w n))

-- "No room if the free space is less than that sum."
unfoldable pub allocate : View → ℕ → Alloc
allocate v n = cond (ltb v.free_space (cost v n)) no_room (got v.first_free (allocating v n))

-- ---- erase, and erase for a redirect

-- "if its offset equals data start, data start rises by the length"
abbrev pub start_without : View → ℕ → ℕ
start_without v k = cond (eqb (off (v.at k)) v.data_start) (v.data_start + len (v.at k)) v.data_start

-- how many slots just below k are free
abbrev pub free_below : (ℕ → Slot) → ℕ → ℕ
free_below at zero = 0
free_below at (suc k) = let r = suc (free_below at k) in cond (is_free (at k)) r 0

-- "If it was the last slot, the unbroken run of free slots just below it is taken off the count, 8 bytes each; one free slot stays at
-- the end."
abbrev pub pruned : View → ℕ → ℕ
pruned v k = cond (eqb (k + 1) v.slot_count) (free_below v.at k) 0

-- "Erase frees the slot and adds its length to the free space .. First free falls to it if lower."
abbrev pub erased : View → ℕ → View
erased v k =
    finished
    (with_slot
    (with_head v (v.slot_count - pruned v k) (min v.first_free k) (start_without v k) (v.free_space + len (v.at k) + 8 * pruned v k)) k Free
    [])

unfoldable pub erase : View → ℕ → Plan
erase v k = plan (commit k (erased v k) ∷ []) (erased v k)

-- "does the same to an ordinary slot but writes a redirect, and leaves count and first free"
abbrev pub redirected : View → ℕ → ℕ → View
redirected v k id =
    finished (with_slot (with_head v v.slot_count v.first_free (start_without v k) (v.free_space + len (v.at k))) k (Redirect id) [])

unfoldable pub erase_for_redirect : View → ℕ → ℕ → Plan
erase_for_redirect v k id = plan (commit k (redirected v k id) ∷ []) (redirected v k id)

-- ---- relocate

pub data Relocated : Type 0 where
  refused : Relocated
  moved : Plan → Relocated

-- slot k's record of kind s, of size n with these bytes, goes just under data start
abbrev pub moved_under : View → ℕ → Slot → ℕ → List ℕ → View
moved_under v k s n bs =
    finished
    (with_slot (with_head v v.slot_count v.first_free (v.data_start - n) (v.free_space - n)) k (placed s (v.data_start - n) n) bs)

-- "Where data must move, the page is compactified exactly if the gap is under the full new size"
abbrev pub move_under : View → ℕ → Slot → ℕ → List ℕ → Plan
move_under v k s n bs = and_then (make_room v n) (λ w. plan (commit k (moved_under w k s n bs) ∷ []) (moved_under w k s n bs))

-- "Smaller: the length only, and the offset stays."
abbrev pub shrunk : View → ℕ → ℕ → View
shrunk v k n =
    finished
    (with_slot (with_head v v.slot_count v.first_free v.data_start (v.free_space + (len (v.at k) - n))) k
    (placed (v.at k) (off (v.at k)) n) (take n (v.bytes k)))

-- "a growing record's old place counts as free by then": its slot while it has no place, with data start as it was. A redirect is no
-- record, so the page is sound meanwhile and compactify leaves the slot out
abbrev pub parked : View → ℕ → View
parked v k = with_slot (with_head v v.slot_count v.first_free v.data_start (v.free_space + len (v.at k))) k (Redirect 0) []

-- "Equal size: nothing. .. Larger: refused if growth exceeds free space; else moved under data start, the old bytes kept as prefix."
abbrev pub resized : View → ℕ → ℕ → Relocated
resized v k n =
    cond (eqb n (len (v.at k))) (moved (stay v))
    (cond (ltb n (len (v.at k))) (moved (plan (commit k (shrunk v k n) ∷ []) (shrunk v k n)))
    (cond (ltb v.free_space (n - len (v.at k))) refused
    (moved (and_then (plan (commit k (parked v k) ∷ []) (parked v k)) (λ w. move_under w k (v.at k) n (fit n (v.bytes k)))))))

-- "From a redirect: needs the full size free and becomes an ordinary slot."
abbrev pub relocate_by : Slot → View → ℕ → ℕ → Relocated
relocate_by (Ordinary o l) v k n = resized v k n
relocate_by Free v k n = refused
relocate_by (Redirect i) v k n = cond (ltb v.free_space n) refused (moved (move_under v k (Ordinary 0 0) n (zeros n)))
relocate_by (Target o l) v k n = resized v k n

unfoldable pub relocate : View → ℕ → ℕ → Relocated
relocate v k n = relocate_by (v.at k) v k n

-- slot k's record gets these bytes where it stands
abbrev pub filled : Plan → ℕ → List ℕ → Plan
filled a k bs = and_then a (λ w. plan (fill k (with_slot w k (w.at k) bs) ∷ []) (with_slot w k (w.at k) bs))
