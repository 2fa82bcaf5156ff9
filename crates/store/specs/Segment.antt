-- Document 01, "Segment steps" and "Answers by number": the six calls on a segment of n whole pages and an inventory.
--
-- A call is planned from what is seen of the pages (`SegView`) and from the inventory. The plan has the answer's number and id, the
-- steps on pages, and the inventory afterwards. `carried` writes the steps' edits. A refusal has no step and the inventory as it was.
use Rattle.std.specs.Prelude.{ℕ, ◌+◌, ◌-◌, ◌*◌, ◌/◌, ◌%◌, Bool, false, cond, not, ◌&&◌, ◌||◌, List, [], ◌∷◌, ◌++◌, length, take, drop, eqb, ltb, leb}
use Rattle.store.specs.Numbers.{cut, put, be, to_be, zeros, fit, id_of, page_no, slot_no}
use Rattle.store.specs.Slots.{off, len, is_target}
use Rattle.store.specs.Page.{View, view, sound}
use Rattle.store.specs.Refusals.{DONE, SIZE, LONG, DAMAGED, NONE, FORWARDED, FULL, STALE, number_of}
use Rattle.store.specs.Inventory.{update, found_in}
use Rattle.store.specs.PageSteps.{opened, move, run, Plan, plan, and_then, with_slot, Alloc, no_room, got, allocate, erase, erase_for_redirect}
use Rattle.store.specs.PageSteps.{Relocated, refused, moved, relocate, filled}
use Rattle.std.specs.Prelude.{Option, Some, None, Ok, Err}
use Rattle.std.specs.Prelude.{Result as ResultOf}
pub use Rattle.store.specs.declared.Part.{Part}
use Rattle.store.specs.declared.Refusal.{Refusal}
use Rattle.store.specs.declared.Refusal.TheVariants.{NoPage, Damaged}
use Rattle.store.specs.declared.Slot.{Slot}
use Rattle.store.specs.declared.Slot.TheVariants.{Ordinary, Free, Redirect, Target}

-- ---- a segment and its pages

-- "A segment is a lent run of n whole pages, n from 0 to 32,527. The inventory is one lent page."
abbrev pub size_ok : List ℕ → Bool
size_ok s = eqb (length s % 16384) 0 && leb (length s / 16384) 32527

abbrev pub inv_ok : List ℕ → Bool
inv_ok v = eqb (length v) 16384

abbrev pub page_of : List ℕ → ℕ → List ℕ
page_of s p = cut s (p * 16384) 16384

-- how many pages there are, and what is seen of each
pub record SegView : Type 0 where
  pub pages : ℕ
  pub page : ℕ → View

unfoldable pub seg_view : List ℕ → SegView
seg_view s = record { pages = length s / 16384; page = λ p. opened (view (page_of s p)) }

-- ---- what a call answers and leaves

-- a step on page p
pub record OnPage : Type 0 where
  pub on : ℕ
  pub plan : Plan

abbrev pub on : ℕ → Plan → OnPage
on p a = record { on = p; plan = a }

pub record Out : Type 0 where
  pub answer : ℕ
  pub id : ℕ
  pub steps : List OnPage
  pub inv : List ℕ

-- "A refusal returns its number ..; segment and inventory keep every byte."
abbrev pub refuse : List ℕ → ℕ → Out
refuse v a = record { answer = a; id = 0; steps = []; inv = v }

abbrev pub refuse_if : Bool → List ℕ → ℕ → Out → Out
refuse_if b v a rest = cond b (refuse v a) rest

abbrev pub done : ℕ → List OnPage → List ℕ → Out
done i es v = record { answer = DONE; id = i; steps = es; inv = v }

-- the page's edits written into the segment
abbrev pub carried_on : OnPage → List ℕ → List ℕ
carried_on e s = put s (e.on * 16384) (run e.plan.edits (page_of s e.on))

abbrev pub carried : List OnPage → List ℕ → List ℕ
carried [] s = s
carried (e ∷ es) s = carried es (carried_on e s)

-- the answer's number and id, and every byte of segment and inventory afterwards
pub record Result : Type 0 where
  pub answer : ℕ
  pub id : ℕ
  pub seg : List ℕ
  pub inv : List ℕ

unfoldable pub result : List ℕ → Out → Result
result s o = record { answer = o.answer; id = o.id; seg = carried o.steps s; inv = o.inv }

-- ---- a place for m bytes and a slot

pub data Found : Type 0 where
  nowhere : ℕ → Found
  found : ℕ → ℕ → Plan → Found

abbrev pub taken : ℕ → Alloc → Found
taken p no_room = nowhere STALE
taken p (got k a) = found p k a

-- 7, then 4 (new page), then 8: "the page named is the root's or old target's, or allocate finds no room there"
abbrev pub find_on : SegView → ℕ → (ℕ → Bool) → Option ℕ → Found
find_on s m excluded None = nowhere FULL
find_on s m excluded (Some p) =
    cond (not (sound (s.page p))) (nowhere DAMAGED)
    (cond (excluded p) (nowhere STALE)
    (taken p (allocate (s.page p) m)))

-- "A request for m bytes needs m + 8"
abbrev pub need_for : ℕ → ℕ
need_for m = m + 8

-- which page the inventory's bytes name, of n pages, for a need
abbrev pub Naming : Type 0
Naming = List ℕ → ℕ → ℕ → Option ℕ

unfoldable pub find : Naming → SegView → List ℕ → ℕ → (ℕ → Bool) → Found
find names s v m excluded = find_on s m excluded (names v s.pages (need_for m))

-- ---- insert and allocate

-- "Insert asks the inventory and allocates there"
abbrev pub inserted : SegView → List ℕ → List ℕ → Found → Out
inserted s v bs (nowhere a) = refuse v a
inserted s v bs (found p k a) = done (id_of p k) (on p (filled a k bs) ∷ []) (update v s.pages p a.after.free_space)

-- a record with these bytes; `allocate` is the same with zeros
unfoldable pub insert_plan : Naming → SegView → List ℕ → List ℕ → Out
insert_plan names s v bs = refuse_if (ltb 16364 (length bs)) v LONG (inserted s v bs (find names s v (length bs) (λ p. false)))

-- of any number: 3 comes before a list of so many zeros is thought of
abbrev pub allocate_plan : Naming → SegView → List ℕ → ℕ → Out
allocate_plan names s v n = refuse_if (ltb 16364 n) v LONG (insert_plan names s v (zeros n))

-- ---- the id's own page: 2, then 4 (root), and then as its slot says

unfoldable pub root_of : SegView → ℕ → ResultOf Slot Refusal
root_of s i =
    cond (leb s.pages (page_no i)) (Err NoPage)
    (cond (not (sound (s.page (page_no i)))) (Err Damaged)
    (Ok ((s.page (page_no i)).at (slot_no i))))

abbrev pub by_root : {A : Type 0} → (ℕ → A) → (Slot → A) → ResultOf Slot Refusal → A
by_root f g (Ok x) = g x
by_root f g (Err r) = f (number_of r)

-- ---- redirects: "A target's record begins with 8 bytes, the big-endian id of its root, and its length counts them."

-- DAMAGED unless "a redirect to be followed" has "its target on another page pointing back", and that page is sound
abbrev pub points_back : SegView → ℕ → ℕ → Bool
points_back s i t =
    ltb (page_no t) s.pages && not (eqb (page_no t) (page_no i)) && sound (s.page (page_no t))
    && is_target ((s.page (page_no t)).at (slot_no t)) && eqb (be (take 8 ((s.page (page_no t)).bytes (slot_no t)))) i

-- ---- write and resize: the record of id i becomes `new old`, of the given size. "Updates of the inventory keep the Rust's order."

module _ (s : SegView) (v : List ℕ) (i : ℕ) (size : ℕ) (new : List ℕ → List ℕ) where
  abbrev pub root : View
  root = s.page (page_no i)

  -- "a new target of size + 8 on another page": in slot j where plan a has made room, the back id and what the record becomes
  abbrev pub targeted : ℕ → Plan → List ℕ → Plan
  targeted j a old =
      and_then a (λ w. let x = with_slot w j (Target (off (w.at j)) (len (w.at j))) (to_be 8 i ++ new old) in plan (move j x ∷ []) x)

  -- "with the root as redirect": the first forwarding
  abbrev pub forwarded : List ℕ → Found → Out
  forwarded old (nowhere a) = refuse v a
  forwarded old (found q j a) =
      let r = erase_for_redirect root (slot_no i) (id_of q j) in
      let t = targeted j a old in
      done i (on (page_no i) r ∷ on q t ∷ [])
      (update (update v s.pages (page_no i) r.after.free_space) s.pages q t.after.free_space)

  -- the second forwarding: the root's slot names the new target, and the old one is freed
  module _ (t : ℕ) where
    abbrev pub target : View
    target = s.page (page_no t)

    abbrev pub forwarded_again : List ℕ → Found → Out
    forwarded_again old (nowhere a) = refuse v a
    forwarded_again old (found q j a) =
        let x = with_slot root (slot_no i) (Redirect (id_of q j)) [] in
        let e = erase target (slot_no t) in
        let w = targeted j a old in
        done i (on (page_no i) (plan (move (slot_no i) x ∷ []) x) ∷ on (page_no t) e ∷ on q w ∷ [])
        (update (update v s.pages (page_no t) e.after.free_space) s.pages q w.after.free_space)

-- where the record goes
module _ (names : Naming) (s : SegView) (v : List ℕ) (i : ℕ) (size : ℕ) (new : List ℕ → List ℕ) where
  -- "Write and resize try the root page first. .. Last comes a new target"
  abbrev pub from_ordinary : List ℕ → Relocated → Out
  from_ordinary old (moved a) =
      done i (on (page_no i) (filled a (slot_no i) (new old)) ∷ []) (update v s.pages (page_no i) a.after.free_space)
  from_ordinary old refused = forwarded s v i size new old (find names s v (size + 8) (λ p. eqb p (page_no i)))

  module _ (t : ℕ) where
    -- "For a redirect they then try the target's page with size + 8": where it lies, with the back id kept
    abbrev pub at_target : List ℕ → Relocated → Out
    at_target old (moved a) =
        done i (on (page_no t) (filled a (slot_no t) (to_be 8 i ++ new old)) ∷ []) (update v s.pages (page_no t) a.after.free_space)
    at_target old refused = forwarded_again s v i size new t old (find names s v (size + 8) (λ p. eqb p (page_no i) || eqb p (page_no t)))

    -- "moving home frees the target"
    abbrev pub at_home : List ℕ → Relocated → Out
    at_home old (moved a) =
        let e = erase (s.page (page_no t)) (slot_no t) in
        done i (on (page_no i) (filled a (slot_no i) (new old)) ∷ on (page_no t) e ∷ [])
        (update (update v s.pages (page_no i) a.after.free_space) s.pages (page_no t) e.after.free_space)
    at_home old refused = at_target old (relocate (s.page (page_no t)) (slot_no t) (size + 8))

    abbrev pub from_redirect : Out
    from_redirect = at_home (drop 8 ((s.page (page_no t)).bytes (slot_no t))) (relocate (s.page (page_no i)) (slot_no i) size)

  -- 5, 6, 4 (target)
  abbrev pub store_by : Slot → Out
  store_by (Ordinary o l) = from_ordinary ((s.page (page_no i)).bytes (slot_no i)) (relocate (s.page (page_no i)) (slot_no i) size)
  store_by Free = refuse v NONE
  store_by (Redirect t) = refuse_if (not (points_back s i t)) v DAMAGED (from_redirect t)
  store_by (Target o l) = refuse v FORWARDED

  -- 3, 2, 4 (root)
  unfoldable pub store_plan : Out
  store_plan = refuse_if (ltb 16364 size) v LONG (by_root (refuse v) store_by (root_of s i))

abbrev pub write_plan : Naming → SegView → List ℕ → ℕ → List ℕ → Out
write_plan names s v i bs = store_plan names s v i (length bs) (λ old. bs)

abbrev pub resize_plan : Naming → SegView → List ℕ → ℕ → ℕ → Out
resize_plan names s v i n = store_plan names s v i n (fit n)

-- ---- erase

abbrev pub erase_by : SegView → List ℕ → ℕ → Slot → Out
erase_by s v i (Ordinary o l) =
    let e = erase (s.page (page_no i)) (slot_no i) in
    done i (on (page_no i) e ∷ []) (update v s.pages (page_no i) e.after.free_space)
erase_by s v i Free = refuse v NONE
erase_by s v i (Redirect t) =
    let e = erase (s.page (page_no i)) (slot_no i) in
    let f = erase (s.page (page_no t)) (slot_no t) in
    refuse_if (not (points_back s i t)) v DAMAGED
    (done i (on (page_no i) e ∷ on (page_no t) f ∷ [])
    (update (update v s.pages (page_no t) f.after.free_space) s.pages (page_no i) e.after.free_space))
erase_by s v i (Target o l) = refuse v FORWARDED

unfoldable pub erase_plan : SegView → List ℕ → ℕ → Out
erase_plan s v i = by_root (refuse v) (erase_by s v i) (root_of s i)

-- ---- the steps: what each call answers and leaves

-- 1 comes first
abbrev pub step : List ℕ → List ℕ → Out → Result
step s v o = result s (refuse_if (not (size_ok s && inv_ok v)) v SIZE o)

unfoldable pub insert_step : List ℕ → List ℕ → List ℕ → Result
insert_step s v bs = step s v (insert_plan found_in (seg_view s) v bs)

unfoldable pub allocate_step : List ℕ → List ℕ → ℕ → Result
allocate_step s v n = step s v (allocate_plan found_in (seg_view s) v n)

unfoldable pub write_step : List ℕ → List ℕ → ℕ → List ℕ → Result
write_step s v i bs = step s v (write_plan found_in (seg_view s) v i bs)

unfoldable pub resize_step : List ℕ → List ℕ → ℕ → ℕ → Result
resize_step s v i n = step s v (resize_plan found_in (seg_view s) v i n)

unfoldable pub erase_step : List ℕ → List ℕ → ℕ → Result
erase_step s v i = step s v (erase_plan (seg_view s) v i)

-- ---- read

-- the answer's number and the record's bytes: "an empty part" on refusal
pub record Read : Type 0 where
  pub answer : ℕ
  pub bytes : List ℕ

abbrev pub no_read : ℕ → Read
no_read a = record { answer = a; bytes = [] }

-- "the record, without the 8 bytes. Reading a target's own id gives its data, as the Rust does."
abbrev pub read_by : SegView → ℕ → Slot → Read
read_by s i (Ordinary o l) = record { answer = DONE; bytes = (s.page (page_no i)).bytes (slot_no i) }
read_by s i Free = no_read NONE
read_by s i (Redirect t) = cond (points_back s i t) (record { answer = DONE; bytes = drop 8 ((s.page (page_no t)).bytes (slot_no t)) }) (no_read DAMAGED)
read_by s i (Target o l) = record { answer = DONE; bytes = drop 8 ((s.page (page_no i)).bytes (slot_no i)) }

unfoldable pub read_plan : SegView → ℕ → Read
read_plan s i = by_root no_read (read_by s i) (root_of s i)

unfoldable pub read_step : List ℕ → ℕ → Read
read_step s i = cond (size_ok s) (read_plan (seg_view s) i) (no_read SIZE)

-- "A read answers the part of the lent segment that is the record": on page p as the slot says, a target's without its 8 bytes
abbrev pub no_part : Part
no_part = record { offset = 0; length = 0 }

abbrev pub part_on : ℕ → Slot → Part
part_on p (Ordinary o l) = record { offset = p * 16384 + o; length = l }
part_on p Free = no_part
part_on p (Redirect i) = no_part
part_on p (Target o l) = record { offset = p * 16384 + (o + 8); length = l - 8 }

-- the bytes of a part
abbrev pub held : List ℕ → Part → List ℕ
held s a = cut s a.offset a.length

-- of the id's own slot, or of the target that its redirect names
abbrev pub part_by : SegView → ℕ → Slot → Part
part_by s i (Ordinary o l) = part_on (page_no i) (Ordinary o l)
part_by s i Free = no_part
part_by s i (Redirect t) = part_on (page_no t) ((s.page (page_no t)).at (slot_no t))
part_by s i (Target o l) = part_on (page_no i) (Target o l)

pub record Located : Type 0 where
  pub answer : ℕ
  pub part : Part

unfoldable pub locate_step : List ℕ → ℕ → Located
locate_step s i =
    let a = (read_step s i).answer in
    record { answer = a; part = cond (eqb a DONE) (part_by (seg_view s) i (((seg_view s).page (page_no i)).at (slot_no i))) no_part }
