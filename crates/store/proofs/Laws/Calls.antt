-- Each call's steps are exact on every segment, sound or not: a page is touched only after it passed the test.
use Prim.Native.Nat.{ℕ, ◌+◌, ◌-◌, ◌*◌, ◌/◌, ◌^◌, ◌≤◌, ◌<◌}
use Rattle.std.proofs.Math.Path.{◌≡◌, sym, ap}
use Rattle.std.specs.Prelude.{refl, Bool, cond, not, ◌&&◌, ◌||◌, ◌≢◌, length, take, drop, ltb, eqb}
use Rattle.std.proofs.Common.{◌∙◌, arith, length-append, le-ltb, ltb-true, ltb-false}
use Rattle.std.proofs.Math.Bool.{true, false}
use mathlib.Core.List.{List, [], ◌∷◌, ◌++◌}
use Rattle.std.proofs.lemmas.Bool.{eqb-false, not-true, not-false}
use Rattle.std.proofs.Math.Decide.{dec_lt}
use Rattle.store.specs.Numbers.{cut, be, to_be, page_no, slot_no, id_of}
use Rattle.store.specs.Slots.{off, len, is_free, is_target}
use Rattle.store.specs.Page.{View, view, count, slot_at, fresh, sound}
use Rattle.store.specs.PageSteps.{initialised, opened, Plan, Alloc, no_room, got, allocated, room_for, allocating, cost, gap, filled, move, stay}
use Rattle.store.specs.PageSteps.{with_slot, erase_for_redirect, relocate, Relocated, refused, moved, plan, allocate, erase}
use Rattle.store.specs.Inventory.{found_in, entry_for, entry_at, update}
use Rattle.store.specs.Refusals.{LONG}
use Rattle.store.specs.Segment.{seg_view, page_of, on, done, refuse, Found, nowhere, found, taken, find_on, need_for, find, inserted}
use Rattle.store.specs.Segment.{insert_plan, points_back, erase_by, erase_plan, targeted, forwarded, from_ordinary, forwarded_again, at_target, at_home}
use Rattle.store.specs.Segment.{from_redirect, store_by, store_plan}
use Rattle.store.proofs.Laws.Roots.{by_root_lem}
use Rattle.store.specs.Laws.Lent.{Within}
pub use Rattle.store.proofs.Laws.Cases.{by_test}
use Rattle.store.proofs.Laws.Cases.{or_false, tests}
use Rattle.store.proofs.Laws.Edits.{Shows, shows_view}
use Rattle.store.specs.Laws.Views.{Sound}
use Rattle.store.proofs.Laws.Views.{upd_same, numbers}
use Rattle.store.proofs.Laws.Exact.{Exact, erase_exact, exact_then}
use Rattle.store.proofs.Laws.OneSlot.{same_cost, roomed, alloc_exact, redirect_exact}
use Rattle.store.proofs.Laws.Relocate.{fill_exact, retype_exact, relocate_answer, Answered}
use Rattle.store.proofs.Laws.SoundPage.{sound_page, sound_init, and_both, fresh_none}
use Rattle.std.specs.Prelude.{Option, Some, None}
use Rattle.store.proofs.Laws.Segments.{ExactOn, AllExact, length_page, two_exact, three_exact}
use Rattle.store.specs.declared.Slot.{Slot}
use Rattle.store.specs.declared.Slot.TheVariants.{Ordinary, Free, Redirect, Target}

pub page_below : (s : List ℕ) (p : ℕ) → p < (seg_view s).pages → p * 16384 + 16384 ≤ length s
unfolding seg_view
page_below s p e = omega arith

-- ---- what is known of a page that passed the test

module _ (q : List ℕ) (whole : length q ≡ 16384) where
  pub shows_opened : Shows q (opened (view q))
  unfolding view
  shows_opened = by_test (Shows q) (fresh (view q)) initialised (view q) as_new (λ e. shows_view q (view q) whole refl)
    where
      as_new : fresh (view q) ≡ true → Shows q initialised
      as_new e =
          let z : count q ≡ 0 = fresh_none (view q) e in
          let n : (j : ℕ) → Free ≡ slot_at q j = λ j. sym (rw (le-ltb j (count q) (omega arith))) in
          record { whole = whole; slot_count = sym z; at = n; bytes = λ j. ap (λ (s : Slot). cut q (off s) (len s)) (n j) }

  pub sound_seen : sound (opened (view q)) ≡ true → Sound (opened (view q))
  sound_seen = by_test (λ u. sound u ≡ true → Sound u) (fresh (view q)) initialised (view q) (λ f e. sound_init) (λ f e. sound_page q whole f e)

  -- where something has to move, the page is in use
  full_seen : (n : ℕ) → cost (opened (view q)) n ≤ (opened (view q)).free_space → gap (opened (view q)) < cost (opened (view q)) n → view q ≡ opened (view q)
  full_seen n =
      by_test (λ u. cost u n ≤ u.free_space → gap u < cost u n → view q ≡ u) (fresh (view q)) initialised (view q) (λ f r g. absurd (omega arith))
      (λ f r g. refl)

-- ---- a place

abbrev pub AllocOk : List ℕ → ℕ → Alloc → Type 0
AllocOk q n no_room = Unit {0}
AllocOk q n (got k a) = Exact q a × (k < a.after.slot_count) × (is_free (a.after.at k) ≡ false) × (len (a.after.at k) ≡ n)

pub alloc_ok : (q : List ℕ) (n : ℕ) → length q ≡ 16384 → sound (opened (view q)) ≡ true → AllocOk q n (allocate (opened (view q)) n)
unfolding allocate
alloc_ok q n whole e =
    let v : View = opened (view q) in
    let w : View = (room_for v n).after in
    let s = sound_seen q whole e in
    by_test (AllocOk q n) (ltb v.free_space (cost v n)) no_room (got v.first_free (allocating v n)) (λ f. tt)
    (λ f.
    let r : cost v n ≤ v.free_space = omega tests in
    let m = roomed q v n (shows_opened q whole) (full_seen q whole n r) s r in
    let t = numbers w m.right.sound n (omega (arith, m.kept.free_space, same_cost v w n m.kept)) m.gap in
    let i : (allocated w n).at v.first_free ≡ Ordinary (w.data_start - n) n = ap (λ (j : ℕ). (allocated w n).at j) (sym m.kept.first_free)
    ∙ upd_same w.at w.first_free (Ordinary (w.data_start - n) n) in
    (alloc_exact q v n (shows_opened q whole) (full_seen q whole n r) s r, omega (arith, t.inside, m.kept.first_free), ap is_free i, ap len i))

abbrev pub FoundOk : List ℕ → ℕ → (ℕ → Bool) → Found → Type 0
FoundOk s n ex (nowhere a) = Unit {0}
FoundOk s n ex (found p k a) =
    (p * 16384 + 16384 ≤ length s) × Exact (page_of s p) a × (k < a.after.slot_count) × (is_free (a.after.at k) ≡ false) × (len (a.after.at k) ≡ n)
    × (ex p ≡ false)

found_ok : (s : List ℕ) (n : ℕ) (ex : ℕ → Bool) (p : ℕ) (a : Alloc) → p * 16384 + 16384 ≤ length s → ex p ≡ false → AllocOk (page_of s p) n a
    → FoundOk s n ex (taken p a)
found_ok s n ex p no_room h x o = tt
found_ok s n ex p (got k a) h x o = (h, o.0, o.1, o.2, o.3, x)

-- what is told by the inventory's naming page p for a need
pub record Tells (v : List ℕ) (n need p : ℕ) : Type 0 where
  pub most : need ≤ 16372
  pub below : p < n
  pub entry : entry_at v (entry_for need) ≡ p

pub named_tells : (v : List ℕ) (n need p : ℕ) → found_in v n need ≡ Some p → Tells v n need p
unfolding found_in
named_tells v n need p = go (ltb 16372 need) refl (ltb e n) refl
  where
    e : ℕ
    e = entry_at v (entry_for need)

    go : (b : Bool) → ltb 16372 need ≡ b → (c : Bool) → ltb e n ≡ c → cond b None (cond c (Some e) None) ≡ Some p → Tells v n need p
    go true b c d h = let z : ◌≡◌ {A = ℕ} 0 1 = cc in absurd (omega arith)
    go false b false d h = let z : ◌≡◌ {A = ℕ} 0 1 = cc in absurd (omega arith)
    go false b true d h = let q : e ≡ p = cc in record { most = ltb-false 16372 need b; below = omega (arith, ltb-true e n d); entry = q }

-- its bytes are there
pub named_within : (s v : List ℕ) (need p : ℕ) → found_in v (length s / 16384) need ≡ Some p → Within s p
named_within s v need p e = omega (arith, (named_tells v (length s / 16384) need p e).below)

-- the page that the inventory names is one of the segment's
abbrev pub NamedOk : ℕ → Option ℕ → Type 0
NamedOk n (Some p) = p < n
NamedOk n None = Unit {0}

pub named_ok : (v : List ℕ) (n need : ℕ) → NamedOk n (found_in v n need)
named_ok v n need = go (found_in v n need) refl
  where
    go : (m : Option ℕ) → found_in v n need ≡ m → NamedOk n m
    go None e = tt
    go (Some p) e = (named_tells v n need p e).below

pub find_ok : (s v : List ℕ) (n : ℕ) (excluded : ℕ → Bool) → FoundOk s n excluded (find found_in (seg_view s) v n excluded)
unfolding find seg_view
find_ok s v n excluded = go (found_in v (length s / 16384) (need_for n)) (named_ok v (length s / 16384) (need_for n))
  where
    go : (m : Option ℕ) → NamedOk (length s / 16384) m → FoundOk s n excluded (find_on (seg_view s) n excluded m)
    go None h = tt
    go (Some p) h =
        let u : View = opened (view (page_of s p)) in
        by_test (FoundOk s n excluded) (not (sound u)) (nowhere 4) (cond (excluded p) (nowhere 8) (taken p (allocate u n))) (λ g. tt)
        (λ g. by_test (FoundOk s n excluded) (excluded p) (nowhere 8) (taken p (allocate u n)) (λ x. tt)
        (λ x.
        let i : p * 16384 + 16384 ≤ length s = omega arith in
        found_ok s n excluded p (allocate u n) i x (alloc_ok (page_of s p) n (length_page s p i) (not-false (sound u) g))))

-- ---- insert and allocate

pub insert_exact : (s v bs : List ℕ) → AllExact s (insert_plan found_in (seg_view s) v bs).steps
unfolding insert_plan
insert_exact s v bs =
    by_test (λ o. AllExact s o.steps) (ltb 16364 (length bs)) (refuse v 3)
    (inserted (seg_view s) v bs (find found_in (seg_view s) v (length bs) (λ p. false))) (λ e. tt)
    (λ e. go (find found_in (seg_view s) v (length bs) (λ p. false)) (find_ok s v (length bs) (λ p. false)))
  where
    go : (f : Found) → FoundOk s (length bs) (λ p. false) f → AllExact s (inserted (seg_view s) v bs f).steps
    go (nowhere a) o = tt
    go (found p k a) o = (record { inside = o.0; exact = fill_exact (page_of s p) a (length_page s p o.0) o.1 k o.2 o.3 bs (sym o.4) }, tt)

-- ---- a page with a slot that is not free

pub record PageOk (s : List ℕ) (p k : ℕ) : Type 0 where
  pub fits : p * 16384 + 16384 ≤ length s
  pub sound : Sound ((seg_view s).page p)
  pub seen : view (page_of s p) ≡ (seg_view s).page p
  pub counted : k < ((seg_view s).page p).slot_count

module _ (s : List ℕ) (p k : ℕ) (fits : p * 16384 + 16384 ≤ length s) (ok : sound ((seg_view s).page p) ≡ true)
    (taken : is_free (((seg_view s).page p).at k) ≡ false) where
  pub page_ok : PageOk s p k
  unfolding seg_view
  page_ok =
      let q : List ℕ = page_of s p in
      let t = sound_seen q (length_page s p fits) ok in
      record { fits = fits; sound = t; seen = used taken; counted = counted_by t (dec_lt k (opened (view (page_of s p))).slot_count) }
    where
      used : is_free ((opened (view (page_of s p))).at k) ≡ false → view (page_of s p) ≡ opened (view (page_of s p))
      used = by_test (λ u. is_free (u.at k) ≡ false → view (page_of s p) ≡ u) (fresh (view (page_of s p))) initialised (view (page_of s p))
          (λ f e. let z : ◌≡◌ {A = ℕ} 0 1 = cc in absurd (omega arith)) (λ f e. refl)

      counted_by : Sound (opened (view (page_of s p))) → Dec (k < (opened (view (page_of s p))).slot_count) → k < (opened (view (page_of s p))).slot_count
      counted_by t (yes h) = h
      counted_by t (no h) =
          let e : is_free ((opened (view (page_of s p))).at k) ≡ true = ap is_free (t.past k (omega arith)) in
          let z : ◌≡◌ {A = ℕ} 0 1 = cc in absurd (omega arith)

pub shows_ok : (s : List ℕ) (p k : ℕ) → PageOk s p k → Shows (page_of s p) ((seg_view s).page p)
shows_ok s p k o = shows_view (page_of s p) ((seg_view s).page p) (length_page s p o.fits) o.seen

pub erase_on : (s : List ℕ) (p k : ℕ) → PageOk s p k → is_free (((seg_view s).page p).at k) ≡ false → ExactOn s (on p (erase ((seg_view s).page p) k))
erase_on s p k o f = record { inside = o.fits; exact = erase_exact (page_of s p) ((seg_view s).page p) (shows_ok s p k o) o.sound k o.counted f }

-- ---- a redirect's target

abbrev pub Back : List ℕ → ℕ → ℕ → Type 0
Back s i t = PageOk s (page_no t) (slot_no t) × (is_target (((seg_view s).page (page_no t)).at (slot_no t)) ≡ true) × (page_no t ≢ page_no i)

pub target_taken : (x : Slot) → is_target x ≡ true → is_free x ≡ false
target_taken (Ordinary o l) e = refl
target_taken Free e = sym e
target_taken (Redirect i) e = refl
target_taken (Target o l) e = refl

pub back_ok : (s : List ℕ) (i t : ℕ) → points_back (seg_view s) i t ≡ true → Back s i t
unfolding seg_view
back_ok s i t e =
    let u : View = (seg_view s).page (page_no t) in
    let b4 = and_both (ltb (page_no t) (seg_view s).pages && not (eqb (page_no t) (page_no i)) && sound u && is_target (u.at (slot_no t)))
    (eqb (be (take 8 (u.bytes (slot_no t)))) i) e in
    let b3 = and_both (ltb (page_no t) (seg_view s).pages && not (eqb (page_no t) (page_no i)) && sound u) (is_target (u.at (slot_no t))) b4.0 in
    let b2 = and_both (ltb (page_no t) (seg_view s).pages && not (eqb (page_no t) (page_no i))) (sound u) b3.0 in
    let b1 = and_both (ltb (page_no t) (seg_view s).pages) (not (eqb (page_no t) (page_no i))) b2.0 in
    let f : page_no t * 16384 + 16384 ≤ length s = omega (arith, ltb-true (page_no t) (length s / 16384) b1.0) in (
      page_ok s (page_no t) (slot_no t) f b2.1 (target_taken (u.at (slot_no t)) b3.1),
      b3.1,
      eqb-false (page_no t) (page_no i) (not-true (eqb (page_no t) (page_no i)) b1.1),
    )

-- ---- erase

pub erase_call_exact : (s v : List ℕ) (i : ℕ) → AllExact s (erase_plan (seg_view s) v i).steps
unfolding erase_plan
erase_call_exact s v i =
    by_root_lem (λ o. AllExact s o.steps) (seg_view s) i (refuse v) (erase_by (seg_view s) v i) (λ e. tt) (λ e f. tt)
    (λ e f. go (page_below s (page_no i) e) f (u.at (slot_no i)) refl)
  where
    u : View
    u = (seg_view s).page (page_no i)

    go : page_no i * 16384 + 16384 ≤ length s → sound u ≡ true → (x : Slot) → u.at (slot_no i) ≡ x → AllExact s (erase_by (seg_view s) v i x).steps
    go h q (Ordinary o l) e = (erase_on s (page_no i) (slot_no i) (page_ok s (page_no i) (slot_no i) h q (ap is_free e)) (ap is_free e), tt)
    go h q Free e = tt
    go h q (Redirect t) e =
        by_test (λ o. AllExact s o.steps) (not (points_back (seg_view s) i t)) (refuse v 4)
        (done i (on (page_no i) (erase u (slot_no i)) ∷ on (page_no t) (erase ((seg_view s).page (page_no t)) (slot_no t)) ∷ [])
        (update (update v (seg_view s).pages (page_no t) (erase ((seg_view s).page (page_no t)) (slot_no t)).after.free_space) (seg_view s).pages
        (page_no i) (erase u (slot_no i)).after.free_space))
        (λ b. tt)
        (λ b.
        let k = back_ok s i t (not-false (points_back (seg_view s) i t) b) in
        two_exact s (on (page_no i) (erase u (slot_no i))) (on (page_no t) (erase ((seg_view s).page (page_no t)) (slot_no t)))
        (erase_on s (page_no i) (slot_no i) (page_ok s (page_no i) (slot_no i) h q (ap is_free e)) (ap is_free e))
        (erase_on s (page_no t) (slot_no t) k.0 (target_taken (((seg_view s).page (page_no t)).at (slot_no t)) k.1)) k.2)
    go h q (Target o l) e = tt

-- ---- write and resize

module _ (s v : List ℕ) (i size : ℕ) (new : List ℕ → List ℕ) (sized : (old : List ℕ) → length (new old) ≡ size) (few : length s / 16384 ≤ 32527) where
  long_target : (old : List ℕ) → length (to_be 8 i ++ new old) ≡ size + 8
  long_target old = length-append (to_be 8 i) (new old) ∙ omega (arith, sized old)

  -- a new target
  targeted_on : (old : List ℕ) (ex : ℕ → Bool) (q j : ℕ) (a : Plan) → FoundOk s (size + 8) ex (found q j a)
      → ExactOn s (on q (targeted (seg_view s) v i size new j a old))
  targeted_on old ex q j a o =
      let w = a.after in
      let h : off (w.at j) + len (w.at j) ≤ 16384 = o.1.sound.high j in
      record {
        inside = o.0;
        exact = exact_then (page_of s q) a
            (λ u. plan (move j (with_slot u j (Target (off (u.at j)) (len (u.at j))) (to_be 8 i ++ new old)) ∷ [])
            (with_slot u j (Target (off (u.at j)) (len (u.at j))) (to_be 8 i ++ new old)))
            (retype_exact (page_of s q) a (length_page s q o.0) o.1 j o.2 o.3 (Target (off (w.at j)) (len (w.at j))) refl refl refl
            (omega arith, omega arith) (λ e. omega (arith, o.4))
            (to_be 8 i ++ new old) (long_target old ∙ sym o.4));
      }

  small_id : (ex : ℕ → Bool) (q j : ℕ) (a : Plan) → FoundOk s (size + 8) ex (found q j a) → id_of q j < 2 ^ 62
  small_id ex q j a o = omega (arith, o.0, o.2, o.1.sound.few)

  module _ (k : PageOk s (page_no i) (slot_no i)) (free : is_free (((seg_view s).page (page_no i)).at (slot_no i)) ≡ false) where
    root_relocate : (n : ℕ) → (is_target (((seg_view s).page (page_no i)).at (slot_no i)) ≡ true → 8 ≤ n)
        → Answered (page_of s (page_no i)) ((seg_view s).page (page_no i)) (slot_no i) n (relocate ((seg_view s).page (page_no i)) (slot_no i) n)
    root_relocate n = relocate_answer (page_of s (page_no i)) ((seg_view s).page (page_no i)) (length_page s (page_no i) k.fits) k.seen k.sound
        (slot_no i) k.counted n

    forwarded_exact : (old : List ℕ) (f : Found) → FoundOk s (size + 8) (λ p. eqb p (page_no i)) f
        → AllExact s (forwarded (seg_view s) v i size new old f).steps
    forwarded_exact old (nowhere a) o = tt
    forwarded_exact old (found q j a) o =
        two_exact s (on (page_no i) (erase_for_redirect ((seg_view s).page (page_no i)) (slot_no i) (id_of q j)))
        (on q (targeted (seg_view s) v i size new j a old))
        (record {
          inside = k.fits;
          exact =
              redirect_exact ((seg_view s).page (page_no i)) k.sound (slot_no i) k.counted free (id_of q j) (small_id (λ p. eqb p (page_no i)) q j a o)
              (page_of s (page_no i)) (shows_ok s (page_no i) (slot_no i) k);
        })
        (targeted_on old (λ p. eqb p (page_no i)) q j a o) (eqb-false q (page_no i) o.5)

    ordinary_exact : (old : List ℕ) (r : Relocated) → Answered (page_of s (page_no i)) ((seg_view s).page (page_no i)) (slot_no i) size r
        → AllExact s (from_ordinary found_in (seg_view s) v i size new old r).steps
    ordinary_exact old (moved a) m = (
      record {
        inside = k.fits;
        exact =
            fill_exact (page_of s (page_no i)) a (length_page s (page_no i) k.fits) m.exact (slot_no i) m.inside m.free (new old)
            (sized old ∙ sym m.size);
      },
      tt,
    )
    ordinary_exact old refused m = forwarded_exact old (find found_in (seg_view s) v (size + 8) (λ p. eqb p (page_no i)))
        (find_ok s v (size + 8) (λ p. eqb p (page_no i)))

    module _ (t : ℕ) (here : ((seg_view s).page (page_no i)).at (slot_no i) ≡ Redirect t) (b : Back s i t) where
      target_free : is_free (((seg_view s).page (page_no t)).at (slot_no t)) ≡ false
      target_free = target_taken (((seg_view s).page (page_no t)).at (slot_no t)) b.1

      erased_on : ExactOn s (on (page_no t) (erase ((seg_view s).page (page_no t)) (slot_no t)))
      erased_on = erase_on s (page_no t) (slot_no t) b.0 target_free

      again_exact : (old : List ℕ) (f : Found) → FoundOk s (size + 8) (λ p. eqb p (page_no i) || eqb p (page_no t)) f
          → AllExact s (forwarded_again (seg_view s) v i size new t old f).steps
      again_exact old (nowhere a) o = tt
      again_exact old (found q j a) o =
          let r : View = (seg_view s).page (page_no i) in
          let p : List ℕ = page_of s (page_no i) in
          let whole = length_page s (page_no i) k.fits in
          let n = or_false (eqb q (page_no i)) (eqb q (page_no t)) o.5 in
          three_exact s (on (page_no i) (plan (move (slot_no i) (with_slot r (slot_no i) (Redirect (id_of q j)) []) ∷ [])
          (with_slot r (slot_no i) (Redirect (id_of q j)) [])))
          (on (page_no t) (erase ((seg_view s).page (page_no t)) (slot_no t))) (on q (targeted (seg_view s) v i size new j a old))
          (record {
            inside = k.fits;
            exact = retype_exact p (stay r) whole (record { seen = k.seen; sound = k.sound }) (slot_no i) k.counted free (Redirect (id_of q j))
                (sym (ap off here)) (sym (ap len here)) refl
                (small_id (λ p. eqb p (page_no i) || eqb p (page_no t)) q j a o) (λ e. let z : ◌≡◌ {A = ℕ} 0 1 = cc in omega arith) [] refl;
          })
          erased_on (targeted_on old (λ p. eqb p (page_no i) || eqb p (page_no t)) q j a o) b.2 (eqb-false q (page_no i) n.0) (eqb-false q (page_no t) n.1)

      at_target_exact : (old : List ℕ) (r : Relocated) → Answered (page_of s (page_no t)) ((seg_view s).page (page_no t)) (slot_no t) (size + 8) r
          → AllExact s (at_target found_in (seg_view s) v i size new t old r).steps
      at_target_exact old (moved a) m = (
        record {
          inside = b.0.fits;
          exact =
              fill_exact (page_of s (page_no t)) a (length_page s (page_no t) b.0.fits) m.exact (slot_no t) m.inside m.free
              (to_be 8 i ++ new old) (long_target old ∙ sym m.size);
        },
        tt,
      )
      at_target_exact old refused m =
          again_exact old (find found_in (seg_view s) v (size + 8) (λ p. eqb p (page_no i) || eqb p (page_no t)))
          (find_ok s v (size + 8) (λ p. eqb p (page_no i) || eqb p (page_no t)))

      home_exact : (old : List ℕ) (r : Relocated) → Answered (page_of s (page_no i)) ((seg_view s).page (page_no i)) (slot_no i) size r
          → AllExact s (at_home found_in (seg_view s) v i size new t old r).steps
      home_exact old (moved a) m =
          two_exact s (on (page_no i) (filled a (slot_no i) (new old))) (on (page_no t) (erase ((seg_view s).page (page_no t)) (slot_no t)))
          (record {
            inside = k.fits;
            exact =
                fill_exact (page_of s (page_no i)) a (length_page s (page_no i) k.fits) m.exact (slot_no i) m.inside m.free (new old)
                (sized old ∙ sym m.size);
          })
          erased_on b.2
      home_exact old refused m =
          at_target_exact old (relocate ((seg_view s).page (page_no t)) (slot_no t) (size + 8))
          (relocate_answer (page_of s (page_no t)) ((seg_view s).page (page_no t)) (length_page s (page_no t) b.0.fits) b.0.seen b.0.sound
          (slot_no t) b.0.counted (size + 8) (λ e. omega arith))

  pub store_exact : AllExact s (store_plan found_in (seg_view s) v i size new).steps
  unfolding store_plan
  store_exact =
      by_test (λ o. AllExact s o.steps) (ltb 16364 size) (refuse v LONG) _ (λ e. tt)
      (λ d. by_root_lem (λ o. AllExact s o.steps) (seg_view s) i (refuse v) (store_by found_in (seg_view s) v i size new) (λ e. tt) (λ e f. tt)
      (λ e f. go (page_below s (page_no i) e) f (r.at (slot_no i)) refl))
    where
      r : View
      r = (seg_view s).page (page_no i)

      go : page_no i * 16384 + 16384 ≤ length s → sound r ≡ true → (x : Slot) → r.at (slot_no i) ≡ x
          → AllExact s (store_by found_in (seg_view s) v i size new x).steps
      go h q (Ordinary o l) e =
          let k = page_ok s (page_no i) (slot_no i) h q (ap is_free e) in
          ordinary_exact k (ap is_free e) (r.bytes (slot_no i)) (relocate r (slot_no i) size)
          (root_relocate k (ap is_free e) size (λ t. let u = sym (ap is_target e) ∙ t in let z : ◌≡◌ {A = ℕ} 0 1 = cc in omega arith))
      go h q Free e = tt
      go h q (Redirect t) e =
          by_test (λ o. AllExact s o.steps) (not (points_back (seg_view s) i t)) (refuse v 4) (from_redirect found_in (seg_view s) v i size new t) (λ b. tt)
          (λ b.
          let k = page_ok s (page_no i) (slot_no i) h q (ap is_free e) in
          home_exact k (ap is_free e) t e (back_ok s i t (not-false (points_back (seg_view s) i t) b))
          (drop 8 (((seg_view s).page (page_no t)).bytes (slot_no t))) (relocate r (slot_no i) size)
          (root_relocate k (ap is_free e) size (λ x. let y = sym (ap is_target e) ∙ x in let z : ◌≡◌ {A = ℕ} 0 1 = cc in omega arith)))
      go h q (Target o l) e = tt
