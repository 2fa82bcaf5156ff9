-- Write and resize: what the code did is what the plan says. `size` is the record's new size, and `new` what becomes of its old bytes.
use Prim.Native.Nat.{ℕ, ◌+◌, ◌-◌, ◌*◌, ◌/◌, ◌≤◌, ◌<◌}
use mathlib.Core.Path.{◌≡◌, refl, sym, ap, ◌∙◌}
use mathlib.Core.Bool.{Bool, true, false, ◌&&◌, ◌||◌}
use mathlib.Core.List.{List, ◌++◌}
use native.Mathlib.Omega.{arith}
use lib.ListN.{length, take, drop, length-drop}
use lib.Seq.{length-take-le}
use lib.Dec.{eqb, leb}
use borrow.Author.Tests.{le-ltb, lt-ltb}
use Rattle.store.specs.Numbers.{cut, put, to_be, fit, page_no, slot_no}
use Rattle.store.specs.Slots.{off, len, is_target}
use Rattle.store.specs.Page.{View, view}
use Rattle.store.specs.PageSteps.{Plan, filled, Relocated, moved, relocate}
use Rattle.store.specs.Inventory.{update, found_in}
use Rattle.store.specs.Segment.{seg_view, page_of, size_ok, inv_ok, OnPage, on, Result, result, refuse, step, Found, find, points_back}
use Rattle.store.specs.Segment.{forwarded, forwarded_again, at_home, at_target, root_of, by_root, store_by, store_plan, write_step, resize_step}
use Rattle.store.specs.Answers.{outcome}
use Rattle.store.specs.Laws.Lent.{Within, SoundOn, TakenOn}
use Rattle.store.proofs.Laws.Calls.{back_ok}
use Rattle.segment_pages.proofs.Root.{back_taken}
use Rattle.store.proofs.Laws.Numbers.{cut_same, cut_drop}
use Rattle.std.specs.Prelude.{Ok, Err}
use Rattle.std.specs.Prelude.{Result as ResultOf}
use Rattle.store.specs.declared.Slot.{Slot}
use Rattle.store.specs.declared.Slot.TheVariants.{Ordinary, Redirect}
use Rattle.store.specs.declared.Refusal.{Refusal}
use Rattle.store.specs.declared.Refusal.TheVariants as refusal
use Rattle.page_relocate.specs.Words.{was_moved, refilled}
use Rattle.segment_pages.proofs.Seen.{slot_bytes_lem, target_long}
use Rattle.segment_moves.specs.Words.{relocated_on}
use Rattle.segment_steps.proofs.After.{Took, took_length, left_own, left_room, left_update}
use Rattle.segment_moves.proofs.Moved.{moved_to, not_moved, took_filled, refused_same}
use Rattle.segment_forward.specs.Words.{Follows}
use Rattle.segment_forward.proofs.Home.{home_is}

-- ---- a record at another size on its page: carried out, or every byte left

-- slot k of page p was relocated, and got these bytes, which left t
pub record Moves (s : List ℕ) (p k n : ℕ) (bs t : List ℕ) : Type 0 where
  pub plan : Plan
  pub by : relocate ((seg_view s).page p) k n ≡ moved plan
  pub took : Took s (on p (filled plan k bs)) t

-- what a page step answered and left
module _ (s : List ℕ) (p k : ℕ) (h : TakenOn s p k) (n : ℕ) (bs t : List ℕ)
    (et : t ≡ relocated_on s p (refilled (relocate ((seg_view s).page p) k n) k bs)) (r : Bool)
    (er : r ≡ was_moved (relocate ((seg_view s).page p) k n)) where
  pub unmoved : r ≡ false → t ≡ s
  unmoved f = refused_same s p h.whole t k n (not_moved (relocate ((seg_view s).page p) k n) (sym er ∙ f)) bs et

  pub moves : (is_target (((seg_view s).page p).at k) ≡ true → 8 ≤ n) → length bs ≡ n → r ≡ true → Moves s p k n bs t
  moves enough long f =
      let m = moved_to (relocate ((seg_view s).page p) k n) (sym er ∙ f) in
      record { plan = m.to; by = m.is; took = took_filled s p k h n enough m.to m.is bs long t et }

-- what the update of that page asks, and what it tells the inventory
module _ (s : List ℕ) (p k n : ℕ) (bs t : List ℕ) (m : Moves s p k n bs t) (v : List ℕ) where
  abbrev move_step : OnPage
  move_step = on p (filled m.plan k bs)

  pub told_asks : Within t p × ((view (page_of t p)).free_space ≤ 16372)
  told_asks =
      (omega (arith, took_length s move_step t m.took, m.took.exact.inside), left_room t p move_step.plan.after (left_own s move_step t m.took))

  told : (w : List ℕ) → w ≡ update v (length t / 16384) p (view (page_of t p)).free_space
      → w ≡ update v (seg_view s).pages p move_step.plan.after.free_space
  told w ew = left_update s t p move_step.plan.after (left_own s move_step t m.took) (took_length s move_step t m.took) v w ew

-- ---- a record's old bytes, saved by value to the front of q

pub saved : (t q : List ℕ) (at n : ℕ) → at + n ≤ length t → n ≤ length q → (old : List ℕ) → old ≡ put q 0 (cut t at n) → take n old ≡ cut t at n
saved t q at n h room old e =
    let l : length (cut t at n) ≡ n = length-take-le n (drop at t) (rw length-drop (omega arith)) in
    ap (take n) e ∙ cut_same q 0 (cut t at n) n l (omega arith)

-- a record's bytes behind its first m, as the slot's entry says where they lie
pub record_cut : (s : List ℕ) (p k m : ℕ) (x : Slot) → ((seg_view s).page p).at k ≡ x → off x + len x ≤ 16384
    → cut s (p * 16384 + off x + m) (len x - m) ≡ drop m (((seg_view s).page p).bytes k)
record_cut s p k m x e high = sym (cut_drop s (p * 16384 + off x) (len x) m) ∙ ap (drop m) (slot_bytes_lem s p k x e high)

-- the page of a target that points back, and the 8 bytes of its root's id
module _ (s : List ℕ) (i t : ℕ) (back : points_back (seg_view s) i t ≡ true) where
  pub target_sound : SoundOn s (page_no t)
  target_sound = let h = back_taken s i t back in record { whole = h.whole; sound = h.sound }

  pub target_skip : 8 ≤ len (((seg_view s).page (page_no t)).at (slot_no t))
  target_skip = target_long s (page_no t) target_sound.whole target_sound.sound (slot_no t) _ refl (back_ok s i t back).1

module _ (s v : List ℕ) (i size : ℕ) (new : List ℕ → List ℕ) where
  -- ---- 1, 3, 2, 4 (root), then by the slot

  abbrev pub stored : Result
  stored = step s v (store_plan found_in (seg_view s) v i size new)

  pub step_size : (size_ok s && inv_ok v) ≡ false → outcome (Err refusal.Size) s v ≡ stored
  unfolding result
  step_size e = rw e

  module _ (ok : (size_ok s && inv_ok v) ≡ true) where
    pub step_long : 16364 < size → outcome (Err refusal.Long) s v ≡ stored
    unfolding result store_plan
    step_long h = rw (ok, lt-ltb 16364 size h)

    module _ (short : size ≤ 16364) where
      by_root_lem : (x : ResultOf Slot Refusal) → root_of (seg_view s) i ≡ x
          → result s (by_root (refuse v) (store_by found_in (seg_view s) v i size new) x) ≡ stored
      unfolding store_plan
      by_root_lem x e = sym (rw (ok, le-ltb 16364 size short, e))

      pub step_refused : (x : Refusal) → root_of (seg_view s) i ≡ Err x → outcome (Err x) s v ≡ stored
      unfolding result
      step_refused x e = by_root_lem (Err x) e

      pub step_by : (x : Slot) → root_of (seg_view s) i ≡ Ok x → result s (store_by found_in (seg_view s) v i size new x) ≡ stored
      step_by x e = by_root_lem (Ok x) e

  -- ---- an ordinary slot: on its page, else forwarded

  abbrev pub home : View
  home = (seg_view s).page (page_no i)

  module _ (o l : ℕ) where
    pub by_page : (t w : List ℕ) → Moves s (page_no i) (slot_no i) size (new (home.bytes (slot_no i))) t
        → w ≡ update v (length t / 16384) (page_no i) (view (page_of t (page_no i))).free_space
        → outcome (Ok i) t w ≡ result s (store_by found_in (seg_view s) v i size new (Ordinary o l))
    unfolding result
    by_page t w m ew =
        let h = told s (page_no i) (slot_no i) size (new (home.bytes (slot_no i))) t m v w ew in
        rw m.by (λ z. record { answer = 0; id = i; seg = m.took.is z; inv = h z })

    -- t is s: the page step refused, and left every byte
    pub by_forward : was_moved (relocate home (slot_no i) size) ≡ false → (t : List ℕ) → t ≡ s → (x : Result)
        → x ≡ result t (forwarded (seg_view t) v i size new (((seg_view t).page (page_no i)).bytes (slot_no i))
        (find found_in (seg_view t) v (size + 8) (λ p. eqb p (page_no i))))
        → x ≡ result s (store_by found_in (seg_view s) v i size new (Ordinary o l))
    by_forward f t et x ex =
        ex ∙ ap (λ (m : List ℕ). result m (forwarded (seg_view m) v i size new (((seg_view m).page (page_no i)).bytes (slot_no i))
        (find found_in (seg_view m) v (size + 8) (λ p. eqb p (page_no i))))) et
        ∙ rw (not_moved (relocate home (slot_no i) size) f) refl

  -- ---- a redirect: 4 (target), then home, at the target, else forwarded again

  module _ (j : ℕ) where
    abbrev pub old_bytes : List ℕ
    old_bytes = drop 8 (((seg_view s).page (page_no j)).bytes (slot_no j))

    abbrev pub new_place : Found
    new_place = find found_in (seg_view s) v (size + 8) (λ p. eqb p (page_no i) || eqb p (page_no j))

    pub by_damaged : points_back (seg_view s) i j ≡ false → outcome (Err refusal.Damaged) s v ≡ result s
        (store_by found_in (seg_view s) v i size new (Redirect j))
    unfolding result
    by_damaged e = rw e

    module _ (follows : Follows s i j) where
      pub by_home : result s (at_home found_in (seg_view s) v i size new j old_bytes (relocate home (slot_no i) size))
          ≡ result s (store_by found_in (seg_view s) v i size new (Redirect j))
      by_home = rw follows.back refl

      module _ (far : leb size home.free_space ≡ false) where
        not_home : at_target found_in (seg_view s) v i size new j old_bytes (relocate ((seg_view s).page (page_no j)) (slot_no j) (size + 8))
            ≡ store_by found_in (seg_view s) v i size new (Redirect j)
        not_home =
            rw (follows.back, not_moved (relocate home (slot_no i) size) (home_is home (slot_no i) size j follows.root.entry ∙ far))

        pub by_stay : (t w : List ℕ) → Moves s (page_no j) (slot_no j) (size + 8) (to_be 8 i ++ new old_bytes) t
            → w ≡ update v (length t / 16384) (page_no j) (view (page_of t (page_no j))).free_space
            → outcome (Ok i) t w ≡ result s (store_by found_in (seg_view s) v i size new (Redirect j))
        unfolding result
        by_stay t w m ew =
            let h = told s (page_no j) (slot_no j) (size + 8) (to_be 8 i ++ new old_bytes) t m v w ew in
            (λ z. record { answer = 0; id = i; seg = m.took.is z; inv = h z })
            ∙ ap (λ (r : Relocated). result s (at_target found_in (seg_view s) v i size new j old_bytes r)) (sym m.by)
            ∙ ap (result s) not_home

        -- t is s: the page step refused, and left every byte
        pub by_again : was_moved (relocate ((seg_view s).page (page_no j)) (slot_no j) (size + 8)) ≡ false → (t : List ℕ) → t ≡ s → (x : Result)
            → x ≡ result t (forwarded_again (seg_view t) v i size new j (drop 8 (((seg_view t).page (page_no j)).bytes (slot_no j)))
            (find found_in (seg_view t) v (size + 8) (λ p. eqb p (page_no i) || eqb p (page_no j))))
            → x ≡ result s (store_by found_in (seg_view s) v i size new (Redirect j))
        by_again f t et x ex =
            ex ∙ ap (λ (m : List ℕ). result m (forwarded_again (seg_view m) v i size new j (drop 8 (((seg_view m).page (page_no j)).bytes (slot_no j)))
            (find found_in (seg_view m) v (size + 8) (λ p. eqb p (page_no i) || eqb p (page_no j))))) et
            ∙ ap (result s)
            (ap (at_target found_in (seg_view s) v i size new j old_bytes) (sym (not_moved (relocate ((seg_view s).page (page_no j)) (slot_no j) (size + 8)) f))
            ∙ not_home)

-- ---- the two calls

pub write_is : (s v : List ℕ) (i : ℕ) (bs : List ℕ) → stored s v i (length bs) (λ old. bs) ≡ write_step s v i bs
unfolding write_step
write_is s v i bs = refl

pub resize_is : (s v : List ℕ) (i n : ℕ) → stored s v i n (fit n) ≡ resize_step s v i n
unfolding resize_step
resize_is s v i n = refl
