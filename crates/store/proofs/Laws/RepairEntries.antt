-- Repair's entries are exactly the changes, in ascending order, and each tells what was done.
use Prim.Native.Nat.{ℕ, zero, suc, ◌+◌, ◌*◌, ◌/◌, ◌%◌, ◌≤◌, ◌<◌}
use Rattle.std.specs.Prelude.{◌≡◌, Bool, ◌&&◌, ◌⊎◌, ◌≢◌, length, drop, eqb, ltb}
use Rattle.std.proofs.Math.Path.{refl, ap}
use Rattle.std.proofs.Common.{sym, ◌∙◌, subst, inl, inr, arith, not-suc-le-zero, eq-eqb}
use Rattle.std.proofs.Math.Bool.{true, false, cond}
use mathlib.Core.List.{List, [], ◌∷◌, ◌++◌}
use Rattle.std.proofs.Math.Decide.{ℕ_discrete, dec_lt}
use Rattle.store.specs.Numbers.{cut, put, zeros, same_bytes, be, all, id_of, In}
use Rattle.store.specs.Slots.{slot_of}
use Rattle.store.specs.Page.{View, view, fresh}
use Rattle.store.specs.PageSteps.{put_head}
use Rattle.store.specs.Inventory.{entry_at}
use Rattle.store.specs.Segment.{SegView, page_of}
use Rattle.store.specs.Repair.{standing, lost, keeps, holds, named, deed_by, deed, changes, slot_done, slot_after, mended, emptied}
use Rattle.store.specs.Repair.{page_after, same_head, put_slots, put_mended, page_bytes, same_inv, true_of, inv_after, Entry, entry}
use Rattle.store.specs.Repair.{deed_no, slot_entries, head_entries, page_entries, seg_entries, inv_entries, entries}
use Rattle.store.specs.RepairTold.{directory, Before, Ascending, Tells, freed_record, freed_redirect, made_ordinary}
use Rattle.store.specs.RepairTold.{TellsHeader, worked_out, zeroed}
use Rattle.store.specs.declared.Deed.{Deed}
use Rattle.store.specs.declared.Deed.TheVariants.{Stays, RecordFreed, RedirectFreed, MadeOrdinary}
use Rattle.store.proofs.Laws.Cases.{by_test}
use Rattle.store.proofs.Laws.Numbers.{cut_take, cut_same, in_either, in_left, in_right}
use Rattle.store.proofs.Laws.SoundPage.{and_in, all_in, fresh_none}
use Rattle.store.proofs.Laws.RepairPage.{used}
use Rattle.store.proofs.Laws.RepairBytes.{slots_frame, page_past_directory, page_slot_same, page_seen, repaired_seg, repaired_page, repaired_view}
use Rattle.store.proofs.Laws.RepairPairs.{mended_at}
use Rattle.store.proofs.Laws.RepairQuiet.{lost_after, mended_count}
use Rattle.store.proofs.Laws.RepairInventory.{same_own}
use Rattle.store.proofs.Laws.Segments.{length_page}
use Rattle.store.proofs.Laws.Repair.{standing_pages, standing_page}
use Rattle.store.specs.declared.Slot.{Slot}
use Rattle.store.specs.declared.Slot.TheVariants.{Ordinary, Free, Redirect, Target}

-- ---- which entries there are

pub record SlotEntry (u : SegView) (p n : ℕ) (e : Entry) : Type 0 where
  pub slot : ℕ
  pub below : slot < n
  pub changes : changes (deed u p slot) ≡ true
  pub is : e ≡ entry p slot (deed_no (deed u p slot))

pub data PageEntry (u : SegView) (p : ℕ) (e : Entry) : Type 0 where
  of_slot : lost (u.page p) ≡ false → fresh (u.page p) ≡ false → SlotEntry u p (u.page p).slot_count e → PageEntry u p e
  of_head : lost (u.page p) ≡ false → fresh (u.page p) ≡ false → same_head (u.page p) (mended u p) ≡ false → e ≡ entry p 65535 4 → PageEntry u p e
  of_lost : lost (u.page p) ≡ true → e ≡ entry p 65535 5 → PageEntry u p e

pub data AnyEntry (u : SegView) (v : List ℕ) (e : Entry) : Type 0 where
  of_page : (p : ℕ) → p < u.pages → PageEntry u p e → AnyEntry u v e
  of_inv : same_inv v (true_of u) ≡ false → e ≡ entry u.pages 65536 6 → AnyEntry u v e

module _ (u : SegView) (p : ℕ) where
  slot_in_lem : (n k : ℕ) → k < n → changes (deed u p k) ≡ true → In (entry p k (deed_no (deed u p k))) (slot_entries (deed u p) p n)
  slot_in_lem zero k l c = absurd (not-suc-le-zero l)
  slot_in_lem (suc n) k l c = go (slot_in_lem n k) (ℕ_discrete k n)
    where
      own : (b : Bool) → b ≡ true → In (entry p n (deed_no (deed u p n))) (cond b (entry p n (deed_no (deed u p n)) ∷ []) [])
      own true q = inl refl
      own false q = let z : ◌≡◌ {A = ℕ} 0 1 = cc in absurd (omega arith)

      go : (k < n → changes (deed u p k) ≡ true → In (entry p k (deed_no (deed u p k))) (slot_entries (deed u p) p n)) → Dec (k ≡ n)
          → In (entry p k (deed_no (deed u p k))) (slot_entries (deed u p) p (suc n))
      go ih (yes d) =
          rw d (in_right (entry p n (deed_no (deed u p n))) (slot_entries (deed u p) p n)
          (cond (changes (deed u p n)) (entry p n (deed_no (deed u p n)) ∷ []) [])
          (own (changes (deed u p n)) (ap (λ (x : ℕ). changes (deed u p x)) (sym d) ∙ c)))
      go ih (no d) =
          in_left (entry p k (deed_no (deed u p k))) (slot_entries (deed u p) p n) (cond (changes (deed u p n)) (entry p n (deed_no (deed u p n)) ∷ []) [])
          (ih (omega arith) c)

  slot_no_of : (e : Entry) (n : ℕ) → In e (slot_entries (deed u p) p n) → SlotEntry u p n e
  slot_no_of e zero h = absurd h
  slot_no_of e (suc n) h = go (slot_no_of e n) (in_either e (slot_entries (deed u p) p n)
      (cond (changes (deed u p n)) (entry p n (deed_no (deed u p n)) ∷ []) []) h)
    where
      own : (b : Bool) → changes (deed u p n) ≡ b → In e (cond b (entry p n (deed_no (deed u p n)) ∷ []) []) → SlotEntry u p (suc n) e
      own true q (inl w) = record { slot = n; below = omega arith; changes = q; is = w }
      own true q (inr w) = absurd w
      own false q w = absurd w

      go : (In e (slot_entries (deed u p) p n) → SlotEntry u p n e)
          → In e (slot_entries (deed u p) p n) ⊎ In e (cond (changes (deed u p n)) (entry p n (deed_no (deed u p n)) ∷ []) []) → SlotEntry u p (suc n) e
      go ih (inl a) = let w = ih a in record { slot = w.slot; below = omega (arith, w.below); changes = w.changes; is = w.is }
      go ih (inr b) = own (changes (deed u p n)) refl b

  page_of_lem : (e : Entry) → In e (page_entries u p) → PageEntry u p e
  unfolding page_entries
  page_of_lem e = go (lost (u.page p)) refl (fresh (u.page p)) refl
    where
      head : lost (u.page p) ≡ false → fresh (u.page p) ≡ false → (b : Bool) → same_head (u.page p) (mended u p) ≡ b → In e (cond b [] (entry p 65535 4 ∷ []))
          → PageEntry u p e
      head l f true q w = absurd w
      head l f false q (inl w) = of_head l f q w
      head l f false q (inr w) = absurd w

      either : lost (u.page p) ≡ false → fresh (u.page p) ≡ false
          → In e (slot_entries (deed u p) p (u.page p).slot_count) ⊎ In e (head_entries (deed u p) (u.page p) p) → PageEntry u p e
      either l f (inl a) = of_slot l f (slot_no_of e (u.page p).slot_count a)
      either l f (inr b) = head l f (same_head (u.page p) (mended u p)) refl b

      go : (a : Bool) → lost (u.page p) ≡ a → (b : Bool) → fresh (u.page p) ≡ b
          → In e (cond a (entry p 65535 5 ∷ []) (cond b [] (slot_entries (deed u p) p (u.page p).slot_count ++ head_entries (deed u p) (u.page p) p)))
          → PageEntry u p e
      go true l b f (inl w) = of_lost l w
      go true l b f (inr w) = absurd w
      go false l true f w = absurd w
      go false l false f w = either l f (in_either e (slot_entries (deed u p) p (u.page p).slot_count) (head_entries (deed u p) (u.page p) p) w)

  page_in : (e : Entry) → PageEntry u p e → In e (page_entries u p)
  unfolding page_entries
  page_in e (of_slot l f w) =
      rw (l, f, w.is) (in_left (entry p w.slot (deed_no (deed u p w.slot))) (slot_entries (deed u p) p (u.page p).slot_count)
      (head_entries (deed u p) (u.page p) p) (slot_in_lem (u.page p).slot_count w.slot w.below w.changes))
  page_in e (of_head l f q w) = rw (l, f) (in_right e (slot_entries (deed u p) p (u.page p).slot_count) (head_entries (deed u p) (u.page p) p) (rw q (inl w)))
  page_in e (of_lost l w) = rw l (inl w)

seg_in : (u : SegView) (e : Entry) (n p : ℕ) → p < n → In e (page_entries u p) → In e (seg_entries u n)
unfolding seg_entries
seg_in u e zero p l h = absurd (not-suc-le-zero l)
seg_in u e (suc n) p l h = go (seg_in u e n p) (ℕ_discrete p n)
  where
    go : (p < n → In e (page_entries u p) → In e (seg_entries u n)) → Dec (p ≡ n) → In e (seg_entries u n ++ page_entries u n)
    go ih (yes d) = in_right e (seg_entries u n) (page_entries u n) (subst (λ (x : ℕ). In e (page_entries u x)) d h)
    go ih (no d) = in_left e (seg_entries u n) (page_entries u n) (ih (omega arith) h)

record OnSome (u : SegView) (n : ℕ) (e : Entry) : Type 0 where
  page : ℕ
  below : page < n
  entry : PageEntry u page e

seg_of : (u : SegView) (e : Entry) (n : ℕ) → In e (seg_entries u n) → OnSome u n e
unfolding seg_entries
seg_of u e zero h = absurd h
seg_of u e (suc n) h = go (seg_of u e n) (in_either e (seg_entries u n) (page_entries u n) h)
  where
    go : (In e (seg_entries u n) → OnSome u n e) → In e (seg_entries u n) ⊎ In e (page_entries u n) → OnSome u (suc n) e
    go ih (inl a) = let w = ih a in record { page = w.page; below = omega (arith, w.below); entry = w.entry }
    go ih (inr b) = record { page = n; below = omega arith; entry = page_of_lem u n e b }

pub entry_of : (u : SegView) (v : List ℕ) (e : Entry) → In e (entries u v) → AnyEntry u v e
unfolding entries
entry_of u v e h = go (in_either e (seg_entries u u.pages) (inv_entries u v) h)
  where
    inv : (b : Bool) → same_inv v (true_of u) ≡ b → In e (cond b [] (entry u.pages 65536 6 ∷ [])) → AnyEntry u v e
    inv true q w = absurd w
    inv false q (inl w) = of_inv q w
    inv false q (inr w) = absurd w

    go : In e (seg_entries u u.pages) ⊎ In e (inv_entries u v) → AnyEntry u v e
    go (inl a) = let w = seg_of u e u.pages a in of_page w.page w.below w.entry
    go (inr b) = inv (same_inv v (true_of u)) refl b

pub entry_in : (u : SegView) (v : List ℕ) (e : Entry) → AnyEntry u v e → In e (entries u v)
unfolding entries
entry_in u v e (of_page p l w) = in_left e (seg_entries u u.pages) (inv_entries u v) (seg_in u e u.pages p l (page_in u p e w))
entry_in u v e (of_inv q w) = in_right e (seg_entries u u.pages) (inv_entries u v) (rw q (inl w))

-- ---- "The number in each fits what changed"

pub deed_tells : (u : SegView) (p k : ℕ) (x : Slot) → changes (deed_by u p k x) ≡ true → Tells x (slot_done (deed_by u p k x) x) (deed_no (deed_by u p k x))
deed_tells u p k (Ordinary o l) =
    by_test (λ (d : Deed). changes d ≡ true → Tells (Ordinary o l) (slot_done d (Ordinary o l)) (deed_no d)) (keeps (u.page p) k) Stays RecordFreed
    (λ q e. let z : ◌≡◌ {A = ℕ} 0 1 = cc in absurd (omega arith)) (λ q e. freed_record (Ordinary o l) refl)
deed_tells u p k Free = λ e. let z : ◌≡◌ {A = ℕ} 0 1 = cc in absurd (omega arith)
deed_tells u p k (Redirect t) =
    by_test (λ (d : Deed). changes d ≡ true → Tells (Redirect t) (slot_done d (Redirect t)) (deed_no d)) (holds u (id_of p k) t) Stays RedirectFreed
    (λ q e. let z : ◌≡◌ {A = ℕ} 0 1 = cc in absurd (omega arith)) (λ q e. freed_redirect t)
deed_tells u p k (Target o l) =
    by_test (λ (d : Deed). changes d ≡ true → Tells (Target o l) (slot_done d (Target o l)) (deed_no d)) (keeps (u.page p) k)
    (cond (named u (id_of p k)) Stays MadeOrdinary) RecordFreed
    (λ q. by_test (λ (d : Deed). changes d ≡ true → Tells (Target o l) (slot_done d (Target o l)) (deed_no d)) (named u (id_of p k)) Stays MadeOrdinary
    (λ w e. let z : ◌≡◌ {A = ℕ} 0 1 = cc in absurd (omega arith)) (λ w e. made_ordinary o l))
    (λ q e. freed_record (Target o l) refl)

tells_differ : (x y : Slot) (n : ℕ) → Tells x y n → y ≢ x
tells_differ x y n (freed_record (Ordinary o l) r) e = let z : ◌≡◌ {A = ℕ} 0 1 = cc in omega arith
tells_differ x y n (freed_record Free r) e = let z : ◌≡◌ {A = ℕ} 0 1 = cc in omega arith
tells_differ x y n (freed_record (Redirect t) r) e = let z : ◌≡◌ {A = ℕ} 0 1 = cc in omega arith
tells_differ x y n (freed_record (Target o l) r) e = let z : ◌≡◌ {A = ℕ} 0 1 = cc in omega arith
tells_differ x y n (freed_redirect t) e = let z : ◌≡◌ {A = ℕ} 0 1 = cc in omega arith
tells_differ x y n (made_ordinary o l) e = let z : ◌≡◌ {A = ℕ} 0 1 = cc in omega arith

pub slot_differs : (u : SegView) (p k : ℕ) → changes (deed u p k) ≡ true → slot_after u p k ≢ (u.page p).at k
unfolding deed
slot_differs u p k c = tells_differ ((u.page p).at k) (slot_after u p k) (deed_no (deed u p k)) (deed_tells u p k ((u.page p).at k) c)

-- ---- bytes that differ, on one page

header_part : (a b : List ℕ) (j m : ℕ) → j + m ≤ 12 → cut a 0 12 ≡ cut b 0 12 → cut a j m ≡ cut b j m
header_part a b j m h e = sym (cut_take a 12 j m h) ∙ ap (λ (l : List ℕ). cut l j m) e ∙ cut_take b 12 j m h

-- a view's numbers, from equal header bytes
module _ (a b : List ℕ) (e : cut a 0 12 ≡ cut b 0 12) where
  pub same_count : (view a).slot_count ≡ (view b).slot_count
  unfolding view
  same_count = ap be (header_part a b 0 2 (omega arith) e)

  pub same_first : (view a).first_free ≡ (view b).first_free
  unfolding view
  same_first = ap be (header_part a b 2 2 (omega arith) e)

  pub same_start : (view a).data_start ≡ (view b).data_start
  unfolding view
  same_start = ap be (header_part a b 4 4 (omega arith) e)

  pub same_space : (view a).free_space ≡ (view b).free_space
  unfolding view
  same_space = ap be (header_part a b 8 4 (omega arith) e)

pub same_entry : (a b : List ℕ) (k : ℕ) → (view a).slot_count ≡ (view b).slot_count → cut a (12 + 8 * k) 8 ≡ cut b (12 + 8 * k) 8
    → (view a).at k ≡ (view b).at k
unfolding view
same_entry a b k n e = λ i. cond (ltb k (n i)) (slot_of (be (e i))) Free

zero_header : (v : View) → v.slot_count ≡ 0 → v.first_free ≡ 0 → v.data_start ≡ 0 → v.free_space ≡ 0 → lost v ≡ false
zero_header v a b c d = rw (a, b, c, d)

after_is : (u : SegView) (p : ℕ) → lost (u.page p) ≡ false → fresh (u.page p) ≡ false → page_after u p ≡ mended u p
unfolding page_after
after_is u p l f = λ i. cond (l i) emptied (cond (f i) (u.page p) (mended u p))

module _ (u : SegView) (p : ℕ) (q : List ℕ) (is : view q ≡ u.page p) (whole : length q ≡ 16384) where
  mended_view : lost (u.page p) ≡ false → fresh (u.page p) ≡ false → view (page_bytes u p q) ≡ mended u p
  mended_view l f = page_seen u p q is whole ∙ after_is u p l f

  pub slot_bytes_differ : (k : ℕ) → lost (u.page p) ≡ false → fresh (u.page p) ≡ false → changes (deed u p k) ≡ true
      → cut (page_bytes u p q) (12 + 8 * k) 8 ≢ cut q (12 + 8 * k) 8
  slot_bytes_differ k l f c e =
      let m = mended_view l f in
      let n : (view (page_bytes u p q)).slot_count ≡ (view q).slot_count =
      ap (λ (v : View). v.slot_count) m ∙ mended_count u p ∙ sym (ap (λ (v : View). v.slot_count) is) in
      slot_differs u p k c (sym (mended_at u p k) ∙ sym (ap (λ (v : View). v.at k) m) ∙ same_entry (page_bytes u p q) q k n e ∙ ap (λ (v : View). v.at k) is)

  pub head_bytes_differ : lost (u.page p) ≡ false → fresh (u.page p) ≡ false → same_head (u.page p) (mended u p) ≡ false
      → cut (page_bytes u p q) 0 12 ≢ cut q 0 12
  head_bytes_differ l f h e =
      let m = mended_view l f in
      let a : (u.page p).first_free ≡ (mended u p).first_free =
      sym (ap (λ (v : View). v.first_free) is) ∙ sym (same_first (page_bytes u p q) q e) ∙ ap (λ (v : View). v.first_free) m in
      let b : (u.page p).data_start ≡ (mended u p).data_start =
      sym (ap (λ (v : View). v.data_start) is) ∙ sym (same_start (page_bytes u p q) q e) ∙ ap (λ (v : View). v.data_start) m in
      let c : (u.page p).free_space ≡ (mended u p).free_space =
      sym (ap (λ (v : View). v.free_space) is) ∙ sym (same_space (page_bytes u p q) q e) ∙ ap (λ (v : View). v.free_space) m in
      let t = and_in (eqb (u.page p).first_free (mended u p).first_free)
      (eqb (u.page p).data_start (mended u p).data_start && eqb (u.page p).free_space (mended u p).free_space)
      (eq-eqb (u.page p).first_free (mended u p).first_free a)
      (and_in (eqb (u.page p).data_start (mended u p).data_start) (eqb (u.page p).free_space (mended u p).free_space)
      (eq-eqb (u.page p).data_start (mended u p).data_start b) (eq-eqb (u.page p).free_space (mended u p).free_space c)) in
      let z : ◌≡◌ {A = ℕ} 0 1 = cc in omega arith

  pub lost_bytes_differ : lost (u.page p) ≡ true → cut (page_bytes u p q) 0 12 ≢ cut q 0 12
  lost_bytes_differ l e =
      let m : view (page_bytes u p q) ≡ emptied = page_seen u p q is whole ∙ lost_after u p l in
      let a : (u.page p).slot_count ≡ 0 =
      sym (ap (λ (v : View). v.slot_count) is) ∙ sym (same_count (page_bytes u p q) q e) ∙ ap (λ (v : View). v.slot_count) m in
      let b : (u.page p).first_free ≡ 0 =
      sym (ap (λ (v : View). v.first_free) is) ∙ sym (same_first (page_bytes u p q) q e) ∙ ap (λ (v : View). v.first_free) m in
      let c : (u.page p).data_start ≡ 0 =
      sym (ap (λ (v : View). v.data_start) is) ∙ sym (same_start (page_bytes u p q) q e) ∙ ap (λ (v : View). v.data_start) m in
      let d : (u.page p).free_space ≡ 0 =
      sym (ap (λ (v : View). v.free_space) is) ∙ sym (same_space (page_bytes u p q) q e) ∙ ap (λ (v : View). v.free_space) m in
      let g = zero_header (u.page p) a b c d in
      let z : ◌≡◌ {A = ℕ} 0 1 = cc in omega arith

  pub head_bytes_same : lost (u.page p) ≡ false → (fresh (u.page p) ≡ false → same_head (u.page p) (mended u p) ≡ true)
      → cut (page_bytes u p q) 0 12 ≡ cut q 0 12
  unfolding page_bytes
  head_bytes_same l h =
      ap (λ (b : Bool). cut (cond b (put q 0 (zeros 12)) (cond (fresh (u.page p)) q (put_mended (deed u p) (u.page p) q))) 0 12) l
      ∙ by_test (λ (x : List ℕ). cut x 0 12 ≡ cut q 0 12) (fresh (u.page p)) q (put_mended (deed u p) (u.page p) q) (λ f. refl)
      (λ f. ap (λ (b : Bool). cut (cond b (put_slots (deed u p) (u.page p) (u.page p).slot_count q)
      (put_head (mended u p) (put_slots (deed u p) (u.page p) (u.page p).slot_count q))) 0 12) (h f)
      ∙ slots_frame (deed u p) (u.page p) (u.page p).slot_count q 0 12 (inl (omega arith)))

  pub slot_bytes_same : (k : ℕ) → (lost (u.page p) ≡ false → fresh (u.page p) ≡ false → k < (u.page p).slot_count → changes (deed u p k) ≡ false)
      → cut (page_bytes u p q) (12 + 8 * k) 8 ≡ cut q (12 + 8 * k) 8
  slot_bytes_same k h = go (lost (u.page p)) refl (fresh (u.page p)) refl (dec_lt k (u.page p).slot_count)
    where
      past : (b : Bool) → lost (u.page p) ≡ b → cond b 12 (12 + 8 * (u.page p).slot_count) ≤ 12 + 8 * k → directory (u.page p) ≤ 12 + 8 * k
      past b e m = rw e m

      go : (a : Bool) → lost (u.page p) ≡ a → (b : Bool) → fresh (u.page p) ≡ b → Dec (k < (u.page p).slot_count)
          → cut (page_bytes u p q) (12 + 8 * k) 8 ≡ cut q (12 + 8 * k) 8
      go true l b f d = page_past_directory u p q (12 + 8 * k) 8 (past true l (omega arith))
      go false l b f (no d) = page_past_directory u p q (12 + 8 * k) 8 (past false l (omega arith))
      go false l true f (yes d) = absurd (omega (arith, fresh_none (u.page p) f))
      go false l false f (yes d) = page_slot_same u p q k l d (h l f d)

-- ---- law 3: entries are exactly the changes

same_self : (v : List ℕ) → same_inv v v ≡ true
unfolding same_inv
same_self v =
    and_in (all 15 (λ c. eqb (entry_at v c) (entry_at v c))) (same_bytes (drop 120 v) (drop 120 v))
    (all_in 15 (λ c. eqb (entry_at v c) (entry_at v c)) (λ c l. eq-eqb (entry_at v c) (entry_at v c) refl)) (same_own (drop 120 v))

inv_differs : (u : SegView) (v : List ℕ) → same_inv v (true_of u) ≡ false → inv_after u v ≢ v
unfolding inv_after
inv_differs u v h e =
    let a : true_of u ≡ v = sym (ap (λ (b : Bool). cond b v (true_of u)) h) ∙ e in
    let b : same_inv v (true_of u) ≡ true = ap (same_inv v) a ∙ same_self v in
    let z : ◌≡◌ {A = ℕ} 0 1 = cc in omega arith

inv_same : (u : SegView) (v : List ℕ) → same_inv v (true_of u) ≡ true → inv_after u v ≡ v
unfolding inv_after
inv_same u v h = ap (λ (b : Bool). cond b v (true_of u)) h

module _ (s : List ℕ) (whole : length s % 16384 ≡ 0) (v : List ℕ) where
  abbrev us : SegView
  us = standing s

  unfoldable pub SlotChanges : ℕ → ℕ → Type 0
  SlotChanges p k = cut (page_of (repaired_seg s whole) p) (12 + 8 * k) 8 ≢ cut (page_of s p) (12 + 8 * k) 8

  unfoldable pub HeadChanges : ℕ → Type 0
  HeadChanges p = cut (page_of (repaired_seg s whole) p) 0 12 ≢ cut (page_of s p) 0 12

  long : (p : ℕ) → p < length s / 16384 → length (page_of s p) ≡ 16384
  long p l = length_page s p (omega arith)

  slot_changes : (p k : ℕ) → p < length s / 16384 → cut (page_bytes us p (page_of s p)) (12 + 8 * k) 8 ≢ cut (page_of s p) (12 + 8 * k) 8 → SlotChanges p k
  unfolding SlotChanges
  slot_changes p k l n e = n (ap (λ (q : List ℕ). cut q (12 + 8 * k) 8) (sym (repaired_page s whole p l)) ∙ e)

  head_changes : (p : ℕ) → p < length s / 16384 → cut (page_bytes us p (page_of s p)) 0 12 ≢ cut (page_of s p) 0 12 → HeadChanges p
  unfolding HeadChanges
  head_changes p l n e = n (ap (λ (q : List ℕ). cut q 0 12) (sym (repaired_page s whole p l)) ∙ e)

  -- what changes is told
  pub slot_told : (p k : ℕ) → p < length s / 16384 → SlotChanges p k → In (entry p k (deed_no (deed us p k))) (entries us v)
  unfolding SlotChanges
  slot_told p k l n = go (lost (us.page p)) refl (fresh (us.page p)) refl (dec_lt k (us.page p).slot_count) (changes (deed us p k)) refl
    where
      same : (lost (us.page p) ≡ false → fresh (us.page p) ≡ false → k < (us.page p).slot_count → changes (deed us p k) ≡ false) → ⊥
      same h =
          n (ap (λ (q : List ℕ). cut q (12 + 8 * k) 8) (repaired_page s whole p l)
          ∙ slot_bytes_same us p (page_of s p) (sym (standing_page s p)) (long p l) k h)

      go : (a : Bool) → lost (us.page p) ≡ a → (b : Bool) → fresh (us.page p) ≡ b → Dec (k < (us.page p).slot_count) → (c : Bool) → changes (deed us p k) ≡ c
          → In (entry p k (deed_no (deed us p k))) (entries us v)
      go true a b f d c e = absurd (same (λ x y m. let z : ◌≡◌ {A = ℕ} 0 1 = cc in absurd (omega arith)))
      go false a true f d c e = absurd (same (λ x y m. let z : ◌≡◌ {A = ℕ} 0 1 = cc in absurd (omega arith)))
      go false a false f (no d) c e = absurd (same (λ x y m. absurd (d m)))
      go false a false f (yes d) false e = absurd (same (λ x y m. e))
      go false a false f (yes d) true e =
          entry_in us v (entry p k (deed_no (deed us p k))) (of_page p (omega (arith, standing_pages s))
          (of_slot a f (record { slot = k; below = d; changes = e; is = refl })))

  pub head_told : (p : ℕ) → p < length s / 16384 → HeadChanges p → In (entry p 65535 (cond (lost (us.page p)) 5 4)) (entries us v)
  unfolding HeadChanges
  head_told p l n = go (lost (us.page p)) refl (fresh (us.page p)) refl (same_head (us.page p) (mended us p)) refl
    where
      same : lost (us.page p) ≡ false → (fresh (us.page p) ≡ false → same_head (us.page p) (mended us p) ≡ true) → ⊥
      same a h = n (ap (λ (q : List ℕ). cut q 0 12) (repaired_page s whole p l) ∙ head_bytes_same us p (page_of s p) (sym (standing_page s p)) (long p l) a h)

      below : p < us.pages
      below = omega (arith, standing_pages s)

      go : (a : Bool) → lost (us.page p) ≡ a → (b : Bool) → fresh (us.page p) ≡ b → (c : Bool) → same_head (us.page p) (mended us p) ≡ c
          → In (entry p 65535 (cond a 5 4)) (entries us v)
      go true a b f c e = entry_in us v (entry p 65535 5) (of_page p below (of_lost a refl))
      go false a true f c e = absurd (same a (λ y. let z : ◌≡◌ {A = ℕ} 0 1 = cc in absurd (omega arith)))
      go false a false f true e = absurd (same a (λ y. e))
      go false a false f false e = entry_in us v (entry p 65535 4) (of_page p below (of_head a f e refl))

  pub inv_told : inv_after us v ≢ v → In (entry us.pages 65536 6) (entries us v)
  inv_told n = go (same_inv v (true_of us)) refl
    where
      go : (b : Bool) → same_inv v (true_of us) ≡ b → In (entry us.pages 65536 6) (entries us v)
      go true e = absurd (n (inv_same us v e))
      go false e = entry_in us v (entry us.pages 65536 6) (of_inv e refl)

  -- and what is told changes
  pub record SlotTold (p k d : ℕ) : Type 0 where
    pub below : p < length s / 16384
    pub counted : k < (us.page p).slot_count
    pub what : d ≡ deed_no (deed us p k)
    pub changes : SlotChanges p k
    pub tells : Tells ((view (page_of s p)).at k) ((view (page_of (repaired_seg s whole) p)).at k) d

  tells_at : (p k : ℕ) → changes (deed us p k) ≡ true → Tells ((us.page p).at k) (slot_after us p k) (deed_no (deed us p k))
  unfolding deed
  tells_at p k c = deed_tells us p k ((us.page p).at k) c

  tells_now : (p k : ℕ) → p < length s / 16384 → lost (us.page p) ≡ false → fresh (us.page p) ≡ false → changes (deed us p k) ≡ true
      → Tells ((view (page_of s p)).at k) ((view (page_of (repaired_seg s whole) p)).at k) (deed_no (deed us p k))
  tells_now p k l a f c =
      let w : (view (page_of (repaired_seg s whole) p)).at k ≡ slot_after us p k =
      ap (λ (v : View). v.at k) (repaired_view s whole p l ∙ after_is us p a f) ∙ mended_at us p k in
      subst (λ (x : Slot). Tells ((view (page_of s p)).at k) x (deed_no (deed us p k))) (sym w)
      (subst (λ (x : View). Tells (x.at k) (slot_after us p k) (deed_no (deed us p k))) (standing_page s p) (tells_at p k c))

  pub slot_only : (p k d : ℕ) → k < 65535 → In (entry p k d) (entries us v) → SlotTold p k d
  slot_only p k d small h = go (entry_of us v (entry p k d) h)
    where
      own : (r : ℕ) → r < us.pages → lost (us.page r) ≡ false → fresh (us.page r) ≡ false → (j : ℕ) → j < (us.page r).slot_count
          → changes (deed us r j) ≡ true → p ≡ r → k ≡ j → d ≡ deed_no (deed us r j) → SlotTold p k d
      own r l a f j m c ep ek ed =
          let l' : r < length s / 16384 = omega (arith, standing_pages s) in
          let t : SlotTold r j d = record {
            below = l';
            counted = m;
            what = ed;
            changes = slot_changes r j l' (slot_bytes_differ us r (page_of s r) (sym (standing_page s r)) (long r l') j a f c);
            tells =
                subst (λ (x : ℕ). Tells ((view (page_of s r)).at j) ((view (page_of (repaired_seg s whole) r)).at j) x) (sym ed) (tells_now r j l' a f c);
          } in
          subst (λ (x : ℕ). SlotTold x k d) (sym ep) (subst (λ (x : ℕ). SlotTold r x d) (sym ek) t)

      by : (r : ℕ) → r < us.pages → PageEntry us r (entry p k d) → SlotTold p k d
      by r l (of_slot a f w) =
          own r l a f w.slot w.below w.changes (ap (λ (x : Entry). x.page) w.is) (ap (λ (x : Entry). x.place) w.is)
          (ap (λ (x : Entry). x.what) w.is)
      by r l (of_head a f q w) = absurd (omega (arith, ap (λ (x : Entry). x.place) w))
      by r l (of_lost a w) = absurd (omega (arith, ap (λ (x : Entry). x.place) w))

      go : AnyEntry us v (entry p k d) → SlotTold p k d
      go (of_page r l w) = by r l w
      go (of_inv q w) = absurd (omega (arith, ap (λ (x : Entry). x.place) w))

  pub record HeadTold (p d : ℕ) : Type 0 where
    pub below : p < length s / 16384
    pub changes : HeadChanges p
    pub tells : TellsHeader (page_of s p) (page_of (repaired_seg s whole) p) d

  now_lost : (r : ℕ) (b : Bool) → lost (us.page r) ≡ b → lost (view (page_of s r)) ≡ b
  now_lost r b a = ap lost (sym (standing_page s r)) ∙ a

  count_stays : (r : ℕ) → r < length s / 16384 → lost (us.page r) ≡ false → fresh (us.page r) ≡ false
      → (view (page_of (repaired_seg s whole) r)).slot_count ≡ (view (page_of s r)).slot_count
  count_stays r l a f =
      ap (λ (w : View). w.slot_count) (repaired_view s whole r l ∙ after_is us r a f) ∙ mended_count us r ∙ ap (λ (w : View). w.slot_count) (standing_page s r)

  header_zero : (r : ℕ) → r < length s / 16384 → lost (us.page r) ≡ true → cut (page_of (repaired_seg s whole) r) 0 12 ≡ zeros 12
  unfolding page_bytes
  header_zero r l a =
      let q : List ℕ = page_of s r in
      let e : page_of (repaired_seg s whole) r ≡ put q 0 (zeros 12) =
      repaired_page s whole r l ∙ ap (λ (b : Bool). cond b (put q 0 (zeros 12)) (cond (fresh (us.page r)) q (put_mended (deed us r) (us.page r) q))) a in
      ap (λ (x : List ℕ). cut x 0 12) e ∙ cut_same q 0 (zeros 12) 12 refl (omega (arith, long r l))

  pub head_only : (p d : ℕ) → In (entry p 65535 d) (entries us v) → HeadTold p d
  head_only p d h = go (entry_of us v (entry p 65535 d) h)
    where
      head : (r : ℕ) → r < us.pages → lost (us.page r) ≡ false → fresh (us.page r) ≡ false → same_head (us.page r) (mended us r) ≡ false → d ≡ 4
          → HeadTold r d
      head r l a f q ed =
          let l' : r < length s / 16384 = omega (arith, standing_pages s) in
          record {
            below = l';
            changes = head_changes r l' (head_bytes_differ us r (page_of s r) (sym (standing_page s r)) (long r l') a f q);
            tells = subst (TellsHeader (page_of s r) (page_of (repaired_seg s whole) r)) (sym ed) (worked_out (now_lost r false a) (count_stays r l' a f));
          }

      gone : (r : ℕ) → r < us.pages → lost (us.page r) ≡ true → d ≡ 5 → HeadTold r d
      gone r l a ed =
          let l' : r < length s / 16384 = omega (arith, standing_pages s) in
          record {
            below = l';
            changes = head_changes r l' (lost_bytes_differ us r (page_of s r) (sym (standing_page s r)) (long r l') a);
            tells = subst (TellsHeader (page_of s r) (page_of (repaired_seg s whole) r)) (sym ed) (zeroed (now_lost r true a) (header_zero r l' a));
          }

      by : (r : ℕ) → r < us.pages → PageEntry us r (entry p 65535 d) → HeadTold p d
      by r l (of_slot a f w) = absurd (omega (arith, ap (λ (x : Entry). x.place) w.is, w.below, used (us.page r) a f))
      by r l (of_head a f q w) = subst (λ (x : ℕ). HeadTold x d) (sym (ap (λ (x : Entry). x.page) w)) (head r l a f q (ap (λ (x : Entry). x.what) w))
      by r l (of_lost a w) = subst (λ (x : ℕ). HeadTold x d) (sym (ap (λ (x : Entry). x.page) w)) (gone r l a (ap (λ (x : Entry). x.what) w))

      go : AnyEntry us v (entry p 65535 d) → HeadTold p d
      go (of_page r l w) = by r l w
      go (of_inv q w) = absurd (omega (arith, ap (λ (x : Entry). x.place) w))

  pub inv_only : (p d : ℕ) → In (entry p 65536 d) (entries us v) → (p ≡ us.pages) × (d ≡ 6) × (inv_after us v ≢ v)
  inv_only p d h = go (entry_of us v (entry p 65536 d) h)
    where
      go : AnyEntry us v (entry p 65536 d) → (p ≡ us.pages) × (d ≡ 6) × (inv_after us v ≢ v)
      go (of_page r l (of_slot a f w)) = absurd (omega (arith, ap (λ (x : Entry). x.place) w.is, w.below, used (us.page r) a f))
      go (of_page r l (of_head a f q w)) = absurd (omega (arith, ap (λ (x : Entry). x.place) w))
      go (of_page r l (of_lost a w)) = absurd (omega (arith, ap (λ (x : Entry). x.place) w))
      go (of_inv q w) = (ap (λ (x : Entry). x.page) w, ap (λ (x : Entry). x.what) w, inv_differs us v q)

-- ---- "entries ascend by (page, place)"

ascend : (xs ys : List Entry) → Ascending xs → Ascending ys → ((a b : Entry) → In a xs → In b ys → Before a b) → Ascending (xs ++ ys)
ascend [] ys h g m = g
ascend (x ∷ xs) ys h g m = (λ b w. first b (in_either b xs ys w), ascend xs ys h.1 g (λ a b p q. m a b (inr p) q))
  where
    first : (b : Entry) → In b xs ⊎ In b ys → Before x b
    first b (inl p) = h.0 b p
    first b (inr q) = m x b (inl refl) q

one_ascends : (c : Bool) (e : Entry) → Ascending (cond c (e ∷ []) [])
one_ascends true e = (λ b w. absurd w, tt)
one_ascends false e = tt

one_is : (c : Bool) (e b : Entry) → In b (cond c (e ∷ []) []) → b ≡ e
one_is true e b (inl q) = q
one_is true e b (inr q) = absurd q
one_is false e b q = absurd q

none_ascends : (c : Bool) (e : Entry) → Ascending (cond c [] (e ∷ []))
none_ascends true e = tt
none_ascends false e = (λ b w. absurd w, tt)

none_is : (c : Bool) (e b : Entry) → In b (cond c [] (e ∷ [])) → b ≡ e
none_is true e b q = absurd q
none_is false e b (inl q) = q
none_is false e b (inr q) = absurd q

slots_ascend : (u : SegView) (p n : ℕ) → Ascending (slot_entries (deed u p) p n)
slots_ascend u p zero = tt
slots_ascend u p (suc n) =
    ascend (slot_entries (deed u p) p n) (cond (changes (deed u p n)) (entry p n (deed_no (deed u p n)) ∷ []) []) (slots_ascend u p n)
    (one_ascends (changes (deed u p n)) (entry p n (deed_no (deed u p n))))
    (λ a b x y.
    let w = slot_no_of u p a n x in
    let q = one_is (changes (deed u p n)) (entry p n (deed_no (deed u p n))) b y in
    inr (
      ap (λ (z : Entry). z.page) w.is ∙ sym (ap (λ (z : Entry). z.page) q),
      omega (arith, w.below, ap (λ (z : Entry). z.place) w.is, ap (λ (z : Entry). z.place) q),
    ))

page_ascends : (u : SegView) (p : ℕ) → Ascending (page_entries u p)
unfolding page_entries
page_ascends u p = go (lost (u.page p)) refl (fresh (u.page p)) refl
  where
    go : (a : Bool) → lost (u.page p) ≡ a → (b : Bool) → fresh (u.page p) ≡ b
        → Ascending (cond a (entry p 65535 5 ∷ []) (cond b [] (slot_entries (deed u p) p (u.page p).slot_count ++ head_entries (deed u p) (u.page p) p)))
    go true l b f = (λ b w. absurd w, tt)
    go false l true f = tt
    go false l false f =
        ascend (slot_entries (deed u p) p (u.page p).slot_count) (head_entries (deed u p) (u.page p) p) (slots_ascend u p (u.page p).slot_count)
        (none_ascends (same_head (u.page p) (mended u p)) (entry p 65535 4))
        (λ a b x y.
        let w = slot_no_of u p a (u.page p).slot_count x in
        let q = none_is (same_head (u.page p) (mended u p)) (entry p 65535 4) b y in
        let m = used (u.page p) l f in
        inr (
          ap (λ (z : Entry). z.page) w.is ∙ sym (ap (λ (z : Entry). z.page) q),
          omega (arith, w.below, ap (λ (z : Entry). z.place) w.is, ap (λ (z : Entry). z.place) q),
        ))

on_page_lem : (u : SegView) (p : ℕ) (e : Entry) → PageEntry u p e → e.page ≡ p
on_page_lem u p e (of_slot l f w) = ap (λ (z : Entry). z.page) w.is
on_page_lem u p e (of_head l f q w) = ap (λ (z : Entry). z.page) w
on_page_lem u p e (of_lost l w) = ap (λ (z : Entry). z.page) w

seg_ascends : (u : SegView) (n : ℕ) → Ascending (seg_entries u n)
unfolding seg_entries
seg_ascends u zero = tt
seg_ascends u (suc n) =
    ascend (seg_entries u n) (page_entries u n) (seg_ascends u n) (page_ascends u n)
    (λ a b x y. let w = seg_of u a n x in inl (omega (arith, w.below, on_page_lem u w.page a w.entry, on_page_lem u n b (page_of_lem u n b y))))

pub entries_ascend : (u : SegView) (v : List ℕ) → Ascending (entries u v)
unfolding entries
entries_ascend u v =
    ascend (seg_entries u u.pages) (inv_entries u v) (seg_ascends u u.pages) (none_ascends (same_inv v (true_of u)) (entry u.pages 65536 6))
    (λ a b x y.
    let w = seg_of u a u.pages x in
    let q = none_is (same_inv v (true_of u)) (entry u.pages 65536 6) b y in
    inl (omega (arith, w.below, on_page_lem u w.page a w.entry, ap (λ (z : Entry). z.page) q)))

-- a place is a slot's number, the header's or the inventory's
pub place_most : (u : SegView) (v : List ℕ) (e : Entry) → In e (entries u v) → e.place ≤ 65536
place_most u v e h = go (entry_of u v e h)
  where
    go : AnyEntry u v e → e.place ≤ 65536
    go (of_page p l (of_slot a f w)) = omega (arith, ap (λ (x : Entry). x.place) w.is, w.below, used (u.page p) a f)
    go (of_page p l (of_head a f q w)) = omega (arith, ap (λ (x : Entry). x.place) w)
    go (of_page p l (of_lost a w)) = omega (arith, ap (λ (x : Entry). x.place) w)
    go (of_inv q w) = omega (arith, ap (λ (x : Entry). x.place) w)
