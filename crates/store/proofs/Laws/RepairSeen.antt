-- Nothing unseen is looked at: what repair tells and writes is a function of the number of pages, the inventory, the headers, the slots of pages
-- that are not lost, and the first 8 bytes of kept targets.
use Prim.Native.Nat.{ℕ, zero, suc, ◌+◌, ◌*◌, ◌/◌, ◌%◌, ◌≤◌, ◌<◌}
use Rattle.std.specs.Prelude.{◌≡◌, not, ◌&&◌, ◌||◌, length, leb}
use Rattle.std.proofs.Math.Path.{refl, sym, ap}
use Rattle.std.proofs.Common.{◌∙◌, arith}
use Rattle.std.proofs.Math.Bool.{Bool, true, false, cond}
use mathlib.Core.List.{List, [], ◌∷◌, ◌++◌}
use Rattle.std.proofs.Math.Decide.{dec_lt}
use Rattle.std.proofs.Math.Dec.{eqb, ltb}
use borrow.Author.Tests.{ltb-true, lt-ltb, not-true}
use Rattle.store.specs.Numbers.{put, zeros, to_be, id_of, page_no, slot_no}
use Rattle.store.specs.Slots.{slot_bytes, off, len, is_record, is_target}
use Rattle.store.specs.Page.{View, view, fresh}
use Rattle.store.specs.PageSteps.{next_free}
use Rattle.store.specs.Inventory.{update}
use Rattle.store.specs.Segment.{SegView, page_of, size_ok, inv_ok}
use Rattle.store.specs.SoundSegment.{slot_on, back_id}
use Rattle.store.specs.Repair.{standing, Repaired, repair_step}
use Rattle.store.specs.Repair.{lost, lies, clear, kept_below, is_in, keeps, kept, holds, redirects_to, named, deed_by, deed, changes, slot_done, slot_after}
use Rattle.store.specs.Repair.{start_after, space_after, mended, emptied, page_after, seg_after, same_head, put_slots, put_mended, page_bytes, true_inv}
use Rattle.store.specs.Repair.{true_of}
use Rattle.store.specs.Repair.{same_inv, inv_after, entry, deed_no, slot_entries, head_entries, page_entries, seg_entries, entries, mended_by}
use Rattle.store.specs.RepairTold.{LooksSame}
use Rattle.store.specs.declared.Deed.TheVariants.{Stays, RecordFreed, RedirectFreed, MadeOrdinary}
use Rattle.store.proofs.Laws.RepairPage.{used}
use Rattle.store.proofs.Laws.SoundPage.{and_both, and_in, past_free}
use Rattle.store.proofs.Laws.RepairEntries.{same_count, same_first, same_start, same_space, same_entry}
use Rattle.store.proofs.Laws.RepairCall.{wrong_size, no_place, carried_out}
use Rattle.store.proofs.Laws.Cases.{not_in}
use Rattle.store.specs.declared.Slot.{Slot}
use Rattle.store.specs.declared.Slot.TheVariants.{Ordinary, Free, Redirect, Target}

-- what is looked at, of what is seen of the pages
pub record SameSeen (a b : SegView) : Type 0 where
  pub pages : a.pages ≡ b.pages
  pub counts : (p : ℕ) → p < a.pages → (a.page p).slot_count ≡ (b.page p).slot_count
  pub firsts : (p : ℕ) → p < a.pages → (a.page p).first_free ≡ (b.page p).first_free
  pub starts : (p : ℕ) → p < a.pages → (a.page p).data_start ≡ (b.page p).data_start
  pub spaces : (p : ℕ) → p < a.pages → (a.page p).free_space ≡ (b.page p).free_space
  pub slots : (p : ℕ) → p < a.pages → lost (a.page p) ≡ false → (k : ℕ) → (a.page p).at k ≡ (b.page p).at k
  pub backs : (t : ℕ) → kept a t ≡ true → is_target (slot_on a t) ≡ true → back_id a t ≡ back_id b t
  pub past : (p : ℕ) → p < a.pages → (k : ℕ) → (a.page p).slot_count ≤ k → (a.page p).at k ≡ Free

kept_in : (a : SegView) (t : ℕ) → page_no t < a.pages → lost (a.page (page_no t)) ≡ false → keeps (a.page (page_no t)) (slot_no t) ≡ true → kept a t ≡ true
unfolding kept
kept_in a t l n k =
    and_in (ltb (page_no t) a.pages) (not (lost (a.page (page_no t))) && keeps (a.page (page_no t)) (slot_no t)) (lt-ltb (page_no t) a.pages l)
    (and_in (not (lost (a.page (page_no t)))) (keeps (a.page (page_no t)) (slot_no t)) (not_in (lost (a.page (page_no t))) n) k)

-- what is kept of a page is a function of its count and slots
module _ (v w : View) (c : v.slot_count ≡ w.slot_count) (e : (k : ℕ) → v.at k ≡ w.at k) where
  lies_same : (k : ℕ) → lies v k ≡ lies w k
  lies_same k = λ i.
      leb (off (e k i) + len (e k i)) 16384 && ((not (is_target (e k i)) || leb 8 (len (e k i))) && (eqb (len (e k i)) 0 || leb (12 + 8 * c i) (off (e k i))))

  clear_same : (k : ℕ) (js : List ℕ) → clear v k js ≡ clear w k js
  clear_same k [] = refl
  clear_same k (j ∷ js) = λ i.
      (eqb j k || eqb (len (e j i)) 0 || eqb (len (e k i)) 0 || leb (off (e j i) + len (e j i)) (off (e k i)) || leb (off (e k i) + len (e k i)) (off (e j i)))
      && clear_same k js i

  below_same : (k : ℕ) → kept_below v k ≡ kept_below w k
  unfolding kept_below
  below_same zero = refl
  below_same (suc k) =
      ap (λ (js : List ℕ). cond (is_record (v.at k) && (lies v k && clear v k js)) (k ∷ js) js) (below_same k)
      ∙ (λ i. cond (is_record (e k i) && (lies_same k i && clear_same k (kept_below w k) i)) (k ∷ kept_below w k) (kept_below w k))

  keeps_same : (k : ℕ) → keeps v k ≡ keeps w k
  unfolding keeps
  keeps_same k = ap (is_in k) (ap (kept_below v) c ∙ below_same w.slot_count)

-- four equal numbers are the header of a fresh page, or not
fresh_by : (v w : View) → v.slot_count ≡ w.slot_count → v.first_free ≡ w.first_free → v.data_start ≡ w.data_start → v.free_space ≡ w.free_space
    → fresh v ≡ fresh w
fresh_by v w c f d n = λ i.
    (eqb (c i) 0 && (eqb (f i) 0 && (eqb (d i) 0 && eqb (n i) 0))) || (eqb (c i) 0 && (eqb (f i) 0 && (eqb (d i) 16384 && eqb (n i) 16372)))

module _ (a b : SegView) (h : SameSeen a b) where
  fresh_same : (p : ℕ) → p < a.pages → fresh (a.page p) ≡ fresh (b.page p)
  fresh_same p l = fresh_by (a.page p) (b.page p) (h.counts p l) (h.firsts p l) (h.starts p l) (h.spaces p l)

  lost_same : (p : ℕ) → p < a.pages → lost (a.page p) ≡ lost (b.page p)
  lost_same p l = λ i. ltb 2046 (h.counts p l i) || eqb (h.counts p l i) 0 && not (fresh_same p l i)

  page_keeps : (p : ℕ) → p < a.pages → lost (a.page p) ≡ false → (k : ℕ) → keeps (a.page p) k ≡ keeps (b.page p) k
  page_keeps p l n = keeps_same (a.page p) (b.page p) (h.counts p l) (h.slots p l n)

  kept_same : (t : ℕ) → kept a t ≡ kept b t
  unfolding kept
  kept_same t = go (ltb (page_no t) a.pages) refl (lost (a.page (page_no t))) refl
    where
      go : (x : Bool) → ltb (page_no t) a.pages ≡ x → (y : Bool) → lost (a.page (page_no t)) ≡ y
          → (ltb (page_no t) a.pages && (not (lost (a.page (page_no t))) && keeps (a.page (page_no t)) (slot_no t)))
          ≡ (ltb (page_no t) b.pages && (not (lost (b.page (page_no t))) && keeps (b.page (page_no t)) (slot_no t)))
      go false e y f =
          let g : ltb (page_no t) b.pages ≡ false = ap (ltb (page_no t)) (sym h.pages) ∙ e in
          ap (λ (x : Bool). x && (not (lost (a.page (page_no t))) && keeps (a.page (page_no t)) (slot_no t))) e
          ∙ sym (ap (λ (x : Bool). x && (not (lost (b.page (page_no t))) && keeps (b.page (page_no t)) (slot_no t))) g)
      go true e true f =
          let l = ltb-true (page_no t) a.pages e in
          let g : lost (b.page (page_no t)) ≡ true = sym (lost_same (page_no t) l) ∙ f in
          (λ i. ltb (page_no t) (h.pages i) && (not (f i) && keeps (a.page (page_no t)) (slot_no t)))
          ∙ sym (ap (λ (y : Bool). ltb (page_no t) b.pages && (not y && keeps (b.page (page_no t)) (slot_no t))) g)
      go true e false f =
          let l = ltb-true (page_no t) a.pages e in
          λ i. ltb (page_no t) (h.pages i) && (not (lost_same (page_no t) l i) && page_keeps (page_no t) l f (slot_no t) i)

  -- a kept record's page
  kept_page : (t : ℕ) → kept a t ≡ true → (page_no t < a.pages) × (lost (a.page (page_no t)) ≡ false)
  unfolding kept
  kept_page t e =
      let x = and_both (ltb (page_no t) a.pages) (not (lost (a.page (page_no t))) && keeps (a.page (page_no t)) (slot_no t)) e in
      let y = and_both (not (lost (a.page (page_no t)))) (keeps (a.page (page_no t)) (slot_no t)) x.1 in
      (ltb-true (page_no t) a.pages x.0, not-true (lost (a.page (page_no t))) y.0)

  holds_same : (i t : ℕ) → holds a i t ≡ holds b i t
  unfolding holds
  holds_same i t = go (kept a t) refl (is_target (slot_on a t)) refl
    where
      go : (x : Bool) → kept a t ≡ x → (y : Bool) → is_target (slot_on a t) ≡ y
          → (kept a t && (is_target (slot_on a t) && (not (eqb (page_no t) (page_no i)) && eqb (back_id a t) i)))
          ≡ (kept b t && (is_target (slot_on b t) && (not (eqb (page_no t) (page_no i)) && eqb (back_id b t) i)))
      go false e y f =
          ap (λ (x : Bool). x && (is_target (slot_on a t) && (not (eqb (page_no t) (page_no i)) && eqb (back_id a t) i))) e
          ∙ sym (ap (λ (x : Bool). x && (is_target (slot_on b t) && (not (eqb (page_no t) (page_no i)) && eqb (back_id b t) i))) (sym (kept_same t) ∙ e))
      go true e false f =
          let w = kept_page t e in
          let g : is_target (slot_on b t) ≡ false = ap is_target (sym (h.slots (page_no t) w.0 w.1 (slot_no t))) ∙ f in
          (λ z. kept_same t z && (f z && (not (eqb (page_no t) (page_no i)) && eqb (back_id a t) i)))
          ∙ sym (ap (λ (y : Bool). kept b t && (y && (not (eqb (page_no t) (page_no i)) && eqb (back_id b t) i))) g)
      go true e true f =
          let w = kept_page t e in
          λ z. kept_same t z && (is_target (h.slots (page_no t) w.0 w.1 (slot_no t) z) && (not (eqb (page_no t) (page_no i)) && eqb (h.backs t e f z) i))

  -- of a kept target
  named_same : (t : ℕ) → kept a t ≡ true → is_target (slot_on a t) ≡ true → named a t ≡ named b t
  unfolding named
  named_same t e f = by (back_id a t) ∙ ap at_b (h.backs t e f)
    where
      at_a : ℕ → Bool
      at_a x = ltb (page_no x) a.pages && (not (lost (a.page (page_no x))) && (redirects_to t (slot_on a x) && holds a x t))

      at_b : ℕ → Bool
      at_b x = ltb (page_no x) b.pages && (not (lost (b.page (page_no x))) && (redirects_to t (slot_on b x) && holds b x t))

      by : (x : ℕ) → at_a x ≡ at_b x
      by x = go (ltb (page_no x) a.pages) refl (lost (a.page (page_no x))) refl
        where
          go : (y : Bool) → ltb (page_no x) a.pages ≡ y → (z : Bool) → lost (a.page (page_no x)) ≡ z → at_a x ≡ at_b x
          go false q z r =
              let g : ltb (page_no x) b.pages ≡ false = ap (ltb (page_no x)) (sym h.pages) ∙ q in
              ap (λ (y : Bool). y && (not (lost (a.page (page_no x))) && (redirects_to t (slot_on a x) && holds a x t))) q
              ∙ sym (ap (λ (y : Bool). y && (not (lost (b.page (page_no x))) && (redirects_to t (slot_on b x) && holds b x t))) g)
          go true q true r =
              let l = ltb-true (page_no x) a.pages q in
              let g : lost (b.page (page_no x)) ≡ true = sym (lost_same (page_no x) l) ∙ r in
              (λ i. ltb (page_no x) (h.pages i) && (not (r i) && (redirects_to t (slot_on a x) && holds a x t)))
              ∙ sym (ap (λ (y : Bool). ltb (page_no x) b.pages && (not y && (redirects_to t (slot_on b x) && holds b x t))) g)
          go true q false r =
              let l = ltb-true (page_no x) a.pages q in
              λ i. ltb (page_no x) (h.pages i) && (not (lost_same (page_no x) l i) &&
              (redirects_to t (h.slots (page_no x) l r (slot_no x) i) && holds_same x t i))

  -- ---- slots and pages

  module _ (p : ℕ) (l : p < a.pages) (n : lost (a.page p) ≡ false) (few : (a.page p).slot_count ≤ 2046) where
    deed_by_lem : (k : ℕ) → k < (a.page p).slot_count → (x : Slot) → (a.page p).at k ≡ x → deed_by a p k x ≡ deed_by b p k x
    deed_by_lem k m (Ordinary o z) e = ap (λ (c : Bool). cond c Stays RecordFreed) (page_keeps p l n k)
    deed_by_lem k m Free e = refl
    deed_by_lem k m (Redirect t) e = ap (λ (c : Bool). cond c Stays RedirectFreed) (holds_same (id_of p k) t)
    deed_by_lem k m (Target o z) e = go (keeps (a.page p) k) refl
      where
        pn : page_no (id_of p k) ≡ p
        pn = omega arith

        sn : slot_no (id_of p k) ≡ k
        sn = omega arith

        here : slot_on a (id_of p k) ≡ Target o z
        here = (λ i. (a.page (pn i)).at (sn i)) ∙ e

        own : keeps (a.page p) k ≡ true → kept a (id_of p k) ≡ true
        own q = kept_in a (id_of p k) (omega (arith, pn)) ((λ i. lost (a.page (pn i))) ∙ n) ((λ i. keeps (a.page (pn i)) (sn i)) ∙ q)

        go : (c : Bool) → keeps (a.page p) k ≡ c
            → cond (keeps (a.page p) k) (cond (named a (id_of p k)) Stays MadeOrdinary) RecordFreed
            ≡ cond (keeps (b.page p) k) (cond (named b (id_of p k)) Stays MadeOrdinary) RecordFreed
        go true q = λ i. cond (page_keeps p l n k i) (cond (named_same (id_of p k) (own q) (ap is_target here) i) Stays MadeOrdinary) RecordFreed
        go false q =
            ap (λ (c : Bool). cond c (cond (named a (id_of p k)) Stays MadeOrdinary) RecordFreed) q
            ∙ sym (ap (λ (c : Bool). cond c (cond (named b (id_of p k)) Stays MadeOrdinary) RecordFreed) (sym (page_keeps p l n k) ∙ q))

    pub deed_same : (k : ℕ) → deed a p k ≡ deed b p k
    unfolding deed
    deed_same k = go (dec_lt k (a.page p).slot_count)
      where
        go : Dec (k < (a.page p).slot_count) → deed_by a p k ((a.page p).at k) ≡ deed_by b p k ((b.page p).at k)
        go (yes m) = deed_by_lem k m ((a.page p).at k) refl ∙ ap (deed_by b p k) (h.slots p l n k)
        go (no m) =
            let e : (a.page p).at k ≡ Free = h.past p l k (omega arith) in
            let f : (b.page p).at k ≡ Free = sym (h.slots p l n k) ∙ e in
            ap (deed_by a p k) e ∙ sym (ap (deed_by b p k) f)

    after_same : slot_after a p ≡ slot_after b p
    after_same = λ i k. slot_done (deed_same k i) (h.slots p l n k i)

    first_same : (mended a p).first_free ≡ (mended b p).first_free
    unfolding mended_by
    first_same = λ i. next_free (h.counts p l i) (after_same i) 0

    start_same : (mended a p).data_start ≡ (mended b p).data_start
    unfolding mended_by
    start_same = λ i. start_after (h.counts p l i) (h.starts p l i) (after_same i)

    space_same : (mended a p).free_space ≡ (mended b p).free_space
    unfolding mended_by
    space_same = λ i. space_after (h.counts p l i) (after_same i)

    count_same : (mended a p).slot_count ≡ (mended b p).slot_count
    unfolding mended_by
    count_same = h.counts p l

    head_same_lem : same_head (a.page p) (mended a p) ≡ same_head (b.page p) (mended b p)
    head_same_lem = λ i. eqb (h.firsts p l i) (first_same i) && (eqb (h.starts p l i) (start_same i) && eqb (h.spaces p l i) (space_same i))

    slots_written : (m : ℕ) (q : List ℕ) → put_slots (deed a p) (a.page p) m q ≡ put_slots (deed b p) (b.page p) m q
    slots_written zero q = refl
    slots_written (suc m) q = λ i. cond (changes (deed_same m i)) (put (slots_written m q i) (12 + 8 * m) (slot_bytes (after_same i m))) (slots_written m q i)

    slots_told : (m : ℕ) → slot_entries (deed a p) p m ≡ slot_entries (deed b p) p m
    slots_told zero = refl
    slots_told (suc m) = λ i. slots_told m i ++ cond (changes (deed_same m i)) (entry p m (deed_no (deed_same m i)) ∷ []) []

    mended_written : (q : List ℕ) → put_mended (deed a p) (a.page p) q ≡ put_mended (deed b p) (b.page p) q
    mended_written q = λ i.
        cond (head_same_lem i) (all_slots q i)
        (put (all_slots q i) 0 (to_be 2 (count_same i) ++ (to_be 2 (first_same i) ++ (to_be 4 (start_same i) ++ to_be 4 (space_same i)))))
      where
        all_slots : (q : List ℕ) → put_slots (deed a p) (a.page p) (a.page p).slot_count q ≡ put_slots (deed b p) (b.page p) (b.page p).slot_count q
        all_slots q = ap (λ (m : ℕ). put_slots (deed a p) (a.page p) m q) (h.counts p l) ∙ slots_written (b.page p).slot_count q

  -- law 8: the same is written on every page, and the same is told of it
  pub page_written : (p : ℕ) → p < a.pages → (q : List ℕ) → page_bytes a p q ≡ page_bytes b p q
  unfolding page_bytes
  page_written p l q = go (lost (a.page p)) refl (fresh (a.page p)) refl
    where
      go : (x : Bool) → lost (a.page p) ≡ x → (y : Bool) → fresh (a.page p) ≡ y
          → cond (lost (a.page p)) (put q 0 (zeros 12)) (cond (fresh (a.page p)) q (put_mended (deed a p) (a.page p) q))
          ≡ cond (lost (b.page p)) (put q 0 (zeros 12)) (cond (fresh (b.page p)) q (put_mended (deed b p) (b.page p) q))
      go true e y f =
          ap (λ (x : Bool). cond x (put q 0 (zeros 12)) (cond (fresh (a.page p)) q (put_mended (deed a p) (a.page p) q))) e
          ∙ sym (ap (λ (x : Bool). cond x (put q 0 (zeros 12)) (cond (fresh (b.page p)) q (put_mended (deed b p) (b.page p) q))) (sym (lost_same p l) ∙ e))
      go false e true f =
          (λ i. cond (lost_same p l i) (put q 0 (zeros 12)) (cond (f i) q (put_mended (deed a p) (a.page p) q)))
          ∙ sym (ap (λ (y : Bool). cond (lost (b.page p)) (put q 0 (zeros 12)) (cond y q (put_mended (deed b p) (b.page p) q))) (sym (fresh_same p l) ∙ f))
      go false e false f =
          λ i. cond (lost_same p l i) (put q 0 (zeros 12)) (cond (fresh_same p l i) q (mended_written p l e (used (a.page p) e f).1 q i))

  pub page_told : (p : ℕ) → p < a.pages → page_entries a p ≡ page_entries b p
  unfolding page_entries
  page_told p l = go (lost (a.page p)) refl (fresh (a.page p)) refl
    where
      go : (x : Bool) → lost (a.page p) ≡ x → (y : Bool) → fresh (a.page p) ≡ y
          → cond (lost (a.page p)) (entry p 65535 5 ∷ [])
          (cond (fresh (a.page p)) [] (slot_entries (deed a p) p (a.page p).slot_count ++ head_entries (deed a p) (a.page p) p))
          ≡ cond (lost (b.page p)) (entry p 65535 5 ∷ []) (cond (fresh (b.page p)) []
          (slot_entries (deed b p) p (b.page p).slot_count ++ head_entries (deed b p) (b.page p) p))
      go true e y f =
          ap (λ (x : Bool). cond x (entry p 65535 5 ∷ []) (cond (fresh (a.page p)) []
          (slot_entries (deed a p) p (a.page p).slot_count ++ head_entries (deed a p) (a.page p) p))) e
          ∙ sym (ap (λ (x : Bool). cond x (entry p 65535 5 ∷ [])
          (cond (fresh (b.page p)) [] (slot_entries (deed b p) p (b.page p).slot_count ++ head_entries (deed b p) (b.page p) p))) (sym (lost_same p l) ∙ e))
      go false e true f =
          (λ i. cond (lost_same p l i) (entry p 65535 5 ∷ [])
          (cond (f i) [] (slot_entries (deed a p) p (a.page p).slot_count ++ head_entries (deed a p) (a.page p) p)))
          ∙ sym (ap (λ (y : Bool). cond (lost (b.page p)) (entry p 65535 5 ∷ [])
          (cond y [] (slot_entries (deed b p) p (b.page p).slot_count ++ head_entries (deed b p) (b.page p) p))) (sym (fresh_same p l) ∙ f))
      go false e false f =
          let m = (used (a.page p) e f).1 in
          let t : slot_entries (deed a p) p (a.page p).slot_count ≡ slot_entries (deed b p) p (b.page p).slot_count =
          ap (slot_entries (deed a p) p) (h.counts p l) ∙ slots_told p l e m (b.page p).slot_count in
          λ i. cond (lost_same p l i) (entry p 65535 5 ∷ []) (cond (fresh_same p l i) [] (t i ++ cond (head_same_lem p l e m i) [] (entry p 65535 4 ∷ [])))

  seg_told : (n : ℕ) → n ≤ a.pages → seg_entries a n ≡ seg_entries b n
  unfolding seg_entries
  seg_told zero g = refl
  seg_told (suc n) g = λ i. seg_told n (omega arith) i ++ page_told n (omega arith) i

  -- the inventory too
  number_same : (p : ℕ) → p < a.pages → ((page_after a p).slot_count ≡ (page_after b p).slot_count)
      × ((page_after a p).first_free ≡ (page_after b p).first_free)
      × ((page_after a p).data_start ≡ (page_after b p).data_start) × ((page_after a p).free_space ≡ (page_after b p).free_space)
  unfolding page_after
  number_same p l = go (lost (a.page p)) refl (fresh (a.page p)) refl
    where
      each : (f : View → ℕ) → (x : Bool) → lost (a.page p) ≡ x → (y : Bool) → fresh (a.page p) ≡ y → (x ≡ false → y ≡ true → f (a.page p) ≡ f (b.page p))
          → (x ≡ false → y ≡ false → f (mended a p) ≡ f (mended b p))
          → f (cond (lost (a.page p)) emptied (cond (fresh (a.page p)) (a.page p) (mended a p)))
          ≡ f (cond (lost (b.page p)) emptied (cond (fresh (b.page p)) (b.page p) (mended b p)))
      each f true e y g s m =
          ap (λ (x : Bool). f (cond x emptied (cond (fresh (a.page p)) (a.page p) (mended a p)))) e
          ∙ sym (ap (λ (x : Bool). f (cond x emptied (cond (fresh (b.page p)) (b.page p) (mended b p)))) (sym (lost_same p l) ∙ e))
      each f false e true g s m =
          (λ i. f (cond (e i) emptied (cond (g i) (a.page p) (mended a p)))) ∙ s refl refl
          ∙ sym ((λ i. f (cond ((sym (lost_same p l) ∙ e) i) emptied (cond ((sym (fresh_same p l) ∙ g) i) (b.page p) (mended b p)))))
      each f false e false g s m =
          (λ i. f (cond (e i) emptied (cond (g i) (a.page p) (mended a p)))) ∙ m refl refl
          ∙ sym ((λ i. f (cond ((sym (lost_same p l) ∙ e) i) emptied (cond ((sym (fresh_same p l) ∙ g) i) (b.page p) (mended b p)))))

      go : (x : Bool) → lost (a.page p) ≡ x → (y : Bool) → fresh (a.page p) ≡ y
          → ((cond (lost (a.page p)) emptied (cond (fresh (a.page p)) (a.page p) (mended a p))).slot_count
          ≡ (cond (lost (b.page p)) emptied (cond (fresh (b.page p)) (b.page p) (mended b p))).slot_count)
          × ((cond (lost (a.page p)) emptied (cond (fresh (a.page p)) (a.page p) (mended a p))).first_free
          ≡ (cond (lost (b.page p)) emptied (cond (fresh (b.page p)) (b.page p) (mended b p))).first_free)
          × ((cond (lost (a.page p)) emptied (cond (fresh (a.page p)) (a.page p) (mended a p))).data_start
          ≡ (cond (lost (b.page p)) emptied (cond (fresh (b.page p)) (b.page p) (mended b p))).data_start)
          × ((cond (lost (a.page p)) emptied (cond (fresh (a.page p)) (a.page p) (mended a p))).free_space
          ≡ (cond (lost (b.page p)) emptied (cond (fresh (b.page p)) (b.page p) (mended b p))).free_space)
      go x e y g = (
        each (λ v. v.slot_count) x e y g (λ q r. h.counts p l) (λ q r. count_same p l (e ∙ q) (used (a.page p) (e ∙ q) (g ∙ r)).1),
        each (λ v. v.first_free) x e y g (λ q r. h.firsts p l) (λ q r. first_same p l (e ∙ q) (used (a.page p) (e ∙ q) (g ∙ r)).1),
        each (λ v. v.data_start) x e y g (λ q r. h.starts p l) (λ q r. start_same p l (e ∙ q) (used (a.page p) (e ∙ q) (g ∙ r)).1),
        each (λ v. v.free_space) x e y g (λ q r. h.spaces p l) (λ q r. space_same p l (e ∙ q) (used (a.page p) (e ∙ q) (g ∙ r)).1),
      )

  true_told : (n : ℕ) → n ≤ a.pages → true_inv (seg_after a) a.pages n ≡ true_inv (seg_after b) b.pages n
  unfolding true_inv seg_after
  true_told zero g = refl
  true_told (suc n) g =
      let w = number_same n (omega arith) in
      let f : fresh (page_after a n) ≡ fresh (page_after b n) = fresh_by (page_after a n) (page_after b n) w.0 w.1 w.2 w.3 in
      λ i. cond (f i) (true_told n (omega arith) i) (update (true_told n (omega arith) i) (h.pages i) n (w.3 i))

  true_all : true_of a ≡ true_of b
  true_all = true_told a.pages (omega arith) ∙ ap (true_inv (seg_after b) b.pages) h.pages

  pub inv_written : (v : List ℕ) → inv_after a v ≡ inv_after b v
  unfolding inv_after
  inv_written v = ap (λ (t : List ℕ). cond (same_inv v t) v t) true_all

  pub all_told : (v : List ℕ) → entries a v ≡ entries b v
  unfolding entries
  all_told v = λ i. (seg_told a.pages (omega arith) ∙ ap (seg_entries b) h.pages) i ++ cond (same_inv v (true_all i)) [] (entry (h.pages i) 65536 6 ∷ [])

-- ---- of two segments

-- from the bytes to what is seen of them
pub looks_seen : (s t : List ℕ) → LooksSame s t → SameSeen (standing s) (standing t)
unfolding standing
looks_seen s t h =
    record {
      pages = ap (λ (n : ℕ). n / 16384) h.lengths;
      counts = λ p l. same_count (page_of s p) (page_of t p) (h.headers p l);
      firsts = λ p l. same_first (page_of s p) (page_of t p) (h.headers p l);
      starts = λ p l. same_start (page_of s p) (page_of t p) (h.headers p l);
      spaces = λ p l. same_space (page_of s p) (page_of t p) (h.headers p l);
      slots = λ p l n k. slot p l n k (dec_lt k (view (page_of s p)).slot_count);
      backs = h.backs;
      past = λ p l k m. past_free (page_of s p) k m;
    }
  where
    slot : (p : ℕ) → p < length s / 16384 → lost (view (page_of s p)) ≡ false → (k : ℕ) → Dec (k < (view (page_of s p)).slot_count)
        → (view (page_of s p)).at k ≡ (view (page_of t p)).at k
    slot p l n k (yes m) = same_entry (page_of s p) (page_of t p) k (same_count (page_of s p) (page_of t p) (h.headers p l)) (h.slots p l n k m)
    slot p l n k (no m) =
        let c = same_count (page_of s p) (page_of t p) (h.headers p l) in
        past_free (page_of s p) k (omega arith) ∙ sym (past_free (page_of t p) k (omega arith))

-- a field of the outcome, by the two tests
by_field : {A : Type 0} (f : Repaired → A) (b c : Bool) (x y z x' y' z' : Repaired) → f x ≡ f x' → f y ≡ f y' → f z ≡ f z'
    → f (cond b x (cond c y z)) ≡ f (cond b x' (cond c y' z'))
by_field f true c x y z x' y' z' p q r = p
by_field f false true x y z x' y' z' p q r = q
by_field f false false x y z x' y' z' p q r = r

pub field_same : (s t v l : List ℕ) → LooksSame s t → {A : Type 0} (f : Repaired → A) → f (wrong_size s v l) ≡ f (wrong_size t v l)
    → f (no_place s v l) ≡ f (no_place t v l) → f (carried_out s v l) ≡ f (carried_out t v l) → f (repair_step s v l) ≡ f (repair_step t v l)
unfolding repair_step
field_same s t v l h f p q r =
    by_field f (not (size_ok s && inv_ok v)) (ltb (length l / 3) (length (entries (standing s) v))) (wrong_size s v l) (no_place s v l) (carried_out s v l)
    (wrong_size t v l) (no_place t v l) (carried_out t v l) p q r
    ∙ (λ i. f (cond (not (sizes i && inv_ok v)) (wrong_size t v l) (cond (ltb (length l / 3) (length (same i))) (no_place t v l) (carried_out t v l))))
  where
    sizes : size_ok s ≡ size_ok t
    sizes = ap (λ (n : ℕ). eqb (n % 16384) 0 && leb (n / 16384) 32527) h.lengths

    same : entries (standing s) v ≡ entries (standing t) v
    same = all_told (standing s) (standing t) (looks_seen s t h) v
