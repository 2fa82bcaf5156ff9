-- Repair leaves a sound segment alone, and only a sound one gets no entry.
use Prim.Native.Nat.{ℕ, zero, suc, ◌+◌, ◌*◌, ◌/◌, ◌≤◌, ◌<◌}
use Rattle.std.proofs.Math.Path.{◌≡◌, refl, ap}
use Rattle.std.proofs.Common.{sym, ◌∙◌, subst, arith, not-suc-le-zero, eq-eqb, ne_eqb, eqb-true, le-ltb, le-leb}
use Rattle.std.specs.Prelude.{Bool, not, ◌&&◌, ◌||◌, ltb, leb}
use Rattle.std.proofs.Math.Bool.{true, false, cond}
use mathlib.Core.List.{List, [], ◌∷◌, ◌++◌}
use Rattle.std.proofs.Math.Decide.{ℕ_discrete, dec_lt}
use Rattle.std.proofs.Math.ListN.{length}
use Rattle.std.proofs.Math.Dec.{eqb}
use Rattle.store.specs.Numbers.{put, zeros, id_of, page_no, slot_no}
use Rattle.store.specs.Slots.{slot_bytes, off, len, is_free, is_record, is_target}
use Rattle.store.specs.Page.{View, view, fresh, sound}
use Rattle.store.specs.PageSteps.{put_head, next_free}
use Rattle.store.specs.Inventory.{Truth}
use Rattle.store.specs.Segment.{SegView, seg_view, page_of, size_ok, inv_ok}
use Rattle.store.specs.SoundSegment.{slot_on, Paired, classes, SoundSegment}
use Rattle.store.specs.Repair.{standing, lost, lies, keeps, named, deed_by, deed, changes, slot_after, lowest, start_after, space_after}
use Rattle.store.specs.Repair.{mended, seg_after, same_head, put_slots, put_mended, page_bytes, seg_bytes, true_of, same_inv, inv_after, Entry, entry, deed_no}
use Rattle.store.specs.Repair.{slot_entries, head_entries, page_entries, seg_entries, inv_entries, entries, words, Repaired, repair_step, mended_by}
use Rattle.store.specs.declared.Deed.TheVariants.{Stays, RecordFreed, RedirectFreed, MadeOrdinary}
use Rattle.store.proofs.Laws.Cases.{by_test, never, or_in, or_out}
use Rattle.store.proofs.Laws.Numbers.{put_nil, put_own}
use Rattle.store.specs.Laws.Views.{Sound}
use Rattle.store.proofs.Laws.Views.{next_taken, next_free_lem}
use Rattle.store.proofs.Laws.SoundPage.{and_in, sound_none, fresh_none, sound_page, apart_in}
use Rattle.store.proofs.Laws.Calls.{target_taken}
use Rattle.store.proofs.Laws.Segments.{length_page}
use Rattle.store.proofs.Laws.SoundSegment.{Sized, sized, seen_pages}
use Rattle.store.proofs.Laws.RepairPage.{in_all, lowest_low}
use Rattle.store.proofs.Laws.RepairBytes.{same_slot}
use Rattle.store.proofs.Laws.RepairPairs.{holds_in, KeptRedirect, named_in}
use Rattle.store.proofs.Laws.RepairInventory.{classes_to, true_length, true_same}
use Rattle.store.proofs.Laws.Repair.{seen_slot, seen_bytes, standing_pages, standing_page}
use Rattle.store.proofs.Laws.Repair.{paired_same, shown, true_planned, classes_after, after_sound}
use Rattle.store.specs.declared.Slot.{Slot}
use Rattle.store.specs.declared.Slot.TheVariants.{Ordinary, Free, Redirect, Target}

-- ---- a sound page

pub sound_not_lost : (q : List ℕ) → length q ≡ 16384 → sound (view q) ≡ true → lost (view q) ≡ false
sound_not_lost q whole e = go (fresh (view q)) refl (ℕ_discrete (view q).slot_count 0)
  where
    go : (b : Bool) → fresh (view q) ≡ b → Dec ((view q).slot_count ≡ 0) → lost (view q) ≡ false
    go true f (yes z) = rw (f, z)
    go true f (no n) = absurd (n (fresh_none (view q) f))
    go false f (yes z) = never e (sound_none (view q) z ∙ f)
    go false f (no n) = rw (le-ltb 2046 (view q).slot_count (sound_page q whole f e).few, ne_eqb (view q).slot_count 0 n)

-- every record is kept
module _ (v : View) (h : Sound v) where
  lies_in_lem : (j : ℕ) → lies v j ≡ true
  lies_in_lem j =
      and_in (leb (off (v.at j) + len (v.at j)) 16384)
      ((not (is_target (v.at j)) || leb 8 (len (v.at j))) && (eqb (len (v.at j)) 0 || leb (12 + 8 * v.slot_count) (off (v.at j))))
      (le-leb (off (v.at j) + len (v.at j)) 16384 (h.high j))
      (and_in (not (is_target (v.at j)) || leb 8 (len (v.at j))) (eqb (len (v.at j)) 0 || leb (12 + 8 * v.slot_count) (off (v.at j)))
      (long (is_target (v.at j)) refl) (low (ℕ_discrete (len (v.at j)) 0)))
    where
      long : (b : Bool) → is_target (v.at j) ≡ b → (not b || leb 8 (len (v.at j))) ≡ true
      long true e = le-leb 8 (len (v.at j)) (h.targets j e)
      long false e = refl

      low : Dec (len (v.at j) ≡ 0) → (eqb (len (v.at j)) 0 || leb (12 + 8 * v.slot_count) (off (v.at j))) ≡ true
      low (yes e) = or_in (eqb (len (v.at j)) 0) (leb (12 + 8 * v.slot_count) (off (v.at j))) (eq-eqb (len (v.at j)) 0 e)
      low (no n) =
          or_out (eqb (len (v.at j)) 0) (leb (12 + 8 * v.slot_count) (off (v.at j)))
          (le-leb (12 + 8 * v.slot_count) (off (v.at j)) (omega (arith, h.dir, h.low j (omega arith))))

  pub all_kept : (j : ℕ) → is_record (v.at j) ≡ true → keeps v j ≡ true
  unfolding keeps
  all_kept j r = in_all v v.slot_count (λ i q. lies_in_lem i) (apart_in v h) j (go (dec_lt j v.slot_count)) r
    where
      go : Dec (j < v.slot_count) → j < v.slot_count
      go (yes l) = l
      go (no l) = let e = ap is_record (h.past j (omega arith)) in let z : ◌≡◌ {A = ℕ} 0 1 = cc in absurd (omega arith)

  -- its numbers are those that are worked out
  pub first_same : next_free v.slot_count v.at 0 ≡ v.first_free
  first_same = go (dec_lt (next_free v.slot_count v.at 0) v.first_free) (dec_lt v.first_free (next_free v.slot_count v.at 0))
    where
      go : Dec (next_free v.slot_count v.at 0 < v.first_free) → Dec (v.first_free < next_free v.slot_count v.at 0)
          → next_free v.slot_count v.at 0 ≡ v.first_free
      go (yes l) m =
          let a = next_free_lem v.slot_count v.at 0 (omega (arith, h.first≤)) in
          let b = h.lower (next_free v.slot_count v.at 0) l in
          let z : ◌≡◌ {A = ℕ} 0 1 = cc in absurd (omega arith)
      go (no l) (yes m) =
          let a = next_taken v.slot_count v.at 0 v.first_free (omega arith) m in
          let b = ap is_free h.first_is_free in
          let z : ◌≡◌ {A = ℕ} 0 1 = cc in absurd (omega arith)
      go (no l) (no m) = omega arith

  pub start_same : start_after v.slot_count v.data_start v.at ≡ v.data_start
  start_same =
      rw (
        le-leb (12 + 8 * v.slot_count) v.data_start h.dir,
        le-leb v.data_start (lowest v.slot_count v.at)
            (lowest_low v.slot_count v.at v.data_start h.start≤ (λ j l s. h.low j s)),
      )

  pub space_same : space_after v.slot_count v.at ≡ v.free_space
  space_same = omega (arith, h.sums)

-- ---- a page whose slots all stay

pub past_same : (u : SegView) (p k : ℕ) → (u.page p).at k ≡ Free → slot_after u p k ≡ (u.page p).at k
unfolding deed
past_same u p k e = rw e

module _ (u : SegView) (p : ℕ) where
  none_written : (n : ℕ) (q : List ℕ) → ((k : ℕ) → k < n → changes (deed u p k) ≡ false) → put_slots (deed u p) (u.page p) n q ≡ q
  none_written zero q h = refl
  none_written (suc n) q h =
      ap (λ (b : Bool). cond b (put (put_slots (deed u p) (u.page p) n q) (12 + 8 * n) (slot_bytes (slot_after u p n))) (put_slots (deed u p) (u.page p) n q))
      (h n (omega arith)) ∙ none_written n q (λ k l. h k (omega arith))

  none_told : (n : ℕ) → ((k : ℕ) → k < n → changes (deed u p k) ≡ false) → slot_entries (deed u p) p n ≡ []
  none_told zero h = refl
  none_told (suc n) h =
      ap (λ (b : Bool). slot_entries (deed u p) p n ++ cond b (entry p n (deed_no (deed u p n)) ∷ []) []) (h n (omega arith))
      ∙ ap (λ (es : List Entry). es ++ []) (none_told n (λ k l. h k (omega arith)))

  abbrev pub Quiet : Type 0
  Quiet = ((k : ℕ) → k < (u.page p).slot_count → changes (deed u p k) ≡ false) × (same_head (u.page p) (mended u p) ≡ true)

  pub quiet_bytes : (q : List ℕ) → lost (u.page p) ≡ false → (fresh (u.page p) ≡ false → Quiet) → page_bytes u p q ≡ q
  unfolding page_bytes
  quiet_bytes q l h =
      ap (λ (b : Bool). cond b (put q 0 (zeros 12)) (cond (fresh (u.page p)) q (put_mended (deed u p) (u.page p) q))) l
      ∙ by_test (λ (x : List ℕ). x ≡ q) (fresh (u.page p)) q (put_mended (deed u p) (u.page p) q) (λ f. refl)
      (λ f. ap (λ (b : Bool). cond b (put_slots (deed u p) (u.page p) (u.page p).slot_count q)
      (put_head (mended u p) (put_slots (deed u p) (u.page p) (u.page p).slot_count q))) (h f).1 ∙ none_written (u.page p).slot_count q (h f).0)

  pub quiet_entries : lost (u.page p) ≡ false → (fresh (u.page p) ≡ false → Quiet) → page_entries u p ≡ []
  unfolding page_entries
  quiet_entries l h =
      ap (λ (b : Bool). cond b (entry p 65535 5 ∷ []) (cond (fresh (u.page p)) []
      (slot_entries (deed u p) p (u.page p).slot_count ++ head_entries (deed u p) (u.page p) p))) l
      ∙ by_test (λ (x : List Entry). x ≡ []) (fresh (u.page p)) [] (slot_entries (deed u p) p (u.page p).slot_count ++ head_entries (deed u p) (u.page p) p)
      (λ f. refl)
      (λ f. ap (λ (es : List Entry). es ++ head_entries (deed u p) (u.page p) p) (none_told (u.page p).slot_count (h f).0)
      ∙ ap (λ (b : Bool). cond b [] (entry p 65535 4 ∷ [])) (h f).1)

  -- ---- and the other way: no entry, no change

  nil_both : (xs ys : List Entry) → xs ++ ys ≡ [] → (xs ≡ []) × (ys ≡ [])
  nil_both [] ys e = (refl, e)
  nil_both (x ∷ xs) ys e = let z : ◌≡◌ {A = ℕ} 0 1 = cc in absurd (omega arith)

  untold : (n : ℕ) → slot_entries (deed u p) p n ≡ [] → (k : ℕ) → k < n → changes (deed u p k) ≡ false
  untold zero e k l = absurd (not-suc-le-zero l)
  untold (suc n) e k l =
      go (untold n) (nil_both (slot_entries (deed u p) p n) (cond (changes (deed u p n)) (entry p n (deed_no (deed u p n)) ∷ []) []) e) (ℕ_discrete k n)
    where
      last : (b : Bool) → ◌≡◌ {A = List Entry} (cond b (entry p n (deed_no (deed u p n)) ∷ []) []) [] → b ≡ false
      last true q = let z : ◌≡◌ {A = ℕ} 0 1 = cc in absurd (omega arith)
      last false q = refl

      go : (slot_entries (deed u p) p n ≡ [] → (j : ℕ) → j < n → changes (deed u p j) ≡ false)
          → (slot_entries (deed u p) p n ≡ []) × (cond (changes (deed u p n)) (entry p n (deed_no (deed u p n)) ∷ []) [] ≡ []) → Dec (k ≡ n)
          → changes (deed u p k) ≡ false
      go ih h (yes d) = ap (λ (x : ℕ). changes (deed u p x)) d ∙ last (changes (deed u p n)) h.1
      go ih h (no d) = ih h.0 k (omega arith)

  pub silent : page_entries u p ≡ [] → (lost (u.page p) ≡ false) × (fresh (u.page p) ≡ false → Quiet)
  unfolding page_entries
  silent = go (lost (u.page p)) refl
    where
      head : (b : Bool) → ◌≡◌ {A = List Entry} (cond b [] (entry p 65535 4 ∷ [])) [] → b ≡ true
      head true q = refl
      head false q = let z : ◌≡◌ {A = ℕ} 0 1 = cc in absurd (omega arith)

      used : (b : Bool) → fresh (u.page p) ≡ b → cond b [] (slot_entries (deed u p) p (u.page p).slot_count ++ head_entries (deed u p) (u.page p) p) ≡ []
          → fresh (u.page p) ≡ false → Quiet
      used true f e g = let z : ◌≡◌ {A = ℕ} 0 1 = cc in absurd (omega arith)
      used false f e g =
          let h = nil_both (slot_entries (deed u p) p (u.page p).slot_count) (head_entries (deed u p) (u.page p) p) e in
          (untold (u.page p).slot_count h.0, head (same_head (u.page p) (mended u p)) h.1)

      go : (a : Bool) → lost (u.page p) ≡ a
          → cond a (entry p 65535 5 ∷ [])
          (cond (fresh (u.page p)) [] (slot_entries (deed u p) p (u.page p).slot_count ++ head_entries (deed u p) (u.page p) p)) ≡ []
          → (lost (u.page p) ≡ false) × (fresh (u.page p) ≡ false → Quiet)
      go true l e = let z : ◌≡◌ {A = ℕ} 0 1 = cc in absurd (omega arith)
      go false l e = (l, used (fresh (u.page p)) refl e)

-- a sound page of which no slot changes keeps its header
module _ (u : SegView) (p : ℕ) (w : Sound (u.page p)) (h : (k : ℕ) → k < (u.page p).slot_count → changes (deed u p k) ≡ false) where
  pub same_at : slot_after u p ≡ (u.page p).at
  same_at = λ i k. each k (dec_lt k (u.page p).slot_count) i
    where
      each : (k : ℕ) → Dec (k < (u.page p).slot_count) → slot_after u p k ≡ (u.page p).at k
      each k (yes m) = same_slot (deed u p k) ((u.page p).at k) (h k m)
      each k (no m) = past_same u p k (w.past k (omega arith))

  pub quiet_by : Quiet u p
  unfolding mended_by
  quiet_by =
      let e = same_at in
      let c : ℕ = (u.page p).slot_count in (
        h,
        and_in (eqb (u.page p).first_free (next_free c (slot_after u p) 0))
            (eqb (u.page p).data_start (start_after c (u.page p).data_start (slot_after u p)) && eqb (u.page p).free_space (space_after c (slot_after u p)))
            (eq-eqb (u.page p).first_free (next_free c (slot_after u p) 0) (sym (ap (λ (g : ℕ → Slot). next_free c g 0) e ∙ first_same (u.page p) w)))
            (and_in (eqb (u.page p).data_start (start_after c (u.page p).data_start (slot_after u p)))
            (eqb (u.page p).free_space (space_after c (slot_after u p)))
            (eq-eqb (u.page p).data_start (start_after c (u.page p).data_start (slot_after u p))
            (sym (ap (λ (g : ℕ → Slot). start_after c (u.page p).data_start g) e ∙ start_same (u.page p) w)))
            (eq-eqb (u.page p).free_space (space_after c (slot_after u p)) (sym (ap (λ (g : ℕ → Slot). space_after c g) e ∙ space_same (u.page p) w)))),
      )

-- ---- all pages

pub all_bytes : (u : SegView) (n : ℕ) (s : List ℕ) → n * 16384 ≤ length s → ((p : ℕ) → p < n → page_bytes u p (page_of s p) ≡ page_of s p) → seg_bytes u n s ≡ s
unfolding seg_bytes
all_bytes u zero s h e = refl
all_bytes u (suc n) s h e =
    ap (λ (t : List ℕ). put t (n * 16384) (page_bytes u n (page_of s n))) (all_bytes u n s (omega arith) (λ p l. e p (omega arith)))
    ∙ ap (put s (n * 16384)) (e n (omega arith)) ∙ put_own s (n * 16384) 16384 (omega arith)

pub all_entries : (u : SegView) (n : ℕ) → ((p : ℕ) → p < n → page_entries u p ≡ []) → seg_entries u n ≡ []
unfolding seg_entries
all_entries u zero h = refl
all_entries u (suc n) h = ap (λ (es : List Entry). es ++ page_entries u n) (all_entries u n (λ p l. h p (omega arith))) ∙ h n (omega arith)

pub all_silent : (u : SegView) (n : ℕ) → seg_entries u n ≡ [] → (p : ℕ) → p < n → page_entries u p ≡ []
unfolding seg_entries
all_silent u zero e p l = absurd (not-suc-le-zero l)
all_silent u (suc n) e p l = go (all_silent u n) (nil_both u p (seg_entries u n) (page_entries u n) e) (ℕ_discrete p n)
  where
    go : (seg_entries u n ≡ [] → (q : ℕ) → q < n → page_entries u q ≡ []) → (seg_entries u n ≡ []) × (page_entries u n ≡ []) → Dec (p ≡ n)
        → page_entries u p ≡ []
    go ih h (yes d) = ap (page_entries u) d ∙ h.1
    go ih h (no d) = ih h.0 p (omega arith)

-- ---- law 2: a sound segment is left alone

pub record_by : (x : Slot) → is_target x ≡ true → is_record x ≡ true
record_by (Ordinary o l) e = refl
record_by Free e = e
record_by (Redirect i) e = e
record_by (Target o l) e = refl

module _ (s v : List ℕ) (h : SoundSegment s v) where
  abbrev u : SegView
  u = standing s

  z : Sized s
  z = sized s h.whole

  sounds : (p : ℕ) → p < length s / 16384 → sound (u.page p) ≡ true
  sounds p l = ap sound (standing_page s p) ∙ h.pages p l

  not_lost : (p : ℕ) → p < length s / 16384 → lost (u.page p) ≡ false
  not_lost p l = ap lost (standing_page s p) ∙ sound_not_lost (page_of s p) (length_page s p (omega (arith, z.whole))) (h.pages p l)

  in_use : (p : ℕ) → p < length s / 16384 → fresh (u.page p) ≡ false → Sound (u.page p)
  in_use p l f =
      subst Sound (sym (standing_page s p)) (sound_page (page_of s p) (length_page s p (omega (arith, z.whole))) (ap fresh (sym (standing_page s p)) ∙ f)
      (h.pages p l))

  pages_are : u.pages ≡ length s / 16384
  pages_are = standing_pages s

  paired : Paired u
  paired = paired_same u (seg_view s) (standing_pages s ∙ sym (seen_pages s)) (λ i l. sym (seen_slot s i)) (λ i l. sym (seen_bytes s i)) h.pairs

  -- a page with a slot that is not free is in use
  taken : (i : ℕ) → page_no i < u.pages → is_free (slot_on u i) ≡ false → fresh (u.page (page_no i)) ≡ false
  taken i l e = go (fresh (u.page (page_no i))) refl
    where
      go : (b : Bool) → fresh (u.page (page_no i)) ≡ b → fresh (u.page (page_no i)) ≡ false
      go true f =
          let n = fresh_none (u.page (page_no i)) f in
          let a = ap is_free ((shown s z.whole (page_no i) (omega (arith, pages_are))).past (slot_no i) (omega arith)) in
          let w : ◌≡◌ {A = ℕ} 0 1 = cc in absurd (omega arith)
      go false f = f

  all_hold : (i t : ℕ) → page_no i < u.pages → slot_on u i ≡ Redirect t → KeptRedirect u i t
  all_hold i t l e =
      let r = paired.redirects i t l e in
      record {
        below = l;
        whole = not_lost (page_no i) (omega (arith, pages_are));
        is = e;
        holds = record {
          below = r.below;
          whole = not_lost (page_no t) (omega (arith, pages_are, r.below));
          keeps =
              all_kept (u.page (page_no t)) (in_use (page_no t) (omega (arith, pages_are, r.below))
              (taken t r.below (target_taken (slot_on u t) r.target)))
              (slot_no t) (record_by (slot_on u t) r.target);
          target = r.target;
          other = r.other;
          back = r.back;
        };
      }

  all_stay : (p k : ℕ) → p < length s / 16384 → fresh (u.page p) ≡ false → k < (u.page p).slot_count → deed u p k ≡ Stays
  unfolding deed
  all_stay p k l f m = go ((u.page p).at k) refl
    where
      w : Sound (u.page p)
      w = in_use p l f

      own : k < 65536
      own = omega (arith, w.few)

      pn : page_no (id_of p k) ≡ p
      pn = omega (arith, own)

      sn : slot_no (id_of p k) ≡ k
      sn = omega (arith, own)

      here : slot_on u (id_of p k) ≡ (u.page p).at k
      here = λ i. (u.page (pn i)).at (sn i)

      below : page_no (id_of p k) < u.pages
      below = omega (arith, pages_are, pn)

      go : (x : Slot) → (u.page p).at k ≡ x → deed_by u p k x ≡ Stays
      go (Ordinary o n) e = ap (λ (b : Bool). cond b Stays RecordFreed) (all_kept (u.page p) w k (ap is_record e))
      go Free e = refl
      go (Redirect t) e = ap (λ (b : Bool). cond b Stays RedirectFreed) (holds_in u (id_of p k) t (all_hold (id_of p k) t below (here ∙ e)).holds)
      go (Target o n) e =
          let r = paired.targets (id_of p k) below (ap is_target (here ∙ e)) in
          let q = named_in u r.by (id_of p k) (all_hold r.by (id_of p k) r.below r.names) in
          ap (λ (b : Bool). cond b (cond (named u (id_of p k)) Stays MadeOrdinary) RecordFreed) (all_kept (u.page p) w k (ap is_record e))
          ∙ ap (λ (b : Bool). cond b Stays MadeOrdinary) q

  quiet : (p : ℕ) → p < length s / 16384 → fresh (u.page p) ≡ false → Quiet u p
  quiet p l f = quiet_by u p (in_use p l f) (λ k m. ap changes (all_stay p k l f m))

  pub alone_bytes : seg_bytes u (length s / 16384) s ≡ s
  alone_bytes = all_bytes u (length s / 16384) s (omega (arith, z.whole)) (λ p l. quiet_bytes u p (page_of s p) (not_lost p l) (quiet p l))

  alone_entries : seg_entries u (length s / 16384) ≡ []
  alone_entries = all_entries u (length s / 16384) (λ p l. quiet_entries u p (not_lost p l) (quiet p l))

  one : length v ≡ 16384
  one = eqb-true (length v) 16384 h.page

  alone_inv : same_inv v (true_of u) ≡ true
  alone_inv =
      let f : ℕ → ℕ = classes_to (seg_after u) (length s / 16384) in
      let same : classes (seg_view s) ≡ f = ap (λ (t : List ℕ). classes (seg_view t)) (sym alone_bytes) ∙ sym (classes_after s z.whole) in
      true_same f (length s / 16384) v (true_of u) one (true_length (seg_after u) u.pages u.pages)
      (subst (λ (g : ℕ → ℕ). Truth g (length s / 16384) v) same h.inventory) (true_planned s z.whole z.few v one)

  pub alone_none : entries u v ≡ []
  unfolding entries
  alone_none =
      ap (λ (n : ℕ). seg_entries u n ++ inv_entries u v) pages_are ∙ ap (λ (es : List Entry). es ++ inv_entries u v) alone_entries
      ∙ ap (λ (b : Bool). cond b [] (entry u.pages 65536 6 ∷ [])) alone_inv

  pub alone_kept : inv_after u v ≡ v
  unfolding inv_after
  alone_kept = ap (λ (b : Bool). cond b v (true_of u)) alone_inv

  -- "A sound one gets no entry and keeps each byte": with any list, also an empty one
  pub left_alone : (l : List ℕ) → repair_step s v l ≡ record { answer = 0; count = 0; seg = s; inv = v; list = l }
  unfolding repair_step
  left_alone l =
      ap (λ (b : Bool). cond (not b) (record { answer = 1; count = 0; seg = s; inv = v; list = l }) rest) (and_in (size_ok s) (inv_ok v) h.whole h.page)
      ∙ ap (λ (es : List Entry). cond (ltb (length l / 3) (length es)) (record { answer = 11; count = length es; seg = s; inv = v; list = l })
      (record { answer = 0; count = length es; seg = seg_bytes u (length s / 16384) s; inv = inv_after u v; list = put l 0 (words es) })) alone_none
      ∙ rw (le-ltb (length l / 3) 0 (omega arith)) (λ i. record { answer = 0; count = 0; seg = alone_bytes i; inv = alone_kept i; list = put_nil l 0 i })
    where
      rest : Repaired
      rest =
          cond (ltb (length l / 3) (length (entries u v))) (record { answer = 11; count = length (entries u v); seg = s; inv = v; list = l })
          (record {
            answer = 0;
            count = length (entries u v);
            seg = seg_bytes u (length s / 16384) s;
            inv = inv_after u v;
            list = put l 0 (words (entries u v));
          })

-- ---- law 2, the other half: only a sound one gets no entry

module _ (s v : List ℕ) (ok : size_ok s ≡ true) (one : inv_ok v ≡ true) (none : entries (standing s) v ≡ []) where
  both : (seg_entries (standing s) (length s / 16384) ≡ []) × (inv_entries (standing s) v ≡ [])
  unfolding entries
  both =
      nil_both (standing s) 0 (seg_entries (standing s) (length s / 16384)) (inv_entries (standing s) v)
      (ap (λ (n : ℕ). seg_entries (standing s) n ++ inv_entries (standing s) v) (sym (standing_pages s)) ∙ none)

  pub none_bytes : seg_bytes (standing s) (length s / 16384) s ≡ s
  none_bytes =
      all_bytes (standing s) (length s / 16384) s (omega (arith, (sized s ok).whole))
      (λ p l. let q = silent (standing s) p (all_silent (standing s) (length s / 16384) both.0 p l) in quiet_bytes (standing s) p (page_of s p) q.0 q.1)

  pub none_inv : inv_after (standing s) v ≡ v
  unfolding inv_after
  none_inv = go (same_inv v (true_of (standing s))) both.1
    where
      go : (b : Bool) → ◌≡◌ {A = List Entry} (cond b [] (entry (standing s).pages 65536 6 ∷ [])) [] → cond b v (true_of (standing s)) ≡ v
      go true e = refl
      go false e = let z : ◌≡◌ {A = ℕ} 0 1 = cc in absurd (omega arith)

  pub only_sound : SoundSegment s v
  only_sound =
      subst (λ (t : List ℕ). SoundSegment t v) none_bytes
      (subst (λ (w : List ℕ). SoundSegment (seg_bytes (standing s) (length s / 16384) s) w) none_inv
      (after_sound s (sized s ok).whole (sized s ok).few v (eqb-true (length v) 16384 one) ok))
