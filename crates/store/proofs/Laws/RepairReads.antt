-- What could be read can still be read: after repair a read that answered 0 gives the same bytes at the same place.
use Rattle.std.specs.Prelude.{ℕ, ◌+◌, ◌-◌, ◌/◌, ◌%◌, ◌≤◌, ◌<◌, ◌≡◌, Bool, not, ◌&&◌, List, length, take, drop, eqb, ltb}
use Rattle.std.proofs.Math.Path.{refl, ap}
use Rattle.std.proofs.Common.{sym, ◌∙◌, arith, eqb-true, ltb-true}
use Rattle.std.proofs.Math.Bool.{true, false, cond}
use Rattle.std.proofs.Math.Decide.{dec_lt}
use Rattle.std.proofs.lemmas.Bool.{eqb-false, not-true}
use Rattle.store.specs.Numbers.{be, id_of, page_no, slot_no}
use Rattle.store.specs.Slots.{is_free, is_record, is_target}
use Rattle.store.specs.Page.{View, view, fresh, sound}
use Rattle.store.specs.Segment.{SegView, seg_view, page_of, size_ok, points_back, Read, no_read, read_by}
use Rattle.store.specs.Segment.{read_plan, read_step, Part, no_part, part_on, part_by, locate_step}
use Rattle.store.specs.SoundSegment.{slot_on, bytes_on}
use Rattle.store.specs.Repair.{standing, lost, keeps, named, deed_by, deed, slot_done, bytes_done, seg_after, inv_after}
use Rattle.store.specs.declared.Deed.{Deed}
use Rattle.store.specs.declared.Deed.TheVariants.{Stays, RecordFreed, MadeOrdinary}
use Rattle.store.proofs.Laws.Compactify.{record_taken}
use Rattle.store.proofs.Laws.Slots.{tag}
use Rattle.store.specs.Laws.Views.{Sound}
use Rattle.store.proofs.Laws.SoundPage.{and_both, fresh_none, past_free, sound_page}
use Rattle.store.proofs.Laws.Segments.{length_page}
use Rattle.store.proofs.Laws.Roots.{by_root_lem}
use Rattle.store.proofs.Laws.Calls.{target_taken}
use Rattle.store.proofs.Laws.Pairs.{look, tag_on}
use Rattle.store.proofs.Laws.SoundSegment.{sound_closed, seen_pages}
use Rattle.store.proofs.Laws.Rows.{read_look}
use Rattle.store.proofs.Laws.RepairBytes.{repaired_seg, repaired_length}
use Rattle.store.proofs.Laws.RepairPairs.{KeptRedirect, after_used, mended_bytes, slot_stays, bytes_stay, slot_now, redirect_kept, target_kept}
use Rattle.store.proofs.Laws.Repair.{seen_slot, seen_bytes, standing_pages, opened_standing, after_page, after_sound}
use Rattle.store.proofs.Laws.RepairAlone.{sound_not_lost, all_kept, record_by}
use Rattle.store.specs.declared.Slot.{Slot}
use Rattle.store.specs.declared.Slot.TheVariants.{Ordinary, Free, Redirect, Target}

-- ---- what a read that answers 0 tells

module _ (s : List ℕ) (i : ℕ) where
  pub record Readable : Type 0 where
    pub sizes : size_ok s ≡ true
    pub below : page_no i < length s / 16384
    pub sound : sound ((seg_view s).page (page_no i)) ≡ true
    pub is : read_step s i ≡ read_by (seg_view s) i (slot_on (seg_view s) i)

  pub readable : (read_step s i).answer ≡ 0 → Readable
  unfolding read_step read_plan seg_view
  readable = go (size_ok s) refl
    where
      go : (a : Bool) → size_ok s ≡ a → (cond a (read_plan (seg_view s) i) (no_read 1)).answer ≡ 0 → Readable
      go true x =
          by_root_lem (λ (r : Read). read_plan (seg_view s) i ≡ r → r.answer ≡ 0 → Readable) (seg_view s) i no_read (read_by (seg_view s) i)
          (λ l q e. absurd (omega arith)) (λ l d q e. absurd (omega arith))
          (λ l d q e. record { sizes = x; below = l; sound = d; is = ap (λ (b : Bool). cond b (read_plan (seg_view s) i) (no_read 1)) x ∙ q }) refl
      go false x = λ e. absurd (omega arith)

  pub located : (read_step s i).answer ≡ 0 → locate_step s i ≡ record { answer = 0; part = part_by (seg_view s) i (slot_on (seg_view s) i) }
  unfolding locate_step
  located e = ap (λ (a : ℕ). record { answer = a; part = cond (eqb a 0) (part_by (seg_view s) i (slot_on (seg_view s) i)) no_part }) e

-- ---- a sound page with a slot that is not free

pub in_use : (q : List ℕ) (k : ℕ) → length q ≡ 16384 → sound (view q) ≡ true → is_free ((view q).at k) ≡ false
    → (lost (view q) ≡ false) × (k < (view q).slot_count) × Sound (view q)
in_use q k whole e t = go (fresh (view q)) refl
  where
    free : (view q).slot_count ≤ k → ⊥
    free l = let a = ap is_free (past_free q k l) in let z : ◌≡◌ {A = ℕ} 0 1 = cc in omega arith

    below : Dec (k < (view q).slot_count) → k < (view q).slot_count
    below (yes l) = l
    below (no l) = absurd (free (omega arith))

    go : (b : Bool) → fresh (view q) ≡ b → (lost (view q) ≡ false) × (k < (view q).slot_count) × Sound (view q)
    go true f = absurd (free (omega (arith, fresh_none (view q) f)))
    go false f = (sound_not_lost q whole e, below (dec_lt k (view q).slot_count), sound_page q whole f e)

-- ---- afterwards

module _ (s : List ℕ) (whole : length s % 16384 ≡ 0) where
  abbrev u : SegView
  u = standing s

  abbrev s' : List ℕ
  s' = repaired_seg s whole

  pub slot_left : (i : ℕ) → page_no i < length s / 16384 → slot_on (seg_view s') i ≡ slot_on (seg_after u) i
  slot_left i l = seen_slot s' i ∙ ap (λ (v : View). v.at (slot_no i)) (after_page s whole (page_no i) l)

  pub bytes_left : (i : ℕ) → page_no i < length s / 16384 → bytes_on (seg_view s') i ≡ bytes_on (seg_after u) i
  bytes_left i l = seen_bytes s' i ∙ ap (λ (v : View). v.bytes (slot_no i)) (after_page s whole (page_no i) l)

  -- law 4, of the record: a slot to which nothing is done keeps id, offset, length and bytes
  pub record_kept : (i : ℕ) → page_no i < length s / 16384 → lost (u.page (page_no i)) ≡ false → slot_no i < (u.page (page_no i)).slot_count
      → deed u (page_no i) (slot_no i) ≡ Stays
      → (slot_on (seg_view s') i ≡ slot_on (seg_view s) i) × (bytes_on (seg_view s') i ≡ bytes_on (seg_view s) i)
  record_kept i l n k d =
      (slot_left i l ∙ slot_stays u i n k d ∙ sym (seen_slot s i), bytes_left i l ∙ bytes_stay u i n k d ∙ sym (seen_bytes s i))

  used_page : (i : ℕ) → page_no i < length s / 16384 → sound ((seg_view s).page (page_no i)) ≡ true → is_free (slot_on u i) ≡ false
      → (lost (u.page (page_no i)) ≡ false) × (slot_no i < (u.page (page_no i)).slot_count) × Sound (u.page (page_no i))
  unfolding standing
  used_page i l e t =
      in_use (page_of s (page_no i)) (slot_no i) (length_page s (page_no i) (omega arith))
      (sound_closed (view (page_of s (page_no i))) (ap sound (sym (opened_standing s (page_no i))) ∙ e)) t

  bytes_now : (i : ℕ) → lost (u.page (page_no i)) ≡ false → slot_no i < (u.page (page_no i)).slot_count
      → bytes_on (seg_after u) i ≡ bytes_done (deed_by u (page_no i) (slot_no i) (slot_on u i)) (bytes_on u i)
  unfolding seg_after deed
  bytes_now i l h = ap (λ (v : View). v.bytes (slot_no i)) (after_used u (page_no i) (slot_no i) l h) ∙ mended_bytes u (page_no i) (slot_no i)

  deed_is : (i : ℕ) (x : Slot) → slot_on u i ≡ x → deed u (page_no i) (slot_no i) ≡ deed_by u (page_no i) (slot_no i) x
  unfolding deed
  deed_is i x e = ap (deed_by u (page_no i) (slot_no i)) e

  -- the answer, and the part of the segment
  pub record Same (i : ℕ) : Type 0 where
    pub reads : read_step s' i ≡ read_step s i
    pub places : locate_step s' i ≡ locate_step s i

  module _ (v : List ℕ) (few : length s / 16384 ≤ 32527) (one : length v ≡ 16384) (ok : size_ok s ≡ true) (i : ℕ) (zero : (read_step s i).answer ≡ 0) where
    r : Readable s i
    r = readable s i zero

    below : page_no i < length s / 16384
    below = r.below

    look_after : read_step s' i ≡ look (bytes_on (seg_view s')) i (tag_on (seg_view s') i)
    look_after = read_look s' (inv_after u v) (after_sound s whole few v one ok) i (omega (arith, repaired_length s whole, below))

    same_by : look (bytes_on (seg_view s')) i (tag_on (seg_view s') i) ≡ read_by (seg_view s) i (slot_on (seg_view s) i)
        → part_by (seg_view s') i (slot_on (seg_view s') i) ≡ part_by (seg_view s) i (slot_on (seg_view s) i) → Same i
    same_by a b =
        let e : read_step s' i ≡ read_step s i = look_after ∙ a ∙ sym r.is in
        record {
          reads = e;
          places = located s' i (ap (λ (x : Read). x.answer) e ∙ zero) ∙ ap (λ (q : Part). record { answer = 0; part = q }) b ∙ sym (located s i zero);
        }

    -- nothing is done to the slot, which is an ordinary one or a target
    own_stays : (x : Slot) → slot_on (seg_view s) i ≡ x → is_record x ≡ true → deed u (page_no i) (slot_no i) ≡ Stays → lost (u.page (page_no i)) ≡ false
        → slot_no i < (u.page (page_no i)).slot_count → Same i
    own_stays x e k d n m =
        let h = record_kept i below n m d in
        let f : slot_on (seg_view s') i ≡ x = h.0 ∙ e in
        same_by (ap (λ (y : Slot). look (bytes_on (seg_view s')) i (tag y)) f ∙ by x k h.1 ∙ ap (read_by (seg_view s) i) (sym e))
        (ap (part_by (seg_view s') i) f ∙ part x k ∙ ap (part_by (seg_view s) i) (sym e))
      where
        by : (y : Slot) → is_record y ≡ true → bytes_on (seg_view s') i ≡ bytes_on (seg_view s) i
            → look (bytes_on (seg_view s')) i (tag y) ≡ read_by (seg_view s) i y
        by (Ordinary o l) q b = ap (λ (z : List ℕ). record { answer = 0; bytes = z }) b
        by Free q b = let z : ◌≡◌ {A = ℕ} 0 1 = cc in absurd (omega arith)
        by (Redirect t) q b = let z : ◌≡◌ {A = ℕ} 0 1 = cc in absurd (omega arith)
        by (Target o l) q b = ap (λ (z : List ℕ). record { answer = 0; bytes = drop 8 z }) b

        part : (y : Slot) → is_record y ≡ true → part_by (seg_view s') i y ≡ part_by (seg_view s) i y
        part (Ordinary o l) q = refl
        part Free q = refl
        part (Redirect t) q = let z : ◌≡◌ {A = ℕ} 0 1 = cc in absurd (omega arith)
        part (Target o l) q = refl

    -- a target that becomes ordinary: read by its own id, as before
    made : (o l : ℕ) → slot_on (seg_view s) i ≡ Target o l → deed u (page_no i) (slot_no i) ≡ MadeOrdinary → lost (u.page (page_no i)) ≡ false
        → slot_no i < (u.page (page_no i)).slot_count → Same i
    made o l e d n m =
        let g : slot_on u i ≡ Target o l = sym (seen_slot s i) ∙ e in
        let w : deed_by u (page_no i) (slot_no i) (slot_on u i) ≡ MadeOrdinary = sym (deed_is i (slot_on u i) refl) ∙ d in
        let f : slot_on (seg_view s') i ≡ Ordinary (o + 8) (l - 8) =
        slot_left i below ∙ slot_now u i n m ∙ ap (λ (x : Deed). slot_done x (slot_on u i)) w ∙ ap (slot_done MadeOrdinary) g in
        let b : bytes_on (seg_view s') i ≡ drop 8 (bytes_on (seg_view s) i) =
        bytes_left i below ∙ bytes_now i n m ∙ ap (λ (x : Deed). bytes_done x (bytes_on u i)) w ∙ ap (drop 8) (sym (seen_bytes s i)) in
        same_by (ap (λ (y : Slot). look (bytes_on (seg_view s')) i (tag y)) f ∙ ap (λ (z : List ℕ). record { answer = 0; bytes = z }) b
        ∙ ap (read_by (seg_view s) i) (sym e))
        (ap (part_by (seg_view s') i) f ∙ ap (part_by (seg_view s) i) (sym e))

    followed : (t : ℕ) → slot_on (seg_view s) i ≡ Redirect t → points_back (seg_view s) i t ≡ true → Same i
    followed t e q =
        let g : slot_on u i ≡ Redirect t = sym (seen_slot s i) ∙ e in
        let w : View = (seg_view s).page (page_no t) in
        let b4 = and_both (ltb (page_no t) (seg_view s).pages && not (eqb (page_no t) (page_no i)) && sound w && is_target (w.at (slot_no t)))
        (eqb (be (take 8 (w.bytes (slot_no t)))) i) q in
        let b3 = and_both (ltb (page_no t) (seg_view s).pages && not (eqb (page_no t) (page_no i)) && sound w) (is_target (w.at (slot_no t))) b4.0 in
        let b2 = and_both (ltb (page_no t) (seg_view s).pages && not (eqb (page_no t) (page_no i))) (sound w) b3.0 in
        let b1 = and_both (ltb (page_no t) (seg_view s).pages) (not (eqb (page_no t) (page_no i))) b2.0 in
        let lt : page_no t < (seg_view s).pages = ltb-true (page_no t) (seg_view s).pages b1.0 in
        let under : page_no t < length s / 16384 = omega (arith, seen_pages s) in
        let target : is_target (slot_on u t) ≡ true = ap is_target (sym (seen_slot s t)) ∙ b3.1 in
        let y = used_page t under b2.1 (target_taken (slot_on u t) target) in
        let x = used_page i below r.sound (ap is_free g) in
        let k : KeptRedirect u i t = record {
          below = omega (arith, standing_pages s, below);
          whole = x.0;
          is = g;
          holds = record {
            below = omega (arith, standing_pages s);
            whole = y.0;
            keeps = all_kept (u.page (page_no t)) y.2 (slot_no t) (record_by (slot_on u t) target);
            target = target;
            other = eqb-false (page_no t) (page_no i) (not-true (eqb (page_no t) (page_no i)) b1.1);
            back = ap (λ (z : List ℕ). be (take 8 z)) (sym (seen_bytes s t)) ∙ eqb-true (be (take 8 (w.bytes (slot_no t)))) i b4.1;
          };
        } in
        let a = record_kept i below x.0 x.1 (redirect_kept u i t k) in
        let c = record_kept t under y.0 y.1 (target_kept u i t k) in
        same_by
        (ap (λ (z : Slot). look (bytes_on (seg_view s')) i (tag z)) (a.0 ∙ e) ∙ ap (λ (z : List ℕ). record { answer = 0; bytes = drop 8 z }) c.1
        ∙ sym (ap (read_by (seg_view s) i) e ∙ ap (λ (b : Bool). cond b (record { answer = 0; bytes = drop 8 (bytes_on (seg_view s) t) }) (no_read 4)) q))
        (ap (part_by (seg_view s') i) (a.0 ∙ e) ∙ ap (part_on (page_no t)) c.0 ∙ ap (part_by (seg_view s) i) (sym e))

    pub still_read : Same i
    still_read = go (slot_on (seg_view s) i) refl (sym (ap (λ (x : Read). x.answer) r.is) ∙ zero)
      where
        page_by : (x : Slot) → slot_on (seg_view s) i ≡ x → is_record x ≡ true
            → (lost (u.page (page_no i)) ≡ false) × (slot_no i < (u.page (page_no i)).slot_count) × Sound (u.page (page_no i))
        page_by x e k = used_page i below r.sound (ap is_free (sym (seen_slot s i) ∙ e) ∙ record_taken x k)

        kept_by : (x : Slot) → slot_on (seg_view s) i ≡ x → is_record x ≡ true → keeps (u.page (page_no i)) (slot_no i) ≡ true
        kept_by x e k = all_kept (u.page (page_no i)) (page_by x e k).2 (slot_no i) (ap is_record (sym (seen_slot s i) ∙ e) ∙ k)

        go : (x : Slot) → slot_on (seg_view s) i ≡ x → (read_by (seg_view s) i (slot_on (seg_view s) i)).answer ≡ 0 → Same i
        go (Ordinary o l) e a =
            let y = page_by (Ordinary o l) e refl in
            own_stays (Ordinary o l) e refl
            (deed_is i (Ordinary o l) (sym (seen_slot s i) ∙ e) ∙ ap (λ (b : Bool). cond b Stays RecordFreed) (kept_by (Ordinary o l) e refl)) y.0 y.1
        go Free e a = let z : (read_by (seg_view s) i Free).answer ≡ 0 = ap (λ (x : Slot). (read_by (seg_view s) i x).answer) (sym e) ∙ a in
            absurd (omega arith)
        go (Redirect t) e a = back (points_back (seg_view s) i t) refl (ap (λ (x : Slot). (read_by (seg_view s) i x).answer) (sym e) ∙ a)
          where
            back : (b : Bool) → points_back (seg_view s) i t ≡ b
                → (cond b (record { answer = 0; bytes = drop 8 (((seg_view s).page (page_no t)).bytes (slot_no t)) }) (no_read 4)).answer ≡ 0 → Same i
            back true q w = followed t e q
            back false q w = absurd (omega arith)
        go (Target o l) e a = name (named u (id_of (page_no i) (slot_no i))) refl
          where
            y : (lost (u.page (page_no i)) ≡ false) × (slot_no i < (u.page (page_no i)).slot_count) × Sound (u.page (page_no i))
            y = page_by (Target o l) e refl

            d : deed u (page_no i) (slot_no i) ≡ cond (named u (id_of (page_no i) (slot_no i))) Stays MadeOrdinary
            d =
                deed_is i (Target o l) (sym (seen_slot s i) ∙ e)
                ∙ ap (λ (b : Bool). cond b (cond (named u (id_of (page_no i) (slot_no i))) Stays MadeOrdinary) RecordFreed) (kept_by (Target o l) e refl)

            name : (b : Bool) → named u (id_of (page_no i) (slot_no i)) ≡ b → Same i
            name true q = own_stays (Target o l) e refl (d ∙ ap (λ (b : Bool). cond b Stays MadeOrdinary) q) y.0 y.1
            name false q = made o l e (d ∙ ap (λ (b : Bool). cond b Stays MadeOrdinary) q) y.0 y.1
