-- Repair writes the pages upward: when page p is written, those below are as they will be and the others as they were. What is done to
-- page p is the same by this mixture as by the segment as it was. Assumes nothing.
use Prim.Native.Nat.{ℕ, zero, suc, ◌+◌, ◌*◌, ◌/◌, ◌%◌, ◌≤◌, ◌<◌}
use Rattle.std.specs.Prelude.{◌≡◌, Bool, true, false, ◌⊎◌, length, take}
use Rattle.std.proofs.Math.Path.{refl, ap}
use Rattle.std.proofs.Common.{sym, ◌∙◌, subst, inl, inr, arith, add-one}
use Rattle.std.proofs.Math.Bool.{cond}
use mathlib.Core.List.{List, [], ◌∷◌, ◌++◌}
use Rattle.std.proofs.Math.Decide.{dec_lt}
use Rattle.store.specs.Numbers.{put, zeros, be, id_of, page_no, slot_no}
use Rattle.store.specs.Slots.{is_record, is_target}
use Rattle.store.specs.Page.{View, view, fresh, sound}
use Rattle.store.specs.Segment.{SegView, page_of}
use Rattle.store.specs.SoundSegment.{slot_on, bytes_on, back_id}
use Rattle.store.specs.Repair.{standing, lost, keeps, holds, named, deed_by, deed, page_after, seg_after, put_mended, page_bytes, seg_bytes}
use Rattle.store.specs.Repair.{Entry, entry, slot_entries, head_entries, page_entries, seg_entries}
use Rattle.store.specs.declared.Deed.{Deed}
use Rattle.store.specs.declared.Deed.TheVariants.{Stays, RecordFreed, RedirectFreed, MadeOrdinary}
use Rattle.store.specs.declared.Slot.{Slot}
use Rattle.store.specs.declared.Slot.TheVariants.{Ordinary, Free, Redirect, Target}
use Rattle.store.proofs.Laws.Cases.{lt_or_le}
use Rattle.store.proofs.Laws.SoundPage.{fresh_none, past_free, sound_page}
use Rattle.store.proofs.Laws.Segments.{length_page, page_other}
use Rattle.store.proofs.Laws.RepairPage.{Shown, keeps_is, used}
use Rattle.store.proofs.Laws.RepairBytes.{page_length, page_seen, seg_length, page_of_lem}
use Rattle.store.proofs.Laws.RepairPairs.{Holds, holds_is, holds_in, KeptRedirect, named_is, named_in, slot_stays, bytes_stay, redirect_kept, target_kept}
use Rattle.store.proofs.Laws.RepairPairs.{left_redirect, left_target, counted}
use Rattle.store.proofs.Laws.Repair.{standing_pages, standing_page, shown, page_sound}
use Rattle.store.proofs.Laws.RepairAlone.{sound_not_lost, all_kept, record_by}
use Rattle.store.proofs.Laws.RepairQuiet.{lost_entries, lost_bytes, fresh_entries, fresh_bytes}

-- two tests that pass together are one
both_ways : (a b : Bool) → (a ≡ true → b ≡ true) → (b ≡ true → a ≡ true) → a ≡ b
both_ways true b f g = sym (f refl)
both_ways false true f g = g refl
both_ways false false f g = refl

-- every record of a page that passes the sound-page test is kept
pub record_kept : (q : List ℕ) → length q ≡ 16384 → sound (view q) ≡ true → (k : ℕ) → is_record ((view q).at k) ≡ true → keeps (view q) k ≡ true
record_kept q whole e k r = go (fresh (view q)) refl
  where
    go : (b : Bool) → fresh (view q) ≡ b → keeps (view q) k ≡ true
    go true f =
        let a = ap is_record (past_free q k (omega (arith, fresh_none (view q) f))) in
        let z : ◌≡◌ {A = ℕ} 0 1 = cc in absurd (omega arith)
    go false f = all_kept (view q) (sound_page q whole f e) k r

-- ---- a mixture m of what was seen, u, and of what will be

-- what holds a redirect's target is seen on the target's page alone
holds_moves : (a b : SegView) (i t : ℕ) → a.pages ≡ b.pages → a.page (page_no t) ≡ b.page (page_no t) → Holds a i t → Holds b i t
holds_moves a b i t n e h =
    record {
      below = omega (arith, h.below);
      whole = ap lost (sym e) ∙ h.whole;
      keeps = ap (λ (v : View). keeps v (slot_no t)) (sym e) ∙ h.keeps;
      target = ap (λ (v : View). is_target (v.at (slot_no t))) (sym e) ∙ h.target;
      other = h.other;
      back = ap (λ (v : View). be (take 8 (v.bytes (slot_no t)))) (sym e) ∙ h.back;
    }

pub record Mixed (u m : SegView) (p : ℕ) : Type 0 where
  pub pages : m.pages ≡ u.pages
  pub written : (q : ℕ) → q < u.pages → q < p → m.page q ≡ page_after u q
  pub left : (q : ℕ) → q < u.pages → p ≤ q → m.page q ≡ u.page q
  pub shown : (q : ℕ) → q < u.pages → Shown (u.page q)
  pub whole : (q : ℕ) → q < u.pages → q < p → lost (m.page q) ≡ false
  pub kept : (q k : ℕ) → q < u.pages → q < p → is_record ((m.page q).at k) ≡ true → keeps (m.page q) k ≡ true

module _ (u m : SegView) (p : ℕ) (x : Mixed u m p) where
  after_page : (q : ℕ) → (seg_after u).page q ≡ page_after u q
  unfolding seg_after
  after_page q = refl

  written_page : (q : ℕ) → q < u.pages → q < p → m.page q ≡ (seg_after u).page q
  written_page q l w = x.written q l w ∙ sym (after_page q)

  -- ---- a redirect's target

  holds_then : (i t : ℕ) → KeptRedirect u i t → Holds m i t
  holds_then i t k = go (lt_or_le (page_no t) p)
    where
      h : Holds u i t
      h = k.holds

      b : slot_no t < (u.page (page_no t)).slot_count
      b = (keeps_is (u.page (page_no t)) (slot_no t) h.keeps).below

      go : (page_no t < p) ⊎ (p ≤ page_no t) → Holds m i t
      go (inl w) =
          let e = written_page (page_no t) h.below w in
          let slot : slot_on m t ≡ slot_on u t = ap (λ (v : View). v.at (slot_no t)) e ∙ slot_stays u t h.whole b (target_kept u i t k) in
          let bytes : bytes_on m t ≡ bytes_on u t = ap (λ (v : View). v.bytes (slot_no t)) e ∙ bytes_stay u t h.whole b (target_kept u i t k) in
          record {
            below = omega (arith, h.below, x.pages);
            whole = x.whole (page_no t) h.below w;
            keeps = x.kept (page_no t) (slot_no t) h.below w (record_by (slot_on m t) (ap is_target slot ∙ h.target));
            target = ap is_target slot ∙ h.target;
            other = h.other;
            back = ap (λ (bs : List ℕ). be (take 8 bs)) bytes ∙ h.back;
          }
      go (inr w) = holds_moves u m i t (sym x.pages) (sym (x.left (page_no t) h.below w)) h

  holds_before : (i t : ℕ) → Holds m i t → Holds u i t
  holds_before i t h = go (lt_or_le (page_no t) p)
    where
      l : page_no t < u.pages
      l = omega (arith, h.below, x.pages)

      go : (page_no t < p) ⊎ (p ≤ page_no t) → Holds u i t
      go (inl w) =
          let e = written_page (page_no t) l w in
          let k = left_target u x.shown t l (ap (λ (v : View). is_target (v.at (slot_no t))) (sym e) ∙ h.target) in
          let b = (keeps_is (u.page (page_no t)) (slot_no t) k.holds.keeps).below in
          let stays = bytes_stay u t k.holds.whole b (target_kept u (back_id u t) t k) in
          let bytes : bytes_on m t ≡ bytes_on u t = ap (λ (v : View). v.bytes (slot_no t)) e ∙ stays in
          let back : back_id u t ≡ i = ap (λ (bs : List ℕ). be (take 8 bs)) (sym bytes) ∙ h.back in
          subst (λ (j : ℕ). Holds u j t) back k.holds
      go (inr w) = holds_moves m u i t x.pages (x.left (page_no t) l w) h

  -- of a redirect on a page that is not lost
  holds_same : (i t : ℕ) → page_no i < u.pages → lost (u.page (page_no i)) ≡ false → slot_on u i ≡ Redirect t → holds m i t ≡ holds u i t
  holds_same i t l w e =
      both_ways (holds m i t) (holds u i t) (λ h. holds_in u i t (holds_before i t (holds_is m i t h)))
      (λ h. holds_in m i t (holds_then i t (record { below = l; whole = w; is = e; holds = holds_is u i t h })))

  -- ---- what names a target of a page that is not yet written

  module _ (t : ℕ) (l : page_no t < u.pages) (g : p ≤ page_no t) where
    same_page : m.page (page_no t) ≡ u.page (page_no t)
    same_page = x.left (page_no t) l g

    same_back : back_id m t ≡ back_id u t
    same_back = ap (λ (v : View). be (take 8 (v.bytes (slot_no t)))) same_page

    named_then : (i : ℕ) → KeptRedirect u i t → KeptRedirect m i t
    named_then i k = go (lt_or_le (page_no i) p)
      where
        h : Holds m i t
        h = holds_moves u m i t (sym x.pages) (sym same_page) k.holds

        go : (page_no i < p) ⊎ (p ≤ page_no i) → KeptRedirect m i t
        go (inl w) =
            let stays = slot_stays u i k.whole (counted u x.shown i t k) (redirect_kept u i t k) in
            record {
              below = omega (arith, k.below, x.pages);
              whole = x.whole (page_no i) k.below w;
              is = ap (λ (v : View). v.at (slot_no i)) (written_page (page_no i) k.below w) ∙ stays ∙ k.is;
              holds = h;
            }
        go (inr w) =
            let e = x.left (page_no i) k.below w in
            record { below = omega (arith, k.below, x.pages); whole = ap lost e ∙ k.whole; is = ap (λ (v : View). v.at (slot_no i)) e ∙ k.is; holds = h }

    named_before : (i : ℕ) → KeptRedirect m i t → KeptRedirect u i t
    named_before i k = go (lt_or_le (page_no i) p)
      where
        n : page_no i < u.pages
        n = omega (arith, k.below, x.pages)

        go : (page_no i < p) ⊎ (p ≤ page_no i) → KeptRedirect u i t
        go (inl w) = left_redirect u x.shown i t n (ap (λ (v : View). v.at (slot_no i)) (sym (written_page (page_no i) n w)) ∙ k.is)
        go (inr w) =
            let e = x.left (page_no i) n w in
            record {
              below = n;
              whole = ap lost (sym e) ∙ k.whole;
              is = ap (λ (v : View). v.at (slot_no i)) (sym e) ∙ k.is;
              holds = holds_moves m u i t x.pages same_page k.holds;
            }

    named_same : named m t ≡ named u t
    named_same =
        both_ways (named m t) (named u t) (λ e. named_in u (back_id m t) t (named_before (back_id m t) (named_is m t e)))
        (λ e. named_in m (back_id u t) t (named_then (back_id u t) (named_is u t e)))

  -- ---- what is done to page p

  module _ (l : p < u.pages) where
    page_left : m.page p ≡ u.page p
    page_left = x.left p l (omega arith)

    module _ (w : lost (u.page p) ≡ false) (few : (u.page p).slot_count ≤ 2046) where
      by_slot : (k : ℕ) → k < (u.page p).slot_count → (y : Slot) → (u.page p).at k ≡ y → deed_by m p k y ≡ deed_by u p k y
      by_slot k b (Ordinary o n) e = ap (λ (v : View). cond (keeps v k) Stays RecordFreed) page_left
      by_slot k b Free e = refl
      by_slot k b (Redirect t) e =
          let pn : page_no (id_of p k) ≡ p = omega arith in
          let sn : slot_no (id_of p k) ≡ k = omega arith in
          let here : slot_on u (id_of p k) ≡ (u.page p).at k = λ i. (u.page (pn i)).at (sn i) in
          ap (λ (c : Bool). cond c Stays RedirectFreed)
          (holds_same (id_of p k) t (omega arith) (ap (λ (q : ℕ). lost (u.page q)) pn ∙ w) (here ∙ e))
      by_slot k b (Target o n) e =
          let pn : page_no (id_of p k) ≡ p = omega arith in
          let same = named_same (id_of p k) (omega arith) (omega arith) in
          λ i. cond (keeps (page_left i) k) (cond (same i) Stays MadeOrdinary) RecordFreed

      deed_same : (k : ℕ) → deed m p k ≡ deed u p k
      unfolding deed
      deed_same k = ap (λ (v : View). deed_by m p k (v.at k)) page_left ∙ go (dec_lt k (u.page p).slot_count)
        where
          go : Dec (k < (u.page p).slot_count) → deed_by m p k ((u.page p).at k) ≡ deed_by u p k ((u.page p).at k)
          go (yes b) = by_slot k b ((u.page p).at k) refl
          go (no b) = rw ((x.shown p l).past k (omega arith))

    deeds_same : lost (u.page p) ≡ false → fresh (u.page p) ≡ false → deed m p ≡ deed u p
    deeds_same w f = λ i k. deed_same w (used (u.page p) w f).1 k i

    pub entries_same : page_entries m p ≡ page_entries u p
    unfolding page_entries
    entries_same = go (lost (u.page p)) refl (fresh (u.page p)) refl
      where
        told : (ℕ → Deed) → View → List Entry
        told d v = cond (lost v) (entry p 65535 5 ∷ []) (cond (fresh v) [] (slot_entries d p v.slot_count ++ head_entries d v p))

        go : (a : Bool) → lost (u.page p) ≡ a → (b : Bool) → fresh (u.page p) ≡ b → page_entries m p ≡ page_entries u p
        go true w b f = lost_entries m p (ap lost page_left ∙ w) ∙ sym (lost_entries u p w)
        go false w true f = fresh_entries m p (ap fresh page_left ∙ f) ∙ sym (fresh_entries u p f)
        go false w false f = λ i. told (deeds_same w f i) (page_left i)

    pub bytes_same : (q : List ℕ) → page_bytes m p q ≡ page_bytes u p q
    unfolding page_bytes
    bytes_same q = go (lost (u.page p)) refl (fresh (u.page p)) refl
      where
        done : (ℕ → Deed) → View → List ℕ
        done d v = cond (lost v) (put q 0 (zeros 12)) (cond (fresh v) q (put_mended d v q))

        go : (a : Bool) → lost (u.page p) ≡ a → (b : Bool) → fresh (u.page p) ≡ b → page_bytes m p q ≡ page_bytes u p q
        go true w b f = lost_bytes m p (ap lost page_left ∙ w) q ∙ sym (lost_bytes u p w q)
        go false w true f = fresh_bytes m p (ap fresh page_left ∙ f) q ∙ sym (fresh_bytes u p f q)
        go false w false f = λ i. done (deeds_same w f i) (page_left i)

-- ---- the pages of a segment of which the first n are written

pub page_later : (u : SegView) (n : ℕ) (s : List ℕ) → n * 16384 ≤ length s → (q : ℕ) → n ≤ q → page_of (seg_bytes u n s) q ≡ page_of s q
unfolding seg_bytes
page_later u zero s h q l = refl
page_later u (suc n) s h q l =
    page_other (seg_bytes u n s) n (page_bytes u n (page_of s n)) (page_length u n (page_of s n) ∙ length_page s n (omega arith)) q (omega arith)
    ∙ page_later u n s (omega arith) q (omega arith)

module _ (s : List ℕ) (whole : length s % 16384 ≡ 0) (p : ℕ) (l : p < length s / 16384) where
  -- the segment when page p is to be written
  abbrev pub mixed : List ℕ
  mixed = seg_bytes (standing s) p s

  pub mixed_length : length mixed ≡ length s
  mixed_length = seg_length (standing s) p s

  pub mixed_written : (q : ℕ) → q < p → page_of mixed q ≡ page_bytes (standing s) q (page_of s q)
  mixed_written q w = page_of_lem (standing s) p s (omega arith) q w

  pub mixed_left : (q : ℕ) → p ≤ q → page_of mixed q ≡ page_of s q
  mixed_left q w = page_later (standing s) p s (omega arith) q w

  pub mixed_page : page_of mixed p ≡ page_of s p
  mixed_page = mixed_left p (omega arith)

  pub mixed_view : (q : ℕ) → q < p → view (page_of mixed q) ≡ page_after (standing s) q
  mixed_view q w =
      ap view (mixed_written q w) ∙ page_seen (standing s) q (page_of s q) (sym (standing_page s q)) (length_page s q (omega arith))

  written_sound : (q : ℕ) → q < p → sound (view (page_of mixed q)) ≡ true
  written_sound q w = ap sound (mixed_view q w) ∙ page_sound s whole q (omega arith)

  -- a sound page stays sound
  pub mixed_sound : (q : ℕ) → q < length s / 16384 → sound (view (page_of s q)) ≡ true → sound (view (page_of mixed q)) ≡ true
  mixed_sound q b e = go (lt_or_le q p)
    where
      go : (q < p) ⊎ (p ≤ q) → sound (view (page_of mixed q)) ≡ true
      go (inl w) = written_sound q w
      go (inr w) = ap (λ (r : List ℕ). sound (view r)) (mixed_left q w) ∙ e

  long : (q : ℕ) → q < length s / 16384 → length (page_of mixed q) ≡ 16384
  long q b = length_page mixed q (omega (arith, mixed_length))

  pub mixture : Mixed (standing s) (standing mixed) p
  unfolding standing
  mixture =
      record {
        pages = ap (λ (n : ℕ). n / 16384) mixed_length;
        written = λ q b w. mixed_view q w;
        left = λ q b w. ap view (mixed_left q w);
        shown = λ q b. shown s whole q b;
        whole = λ q b w. sound_not_lost (page_of mixed q) (long q b) (written_sound q w);
        kept = λ q k b w. record_kept (page_of mixed q) (long q b) (written_sound q w) k;
      }

  below : p < (standing s).pages
  below = omega (arith, standing_pages s)

  pub mixed_entries : page_entries (standing mixed) p ≡ page_entries (standing s) p
  mixed_entries = entries_same (standing s) (standing mixed) p mixture below

  pub mixed_bytes : (q : List ℕ) → page_bytes (standing mixed) p q ≡ page_bytes (standing s) p q
  mixed_bytes q = bytes_same (standing s) (standing mixed) p mixture below q

  -- one page more
  pub mixed_step : put mixed (p * 16384) (page_bytes (standing mixed) p (page_of mixed p)) ≡ seg_bytes (standing s) (suc p) s
  unfolding seg_bytes
  mixed_step = ap (put mixed (p * 16384)) (mixed_bytes (page_of mixed p) ∙ ap (page_bytes (standing s) p) mixed_page)

  pub mixed_told : seg_entries (standing s) p ++ page_entries (standing mixed) p ≡ seg_entries (standing s) (suc p)
  unfolding seg_entries
  mixed_told = ap (λ (es : List Entry). seg_entries (standing s) p ++ es) mixed_entries

  -- the same with p + 1, as a loop counts
  pub mixed_next : put mixed (p * 16384) (page_bytes (standing mixed) p (page_of mixed p)) ≡ seg_bytes (standing s) (p + 1) s
  mixed_next = mixed_step ∙ ap (λ (n : ℕ). seg_bytes (standing s) n s) (sym (add-one p))

  pub told_next : seg_entries (standing s) p ++ page_entries (standing mixed) p ≡ seg_entries (standing s) (p + 1)
  told_next = mixed_told ∙ ap (seg_entries (standing s)) (sym (add-one p))
