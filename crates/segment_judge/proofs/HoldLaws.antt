-- "a kept target pointing back from another page", test by test.
use Prim.Native.Nat.{ℕ, ◌+◌, ◌*◌, ◌≤◌, ◌<◌}
use mathlib.Core.Path.{◌≡◌, refl, sym, ap, ◌∙◌}
use mathlib.Core.Bool.{Bool, true, false, not, ◌&&◌}
use mathlib.Core.List.{List}
use mathlib.Core.Logic.{◌≢◌}
use native.Mathlib.Omega.{arith}
use native.Mathlib.Decide.{dec_lt}
use lib.ListN.{length, take}
use lib.Dec.{ltb, eqb}
use borrow.Author.Tests.{le-ltb, ltb-false, ne_eqb}
use Rattle.store.specs.Numbers.{cut, be, page_no, slot_no}
use Rattle.store.specs.Slots.{off, len, is_record, is_target}
use Rattle.store.specs.Page.{View, view, fresh, sound}
use Rattle.store.specs.Segment.{SegView, seg_view, page_of}
use Rattle.store.specs.SoundSegment.{slot_on, back_id}
use Rattle.store.specs.Repair.{standing, lost, keeps, holds}
use Rattle.store.proofs.Laws.Cases.{never, or_false}
use Rattle.store.proofs.Laws.SoundPage.{past_free, used_not_fresh, sound_page}
use Rattle.store.proofs.Laws.RepairPage.{keeps_is}
use Rattle.store.proofs.Laws.RepairPairs.{Holds, holds_is, holds_in}
use Rattle.store.proofs.Laws.RepairAlone.{all_kept, record_by}
use Rattle.store.proofs.Laws.Repair.{seen_slot, seen_bytes, standing_pages, standing_page}
use Rattle.store.specs.declared.Slot.{Slot}
use Rattle.store.specs.declared.Slot.TheVariants.{Free, Target}
use Rattle.page_repair.specs.Kept.{CountedPage}
use Rattle.segment_judge.specs.Words.{UsedOn, Apart}
use Rattle.segment_pages.proofs.Seen.{target_head}

-- ---- a page with a slot in use

pub not_lost : (v : View) (k : ℕ) → k < v.slot_count → v.slot_count ≤ 2046 → lost v ≡ false
not_lost v k l h = rw (le-ltb 2046 v.slot_count h, ne_eqb v.slot_count 0 (omega arith))

pub lost_few : (v : View) → lost v ≡ false → v.slot_count ≤ 2046
lost_few v e = ltb-false 2046 v.slot_count (or_false (ltb 2046 v.slot_count) (eqb v.slot_count 0 && not (fresh v)) e).0

-- a slot that is not seen as free is counted
pub counted : (q : List ℕ) (k : ℕ) → ((view q).at k ≡ Free → ⊥) → k < (view q).slot_count
counted q k n = go (dec_lt k (view q).slot_count)
  where
    go : Dec (k < (view q).slot_count) → k < (view q).slot_count
    go (yes l) = l
    go (no l) = absurd (n (past_free q k (omega arith)))

-- on a sound page each record is kept
pub sound_keeps : (q : List ℕ) (k : ℕ) → length q ≡ 16384 → sound (view q) ≡ true → k < (view q).slot_count → is_record ((view q).at k) ≡ true
    → keeps (view q) k ≡ true
sound_keeps q k whole e l r = all_kept (view q) (sound_page q whole (used_not_fresh (view q) (omega arith)) e) k r

-- a kept target lies in its page with its 8 bytes
pub kept_inside : (v : View) (k o l : ℕ) → v.at k ≡ Target o l → keeps v k ≡ true → (8 ≤ l) × (o + l ≤ 16384)
kept_inside v k o l e h =
    let w = keeps_is v k h in
    (omega (arith, w.target (ap is_target e), ap len e), omega (arith, w.high, ap off e, ap len e))

-- ---- what stands on a page, as it is seen

module _ (s : List ℕ) (t : ℕ) where
  pub stands : (x : Slot) → x ≡ ((seg_view s).page (page_no t)).at (slot_no t) → slot_on (standing s) t ≡ x
  stands x e = sym (seen_slot s t) ∙ sym e

  pub stands_view : (x : Slot) → slot_on (standing s) t ≡ x → (view (page_of s (page_no t))).at (slot_no t) ≡ x
  stands_view x e = ap (λ (v : View). v.at (slot_no t)) (sym (standing_page s (page_no t))) ∙ e

  -- and the id that it begins with
  pub back_is : (o l b : ℕ) → slot_on (standing s) t ≡ Target o l → keeps ((standing s).page (page_no t)) (slot_no t) ≡ true
      → b ≡ be (cut s (page_no t * 16384 + o) 8) → back_id (standing s) t ≡ b
  back_is o l b e k q =
      let w = kept_inside ((standing s).page (page_no t)) (slot_no t) o l e k in
      ap (λ (z : List ℕ). be (take 8 z)) (sym (seen_bytes s t)) ∙ ap be (target_head s (page_no t) (slot_no t) o l (seen_slot s t ∙ e) w.0 w.1) ∙ sym q

-- ---- what is asked of the page

module _ (s : List ℕ) (p k : ℕ) (q : List ℕ) (e : q ≡ page_of s p) (h : UsedOn s p k) where
  pub kept_asks : is_target ((view (page_of s p)).at k) ≡ true
      → CountedPage q (view q).slot_count × (k < (view q).slot_count) × (is_record ((view q).at k) ≡ true)
  kept_asks t =
      let c : (view q).slot_count ≡ (view (page_of s p)).slot_count = ap (λ (r : List ℕ). (view r).slot_count) e in (
        record { counted = refl; few = omega (arith, h.few) },
        omega (arith, h.counted),
        ap (λ (r : List ℕ). is_record ((view r).at k)) e ∙ record_by ((view (page_of s p)).at k) t,
      )

-- the target of id t
pub target_asks : (s : List ℕ) (i t o l : ℕ) → Apart s i t → slot_on (standing s) t ≡ Target o l
    → UsedOn s (page_no t) (slot_no t) × (is_target ((view (page_of s (page_no t))).at (slot_no t)) ≡ true)
target_asks s i t o l h e =
    let g = stands_view s t (Target o l) e in (
      record {
        within = omega (arith, h.below);
        counted = counted (page_of s (page_no t)) (slot_no t) (λ f. let z : ◌≡◌ {A = ℕ} 0 1 = cc in omega arith);
        few = h.few;
      },
      ap is_target g,
    )

-- ---- the tests

not_held : (u : SegView) (i t : ℕ) → (Holds u i t → ⊥) → false ≡ holds u i t
not_held u i t n = go (holds u i t) refl
  where
    go : (b : Bool) → holds u i t ≡ b → false ≡ b
    go true e = absurd (n (holds_is u i t e))
    go false e = refl

module _ (s : List ℕ) (t : ℕ) where
  pub count_standing : ((standing s).page (page_no t)).slot_count ≡ (view (page_of s (page_no t))).slot_count
  count_standing = ap (λ (v : View). v.slot_count) (standing_page s (page_no t))

  -- a page that is not lost, seen from another
  pub apart : (i : ℕ) → page_no t < (standing s).pages → page_no t ≢ page_no i → lost ((standing s).page (page_no t)) ≡ false → Apart s i t
  apart i below other whole =
      record {
        below = omega (arith, standing_pages s);
        other = other;
        few = omega (arith, lost_few ((standing s).page (page_no t)) whole, count_standing);
      }

module _ (s : List ℕ) (i t : ℕ) where
  pub hold_lost : (Apart s i t → ⊥) → false ≡ holds (standing s) i t
  hold_lost n = not_held (standing s) i t (λ x. n (apart s t i x.below x.other x.whole))

  pub hold_other : (x : Slot) → slot_on (standing s) t ≡ x → is_target x ≡ false → false ≡ holds (standing s) i t
  hold_other x e n = not_held (standing s) i t (λ h. never h.target (ap is_target e ∙ n))

  module _ (o l : ℕ) (e : slot_on (standing s) t ≡ Target o l) where
    pub hold_long : 16384 < o + 8 → false ≡ holds (standing s) i t
    hold_long h =
        not_held (standing s) i t (λ x. let w = kept_inside ((standing s).page (page_no t)) (slot_no t) o l e x.keeps in omega (arith, w.0, w.1))

    module _ (b : ℕ) (q : b ≡ be (cut s (page_no t * 16384 + o) 8)) where
      pub hold_back : b ≢ i → false ≡ holds (standing s) i t
      hold_back n = not_held (standing s) i t (λ x. n (sym (back_is s t o l b e x.keeps q) ∙ x.back))

      pub hold_kept : Apart s i t → b ≡ i → keeps (view (page_of s (page_no t))) (slot_no t) ≡ holds (standing s) i t
      hold_kept h is =
          ap (λ (v : View). keeps v (slot_no t)) (sym (standing_page s (page_no t))) ∙ go (keeps ((standing s).page (page_no t)) (slot_no t)) refl
        where
          go : (c : Bool) → keeps ((standing s).page (page_no t)) (slot_no t) ≡ c → c ≡ holds (standing s) i t
          go true k =
              sym (holds_in (standing s) i t
              (record {
                below = omega (arith, h.below, standing_pages s);
                whole = not_lost ((standing s).page (page_no t)) (slot_no t) (keeps_is ((standing s).page (page_no t)) (slot_no t) k).below
                    (omega (arith, h.few, count_standing s t));
                keeps = k;
                target = ap is_target e;
                other = h.other;
                back = back_is s t o l b e k q ∙ is;
              }))
          go false k = not_held (standing s) i t (λ x. never x.keeps k)
