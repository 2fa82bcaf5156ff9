-- Repair of one page, by what the page is: lost, fresh, in use, or in use and in order. Each law has the page's test as its hypothesis.
-- Assumes nothing.
use Prim.Native.Nat.{ℕ, ◌+◌, ◌*◌, ◌≤◌, ◌<◌}
use Rattle.std.specs.Prelude.{◌≡◌, Bool, true, false, not, length}
use Rattle.std.proofs.Math.Path.{refl, ap}
use Rattle.std.proofs.Common.{◌∙◌, ne_eqb, lt-ltb, le-ltb}
use Rattle.std.proofs.Math.Bool.{cond}
use mathlib.Core.List.{List, [], ◌∷◌, ◌++◌}
use native.Mathlib.Omega.{arith}
use Rattle.std.proofs.lemmas.Bool.{not-true}
use Rattle.store.specs.Numbers.{put, zeros, all}
use Rattle.store.specs.Page.{View, fresh, sound}
use Rattle.store.specs.Segment.{SegView, page_of}
use Rattle.store.specs.Repair.{standing, lost, deed, changes, slot_by, space_after, mended, mended_by, emptied, page_after, put_mended, page_bytes}
use Rattle.store.specs.Repair.{entry, slot_entries, head_entries, page_entries}
use Rattle.store.specs.declared.Deed.TheVariants.{Stays}
use Rattle.store.specs.declared.Slot.{Slot}
use Rattle.store.specs.declared.Slot.TheVariants.{Free}
use Rattle.store.specs.Laws.Views.{Sound}
use Rattle.store.proofs.Laws.SoundPage.{all_at, fresh_none, used_not_fresh, past_free, sound_page}
use Rattle.store.proofs.Laws.Segments.{length_page}
use Rattle.store.proofs.Laws.Repair.{standing_page}
use Rattle.store.proofs.Laws.RepairAlone.{space_same, same_at, quiet_by, quiet_bytes, quiet_entries, sound_not_lost}

-- ---- when a page is lost

pub lost_many : (v : View) → 2046 < v.slot_count → lost v ≡ true
lost_many v h = rw (lt-ltb 2046 v.slot_count h)

pub lost_none : (v : View) → v.slot_count ≡ 0 → fresh v ≡ false → lost v ≡ true
lost_none v z f = rw (f, z)

pub not_lost : (v : View) → 0 < v.slot_count → v.slot_count ≤ 2046 → lost v ≡ false
not_lost v some few = rw (le-ltb 2046 v.slot_count few, ne_eqb v.slot_count 0 (omega arith))

pub not_fresh : (v : View) → 0 < v.slot_count → fresh v ≡ false
not_fresh v some = used_not_fresh v (omega arith)

pub fresh_not_lost : (v : View) → fresh v ≡ true → lost v ≡ false
fresh_not_lost v f = rw (f, fresh_none v f)

-- ---- a free slot stays, and so one at or past the count

pub free_stays : (u : SegView) (p k : ℕ) → (u.page p).at k ≡ Free → deed u p k ≡ Stays
unfolding deed
free_stays u p k e = rw e

pub past_stays : (s : List ℕ) (p k : ℕ) → ((standing s).page p).slot_count ≤ k → deed (standing s) p k ≡ Stays
past_stays s p k h =
    free_stays (standing s) p k
    (ap (λ (v : View). v.at k) (standing_page s p) ∙ past_free (page_of s p) k (omega (arith, ap (λ (v : View). v.slot_count) (standing_page s p))))

module _ (u : SegView) (p : ℕ) where
  -- ---- a lost page

  module _ (l : lost (u.page p) ≡ true) where
    pub lost_after : page_after u p ≡ emptied
    unfolding page_after
    lost_after = ap (λ (b : Bool). cond b emptied (cond (fresh (u.page p)) (u.page p) (mended u p))) l

    pub lost_fresh : fresh (page_after u p) ≡ true
    lost_fresh = ap fresh lost_after

    pub lost_entries : page_entries u p ≡ entry p 65535 5 ∷ []
    unfolding page_entries
    lost_entries =
        ap (λ (b : Bool). cond b (entry p 65535 5 ∷ [])
        (cond (fresh (u.page p)) [] (slot_entries (deed u p) p (u.page p).slot_count ++ head_entries (deed u p) (u.page p) p))) l

    pub lost_bytes : (q : List ℕ) → page_bytes u p q ≡ put q 0 (zeros 12)
    unfolding page_bytes
    lost_bytes q = ap (λ (b : Bool). cond b (put q 0 (zeros 12)) (cond (fresh (u.page p)) q (put_mended (deed u p) (u.page p) q))) l

  -- ---- a page that is not lost

  module _ (l : lost (u.page p) ≡ false) (b : Bool) (f : fresh (u.page p) ≡ b) where
    kept_after : page_after u p ≡ cond b (u.page p) (mended u p)
    unfolding page_after
    kept_after = λ i. cond (l i) emptied (cond (f i) (u.page p) (mended u p))

    kept_entries : page_entries u p ≡ cond b [] (slot_entries (deed u p) p (u.page p).slot_count ++ head_entries (deed u p) (u.page p) p)
    unfolding page_entries
    kept_entries = λ i. cond (l i) (entry p 65535 5 ∷ [])
        (cond (f i) [] (slot_entries (deed u p) p (u.page p).slot_count ++ head_entries (deed u p) (u.page p) p))

    kept_bytes : (q : List ℕ) → page_bytes u p q ≡ cond b q (put_mended (deed u p) (u.page p) q)
    unfolding page_bytes
    kept_bytes q = λ i. cond (l i) (put q 0 (zeros 12)) (cond (f i) q (put_mended (deed u p) (u.page p) q))

  -- ---- a fresh page

  module _ (f : fresh (u.page p) ≡ true) where
    pub fresh_after : page_after u p ≡ u.page p
    fresh_after = kept_after (fresh_not_lost (u.page p) f) true f

    pub fresh_fresh : fresh (page_after u p) ≡ true
    fresh_fresh = ap fresh fresh_after ∙ f

    pub fresh_entries : page_entries u p ≡ []
    fresh_entries = kept_entries (fresh_not_lost (u.page p) f) true f

    pub fresh_bytes : (q : List ℕ) → page_bytes u p q ≡ q
    fresh_bytes q = kept_bytes (fresh_not_lost (u.page p) f) true f q

  -- ---- a page in use

  pub mended_space : (mended u p).free_space ≤ 16372
  unfolding mended_by
  mended_space = omega arith

  pub mended_count : (mended u p).slot_count ≡ (u.page p).slot_count
  unfolding mended_by
  mended_count = refl

  module _ (some : 0 < (u.page p).slot_count) (few : (u.page p).slot_count ≤ 2046) where
    pub used_after : page_after u p ≡ mended u p
    used_after = kept_after (not_lost (u.page p) some few) false (not_fresh (u.page p) some)

    pub used_fresh : fresh (page_after u p) ≡ false
    used_fresh = not_fresh (page_after u p) (omega (arith, mended_count, ap (λ (v : View). v.slot_count) used_after))

    pub used_space : (page_after u p).free_space ≤ 16372
    used_space = omega (arith, mended_space, ap (λ (v : View). v.free_space) used_after)

    pub used_entries : page_entries u p ≡ slot_entries (deed u p) p (u.page p).slot_count ++ head_entries (deed u p) (u.page p) p
    used_entries = kept_entries (not_lost (u.page p) some few) false (not_fresh (u.page p) some)

    pub used_bytes : (q : List ℕ) → page_bytes u p q ≡ put_mended (deed u p) (u.page p) q
    used_bytes q = kept_bytes (not_lost (u.page p) some few) false (not_fresh (u.page p) some) q

-- ---- a page that is sound and of which no slot changes: no entry, and the header as it was

module _ (s : List ℕ) (p : ℕ) (h : p * 16384 + 16384 ≤ length s) (e : sound ((standing s).page p) ≡ true) where
  seen_sound : fresh ((standing s).page p) ≡ false → Sound ((standing s).page p)
  unfolding standing
  seen_sound f = sound_page (page_of s p) (length_page s p h) f e

  pub sound_kept : lost ((standing s).page p) ≡ false
  unfolding standing
  sound_kept = sound_not_lost (page_of s p) (length_page s p h) e

  mended_free : slot_by (deed (standing s) p) ((standing s).page p) ≡ ((standing s).page p).at → Sound ((standing s).page p)
      → (mended (standing s) p).free_space ≡ ((standing s).page p).free_space
  unfolding mended_by
  mended_free g w = ap (λ (x : ℕ → Slot). space_after ((standing s).page p).slot_count x) g ∙ space_same ((standing s).page p) w

  module _ (some : 0 < ((standing s).page p).slot_count)
      (q : all ((standing s).page p).slot_count (λ k. not (changes (deed (standing s) p k))) ≡ true) where
    in_use : Sound ((standing s).page p)
    in_use = seen_sound (not_fresh ((standing s).page p) some)

    none_changes : (k : ℕ) → k < ((standing s).page p).slot_count → changes (deed (standing s) p k) ≡ false
    none_changes k m =
        not-true (changes (deed (standing s) p k))
        (all_at ((standing s).page p).slot_count (λ j. not (changes (deed (standing s) p j))) q k m)

    pub quiet_page : (page_entries (standing s) p ≡ []) × ((page_after (standing s) p).free_space ≡ ((standing s).page p).free_space)
        × (fresh (page_after (standing s) p) ≡ false)
    quiet_page = (
      quiet_entries (standing s) p sound_kept (λ f. quiet_by (standing s) p in_use none_changes),
      ap (λ (v : View). v.free_space) (used_after (standing s) p some in_use.few) ∙ mended_free (same_at (standing s) p in_use none_changes) in_use,
      used_fresh (standing s) p some in_use.few,
    )

    pub quiet_written : (r : List ℕ) → page_bytes (standing s) p r ≡ r
    quiet_written r = quiet_bytes (standing s) p r sound_kept (λ f. quiet_by (standing s) p in_use none_changes)
