-- The steps of a scan over sound pages, from the start of one on, give the entries of the pages from there on and then none.
use Rattle.std.specs.Prelude.{ℕ, zero, suc, ◌+◌, ◌-◌, ◌≤◌, ◌≡◌, refl, Bool, true, false, cond, List, ◌∷◌, ◌++◌, ltb}
use Rattle.std.proofs.Common.{sym, ap, ◌∙◌, subst, arith, lt-ltb, le-ltb}
use Rattle.std.proofs.Math.Nat.{sub-zero}
use Rattle.store.specs.Slots.{is_record}
use Rattle.store.specs.Page.{View}
use Rattle.store.specs.Segment.{SegView, seg_view, size_ok}
use Rattle.store.specs.Scan.{Scanned, record_at, next_record, scan_from, scan_plan, scan_step}
use Rattle.store.specs.Records.{Entry, entry_of, entries_from, pages_entries, GivesAll}
use Rattle.store.specs.Laws.Views.{Sound}
use Rattle.store.proofs.Laws.SoundPage.{good_in}
use Rattle.store.proofs.Laws.SoundSegment.{sized, seen_pages, undamaged}

-- ---- over what is seen: st is a step, on these pages

module _ (u : SegView) (sounds : (p : ℕ) → Sound (u.page p)) (st : ℕ → ℕ → Scanned)
    (is : (p k : ℕ) → p ≤ u.pages → st p k ≡ scan_from (u.pages - p) u p k) where
  -- a step on a page: the next record of it in at most d slots, or what comes on the pages after it
  abbrev OnPage : ℕ → ℕ → ℕ → Scanned → Scanned
  OnPage d p k r = let j = next_record d (u.page p) k in cond (ltb j (u.page p).slot_count) (record_at (u.page p) p j) r

  from_sound : (m p k : ℕ) → scan_from (suc m) u p k ≡ OnPage ((u.page p).slot_count - k) p k (scan_from m u (p + 1) 0)
  from_sound m p k =
      let w : View = u.page p in
      rw (undamaged w (sounds p) k, good_in w (sounds p) (next_record (w.slot_count - k) w k))

  module _ (m p : ℕ) (below : p + suc m ≡ u.pages) (rest : List Entry) (later : GivesAll st (scan_from m u (p + 1) 0) rest) where
    place : (d k : ℕ) → k + d ≡ (u.page p).slot_count → st p k ≡ OnPage d p k (scan_from m u (p + 1) 0)
    place d k e =
        let x : u.pages - p ≡ suc m = omega arith in
        let y : (u.page p).slot_count - k ≡ d = omega arith in
        is p k (omega arith) ∙ ap (λ (n : ℕ). scan_from n u p k) x ∙ from_sound m p k ∙ ap (λ (n : ℕ). OnPage n p k (scan_from m u (p + 1) 0)) y

    slots : (d k : ℕ) → k + d ≡ (u.page p).slot_count
        → GivesAll st (OnPage d p k (scan_from m u (p + 1) 0)) (entries_from d (u.page p) p k ++ rest)
    slots zero k e = rw (le-ltb k (u.page p).slot_count (omega arith)) later
    slots (suc d) k e = go (is_record ((u.page p).at k)) (slots d (k + 1) (omega arith))
      where
        w : View
        w = u.page p

        go : (b : Bool) → GivesAll st (OnPage d p (k + 1) (scan_from m u (p + 1) 0)) (entries_from d w p (k + 1) ++ rest)
            → GivesAll st (let j = cond b k (next_record d w (k + 1)) in cond (ltb j w.slot_count) (record_at w p j) (scan_from m u (p + 1) 0))
            (cond b (entry_of w p k ∷ entries_from d w p (k + 1)) (entries_from d w p (k + 1)) ++ rest)
        go true h =
            rw (lt-ltb k (u.page p).slot_count (omega arith)) (
              record { answer = refl; some = refl; id = refl; bytes = refl },
              subst (λ (x : Scanned). GivesAll st x (entries_from d w p (k + 1) ++ rest)) (sym (place d (k + 1) (omega arith))) h,
            )
        go false h = h

  pub pages_give : (m p : ℕ) → p + m ≡ u.pages → GivesAll st (scan_from m u p 0) (pages_entries m u p)
  pages_give zero p e =
      let x : u.pages - p ≡ 0 = omega arith in
      record { answer = refl; some = refl; still = is p 0 (omega arith) ∙ ap (λ (n : ℕ). scan_from n u p 0) x }
  pages_give (suc m) p e =
      rw (from_sound m p 0, sub-zero (u.page p).slot_count)
      (slots m p e (pages_entries m u (p + 1)) (pages_give m (p + 1) (omega arith)) (u.page p).slot_count 0 (omega arith))

-- ---- over bytes

-- a step up to the end of a segment of right size
pub steps : (s : List ℕ) → size_ok s ≡ true → (p k : ℕ) → p ≤ (seg_view s).pages → scan_step s p k ≡ scan_from ((seg_view s).pages - p) (seg_view s) p k
unfolding scan_step scan_plan
steps s e p k l =
    let f : ltb 32527 p ≡ false = le-ltb 32527 p (omega (arith, (sized s e).few, seen_pages s)) in
    rw (f, e)
