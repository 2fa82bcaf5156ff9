-- The scan's position: from slot to slot and from page to page.
use Prim.Native.Nat.{ℕ, zero, suc, ◌+◌, ◌-◌, ◌/◌, ◌≤◌, ◌<◌}
use mathlib.Core.Path.{◌≡◌, refl, sym, ap, ◌∙◌}
use mathlib.Core.Bool.{Bool, true, false, not, cond}
use mathlib.Core.List.{List}
use Rattle.std.proofs.Common.{Option, Some, None}
use mathlib.Core.Logic.{⊎_elim}
use native.Mathlib.Omega.{arith}
use lib.ListN.{length}
use lib.Dec.{eqb, ltb}
use Rattle.std.proofs.Common.{ltb-true}
use Rattle.std.specs.List.{find, range_with_len}
use borrow.Author.Tests.{lt-ltb, le-ltb, leb-true, not-false}
use Rattle.store.specs.Slots.{is_record}
use Rattle.store.specs.Page.{View, fresh, count_fits, sound_tests, passes, sound}
use Rattle.store.specs.Refusals.{DONE, SIZE, DAMAGED}
use Rattle.store.specs.Segment.{SegView, seg_view, size_ok}
use Rattle.store.specs.Scan.{Scanned, without, over_page, next_record, damaged_at, scan_from, scan_plan, scan_step}
use Rattle.store.proofs.Laws.Cases.{by_test, or_true}
use Rattle.store.proofs.Laws.SoundPage.{and_both, fresh_none}
use Rattle.store.proofs.Laws.Scan.{next_record_lem}
use Rattle.store.proofs.Laws.SoundSegment.{seen_pages}
use Rattle.segment_scan.specs.Pages.{record_or, first_record, or_record, on_page}

-- ---- from slot to slot

-- the first of m slots from k on, as the definition of a step says it
first_of : (v : View) (n m k : ℕ) → n - k ≡ m
    → find (λ j. is_record (v.at j)) (range_with_len k m) ≡ cond (ltb (next_record m v k) n) (Some (next_record m v k)) None
first_of v n zero k e = rw (le-ltb k n (omega arith)) refl
first_of v n (suc m) k e = go (is_record (v.at k)) (first_of v n m (k + 1) (omega arith))
  where
    i : ℕ
    i = next_record m v (k + 1)

    rest : Option ℕ
    rest = find (λ j. is_record (v.at j)) (range_with_len (k + 1) m)

    go : (b : Bool) → rest ≡ cond (ltb i n) (Some i) None → cond b (Some k) rest ≡ cond (ltb (cond b k i) n) (Some (cond b k i)) None
    go true h = rw (lt-ltb k n (omega arith)) refl
    go false h = h

pub first_next : (v : View) (n k : ℕ) → let i = next_record (n - k) v k in first_record n v k ≡ cond (ltb i n) (Some i) None
first_next v n k = first_of v n (n - k) k refl

-- what is found is a slot that holds a record
pub first_is : (v : View) (n k j : ℕ) → first_record n v k ≡ Some j → (j < n) × (is_record (v.at j) ≡ true)
first_is v n k j e =
    by_test (λ (r : Option ℕ). r ≡ Some j → (j < n) × (is_record (v.at j) ≡ true)) (ltb i n) (Some i) None
    (λ t w. let q : i ≡ j = cc in let h = ltb-true i n t in rw (← q) (h, next_record_lem (n - k) v k (omega (arith, h)))) (λ t w. cc)
    (sym (first_next v n k) ∙ e)
  where
    i : ℕ
    i = next_record (n - k) v k

-- ---- the test of a page

-- a page that passes it, at any slot, has few slots
pub few_at : (v : View) (k : ℕ) → damaged_at v k ≡ false → v.slot_count ≤ 2046
unfolding sound
few_at v k =
    by_test (λ (b : Bool). b ≡ false → v.slot_count ≤ 2046) (eqb k 0) (not (sound v)) (not (count_fits v))
    (λ z e. ⊎_elim (λ f. omega (arith, fresh_none v f)) (λ t. fits (and_both (count_fits v) _ t).0)
    (or_true (fresh v) (passes sound_tests v) (not-false (sound v) e)))
    (λ z e. fits (not-false (count_fits v) e))
  where
    fits : count_fits v ≡ true → v.slot_count ≤ 2046
    fits = leb-true v.slot_count 2046

-- ---- one page

module _ (v : View) (p k : ℕ) (d : Scanned) where
  pub page_damaged : damaged_at v k ≡ true → without DAMAGED over_page 0 ≡ on_page v p k d
  unfolding on_page
  page_damaged e = rw e

  pub page_first : damaged_at v k ≡ false → (n : ℕ) → n ≡ v.slot_count → (r : Option ℕ) → first_record n v k ≡ r
      → or_record r v p d ≡ on_page v p k d
  unfolding on_page
  page_first e n count r q = rw e (ap (λ (x : Option ℕ). or_record x v p d) (sym q ∙ ap (λ (m : ℕ). first_record m v k) count))

-- ---- from page to page

or_found : (b : Bool) (j : ℕ) (v : View) (p : ℕ) (d : Scanned) → or_record (cond b (Some j) None) v p d ≡ cond b (record_or v p j) d
or_found true j v p d = refl
or_found false j v p d = refl

module _ (s : SegView) (n p k : ℕ) where
  pub from_turn : p < n → on_page (s.page p) p k (scan_from (n - (p + 1)) s (p + 1) 0) ≡ scan_from (n - p) s p k
  unfolding on_page record_or
  from_turn h =
      let m : n - p ≡ suc (n - (p + 1)) = omega arith in
      let v = s.page p in
      let j = next_record (v.slot_count - k) v k in
      let d = scan_from (n - (p + 1)) s (p + 1) 0 in
      rw m (ap (cond (damaged_at v k) (without DAMAGED over_page 0))
      (ap (λ (r : Option ℕ). or_record r v p d) (first_next v v.slot_count k) ∙ or_found (ltb j v.slot_count) j v p d))

  pub from_done : n ≤ p → without DONE p k ≡ scan_from (n - p) s p k
  from_done h = let m : n - p ≡ 0 = omega arith in rw m

pub plan_from : (s : List ℕ) (n p k : ℕ) → n ≡ length s / 16384 → scan_from (n - p) (seg_view s) p k ≡ scan_plan (seg_view s) p k
unfolding scan_plan
plan_from s n p k e = ap (λ (m : ℕ). scan_from (m - p) (seg_view s) p k) (e ∙ sym (seen_pages s))

-- ---- the step

module _ (s : List ℕ) (p k : ℕ) where
  pub step_over : 32527 < p → without DONE p k ≡ scan_step s p k
  unfolding scan_step
  step_over h = rw (lt-ltb 32527 p h)

  module _ (h : p ≤ 32527) where
    pub step_size : size_ok s ≡ false → without SIZE over_page 0 ≡ scan_step s p k
    unfolding scan_step
    step_size e = rw (le-ltb 32527 p h, e)

    pub step_plan : size_ok s ≡ true → scan_plan (seg_view s) p k ≡ scan_step s p k
    unfolding scan_step
    step_plan e = rw (le-ltb 32527 p h, e)
