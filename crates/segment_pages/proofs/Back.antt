-- "its target on another page pointing back", test by test.
use Prim.Native.Nat.{ℕ, ◌+◌, ◌*◌, ◌/◌, ◌≤◌, ◌<◌}
use mathlib.Core.Path.{◌≡◌, refl, sym, ap, ◌∙◌}
use mathlib.Core.Bool.{Bool, true, false, not, ◌&&◌}
use mathlib.Core.List.{List}
use mathlib.Core.Logic.{◌≢◌}
use native.Mathlib.Omega.{arith}
use lib.ListN.{length, take}
use lib.Dec.{ltb, eqb}
use borrow.Author.Tests.{ltb-true, eq-eqb}
use Rattle.store.specs.Numbers.{cut, be, page_no, slot_no}
use Rattle.store.specs.Slots.{is_target}
use Rattle.store.specs.Page.{sound}
use Rattle.store.specs.Segment.{seg_view, points_back}
use Rattle.store.proofs.Laws.Cases.{never}
use Rattle.store.proofs.Laws.SoundPage.{and_both}
use Rattle.store.proofs.Laws.SoundSegment.{seen_pages}
use Rattle.store.specs.declared.Slot.TheVariants.{Target}
use Rattle.segment_pages.proofs.Seen.{slot_high, target_long, target_head}

-- what the test of the page's place tells
pub is_elsewhere : {n p q : ℕ} → (ltb p n && not (eqb p q)) ≡ true → (p < n) × (p ≢ q)
is_elsewhere {n} {p} {q} e =
    let w = and_both (ltb p n) (not (eqb p q)) e in
    (ltb-true p n w.0, λ d. never w.1 (ap not (eq-eqb p q d)))

module _ (s : List ℕ) (i t : ℕ) where
  -- the page of t is there, and another than i's
  abbrev pub elsewhere : Bool
  elsewhere = ltb (page_no t) (length s / 16384) && not (eqb (page_no t) (page_no i))

  pub back_lost : elsewhere ≡ false → false ≡ points_back (seg_view s) i t
  back_lost h = rw (seen_pages s, h)

  module _ (h : elsewhere ≡ true) where
    pub inside : page_no t * 16384 + 16384 ≤ length s
    inside = let w = is_elsewhere {n = length s / 16384} {p = page_no t} {q = page_no i} h in omega (arith, w.0)

    module _ (ok : sound ((seg_view s).page (page_no t)) ≡ true) where
      pub target_inside : (o l : ℕ) → Target o l ≡ ((seg_view s).page (page_no t)).at (slot_no t) → (8 ≤ l) × (o + l ≤ 16384)
      target_inside o l e =
          (target_long s (page_no t) inside ok (slot_no t) (Target o l) (sym e) refl, slot_high s (page_no t) inside ok (slot_no t) (Target o l) (sym e))

      pub back_target : (o l : ℕ) → Target o l ≡ ((seg_view s).page (page_no t)).at (slot_no t) → (b : ℕ) → b ≡ be (cut s (page_no t * 16384 + o) 8)
          → eqb b i ≡ points_back (seg_view s) i t
      back_target o l e b q =
          let w = target_inside o l e in
          let g : be (take 8 (((seg_view s).page (page_no t)).bytes (slot_no t))) ≡ b =
          ap be (target_head s (page_no t) (slot_no t) o l (sym e) w.0 w.1) ∙ sym q in
          let u : is_target (((seg_view s).page (page_no t)).at (slot_no t)) ≡ true = ap is_target (sym e) in
          rw (seen_pages s, h, ok, u, g)
