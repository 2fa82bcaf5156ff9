-- A pass over readings, whatever it notes of a head: slot by slot and page by page it comes to what all readings come to.
use Prim.Native.Nat.{ℕ, ◌+◌, ◌/◌, ◌≤◌, ◌<◌}
use mathlib.Core.Path.{◌≡◌, refl, sym, ap, ◌∙◌}
use mathlib.Core.List.{List, ◌++◌, foldl, foldl-append}
use native.Mathlib.Omega.{arith}
use lib.ListN.{length}
use Rattle.store.specs.Page.{View, view}
use Rattle.store.specs.PageSteps.{opened}
use Rattle.store.specs.Records.{records}
use Rattle.store.specs.Segment.{seg_view, page_of}
use Rattle.store.proofs.Laws.SoundSegment.{seen_pages, seen_page}
use Rattle.exchange.specs.Exchange.{readings}
use Rattle.exchange.specs.Words.{part_of_slot, part_rows, page_readings}
use Rattle.exchange.proofs.Laws.Left as left
use Rattle.exchange.specs.declared.parts.Part.{Part}
use Rattle.exchange.specs.declared.parts.Part.TheVariants as part
use Rattle.polishing.specs.Words.{SoundPage, head_of, part_head}
use Rattle.polishing.specs.declared.heads.Row.{Row}
use Rattle.std.specs.Prelude.{Option, None}

-- g notes a head, and nothing of any other record
module _ {S : Type 0} (g : S → Option Row → S) (none : (s : S) → g s None ≡ s) (m : ℕ) where
  abbrev pub over : S → List (List ℕ) → S
  over s bs = foldl (λ (x : S) (b : List ℕ). g x (head_of m b)) s bs

  over_part : (p : List ℕ) (a : Part) (s : S) (rs : List (List ℕ)) → over s (part_rows p a ++ rs) ≡ over (g s (part_head m p a)) rs
  over_part p (part.Reading o n) s rs = refl
  over_part p part.Passed s rs = ap (λ (x : S). over x rs) (sym (none s))
  over_part p part.Nothing s rs = ap (λ (x : S). over x rs) (sym (none s))

  -- slot by slot: what is noted so far and what is left give the whole
  pub over_all : (v : View) (s : S) → over s (page_readings (opened v)) ≡ over s (left.readings_from v 0)
  over_all v s = ap (over s) (left.readings_all v)

  pub over_next : (p : List ℕ) → SoundPage p → (k : ℕ) → k < (view p).slot_count → (s : S) (h : Option Row) → h ≡ part_head m p (part_of_slot ((view p).at k))
      → over s (left.readings_from (view p) k) ≡ over (g s h) (left.readings_from (view p) (k + 1))
  over_next p ok k c s h e =
      ap (over s) (left.readings_next p ok.0 ok.1 k c) ∙ over_part p (part_of_slot ((view p).at k)) s (left.readings_from (view p) (k + 1))
      ∙ ap (λ (x : Option Row). over (g s x) (left.readings_from (view p) (k + 1))) (sym e)

  pub over_none : (v : View) (k : ℕ) → v.slot_count ≤ k → (s : S) → over s (left.readings_from v k) ≡ s
  over_none v k c s = ap (over s) (left.readings_none v k c)

  -- page by page of a segment
  module _ (s : List ℕ) where
    pub over_pages_all : (x : S) → over x (readings (records (seg_view s))) ≡ over x (left.pages_readings (seg_view s) 0)
    over_pages_all x = ap (over x) (left.pages_readings_all (seg_view s))

    pub over_pages_next : (p : ℕ) → p < length s / 16384 → (x : S)
        → over x (left.pages_readings (seg_view s) p) ≡ over (over x (page_readings (opened (view (page_of s p))))) (left.pages_readings (seg_view s) (p + 1))
    over_pages_next p c x =
        let u = seg_view s in
        ap (over x) (left.pages_readings_next u p (omega (arith, seen_pages s)))
        ∙ foldl-append (λ (y : S) (b : List ℕ). g y (head_of m b)) x (page_readings (u.page p)) (left.pages_readings u (p + 1))
        ∙ ap (λ (v : View). over (over x (page_readings v)) (left.pages_readings u (p + 1))) (seen_page s p)

    pub over_pages_none : (p : ℕ) → p ≡ length s / 16384 → (x : S) → over x (left.pages_readings (seg_view s) p) ≡ x
    over_pages_none p c x = ap (over x) (left.pages_readings_none (seg_view s) p (omega (arith, seen_pages s)))
