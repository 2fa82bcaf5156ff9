-- The figures of the first pages of a segment, page by page.
use Prim.Native.Nat.{ℕ, zero, suc, ◌+◌, ◌*◌, ◌/◌, ◌^◌, ◌<◌}
use mathlib.Core.Path.{◌≡◌, refl, sym, ap, subst, ◌∙◌}
use mathlib.Core.Bool.{true, false}
use mathlib.Core.List.{List, [], ◌∷◌, map}
use native.Mathlib.Numerals.{add-one}
use native.Mathlib.Omega.{arith}
use lib.ListN.{length}
use Rattle.store.specs.Numbers.{all, zeros}
use Rattle.store.specs.Page.{View, view, sound}
use Rattle.store.specs.PageSteps.{opened}
use Rattle.store.specs.Segment.{SegView, seg_view, page_of}
use Rattle.store.specs.Report.{over, meanings, figures_to, figures, added, all_sound}
use Rattle.store.specs.Answers.{numbers}
use Rattle.store.proofs.Laws.Cases.{never, false_by}
use Rattle.store.proofs.Laws.SoundPage.{and_in, all_at}
use Rattle.store.proofs.Laws.Report.{seen_same}
use Rattle.store.specs.declared.Tally.{Tally}
use Rattle.fill_report.specs.Words.{Fills, AtMost}
use Rattle.fill_report.proofs.SumLaws.{most_more, most_added}

-- ---- one page more

over_more : (u : SegView) (p : ℕ) (gs : List (View → ℕ)) → added (map (over u p) gs) (map (λ g. g (u.page p)) gs) ≡ map (over u (suc p)) gs
over_more u p [] = refl
over_more u p (g ∷ gs) = rw (over_more u p gs) (ap (λ (x : ℕ). x ∷ map (over u (suc p)) gs) (omega arith))

figures_more : (u : SegView) (p : ℕ) → added (figures_to u p) (map (λ g. g (u.page p)) meanings) ≡ figures_to u (p + 1)
unfolding figures_to
figures_more u p = over_more u p meanings ∙ ap (λ (n : ℕ). figures_to u n) (sym (add-one p))

-- ---- the first p pages: they are sound, and t has their figures

pub record FilledTo (s : List ℕ) (p : ℕ) (t : Tally) : Type 0 where
  pub sounds : all p (λ q. sound ((seg_view s).page q)) ≡ true
  pub tally : numbers t ≡ figures_to (seg_view s) p
  pub most : AtMost (p * 65536) (numbers t)

zeros_most : (n : ℕ) → AtMost 0 (zeros n)
zeros_most zero = tt
zeros_most (suc n) = (omega arith, zeros_most n)

module _ (s : List ℕ) where
  pub filled_none : (t : Tally) → numbers t ≡ zeros 23 → FilledTo s 0 t
  unfolding figures_to
  filled_none t e = record { sounds = refl; tally = e; most = subst (AtMost 0) (sym e) (zeros_most 23) }

  module _ (p : ℕ) (t : Tally) (h : FilledTo s p t) where
    -- there is room for a page more
    pub filled_room : p < 32527 → AtMost (2 ^ 63) (numbers t)
    filled_room l = most_more (p * 65536) (2 ^ 63) (numbers t) (omega arith) h.most

    pub filled_more : sound (view (page_of s p)) ≡ true → (r : Tally) → Fills (opened (view (page_of s p))) t r → FilledTo s (p + 1) r
    unfolding seg_view
    filled_more ok r g = record {
      sounds = rw add-one (and_in (sound ((seg_view s).page p)) (all p (λ q. sound ((seg_view s).page q))) (seen_same s p ∙ ok) h.sounds);
      tally = g.figures ∙ ap (λ (l : List ℕ). added l (map (λ f. f ((seg_view s).page p)) meanings)) h.tally ∙ figures_more (seg_view s) p;
      most =
          subst (AtMost ((p + 1) * 65536)) (sym g.figures)
          (most_added (p * 65536) 65536 ((p + 1) * 65536) (numbers t) (map (λ f. f ((seg_view s).page p)) meanings) (omega arith) h.most g.small);
    }

  pub filled_stops : (p : ℕ) → p < length s / 16384 → sound (view (page_of s p)) ≡ false → all_sound (seg_view s) ≡ false
  unfolding seg_view
  filled_stops p l d = false_by (all_sound (seg_view s)) (λ h. never (all_at (seg_view s).pages (λ q. sound ((seg_view s).page q)) h p l) (seen_same s p ∙ d))

  pub filled_all : (t : Tally) → FilledTo s (length s / 16384) t → (all_sound (seg_view s) ≡ true) × (numbers t ≡ figures (seg_view s))
  unfolding seg_view
  filled_all t h = (h.sounds, h.tally)
