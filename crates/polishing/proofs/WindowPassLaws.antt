-- The first pass over a segment: the windows that are marked so far and what is left give those of the whole.
use Prim.Native.Nat.{ℕ, ◌+◌, ◌/◌, ◌<◌}
use mathlib.Core.Path.{◌≡◌, refl, sym, ◌∙◌}
use mathlib.Core.Bool.{Bool, true}
use mathlib.Core.List.{List}
use native.Mathlib.Omega.{arith}
use lib.ListN.{length}
use borrow.Author.Count.{below_more}
use Rattle.store.specs.Page.{view, sound}
use Rattle.store.specs.PageSteps.{opened}
use Rattle.store.specs.Records.{records}
use Rattle.store.specs.Report.{all_sound}
use Rattle.store.specs.Segment.{seg_view, page_of}
use Rattle.store.proofs.Laws.Report.{sound_each}
use Rattle.exchange.specs.Exchange.{readings}
use Rattle.exchange.specs.Words.{page_readings}
use Rattle.exchange.proofs.Laws.Left.{pages_readings}
use Rattle.polishing.specs.Words.{with_mark, windows_over}
use Rattle.polishing.proofs.PassLaws.{over_pages_all, over_pages_next, over_pages_none}

-- pages below p are sound, and their marks are made
pub record MarkedTo (m : ℕ) (s : List ℕ) (w₀ : List Bool) (p : ℕ) (w : List Bool) : Type 0 where
  pub sounds : (q : ℕ) → q < p → sound (view (page_of s q)) ≡ true
  pub marks : windows_over m w (pages_readings (seg_view s) p) ≡ windows_over m w₀ (readings (records (seg_view s)))

module _ (m : ℕ) (s : List ℕ) (w₀ : List Bool) where
  pub marked_none : MarkedTo m s w₀ 0 w₀
  marked_none = record { sounds = λ q l. absurd (omega arith); marks = sym (over_pages_all with_mark (λ v. refl) m s w₀) }

  pub marked_next : (p : ℕ) (w : List Bool) → MarkedTo m s w₀ p w → p < length s / 16384 → sound (view (page_of s p)) ≡ true
      → MarkedTo m s w₀ (p + 1) (windows_over m w (page_readings (opened (view (page_of s p)))))
  marked_next p w h below ok =
      record {
        sounds = below_more _ _ h.sounds ok;
        marks = sym (over_pages_next with_mark (λ v. refl) m s p below w) ∙ h.marks;
      }

  pub marked_all : (p : ℕ) (w : List Bool) → MarkedTo m s w₀ p w → p ≡ length s / 16384
      → (all_sound (seg_view s) ≡ true) × (w ≡ windows_over m w₀ (readings (records (seg_view s))))
  marked_all p w h e = (
    sound_each s (λ q below. h.sounds q (omega arith)),
    sym (over_pages_none with_mark (λ v. refl) m s p e w) ∙ h.marks,
  )
