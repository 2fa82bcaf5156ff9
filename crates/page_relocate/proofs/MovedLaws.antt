-- A record that was relocated, or not, as code that has its place finds it.
use mathlib.Core.Path.{◌≡◌, refl, ap}
use mathlib.Core.Bool.{true, false}
use mathlib.Core.List.{List}
use Prim.Native.Nat.{ℕ}
use native.Mathlib.Omega.{arith}
use Rattle.store.specs.Answers.{Placed, given_place, allotted}
use Rattle.store.specs.PageSteps.{Relocated, refused, moved}
use Rattle.std.specs.Prelude.{None}
use Rattle.page_places.specs.Words.{place_at}
use Rattle.slotted_page.specs.Words.{page_bare, place_of, page_after, filled_at}
use Rattle.page_relocate.specs.Words.{alloc_of, page_moved, was_moved, refilled}

module _ (k : ℕ) (p q : List ℕ) where
  pub moved_done : (r : Relocated) (j o : ℕ) → place_at j o ≡ place_of (alloc_of k r) → q ≡ page_after (alloc_of k r) p
      → (q ≡ page_moved r p) × (true ≡ was_moved r)
  moved_done refused j o e x = let z : ◌≡◌ {A = ℕ} 0 1 = cc in absurd (omega arith)
  moved_done (moved a) j o e x = (x, refl)

  pub refilled_done : (r : Relocated) (j o : ℕ) (bs : List ℕ) → place_at j o ≡ place_of (alloc_of k r) → q ≡ page_after (filled_at (alloc_of k r) bs) p
      → (q ≡ page_moved (refilled r k bs) p) × (true ≡ was_moved r)
  refilled_done refused j o bs e x = let z : ◌≡◌ {A = ℕ} 0 1 = cc in absurd (omega arith)
  refilled_done (moved a) j o bs e x = (x, refl)

-- a refusal leaves the page
pub refused_done : (p q : List ℕ) (k : ℕ) (r : Relocated) → given_place None ≡ allotted (alloc_of k r) → q ≡ page_bare (alloc_of k r) p
    → (q ≡ page_moved r p) × (false ≡ was_moved r)
refused_done p q k refused e e₁ = (e₁, refl)
refused_done p q k (moved a) e e₁ = absurd (omega (arith, ap (λ (x : Placed). x.answer) e))
