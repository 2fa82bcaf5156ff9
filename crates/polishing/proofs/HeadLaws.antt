-- The head of a reading on a page: the page's own bytes tell its mirror, reading and row.
use Prim.Native.Nat.{ℕ, ◌+◌, ◌≤◌}
use mathlib.Core.Path.{◌≡◌, refl, sym, ap, ◌∙◌}
use mathlib.Core.List.{List}
use native.Mathlib.Omega.{arith}
use lib.Seq.{take-take}
use lib.ListN.{drop}
use borrow.Author.Tests.{eq-eqb, ne_eqb}
use Rattle.store.specs.Numbers.{cut, be}
use Rattle.store.proofs.Laws.Numbers.{cut_cut}
use Rattle.exchange.specs.declared.parts.Part.{Part}
use Rattle.exchange.specs.declared.parts.Part.TheVariants as part
use Rattle.polishing.specs.Polishing.{mirror_of, reading_of, row_of}
use Rattle.polishing.specs.Words.{head_of, part_head}
use Rattle.std.specs.Prelude.{Some, None}

module _ (p : List ℕ) (o n : ℕ) (headed : 8 ≤ n) where
  mirror_at : mirror_of (cut p o n) ≡ be (cut p o 4)
  mirror_at = ap be (take-take 4 n (drop o p) (omega arith))

  reading_at : reading_of (cut p o n) ≡ be (cut p (o + 4) 2)
  reading_at = ap be (cut_cut p o n 4 2 (omega arith))

  row_at : row_of (cut p o n) ≡ be (cut p (o + 6) 2)
  row_at = ap be (cut_cut p o n 6 2 (omega arith))

  module _ (m a : ℕ) (is : a ≡ be (cut p o 4)) where
    -- of another mirror
    pub head_other : (a ≡ m → ⊥) → None ≡ head_of m (cut p o n)
    head_other ne = rw (ne_eqb (mirror_of (cut p o n)) m (λ e. ne (is ∙ sym mirror_at ∙ e)))

    -- of this one
    pub head_row : a ≡ m → (r k : ℕ) → r ≡ be (cut p (o + 4) 2) → k ≡ be (cut p (o + 6) 2) → Some (record { reading = r; row = k }) ≡ head_of m (cut p o n)
    head_row e r k er ek =
        rw (eq-eqb (mirror_of (cut p o n)) m (mirror_at ∙ sym is ∙ e)) (λ i. Some (record { reading = (er ∙ sym reading_at) i; row = (ek ∙ sym row_at) i }))

-- what is no reading has none
pub no_head : (m : ℕ) (p : List ℕ) (a : Part) → ((o n : ℕ) → a ≡ part.Reading o n → ⊥) → None ≡ part_head m p a
no_head m p (part.Reading o n) k = absurd (k o n refl)
no_head m p part.Passed k = refl
no_head m p part.Nothing k = refl
