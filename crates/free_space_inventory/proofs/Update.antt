-- The update as a whole: its steps make the definition, and its class stays in range.
use Prim.Native.Nat.{ℕ, ◌+◌, ◌-◌, ◌≤◌}
use mathlib.Core.Path.{◌≡◌, ◌∙◌, sym}
use mathlib.Core.List.{List}
use native.Mathlib.Omega.{arith}
use borrow.Author.Tests.{eq-eqb, ne_eqb}
use Rattle.store.proofs.Laws.Classes.{class_top}
use Rattle.store.specs.Inventory.{class_of, set_nibble, nibble, next_page, run_end, set_from, pulled_back, moved_on, updated}

pub class_le : (r x : ℕ) → r ≡ class_of x → r ≤ 15
class_le r x e = omega (arith, class_top x)

module _ (s : List ℕ) (n p old new : ℕ) (q : old ≡ nibble s p) where
  pub update_none : old ≡ new → s ≡ updated s n p new
  unfolding updated
  update_none e = rw (eq-eqb (nibble s p) new (sym q ∙ e))

  pub update_some : (old ≡ new → ⊥) → (t a b : List ℕ) (end : ℕ) → t ≡ set_nibble s (p + 240) new → end ≡ run_end t p old (new - old)
      → a ≡ set_from (next_page t n p) old (end - old) t → b ≡ pulled_back p new (15 - new) a → b ≡ updated s n p new
  unfolding updated moved_on
  update_some ne t a b end et ee ea eb = rw (ne_eqb (nibble s p) new (λ e. ne (q ∙ e)), ← q, ← et, ← ee, ← ea) eb
