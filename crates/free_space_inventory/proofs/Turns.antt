-- One turn, and the end, of each loop of the inventory, as a law of the definition that the loop runs.
use Prim.Native.Nat.{ℕ, suc, ◌+◌, ◌-◌, ◌≤◌, ◌<◌}
use mathlib.Core.Path.{◌≡◌, ◌∙◌, ap}
use mathlib.Core.List.{List}
use native.Mathlib.Omega.{arith}
use native.Mathlib.Numerals.{add-one}
use borrow.Author.Tests.{le-leb, lt-leb, eq-eqb, ne_eqb}
use Rattle.store.specs.Inventory.{entry_at, set_entry, first_from, run_end, set_from, pulled_back}

module _ (f : ℕ → ℕ) (c q n : ℕ) where
  pub first_here : q < n → f q ≤ c → first_from f c q (n - q) ≡ q
  unfolding first_from
  first_here l h = let m : n - q ≡ suc (n - (q + 1)) = omega arith in rw (m, le-leb (f q) c h)

  pub first_next : q < n → c < f q → first_from f c q (n - q) ≡ first_from f c (q + 1) (n - (q + 1))
  unfolding first_from
  first_next l h = let m : n - q ≡ suc (n - (q + 1)) = omega arith in rw (m, lt-leb (f q) c h, add-one)

  pub first_none : n ≤ q → first_from f c q (n - q) ≡ q
  unfolding first_from
  first_none l = let m : n - q ≡ 0 = omega arith in rw m

module _ (s : List ℕ) (p c new : ℕ) where
  pub run_turn : c < new → entry_at s c ≡ p → run_end s p c (new - c) ≡ run_end s p (c + 1) (new - (c + 1))
  unfolding run_end
  run_turn l e = let m : new - c ≡ suc (new - (c + 1)) = omega arith in rw (m, eq-eqb (entry_at s c) p e, add-one)

  pub run_stop : c < new → (entry_at s c ≡ p → ⊥) → run_end s p c (new - c) ≡ c
  unfolding run_end
  run_stop l e = let m : new - c ≡ suc (new - (c + 1)) = omega arith in rw (m, ne_eqb (entry_at s c) p e)

  pub run_done : new ≤ c → run_end s p c (new - c) ≡ c
  unfolding run_end
  run_done l = let m : new - c ≡ 0 = omega arith in rw m

module _ (f : ℕ → ℕ) (old u : ℕ) (s : List ℕ) where
  pub down_turn : old < u → set_from f old (u - old) s ≡ set_from f old (u - 1 - old) (set_entry s (u - 1) (f (u - 1)))
  unfolding set_from
  down_turn l =
      let m : u - old ≡ suc (u - 1 - old) = omega arith in
      let n : old + (u - 1 - old) ≡ u - 1 = omega arith in
      ap (λ k. set_from f old k s) m ∙ ap (λ k. set_from f old (u - 1 - old) (set_entry s k (f k))) n

  pub down_done : u ≤ old → set_from f old (u - old) s ≡ s
  unfolding set_from
  down_done l = let m : u - old ≡ 0 = omega arith in rw m

module _ (p c : ℕ) (s : List ℕ) where
  pub pull_turn : c < 15 → p < entry_at s c → pulled_back p c (15 - c) s ≡ pulled_back p (c + 1) (15 - (c + 1)) (set_entry s c p)
  unfolding pulled_back
  pull_turn l h = let m : 15 - c ≡ suc (15 - (c + 1)) = omega arith in rw (m, lt-leb (entry_at s c) p h, add-one)

  pub pull_stop : c < 15 → entry_at s c ≤ p → pulled_back p c (15 - c) s ≡ s
  unfolding pulled_back
  pull_stop l h = let m : 15 - c ≡ suc (15 - (c + 1)) = omega arith in rw (m, le-leb (entry_at s c) p h)

  pub pull_done : 15 ≤ c → pulled_back p c (15 - c) s ≡ s
  unfolding pulled_back
  pull_done l = let m : 15 - c ≡ 0 = omega arith in rw m
