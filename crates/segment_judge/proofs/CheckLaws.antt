-- The sound pages are marked, one after another.
use Prim.Native.Nat.{ℕ, ◌+◌, ◌/◌, ◌≤◌, ◌<◌}
use mathlib.Core.Path.{◌≡◌, sym, ap, ◌∙◌}
use mathlib.Core.Bool.{true, false}
use mathlib.Core.List.{List}
use native.Mathlib.Omega.{arith}
use native.Mathlib.Decide.{ℕ_discrete}
use lib.ListN.{length}
use Rattle.store.specs.Page.{view, sound}
use Rattle.store.specs.Segment.{page_of}
use Rattle.store.proofs.Laws.Cases.{never}
use Rattle.page_check.specs.Map.{mark, Blank, Claimed}
use Rattle.segment_judge.specs.Words.{Checked}

-- of the first p pages exactly the sound ones are marked, and no other bit is set
pub record Swept (s : List ℕ) (p : ℕ) (bits : List ℕ) : Type 0 where
  pub told : (q : ℕ) → q < p → mark bits q ≡ 1 → sound (view (page_of s q)) ≡ true
  pub back : (q : ℕ) → q < p → sound (view (page_of s q)) ≡ true → mark bits q ≡ 1
  pub rest : (q : ℕ) → p ≤ q → mark bits q ≡ 0

module _ (s : List ℕ) where
  pub swept_none : (bits : List ℕ) → Blank bits → Swept s 0 bits
  swept_none bits h = record { told = λ q l. absurd (omega arith); back = λ q l. absurd (omega arith); rest = λ q l. h q }

  module _ (p : ℕ) (bits : List ℕ) (h : Swept s p bits) where
    pub swept_skip : sound (view (page_of s p)) ≡ false → Swept s (p + 1) bits
    swept_skip n = record { told = told; back = back; rest = λ q l. h.rest q (omega arith) }
      where
        told : (q : ℕ) → q < p + 1 → mark bits q ≡ 1 → sound (view (page_of s q)) ≡ true
        told q l m = go (ℕ_discrete q p)
          where
            go : Dec (q ≡ p) → sound (view (page_of s q)) ≡ true
            go (yes e) = absurd (omega (arith, h.rest q (omega arith)))
            go (no d) = h.told q (omega arith) m

        back : (q : ℕ) → q < p + 1 → sound (view (page_of s q)) ≡ true → mark bits q ≡ 1
        back q l m = go (ℕ_discrete q p)
          where
            go : Dec (q ≡ p) → mark bits q ≡ 1
            go (yes e) = never m (ap (λ (r : ℕ). sound (view (page_of s r))) e ∙ n)
            go (no d) = h.back q (omega arith) m

    module _ (new : List ℕ) (c : Claimed bits new p (p + 1)) where
      same : (q : ℕ) → q < p → mark new q ≡ mark bits q
      same q l = c.keeps q (λ a b. omega arith)

      pub swept_mark : sound (view (page_of s p)) ≡ true → Swept s (p + 1) new
      swept_mark y =
          record { told = told; back = back; rest = λ q l. c.keeps q (λ a b. omega arith) ∙ h.rest q (omega arith) }
        where
          told : (q : ℕ) → q < p + 1 → mark new q ≡ 1 → sound (view (page_of s q)) ≡ true
          told q l m = go (ℕ_discrete q p)
            where
              go : Dec (q ≡ p) → sound (view (page_of s q)) ≡ true
              go (yes e) = ap (λ (r : ℕ). sound (view (page_of s r))) e ∙ y
              go (no d) = let b : q < p = omega arith in h.told q b (sym (same q b) ∙ m)

          back : (q : ℕ) → q < p + 1 → sound (view (page_of s q)) ≡ true → mark new q ≡ 1
          back q l m = go (ℕ_discrete q p)
            where
              go : Dec (q ≡ p) → mark new q ≡ 1
              go (yes e) = c.taken q (omega arith) (omega arith)
              go (no d) = let b : q < p = omega arith in same q b ∙ h.back q b m

  pub swept_all : (bits : List ℕ) → length s / 16384 < 32528 → Swept s (length s / 16384) bits → Checked s bits
  swept_all bits few h = record { known = record { few = omega arith; told = h.told }; back = h.back; rest = h.rest }
