use Prim.Native.Nat.{ℕ, ◌+◌, ◌*◌, ◌≤◌, ◌<◌}
use mathlib.Core.Path.{◌≡◌}
use mathlib.Core.List.{List}
use lib.ListN.{length}
use Rattle.page_check.specs.Map.{Mask, Claimed}
use Rattle.page_check.proofs.map.claim.Given as goal

-- The bytes from o on are claimed up to bit b of word i, and m is that word's bits from b on.
pub record Words (used₀ : List ℕ) (o end last : ℕ) (used : List ℕ) (m i : ℕ) : Type 0 where
  pub upto : i ≤ last
  pub words : length used ≡ 256
  pub b : ℕ
  pub inside : b < 64
  pub begun : o ≤ 64 * i + b
  pub short : 64 * i + b < end
  pub mask : Mask m b 64
  pub claimed : Claimed used₀ used o (64 * i + b)

abbrev pub invariant-loop-i : goal.invariant-loop-i
invariant-loop-i l = Words l.fn.used l.o l.end l.last l.used l.m l.i
