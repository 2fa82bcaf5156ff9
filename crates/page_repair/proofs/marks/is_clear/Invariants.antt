use Prim.Native.Nat.{ℕ, ◌+◌, ◌*◌, ◌≤◌, ◌<◌}
use mathlib.Core.List.{List}
use Rattle.page_check.specs.Map.{Mask, Clear}
use Rattle.page_repair.proofs.marks.is_clear.Given as goal

-- The bits from o on are clear up to bit b of word i, and m is that word's bits from b on.
pub record Words (used : List ℕ) (o end last m i : ℕ) : Type 0 where
  pub upto : i ≤ last
  pub b : ℕ
  pub inside : b < 64
  pub begun : o ≤ 64 * i + b
  pub short : 64 * i + b < end
  pub mask : Mask m b 64
  pub clear : Clear used o (64 * i + b)

abbrev pub invariant-loop-i : goal.invariant-loop-i
invariant-loop-i l = Words l.used l.o l.end l.last l.m l.i
