use Prim.Native.Nat.{◌+◌}
use mathlib.Core.Path.{◌≡◌}
use lib.ListN.{drop}
use Rattle.store.specs.ManyRows.{total}
use Rattle.segment_insert.proofs.rows.sum_to.Given as goal

abbrev pub invariant-loop-l : goal.invariant-loop-l
invariant-loop-l l = total l.lengths + l.left ≡ l.n + total (drop l.l-index l.lengths)
