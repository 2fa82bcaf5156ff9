use mathlib.Core.Path.{◌∙◌}
use mathlib.Core.List.{List}
use Prim.Native.Nat.{ℕ, ◌+◌, ◌-◌}
use native.Mathlib.Omega.{arith}
use lib.ListN.{length}
use Rattle.layout_runs.proofs.RunLaws.{part_next, part_last}
use Rattle.layout_runs.proofs.copy_in.Goals as goal

pub loop-preserved : goal.loop-preserved
loop-preserved c =
    let a = c.args in
    let at = c.loop in
    let next = part_next a.page.now a.src.now at.page a.at at.k at.invariant.0 (at.k + 32) (omega arith) (omega arith) in
    (c.copy_block-in-loop.ensures ∙ next, omega arith, omega arith, omega arith)

pub returns : goal.returns
returns c =
    let a = c.args in
    let s : List ℕ = a.src.now in
    let at = c.loop in
    c.copy_block-2.ensures ∙ part_last a.page.now s at.page a.at at.k at.invariant.0 (length s - 32) (omega arith) (omega arith)
