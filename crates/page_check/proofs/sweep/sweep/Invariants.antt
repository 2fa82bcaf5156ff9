use Prim.Native.Nat.{ℕ, ◌≤◌}
use mathlib.Core.List.{List}
use Rattle.store.specs.Page.{view}
use Rattle.page_check.specs.Fit.{RecordsFit, Total}
use Rattle.page_check.proofs.sweep.sweep.Given as goal

-- The records of the first k slots fit and begin at `low` or above, and their lengths add up to t.
pub record Swept (page : List ℕ) (f low t k : ℕ) : Type 0 where
  pub top : low ≤ 16384
  pub fit : RecordsFit (view page) k f low
  pub adds : Total (view page) k t

abbrev pub invariant-loop-k : goal.invariant-loop-k
invariant-loop-k l = Swept l.page l.header.first l.low l.total l.k
