use Prim.Native.Nat.{ℕ, ◌<◌}
use mathlib.Core.List.{List}
use Rattle.store.specs.Page.{view}
use Rattle.page_check.specs.Fit.{RecordsFit, Total}
use Rattle.page_check.specs.Map.{Marked}
use Rattle.page_check.proofs.map.claim_all.Given as goal

-- The records of the first k slots fit and are marked, and their lengths add up to t.
pub record Mapped (page : List ℕ) (f d : ℕ) (used : List ℕ) (t k : ℕ) : Type 0 where
  pub fit : RecordsFit (view page) k f d
  pub adds : Total (view page) k t
  pub marked : Marked (view page) (λ j. j < k) used

abbrev pub invariant-loop-k : goal.invariant-loop-k
invariant-loop-k l = Mapped l.page l.header.first l.header.start l.used l.total l.k
