use Prim.Native.Nat.{ℕ}
use mathlib.Core.List.{List}
use Rattle.store.specs.Page.{view}
use Rattle.store.specs.declared.Deed.{Deed}
use Rattle.page_repair.specs.Kept.{KeptMarks, Judged}
use Rattle.page_repair.proofs.keep.judge_records.Given as goal

-- The first k slots are judged, and the bytes of those kept are marked.
pub record Turns (page : List ℕ) (deeds₀ deeds : List Deed) (used : List ℕ) (k : ℕ) : Type 0 where
  pub judged : Judged (view page) k deeds₀ deeds
  pub marks : KeptMarks (view page) k used

abbrev pub invariant-loop-k : goal.invariant-loop-k
invariant-loop-k l = Turns l.page l.initial.deeds l.deeds l.used l.k
