use mathlib.Core.Path.{◌≡◌}
use mathlib.Core.Bool.{true}
use Rattle.store.specs.Numbers.{all}
use Rattle.segment_judge.proofs.RowLaws.{stay}
use Rattle.segment_judge.proofs.Judge.all_stay.Given as goal

abbrev pub invariant-loop-k : goal.invariant-loop-k
invariant-loop-k l = all l.k (stay l.self.segment.now l.p) ≡ true
