use Rattle.segment_judge.proofs.RowLaws.{Half}
use Rattle.segment_judge.proofs.Judge.judge_page.Given as goal

abbrev pub invariant-loop-k : goal.invariant-loop-k
invariant-loop-k l = Half l.self.segment.now l.p l.n l.k l.deeds
