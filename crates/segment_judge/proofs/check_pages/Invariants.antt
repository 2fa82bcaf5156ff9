use Rattle.segment_judge.proofs.CheckLaws.{Swept}
use Rattle.segment_judge.proofs.check_pages.Given as goal

abbrev pub invariant-loop-p : goal.invariant-loop-p
invariant-loop-p l = Swept l.segment l.p l.sound
