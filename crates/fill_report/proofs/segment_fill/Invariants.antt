use Rattle.fill_report.proofs.FillLaws.{FilledTo}
use Rattle.fill_report.proofs.segment_fill.Given as goal

abbrev pub invariant-loop-p : goal.invariant-loop-p
invariant-loop-p l = FilledTo l.segment l.p l.tally
