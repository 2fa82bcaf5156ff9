use Rattle.exchange.proofs.MeasureLaws.{PagesTo}
use Rattle.exchange.proofs.measure.measure_segment.Given as goal

abbrev pub invariant-loop-p : goal.invariant-loop-p
invariant-loop-p l = PagesTo l.segment l.p l.sums
