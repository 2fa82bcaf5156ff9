use Rattle.polishing.specs.Polishing.{whole_in}
use Rattle.polishing.proofs.Laws.Counted.{CountsTo}
use Rattle.polishing.proofs.readings.Readings.are_enough.Given as goal

abbrev pub invariant-loop-w : goal.invariant-loop-w
invariant-loop-w l = CountsTo (whole_in l.self.segment.now l.self.mirror l.self.rows) l.w l.counts
