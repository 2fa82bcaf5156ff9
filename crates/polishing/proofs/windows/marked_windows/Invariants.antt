use Rattle.std.specs.Prelude.{false, replicate}
use Rattle.polishing.proofs.WindowPassLaws.{MarkedTo}
use Rattle.polishing.proofs.windows.marked_windows.Given as goal

abbrev pub invariant-loop-p : goal.invariant-loop-p
invariant-loop-p l = MarkedTo l.mirror l.segment (replicate 1024 false) l.p l.marked
