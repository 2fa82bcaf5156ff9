use Rattle.store.specs.Segment.{seg_view}
use Rattle.exchange.specs.Words.{segment_file}
use Rattle.exchange.proofs.LeftLaws.{pages_file}
use Rattle.exchange.proofs.WriteLaws.{Left}
use Rattle.exchange.proofs.write.write_file.Given as goal

abbrev pub invariant-loop-p : goal.invariant-loop-p
invariant-loop-p l = Left l.initial.file 0 (segment_file (seg_view l.segment)) l.file l.at (pages_file (seg_view l.segment) l.p)
