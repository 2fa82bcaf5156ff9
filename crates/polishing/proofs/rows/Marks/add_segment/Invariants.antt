use mathlib.Core.Path.{◌≡◌}
use Rattle.store.specs.Records.{records}
use Rattle.store.specs.Segment.{seg_view}
use Rattle.exchange.specs.Exchange.{readings}
use Rattle.exchange.proofs.Laws.Left.{pages_readings}
use Rattle.polishing.specs.Words.{marks_over}
use Rattle.polishing.proofs.rows.Marks.add_segment.Given as goal

abbrev pub invariant-loop-p : goal.invariant-loop-p
invariant-loop-p l =
    marks_over l.w l.self (pages_readings (seg_view l.segment) l.p) ≡ marks_over l.w l.initial.self (readings (records (seg_view l.segment)))
