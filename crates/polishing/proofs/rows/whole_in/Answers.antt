use mathlib.Core.Path.{ap, ◌∙◌}
use Rattle.store.specs.Records.{records}
use Rattle.store.specs.Segment.{seg_view}
use Rattle.exchange.specs.Exchange.{readings}
use Rattle.polishing.specs.Words.{in_rows}
use Rattle.polishing.specs.declared.rows.Marks.{Marks}
use Rattle.polishing.proofs.Laws.Bits.{others}
use Rattle.polishing.proofs.Laws.Marks.{marks_whole}
use Rattle.polishing.proofs.rows.whole_in.Goals as goal

pub returns : goal.returns
returns c =
    let w = c.args.w in
    c.in_rows.ensures ∙ ap (λ (x : Marks). in_rows w.rows x.map (others x.spoiled)) c.add_segment.ensures
    ∙ marks_whole (readings (records (seg_view c.args.segment.now))) w
