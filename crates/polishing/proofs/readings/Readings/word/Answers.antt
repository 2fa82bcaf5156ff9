use mathlib.Core.Path.{sym, ap, ◌∙◌}
use mathlib.Core.Bool.{Bool, false}
use mathlib.Core.List.{List}
use lib.ListN.{get_or}
use Rattle.store.specs.Segment.{seg_view}
use Rattle.store.specs.Records.{records}
use Rattle.exchange.specs.Exchange.{readings}
use Rattle.polishing.proofs.Laws.Windows.{word_none}
use Rattle.polishing.proofs.readings.Readings.word.Goals as goal

pub returns-then-not-self-w : goal.returns-then-not-self-w
returns-then-not-self-w c =
    let r = c.args.self.now in
    let unmarked = ap (λ (ms : List Bool). get_or ms c.args.w false) (sym r.marks) ∙ c.if-not-self-w.true in
    sym (word_none r.mirror (readings (records (seg_view r.segment.now))) c.args.w c.requires unmarked r.rows r.named)
