use mathlib.Core.Path.{sym, ap, subst, ◌∙◌}
use Rattle.exchange.specs.Words.{OnPage}
use Rattle.polishing.specs.Words.{part_head}
use Rattle.polishing.proofs.HeadLaws.{head_row}
use Rattle.polishing.proofs.heads.head_of.Goals as goal

pub returns : goal.returns
returns c =
    let p = c.args.page.now in
    let lies = subst (OnPage p) c.in-Reading.is c.requires in
    head_row p c.in-Reading.offset c.in-Reading.length lies.headed c.args.mirror _ c.get_u32.ensures.is c.if-get_u32-mirror.false _ _ c.get_u16.ensures.is
    c.get_u16-2.ensures.is
    ∙ sym (ap (part_head c.args.mirror p) c.in-Reading.is)
