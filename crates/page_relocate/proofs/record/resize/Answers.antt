use mathlib.Core.Path.{◌∙◌}
use Rattle.page_relocate.proofs.RecordLaws.{again_done}
use Rattle.page_relocate.proofs.record.resize.Goals as goal

pub returns : goal.returns
returns c =
    let a = c.args in
    (c.relocate.ensures.0 ∙ again_done a.page.now a.k a.size c.requires, c.relocate.ensures.1)
