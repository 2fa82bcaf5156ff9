use mathlib.Core.Path.{◌∙◌}
use Rattle.page_relocate.proofs.RecordLaws.{settle_done}
use Rattle.page_relocate.proofs.relocate.settle.Goals as goal

pub returns : goal.returns
returns c =
    let a = c.args in
    let y = settle_done a.page.now a.k a.size c.requires.used_slot c.move_slot.result c.move_slot.new.page c.move_slot.ensures.1 c.move_slot.ensures.0
    c.requires.size_bound in
    (y.0, c.is_some.ensures ∙ y.1)
