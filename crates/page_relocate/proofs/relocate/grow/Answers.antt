use mathlib.Core.Path.{◌≡◌, ap, ◌∙◌}
use native.Mathlib.Omega.{arith}
use Rattle.store.specs.Slots.{len, off}
use Rattle.store.specs.Page.{view}
use Rattle.page_relocate.proofs.RecordLaws.{grow_done, old_done}
use Rattle.page_relocate.proofs.relocate.grow.Goals.{After-len-n}
use Rattle.page_relocate.proofs.relocate.grow.Goals as goal

length_is : (c : After-len-n) → c.len-n.result ≡ len ((view c.args.page.now).at c.args.k)
length_is c = c.len-n.ensures ∙ ap len c.requires.s_value.0

pub returns : goal.returns
returns c =
    let a = c.args in
    let e = c.in-Some.ensures.1 in
    let j = c.in-Some.field-0.slot in
    let d = c.in-Some.field-0.offset in
    let x = grow_done a.page.now a.k a.size c.requires.used_slot j d c.move_slot.new.page c.move_within.new.page e
    c.in-Some.ensures.0 c.offset.result c.len-n.result c.zero_fill.new.page
    (c.offset.ensures ∙ ap off c.requires.s_value.0) (length_is (goal.at.returns c).After-len-n)
    (omega (arith, c.len-n.ensures, c.requires.s_value.1)) c.requires.s_value.2
    c.move_within.ensures c.zero_fill.ensures in
    old_done a.page.now a.k a.size c.requires.used_slot j d c.move_slot.new.page c.zero_fill.new.page e c.in-Some.ensures.0 x
