use Rattle.page_relocate.proofs.RelocationLaws.{shrink_done}
use Rattle.store.specs.Page.{view}
use Rattle.page_relocate.proofs.relocation.shrink.Goals as goal

pub returns : goal.returns
returns c =
    let a = c.args in
    let h = c.of-h in
    shrink_done (view a.page.now) a.k a.size h.result.count h.result.first h.result.start h.result.space c.len.result c.offset.result
    a.s c.placed_slot.result a.page.now c.commit.new.page
    c.requires.s_value.0 h.ensures.count h.ensures.first h.ensures.start h.ensures.space c.len.ensures c.offset.ensures c.placed_slot.ensures.0
    c.commit.ensures
