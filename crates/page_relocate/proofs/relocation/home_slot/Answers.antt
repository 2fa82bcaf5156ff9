use Rattle.store.specs.Page.{view}
use Rattle.page_relocate.proofs.RelocationLaws.{home_done}
use Rattle.page_relocate.proofs.relocation.home_slot.Goals as goal

pub returns : goal.returns
returns c =
    let a = c.args in
    let y = home_done (view a.page.now) a.k a.size c.get_free_space-room.result a.page.now c.get_free_space-room.ensures.0
    c.put_under-d.result c.put_under-d.new.page c.if-room-size.false c.put_under-d.ensures.0 c.put_under-d.ensures.1 in
    (y.0, y.1, c.put_under-d.ensures.2)
