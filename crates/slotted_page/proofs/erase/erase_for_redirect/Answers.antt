use Rattle.store.specs.Page.{view}
use Rattle.slotted_page.proofs.EraseLaws.{redirect_done}
use Rattle.slotted_page.proofs.erase.erase_for_redirect.Goals as goal

pub returns : goal.returns
returns c =
    let a = c.args in
    let h = c.of in
    redirect_done (view a.page.now) a.k a.id h.result.count h.result.first h.result.space a.page.now c.drop_record.new.page
    h.ensures.count h.ensures.first h.ensures.space c.drop_record.ensures
