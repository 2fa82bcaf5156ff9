use Rattle.store.specs.Numbers.{fit}
use Rattle.store.proofs.Laws.Fit.{length_fit}
use Rattle.page_relocate.proofs.RecordLaws.{bytes_done_lem}
use Rattle.page_relocate.proofs.record.rewrite.Goals as goal

pub returns : goal.returns
returns c =
    let a = c.args in
    let x = c.in-Some.field-0 in
    bytes_done_lem a.page.now a.k a.size c.requires x.slot x.offset c.move_slot.new.page c.fit_in.new.page c.in-Some.ensures.1 c.in-Some.ensures.0
    (fit a.size a.bytes.now) (length_fit a.size a.bytes.now) c.fit_in.ensures
