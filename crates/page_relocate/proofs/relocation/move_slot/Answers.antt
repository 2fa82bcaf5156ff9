use Rattle.store.specs.Page.{view}
use Rattle.page_relocate.proofs.RelocationLaws.{is_free_slot, is_record_slot, is_redirect_slot}
use mathlib.Core.Path.{refl, sym, ◌∙◌}
use Rattle.page_relocate.proofs.relocation.move_slot.Goals as goal

pub returns-then-is_free : goal.returns-then-is_free
returns-then-is_free c =
    let a = c.args in
    rw (is_free_slot (view a.page.now) a.k a.size c.get_slot-s.result c.get_slot-s.ensures.0
    (sym c.if-is_free.true ∙ c.is_free.ensures)) (refl, refl, tt)

pub returns-then-is_record : goal.returns-then-is_record
returns-then-is_record c =
    let a = c.args in
    rw (is_record_slot (view a.page.now) a.k a.size c.get_slot-s.result c.get_slot-s.ensures.0
    (sym c.if-is_record.true ∙ c.is_record.ensures)) c.resize_slot.ensures

pub returns : goal.returns
returns c =
    let a = c.args in
    rw (is_redirect_slot (view a.page.now) a.k a.size c.get_slot-s.result c.get_slot-s.ensures.0
    (sym c.if-is_free.false ∙ c.is_free.ensures) (sym c.if-is_record.false ∙ c.is_record.ensures)) c.home_slot.ensures
