use mathlib.Core.Path.{◌∙◌, sym, ap}
use native.Mathlib.Omega.{arith}
use Rattle.store.specs.Slots.{is_free}
use Rattle.store.specs.Page.{view}
use Rattle.page_places.proofs.ReserveLaws.{next_past}
use Rattle.page_places.proofs.reserve.next_free.Goals as goal

pub loop-i-preserved : goal.loop-i-preserved
loop-i-preserved c =
    let a = c.args in
    let e = sym c.if-is_free.false ∙ c.is_free.ensures ∙ ap is_free c.get_slot.ensures.0 in
    (omega arith, sym (next_past (view a.page.now).at a.c c.loop-i.i (omega arith) e) ∙ c.loop-i.invariant.1)
