use native.Mathlib.Omega.{arith}
use Rattle.store.specs.Page.{view}
use Rattle.page_places.proofs.ReserveLaws.{reserve_none, reserve_done}
use Rattle.page_places.proofs.reserve.reserve.Goals as goal

pub returns-then-header-size : goal.returns-then-header-size
returns-then-header-size c =
    let a = c.args in
    let h = c.of-header in
    let y = reserve_none (view a.page.now) a.size h.result.count h.result.first h.result.space
    c.added_for-more.result h.ensures.count h.ensures.first h.ensures.space
    c.added_for-more.ensures.0 a.page.now c.if-header-size.true in
    (y.0, y.1, tt, tt)

pub returns : goal.returns
returns c =
    let a = c.args in
    let h = c.of-header in
    let y = reserve_done (view a.page.now) a.size h.result.count h.result.first h.result.space
    c.added_for-more.result h.ensures.count h.ensures.first h.ensures.space
    c.added_for-more.ensures.0 c.requires.used_page.sound
    c.make_room.result c.next_free-first.result a.page.now c.make_room.new.page c.write.new.page
    c.write_slot.new.page c.if-header-size.false c.next_free-first.ensures c.make_room.ensures.is c.make_room.ensures.begins
    c.write.ensures c.write_slot.ensures in (
      y.0,
      y.1,
      omega (arith, c.make_room.ensures),
      omega (arith, c.make_room.ensures, c.added_for-more.ensures, h.ensures.count),
    )
