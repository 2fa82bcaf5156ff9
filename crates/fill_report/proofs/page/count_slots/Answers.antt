use native.Mathlib.Omega.{arith}
use Rattle.fill_report.proofs.PageLaws.{room}
use Rattle.fill_report.proofs.page.count_slots.Goals as goal

pub with_slot-c-requires : goal.with_slot-c-requires
with_slot-c-requires c =
    room _ _ c.loop-k.invariant c.get_slot.ensures.0 c.requires.0.sound (omega arith)
