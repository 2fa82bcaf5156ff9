use native.Mathlib.Omega.{arith}
use Rattle.exchange.proofs.MeasureLaws.{measured_room, measured_next, measured_all}
use Rattle.exchange.proofs.measure.measure_page.Goals as goal

pub with_part-sums-requires : goal.with_part-sums-requires
with_part-sums-requires c =
    measured_room _ c.told-page c.requires c.loop-k.k c.loop-k.sums c.loop-k.invariant (omega (arith, c.get_slot_count-k-end.ensures.0)) _ c.part_on.ensures.0

pub loop-k-preserved : goal.loop-k-preserved
loop-k-preserved c =
    measured_next _ c.told-page c.requires c.loop-k.k c.loop-k.sums c.loop-k.invariant (omega (arith, c.get_slot_count-k-end.ensures.0)) _ c.part_on.ensures.0 _
    c.with_part-sums.ensures

pub returns : goal.returns
returns c = measured_all _ c.told-page c.requires c.loop-k.k c.loop-k.sums c.loop-k.invariant (omega (arith, c.get_slot_count-k-end.ensures.0))
