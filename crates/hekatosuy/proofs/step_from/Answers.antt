use mathlib.Core.Path.{sym, subst, ap, ◌∙◌}
use Prim.Native.Nat.{◌<◌, ◌^◌}
use native.Mathlib.Omega.{arith}
use Rattle.store.specs.Numbers.{page_no, slot_no}
use Rattle.hekatosuy.specs.Handed.{Positioned, stepped}
use Rattle.hekatosuy.proofs.Positions.{positioned, same_position}
use Rattle.hekatosuy.proofs.step_from.Goals as goal

pub hand_step-requires : goal.hand_step-requires
hand_step-requires c =
    let s = c.args.segment.now in
    let p = c.args.position in
    let page : page_no p < 2 ^ 48 = omega (arith, c.ranges.position.fits) in
    let slot : slot_no p < 65536 = omega arith in
    λ xs. same_position c.scan_step-s.result s xs (subst Positioned (sym c.scan_step-s.ensures) (positioned s (page_no p) (slot_no p) page slot))

pub returns : goal.returns
returns c =
    c.hand_step.ensures c.args.segment.now ∙ ap stepped c.scan_step-s.ensures
