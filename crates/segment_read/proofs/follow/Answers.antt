use Prim.Native.Nat.{◌<◌, ◌^◌}
use mathlib.Core.Path.{◌≡◌, sym, ap, ◌∙◌}
use mathlib.Core.Bool.{true}
use native.Mathlib.Omega.{arith}
use Rattle.store.specs.Numbers.{page_no}
use Rattle.store.specs.Segment.{seg_view, points_back}
use Rattle.segment_pages.proofs.Seen.{few_slots}
use Rattle.segment_pages.proofs.Root.{back_taken}
use Rattle.segment_read.specs.Parts.{found_at}
use Rattle.segment_read.proofs.Locate.{follow_none, follow_target, target_inside}
use Rattle.segment_read.proofs.follow.Goals.{Else-not-points_back}
use Rattle.segment_read.proofs.follow.Goals as goal

points : (c : Else-not-points_back) → let a = c.args in points_back (seg_view a.segment.now) a.i a.t ≡ true
points c = sym c.points_back.ensures ∙ c.if-not-points_back.false

pub returns-then-not-points_back : goal.returns-then-not-points_back
returns-then-not-points_back c =
    let a = c.args in
    follow_none a.segment.now a.i a.t (sym c.points_back.ensures ∙ c.if-not-points_back.true)

pub slot_on-requires : goal.slot_on-requires
slot_on-requires c =
    let a = c.args in
    let s = a.segment.now in
    let w = back_taken s a.i a.t (points (goal.at.slot_on-requires c).Else-not-points_back) in
    record { within = w.whole; p_bound = few_slots s (page_no a.t) w.whole w.sound }

pub target_part-requires : goal.target_part-requires
target_part-requires c =
    let w = target_inside c.args.segment.now c.args.i c.args.t (points (goal.at.target_part-requires c).Else-not-points_back) _ c.slot_on.ensures.0 _ _
    c.in-Target.is in
    let b : page_no c.args.t < 2 ^ 48 = omega (arith, c.ranges.t.fits) in
    (b, w.0, w.1)

pub returns : goal.returns
returns c =
    let a = c.args in
    ap found_at c.target_part.ensures
    ∙ follow_target a.segment.now a.i a.t (points (goal.at.returns c).Else-not-points_back) _ c.slot_on.ensures.0 _ _
    c.in-Target.is
