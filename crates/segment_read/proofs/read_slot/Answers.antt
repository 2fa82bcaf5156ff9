use Prim.Native.Nat.{◌<◌, ◌^◌}
use mathlib.Core.Path.{refl, ap, ◌∙◌}
use native.Mathlib.Omega.{arith}
use Rattle.store.specs.Numbers.{page_no, slot_no}
use Rattle.segment_pages.proofs.Seen.{slot_high, target_long}
use Rattle.segment_read.specs.Parts.{found_at, locate_by}
use Rattle.segment_read.proofs.read_slot.Goals as goal

pub overflow_add-result : goal.overflow_add-result
overflow_add-result c =
    let a = c.args in
    let root = c.requires in
    let high = slot_high a.segment.now (page_no a.i) root.whole root.sound (slot_no a.i) _ (root.entry ∙ c.in-Ordinary.is) in
    omega arith

pub target_part-requires : goal.target_part-requires
target_part-requires c =
    let a = c.args in
    let root = c.requires in
    let e = root.entry ∙ c.in-Target.is in
    let high = slot_high a.segment.now (page_no a.i) root.whole root.sound (slot_no a.i) _ e in
    let long = target_long a.segment.now (page_no a.i) root.whole root.sound (slot_no a.i) _ e refl in
    let b : page_no a.i < 2 ^ 48 = omega (arith, c.ranges.i.fits) in
    (b, long, high)

pub returns-in-Ordinary : goal.returns-in-Ordinary
unfolding locate_by
returns-in-Ordinary c = rw c.in-Ordinary.is

pub returns-in-Free : goal.returns-in-Free
unfolding locate_by
returns-in-Free c = rw c.in-Free.is

pub returns-in-Redirect : goal.returns-in-Redirect
unfolding locate_by
returns-in-Redirect c = rw c.in-Redirect.is c.follow.ensures

pub returns-in-Target : goal.returns-in-Target
unfolding locate_by
returns-in-Target c = rw c.in-Target.is (ap found_at c.target_part.ensures)
