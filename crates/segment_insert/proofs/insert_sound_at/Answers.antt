use Prim.Native.Nat.{◌+◌, ◌-◌, ◌*◌}
use lib.ListN.{length}
use native.Mathlib.Omega.{arith}
use borrow.Rule.Slice.PartMut.{put_mid}
use Rattle.segment_insert.proofs.Placed.{Asked, Wrote, no_place_lem, place_inside, wrote}
use Rattle.segment_insert.proofs.insert_sound_at.Goals.{After-allocate_on, After-put}
use Rattle.segment_insert.proofs.insert_sound_at.Given as given
use Rattle.segment_insert.proofs.insert_sound_at.Goals as goal

-- the place that was asked for, and the answer
asked : (g : given.Over) (c : After-allocate_on g) →
    let a = c.args in
    Asked a.segment.now a.p (length (g.R.Row.bytes a.row.now)) c.allocate_on.result c.allocate_on.new.segment
asked g c = rw c.len.ensures at c.allocate_on.ensures

-- the row's bytes stand in their place
stands : (g : given.Over) (c : After-put g) →
    let a = c.args in
    Wrote a.segment.now a.inventory.now (g.R.Row.bytes a.row.now) a.p c.in-Some.field-0.slot
    (put_mid (a.p * 16384) ((a.p + 1) * 16384 - a.p * 16384) c.allocate_on.new.segment c.put.new.page)
stands g c =
    let a = c.args in
    wrote a.segment.now a.inventory.now (g.R.Row.bytes a.row.now) a.p c.requires.sound_on.0 _ _ (asked g (goal.at.After-put g c).After-allocate_on) _ _
    c.in-Some.is c.requires.sizes c.put.new.page c.put.ensures

pub returns-in_default : goal.returns-in_default
returns-in_default g c =
    let a = c.args in
    no_place_lem a.segment.now a.inventory.now (g.R.Row.bytes a.row.now) a.p c.requires.sound_on.0 _ _
    (asked g (goal.at.returns-in_default g c).After-allocate_on) c.in_default.is

pub put-requires : goal.put-requires
put-requires g c =
    let a = c.args in
    place_inside a.segment.now a.inventory.now (g.R.Row.bytes a.row.now) a.p c.requires.sound_on.0 _ _
    (asked g (goal.at.put-requires g c).After-allocate_on) _ _
    c.in-Some.is

pub update_on-requires : goal.update_on-requires
update_on-requires g c =
    let t = (stands g (goal.at.update_on-requires g c).After-put).tells in
    record { room = t.0; within = t.1 }

pub overflow_add-result : goal.overflow_add-result
overflow_add-result g c = omega (arith, (stands g (goal.at.overflow_add-result g c).After-put).small)

pub returns : goal.returns
returns g c = (stands g (goal.at.returns g c).After-put).done _ c.update_on.ensures
