use Prim.Native.Nat.{◌+◌, ◌*◌, ◌≤◌}
use mathlib.Core.Path.{◌≡◌, sym, ◌∙◌}
use native.Mathlib.Omega.{arith}
use lib.ListN.{length}
use Rattle.store.proofs.Laws.Numbers.{put_nil}
use Rattle.store.specs.Repair.{slot_entries}
use Rattle.page_repair.specs.Mended.{deeds_of}
use Rattle.page_repair.proofs.MendLaws.{differs}
use Rattle.segment_repair.proofs.TellLaws.{slots_room, turn_same, turn_told}
use Rattle.segment_repair.proofs.tell.tell_slots.Goals.{Then-ne, then-ne, else-ne}
use Rattle.segment_repair.proofs.tell.tell_slots.Goals as goal

room : (c : Then-ne) →
    let a = c.args in
    length (slot_entries (deeds_of a.deeds.now) a.p c.loop-slot.slot) + 1 ≤ length (slot_entries (deeds_of a.deeds.now) a.p a.n)
room c =
    let a = c.args in
    let k = c.loop-slot.slot in
    slots_room (deeds_of a.deeds.now) a.p k a.n c.loop-slot-test.true (differs (deeds_of a.deeds.now k) c.ne.ensures ∙ c.if-ne.true)

pub loop-slot-init : goal.loop-slot-init
loop-slot-init c = let a = c.args in (omega arith, sym (put_nil a.entries.now (3 * a.at)))

pub tell-requires : goal.tell-requires
tell-requires c = let r = room (goal.at.tell-requires c).Then-ne in omega arith

pub overflow_add-next : goal.overflow_add-next
overflow_add-next c = let r = room (goal.at.overflow_add-next c).Then-ne in omega arith

pub loop-slot-preserved : goal.loop-slot-preserved
loop-slot-preserved c =
    let a = c.args in
    let i = c.loop-slot.invariant in
    let k = c.loop-slot.slot in
    let d = deeds_of a.deeds.now in
    let is = differs (d k) c.ne.ensures in
    let same = turn_same d a.p k a.at c.loop-slot.next a.entries.now c.loop-slot.entries i.0 i.1 in
    let more = turn_told d a.p k a.at c.loop-slot.next a.entries.now c.loop-slot.entries i.0 i.1 in
    elim c.if-ne.branch [
      | then-ne w ↦ let m = more (is ∙ w.if-ne.true) _ w.tell.ensures in (w.next-is ∙ m.0, w.entries-is ∙ m.1)
      | else-ne w ↦ let m = same (is ∙ w.if-ne.false) in (w.next-is ∙ m.0, w.entries-is ∙ m.1)
    ]

pub returns : goal.returns
returns c =
    let i = c.loop-slot.invariant in
    let e : c.args.n ≡ c.loop-slot.slot = omega arith in
    rw e (i.0, i.1)
