use mathlib.Core.Path.{sym, ap, ◌∙◌}
use Prim.Native.Nat.{ℕ, ◌+◌, ◌-◌, ◌*◌, ◌≤◌}
use native.Mathlib.Omega.{arith}
use Rattle.store.specs.Numbers.{page_no, slot_no}
use Rattle.store.specs.Slots.{off, len}
use Rattle.segment_pages.proofs.Seen.{few_slots, slot_high}
use Rattle.segment_write.proofs.Stored.{saved, record_cut}
use Rattle.segment_write.proofs.resize.save_record.Goals.{After-slot_on-slot}
use Rattle.segment_write.proofs.resize.save_record.Goals as goal

-- the record lies on its page, and has the bytes that are skipped
inside : (c : After-slot_on-slot) → let x = c.slot_on-slot.result in (c.args.skip ≤ len x) × (off x + len x ≤ 16384)
inside c =
    let a = c.args in
    let x = c.slot_on-slot in
    let on = c.requires.sound_on in (
      omega (arith, c.requires.skip_bound, ap len x.ensures.0),
      slot_high a.segment.now (page_no a.id) on.whole on.sound (slot_no a.id) x.result (sym x.ensures.0),
    )

pub slot_on-slot-requires-clause-p_bound : goal.slot_on-slot-requires-clause-p_bound
slot_on-slot-requires-clause-p_bound c =
    let on = c.requires.sound_on in few_slots c.args.segment.now (page_no c.args.id) on.whole on.sound

pub save-requires : goal.save-requires
save-requires c = let i = inside (goal.at.save-requires c).After-slot_on-slot in (
  omega (arith, c.offset.ensures, c.len.ensures, i.0, i.1, c.requires.sound_on.whole),
  omega (arith, c.len.ensures, i.1),
)

pub returns : goal.returns
returns c =
    let a = c.args in
    let s = a.segment.now in
    let p = page_no a.id in
    let x = c.slot_on-slot.result in
    let i = inside (goal.at.returns c).After-slot_on-slot in
    let n : ℕ = len x - a.skip in
    let at : ℕ = p * 16384 + off x + a.skip in
    rw c.len.ensures (
      omega (arith, i.1),
      saved s a.old.now at n (omega (arith, i.0, i.1, c.requires.sound_on.whole)) (omega (arith, i.1)) c.save.new.to
          (rw (c.len.ensures, c.offset.ensures) at c.save.ensures)
          ∙ record_cut s p (slot_no a.id) a.skip x (sym c.slot_on-slot.ensures.0) i.1,
    )
