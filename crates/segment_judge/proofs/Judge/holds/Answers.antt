use mathlib.Core.Path.{◌≡◌, ap, subst, ◌∙◌}
use native.Mathlib.Omega.{arith}
use denote.Enum.Declared.{tag_of}
use Rattle.store.specs.SoundSegment.{slot_on}
use Rattle.store.specs.Repair.{standing}
use Rattle.store.specs.Laws.Slots.{Codable}
use Rattle.store.specs.declared.Slot.TheVariants.{Target}
use Rattle.store.specs.contracts.Slot as slot
use Rattle.segment_pages.proofs.Seen.{not_target}
use Rattle.segment_judge.specs.Words.{SlotApart}
use Rattle.segment_judge.proofs.HoldLaws.{target_asks, hold_lost, hold_other, hold_long, hold_back, hold_kept}
use Rattle.segment_judge.proofs.Judge.holds.Goals.{In-Some-Target}
use Rattle.segment_judge.proofs.Judge.holds.Goals as goal

is : (c : In-Some-Target)
    → let a = c.args in
    slot_on (standing a.self.now.segment.now) a.t ≡ Target c.in-Some-Target.offset c.in-Some-Target.field-0-1
is c = c.in-Some-Target.ensures.1 ∙ c.in-Some-Target.field-0-is

pub returns-in_default : goal.returns-in_default
returns-in_default c =
    let a = c.args in
    hold_other a.self.now.segment.now a.i a.t _ c.in_default.ensures.1
    (not_target _ (λ o l e. omega (arith, ap (tag_of slot.the_type) e)))

pub returns-in_default-2 : goal.returns-in_default-2
returns-in_default-2 c =
    let a = c.args in
    let s = a.self.now.segment.now in
    hold_lost s a.i a.t (subst (SlotApart s a.i a.t) c.in_default.is c.slot_of.ensures)

pub overflow_add-offset : goal.overflow_add-offset
overflow_add-offset c = let h = subst Codable c.in-Some-Target.field-0-is c.in-Some-Target.ensures.2 in omega arith

pub returns-then-offset-gt-PAGE_SIZE : goal.returns-then-offset-gt-PAGE_SIZE
returns-then-offset-gt-PAGE_SIZE c =
    let a = c.args in
    hold_long a.self.now.segment.now a.i a.t _ _ (is (goal.at.returns-then-offset-gt-PAGE_SIZE c).In-Some-Target) c.if-offset-gt-PAGE_SIZE.true

pub returns-then-back_id_on-i : goal.returns-then-back_id_on-i
returns-then-back_id_on-i c =
    let a = c.args in
    hold_back a.self.now.segment.now a.i a.t _ _ (is (goal.at.returns-then-back_id_on-i c).In-Some-Target) _ c.back_id_on.ensures
    c.if-back_id_on-i.true

pub target_kept-requires : goal.target_kept-requires
target_kept-requires c =
    let a = c.args in
    let w = target_asks a.self.now.segment.now a.i a.t _ _ c.in-Some-Target.ensures.0 (is (goal.at.target_kept-requires c).In-Some-Target) in
    (w.0, w.1)

pub returns : goal.returns
returns c =
    let a = c.args in
    c.target_kept.ensures
    ∙ hold_kept a.self.now.segment.now a.i a.t _ _ (is (goal.at.returns c).In-Some-Target) _ c.back_id_on.ensures c.in-Some-Target.ensures.0
    c.if-back_id_on-i.false
