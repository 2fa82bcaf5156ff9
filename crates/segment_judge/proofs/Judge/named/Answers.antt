use mathlib.Core.Path.{ap, subst, ◌∙◌}
use native.Mathlib.Omega.{arith}
use denote.Enum.Declared.{tag_of}
use Rattle.store.specs.contracts.Slot as slot
use Rattle.segment_judge.specs.Words.{SlotApart}
use Rattle.segment_judge.proofs.NameLaws.{name_lost, name_other, name_by}
use Rattle.segment_judge.proofs.Judge.named.Goals as goal

pub returns-in_default : goal.returns-in_default
returns-in_default c =
    let a = c.args in
    name_other a.self.now.segment.now a.t a.b c.requires _ c.in_default.ensures.1
    (λ j e. omega (arith, ap (tag_of slot.the_type) e))

pub returns-in_default-2 : goal.returns-in_default-2
returns-in_default-2 c =
    let a = c.args in
    let s = a.self.now.segment.now in
    name_lost s a.t a.b c.requires (subst (SlotApart s a.t a.b) c.in_default.is c.slot_of.ensures)

pub returns : goal.returns
returns c =
    let a = c.args in
    let w = c.in-Some-Redirect in
    name_by a.self.now.segment.now a.t a.b c.requires w.ensures.0 _ (w.ensures.1 ∙ w.field-0-is)
