use mathlib.Core.Path.{sym, ap, subst, ◌∙◌}
use Rattle.exchange.specs.Words.{OnPage, part_of_slot}
use Rattle.exchange.proofs.Laws.Left.{slot_few, slot_target, part_lies}
use Rattle.exchange.proofs.parts.part_on.Goals as goal

pub get_slot-requires : goal.get_slot-requires
get_slot-requires c = (c.requires.1, slot_few _ c.told-page c.requires.0 c.args.k c.requires.1)

pub part_of-requires : goal.part_of-requires
part_of-requires c = (c.get_slot.ensures.1, slot_target _ c.told-page c.requires.0 c.args.k c.requires.1 _ c.get_slot.ensures.0)

pub returns : goal.returns
returns c =
    let is = c.part_of.ensures ∙ ap part_of_slot c.get_slot.ensures.0 in
    (is, subst (OnPage c.args.page.now) (sym is) (part_lies _ c.told-page c.requires.0 c.args.k c.requires.1))
