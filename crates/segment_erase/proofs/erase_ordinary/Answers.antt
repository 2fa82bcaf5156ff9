use native.Mathlib.Omega.{arith}
use Rattle.segment_steps.proofs.After.{Took, took_length, left_own, left_room}
use Rattle.segment_erase.proofs.Erased.{erasing, took_erasing, by_ordinary}
use Rattle.segment_erase.proofs.erase_ordinary.Goals.{After-erase_on}
use Rattle.segment_erase.proofs.erase_ordinary.Goals as goal

-- what the page step left
took : (c : After-erase_on) → let a = c.args in Took a.segment.now (erasing a.segment.now a.id) c.erase_on.new.segment
took c = let a = c.args in took_erasing a.segment.now a.id c.requires.taken_on c.erase_on.new.segment c.erase_on.ensures

pub update_on-requires-clause-within : goal.update_on-requires-clause-within
update_on-requires-clause-within c =
    let s = c.args.segment.now in
    let e = erasing s c.args.id in
    let t = c.erase_on.new.segment in
    let x = took (goal.at.update_on-requires-clause-within c).After-erase_on in
    (omega (arith, took_length s e t x, c.requires.taken_on.whole), left_room t e.on e.plan.after (left_own s e t x))

pub returns : goal.returns
returns c =
    let a = c.args in
    by_ordinary a.segment.now a.inventory.now a.id c.erase_on.new.segment _ (took (goal.at.returns c).After-erase_on) c.update_on.ensures
