use Rattle.store.specs.Numbers.{fit, page_no}
use Rattle.store.proofs.Laws.Fit.{length_fit}
use Rattle.segment_forward.proofs.Steps.{BothLeft, asks_first, asks_second}
use Rattle.segment_forward.proofs.Home.{home_asks, home_left, home_done}
use Rattle.segment_forward.proofs.at_home.Goals.{After-erase_on}
use Rattle.segment_forward.proofs.at_home.Goals as goal

-- what is left once the target is freed
left : (c : After-erase_on) → let a = c.args in
    BothLeft a.segment.now c.erase_on.new.segment (page_no a.id) (page_no a.t)
left c =
    let a = c.args in
    home_left a.segment.now a.id a.size (fit a.size a.bytes.now) a.t c.requires.follows c.requires.size_bound
    (length_fit a.size a.bytes.now) c.rewrite_on.new.segment c.rewrite_on.ensures.0 c.erase_on.new.segment c.erase_on.ensures

pub erase_on-requires : goal.erase_on-requires
erase_on-requires c =
    let a = c.args in
    home_asks a.segment.now a.id a.size (fit a.size a.bytes.now) a.t c.requires.follows c.requires.size_bound
    (length_fit a.size a.bytes.now) c.rewrite_on.new.segment c.rewrite_on.ensures.0

pub update_on-requires-clause-within : goal.update_on-requires-clause-within
update_on-requires-clause-within c =
    asks_first c.args.segment.now c.args.inventory.now _ _ _ (left (goal.at.update_on-requires-clause-within c).After-erase_on)

pub update_on-requires-2-clause-within : goal.update_on-requires-2-clause-within
update_on-requires-2-clause-within c =
    asks_second c.args.segment.now c.args.inventory.now _ _ _ (left (goal.at.update_on-requires-2-clause-within c).After-erase_on)

pub returns : goal.returns
returns c =
    let a = c.args in
    home_done a.segment.now a.id a.size (fit a.size a.bytes.now) a.t c.requires.follows c.requires.size_bound
    (length_fit a.size a.bytes.now) c.rewrite_on.new.segment c.rewrite_on.ensures.0 c.erase_on.new.segment c.erase_on.ensures
    a.inventory.now _ _ c.update_on.ensures c.update_on-2.ensures
