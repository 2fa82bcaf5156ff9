use Rattle.store.specs.Page.{View, view}
use Rattle.store.specs.PageSteps.{erase_for_redirect}
use Rattle.store.proofs.Laws.Calls.{page_ok}
use Rattle.segment_steps.proofs.Lent.{lends, lent_taken, lent_plan}
use Rattle.segment_moves.proofs.erase_for_redirect_on.Goals as goal

pub erase_for_redirect-requires-clause-used_slot : goal.erase_for_redirect-requires-clause-used_slot
erase_for_redirect-requires-clause-used_slot c =
    let split = c.split_at_mut-rest.ensures in
    lent_taken (lends split.front split.back c.first_chunk_mut.ensures.cases c.unwrap.ensures) c.args.k c.requires.taken_on

pub returns : goal.returns
returns c =
    let split = c.split_at_mut-rest.ensures in
    let l = lends split.front split.back c.first_chunk_mut.ensures.cases c.unwrap.ensures in
    let s = c.args.segment.now in
    let o = page_ok s c.args.p c.args.k c.requires.taken_on.whole c.requires.taken_on.sound c.requires.taken_on.taken in
    let x = c.erase_for_redirect in
    lent_plan l c.requires.taken_on.whole view o.seen (λ (v : View). erase_for_redirect v c.args.k c.args.id)
    x.new.page x.ensures
