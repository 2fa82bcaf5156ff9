use Rattle.store.specs.Page.{View, view}
use Rattle.store.specs.PageSteps.{erase}
use Rattle.store.proofs.Laws.Calls.{page_ok}
use Rattle.segment_steps.proofs.Lent.{lends, lent_taken, lent_plan}
use Rattle.segment_steps.proofs.erase_on.Goals as goal

pub erase-requires : goal.erase-requires
erase-requires c =
    let split = c.split_at_mut-rest.ensures in
    lent_taken (lends split.front split.back c.first_chunk_mut.ensures.cases c.unwrap.ensures) c.args.k c.requires

pub returns : goal.returns
returns c =
    let split = c.split_at_mut-rest.ensures in
    let l = lends split.front split.back c.first_chunk_mut.ensures.cases c.unwrap.ensures in
    let o = page_ok c.args.segment.now c.args.p c.args.k c.requires.whole c.requires.sound c.requires.taken in
    lent_plan l c.requires.whole view o.seen (λ (v : View). erase v c.args.k) c.erase.new.page c.erase.ensures
