use native.Mathlib.Omega.{arith}
use Rattle.store.specs.Page.{View, view}
use Rattle.store.proofs.Laws.Calls.{page_ok}
use Rattle.slotted_page.specs.Words.{redirect_plan}
use Rattle.segment_steps.proofs.Lent.{lends, lent_taken, lent_plan}
use Rattle.segment_moves.proofs.set_redirect_on.Goals as goal

pub set_redirect-requires : goal.set_redirect-requires
set_redirect-requires c =
    let split = c.split_at_mut-rest.ensures in
    let u = lent_taken (lends split.front split.back c.first_chunk_mut.ensures.cases c.unwrap.ensures) c.args.k c.requires.taken_on in
    (omega (arith, u.whole, u.counted, u.sound.few), c.requires.id_bound)

pub returns : goal.returns
returns c =
    let split = c.split_at_mut-rest.ensures in
    let l = lends split.front split.back c.first_chunk_mut.ensures.cases c.unwrap.ensures in
    let x = c.set_redirect in
    let s = c.args.segment.now in
    let o = page_ok s c.args.p c.args.k c.requires.taken_on.whole c.requires.taken_on.sound c.requires.taken_on.taken in
    lent_plan l c.requires.taken_on.whole view o.seen (λ (v : View). redirect_plan v c.args.k c.args.id)
    x.new.page x.ensures
