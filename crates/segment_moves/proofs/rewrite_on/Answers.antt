use Rattle.store.specs.Numbers.{fit}
use Rattle.store.specs.Page.{View}
use Rattle.segment_steps.proofs.Lent.{lends, lent_taken}
use Rattle.segment_moves.proofs.Moved.{lent_moved}
use Rattle.segment_moves.proofs.rewrite_on.Goals as goal

pub rewrite-requires : goal.rewrite-requires
rewrite-requires c =
    let split = c.split_at_mut-rest.ensures in
    lent_taken (lends split.front split.back c.first_chunk_mut.ensures.cases c.unwrap.ensures) c.args.k c.requires

pub returns : goal.returns
returns c =
    let split = c.split_at_mut-rest.ensures in
    let x = c.rewrite in
    lent_moved (lends split.front split.back c.first_chunk_mut.ensures.cases c.unwrap.ensures) c.args.k c.requires c.args.size
    (λ (v : View). fit c.args.size c.args.bytes.now) x.new.page _ x.ensures
