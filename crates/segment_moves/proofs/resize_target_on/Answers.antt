use mathlib.Core.List.{◌++◌}
use Prim.Native.Nat.{◌+◌}
use lib.ListN.{drop}
use Rattle.store.specs.Numbers.{to_be, fit}
use Rattle.store.specs.Page.{View}
use Rattle.segment_steps.proofs.Lent.{lends, lent_taken}
use Rattle.segment_moves.proofs.Moved.{lent_moved}
use Rattle.segment_moves.proofs.resize_target_on.Goals as goal

pub resize_target-requires-clause-used_slot : goal.resize_target-requires-clause-used_slot
resize_target-requires-clause-used_slot c =
    let split = c.split_at_mut-rest.ensures in
    lent_taken (lends split.front split.back c.first_chunk_mut.ensures.cases c.unwrap.ensures) c.args.k c.requires.taken_on

pub returns : goal.returns
returns c =
    let split = c.split_at_mut-rest.ensures in
    let x = c.resize_target in
    lent_moved (lends split.front split.back c.first_chunk_mut.ensures.cases c.unwrap.ensures) c.args.k c.requires.taken_on (c.args.size + 8)
    (λ (v : View). to_be 8 c.args.id ++ fit c.args.size (drop 8 (v.bytes c.args.k))) x.new.page _ x.ensures
