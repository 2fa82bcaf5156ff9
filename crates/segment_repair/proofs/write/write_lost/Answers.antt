use mathlib.Core.Path.{◌∙◌}
use lib.ListN.{length}
use Rattle.store.specs.Numbers.{put}
use Rattle.layout.specs.Run.{head_of}
use Rattle.segment_repair.proofs.WriteLaws.{Lends, room_lost, written_lost}
use Rattle.segment_repair.proofs.write.write_lost.Goals.{After-unwrap}
use Rattle.segment_repair.proofs.write.write_lost.Goals as goal

lends : (c : After-unwrap) → Lends c.args.segment.now c.args.p c.split_at_mut-rest.result.0.now c.split_at_mut-rest.result.1.now c.unwrap.result.now
lends c =
    let s = c.split_at_mut-rest.ensures in
    record { before = s.front; behind = s.back; first = (rw c.unwrap.ensures at c.first_chunk_mut.ensures.cases).same }

pub tell-requires : goal.tell-requires
tell-requires c =
    let a = c.args in
    room_lost a.segment.now a.p c.requires.within.0 c.requires.within.1 a.at (length a.entries.now) c.requires.p_in_bounds

pub returns : goal.returns
returns c =
    let a = c.args in
    let z = c.default.ensures in
    let zeroed = c.write.ensures ∙ (λ i. put c.unwrap.result.now 0 (head_of (z.0 i) (z.1.0 i) (z.1.1.0 i) (z.1.1.1 i))) in
    written_lost a.segment.now a.p c.requires.within.0 c.requires.within.1 (lends (goal.at.returns c).After-unwrap) a.entries.now c.tell.new.entries
    c.write.new.page a.at zeroed c.tell.ensures
