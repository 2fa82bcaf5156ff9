use Prim.Native.Nat.{◌*◌}
use Rattle.segment_repair.proofs.TellLaws.{put3}
use Rattle.segment_repair.proofs.tell.tell.Goals as goal

pub returns : goal.returns
returns c =
    let a = c.args in
    rw (c.place.ensures, c.from.ensures) (put3 (3 * a.at) a.page _ _ a.entries.now)
