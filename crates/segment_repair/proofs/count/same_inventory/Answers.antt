use Rattle.store.proofs.Laws.Numbers.{bytes_all}
use Rattle.segment_repair.proofs.SameLaws.{same_by}
use Rattle.segment_repair.proofs.count.same_inventory.Goals as goal

pub returns : goal.returns
returns c =
    same_by c.args.a.now c.args.b.now c.told-a c.told-b (bytes_all c.args.a.now c.fits-a) (bytes_all c.args.b.now c.fits-b) _ c.eq.ensures
