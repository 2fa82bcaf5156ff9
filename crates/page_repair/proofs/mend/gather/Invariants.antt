use Rattle.store.specs.Page.{view}
use Rattle.page_repair.proofs.MendLaws.{Told}
use Rattle.page_repair.proofs.mend.gather.Given as goal

abbrev pub invariant-loop-k : goal.invariant-loop-k
invariant-loop-k g l = Told (g.D.Plan.deeds l.deeds) (view l.page) l.k l.r
