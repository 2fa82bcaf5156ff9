use mathlib.Core.Path.{◌≡◌}
use Rattle.store.specs.Page.{view}
use Rattle.store.specs.Repair.{put_slots}
use Rattle.page_repair.proofs.mend.write_slots.Given as goal

abbrev pub invariant-loop-k : goal.invariant-loop-k
invariant-loop-k g l = l.page ≡ put_slots (g.D.Plan.deeds l.deeds) (view l.initial.page) l.k l.initial.page
