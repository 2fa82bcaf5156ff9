use Rattle.store.specs.Page.{view}
use Rattle.page_repair.proofs.MendLaws.{mended_same, mended_new}
use Rattle.page_repair.proofs.mend.mend.Goals as goal

pub returns-then-eq : goal.returns-then-eq
returns-then-eq g c =
    mended_same (g.D.Plan.deeds c.args.deeds.now) (view c.args.page.now) c.args.page.now c.requires.0.counted c.gather-r.ensures.0
    c.of-before.ensures c.header_after-h.ensures c.eq.ensures c.write_slots.ensures c.if-eq.true

pub returns : goal.returns
returns g c =
    mended_new (g.D.Plan.deeds c.args.deeds.now) (view c.args.page.now) c.args.page.now c.requires.0.counted c.gather-r.ensures.0
    c.of-before.ensures c.header_after-h.ensures c.eq.ensures c.write_slots.ensures c.if-eq.false c.write.ensures
