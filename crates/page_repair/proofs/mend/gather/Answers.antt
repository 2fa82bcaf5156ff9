use mathlib.Core.Path.{◌≡◌, ap, ◌∙◌}
use native.Mathlib.Omega.{arith}
use Rattle.store.specs.Page.{view}
use Rattle.store.specs.Repair.{slot_done, slot_by}
use Rattle.store.specs.declared.Deed.{Deed}
use Rattle.page_repair.specs.Mended.{gathered}
use Rattle.page_repair.proofs.MendLaws.{slot_by_lem, told_none, told_more, len_by}
use Rattle.page_repair.proofs.mend.gather.Given as given
use Rattle.page_repair.proofs.mend.gather.Goals.{After-slot_done-s}
use Rattle.page_repair.proofs.mend.gather.Goals as goal

-- slot k is as it becomes
done : (g : given.Over) (c : After-slot_done-s g) → c.slot_done-s.result ≡ slot_by (g.D.Plan.deeds c.args.deeds.now) (view c.args.page.now) c.loop-k.k
done g c =
    slot_by_lem (g.D.Plan.deeds c.args.deeds.now) (view c.args.page.now) c.loop-k.k c.get_slot.ensures.0
    (c.slot_done-s.ensures ∙ ap (λ (d : Deed). slot_done d c.get_slot.result) c.deed-d.ensures)

pub loop-k-init : goal.loop-k-init
loop-k-init g c = told_none _ _

pub with-r-requires : goal.with-r-requires
with-r-requires g c =
    let told = c.loop-k.invariant in
    let after = (goal.at.with-r-requires g c).After-slot_done-s in
    (omega arith, told.few, told.small, len_by (g.D.Plan.deeds c.args.deeds.now) (view c.args.page.now) c.loop-k.k (c.requires.1 c.loop-k.k) (done g after))

pub loop-k-preserved : goal.loop-k-preserved
loop-k-preserved g c =
    let after = (goal.at.loop-k-preserved g c).After-slot_done-s in
    let l = c.loop-k in
    let with_deed = ap (λ (d : Deed). gathered l.r l.k d c.slot_done-s.result) c.deed-d.ensures in
    told_more (g.D.Plan.deeds c.args.deeds.now) (view c.args.page.now) l.k l.r (c.requires.1 l.k) (done g after)
    (◌∙◌ {b = gathered l.r l.k c.deed-d.result c.slot_done-s.result} c.with-r.ensures with_deed) l.invariant

pub returns : goal.returns
returns g c =
    let told = c.loop-k.invariant in
    let e : c.loop-k.k ≡ c.args.n = omega arith in
    rw (← e) (told.is, told.small, told.few)
