use mathlib.Core.Path.{◌≡◌, refl, sym, ap, ◌∙◌, subst}
use native.Mathlib.Omega.{arith}
use Rattle.store.specs.Page.{view}
use Rattle.store.specs.Repair.{changes, slot_done}
use Rattle.store.specs.Laws.Slots.{Codable}
use Rattle.store.specs.declared.Deed.{Deed}
use Rattle.page_repair.proofs.MendLaws.{differs, slot_by_lem, still_count, still_slot, wrote, left_so}
use Rattle.page_repair.proofs.mend.write_slots.Goals.{then-ne, else-ne}
use Rattle.page_repair.proofs.mend.write_slots.Goals as goal

pub loop-k-init : goal.loop-k-init
loop-k-init g c = refl

pub get_slot-requires : goal.get_slot-requires
get_slot-requires g c =
    let a = c.args in
    omega (arith, still_count (g.D.Plan.deeds a.deeds.now) (view a.page.now) c.loop-k.k a.page.now c.loop-k.invariant)

pub write_slot-requires : goal.write_slot-requires
write_slot-requires g c =
    let a = c.args in
    let d = g.D.Plan.deeds a.deeds.now in
    let v = view a.page.now in
    let k = c.loop-k.k in
    let by = c.slot_done-s.ensures ∙ ap (λ (e : Deed). slot_done e c.get_slot.result) c.deed-d.ensures in
    let done = slot_by_lem d v k (c.get_slot.ensures.0 ∙ still_slot d v k a.page.now c.loop-k.invariant) by in
    (omega arith, subst Codable (sym done) (c.requires.1 k))

pub loop-k-preserved : goal.loop-k-preserved
loop-k-preserved g c =
    let a = c.args in
    let d = g.D.Plan.deeds a.deeds.now in
    let v = view a.page.now in
    let k = c.loop-k.k in
    let so_far = c.loop-k.invariant in
    let is = ap changes (sym c.deed-d.ensures) ∙ differs c.deed-d.result c.ne.ensures in
    elim c.if-ne.branch [
      | then-ne w ↦ w.page-is
          ∙ wrote d v k a.page.now so_far (is ∙ w.if-ne.true)
          (slot_by_lem d v k (w.get_slot.ensures.0 ∙ still_slot d v k a.page.now so_far)
          (w.slot_done-s.ensures ∙ ap (λ (e : Deed). slot_done e w.get_slot.result) c.deed-d.ensures)) w.write_slot.ensures
      | else-ne w ↦ w.page-is ∙ left_so d v k a.page.now so_far (is ∙ w.if-ne.false)
    ]

pub returns : goal.returns
returns g c =
    let e : c.loop-k.k ≡ c.args.n = omega arith in
    rw (← e) c.loop-k.invariant
