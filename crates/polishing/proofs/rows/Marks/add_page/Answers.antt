use Prim.Native.Nat.{◌+◌}
use mathlib.Core.Path.{refl, sym, ap, ◌∙◌}
use native.Mathlib.Omega.{arith}
use Rattle.store.specs.Page.{view}
use Rattle.exchange.proofs.Laws.Left.{readings_from}
use Rattle.polishing.specs.Words.{with_head, marks_over}
use Rattle.polishing.specs.declared.rows.Marks.{Marks}
use Rattle.polishing.proofs.PassLaws.{over_next, over_none}
use Rattle.polishing.proofs.rows.Marks.add_page.Goals as goal

pub loop-k-preserved : goal.loop-k-preserved
loop-k-preserved c =
    let w = c.args.w in
    let p = c.args.page.now in
    ap (λ (x : Marks). marks_over w x (readings_from (view p) (c.loop-k.k + 1))) c.add_head.ensures
    ∙ sym (over_next (with_head w) (λ s. refl) w.mirror p (c.told-page, c.requires) c.loop-k.k (omega (arith, c.get_slot_count-k-end.ensures.0)) _ _
    c.head_at.ensures)
    ∙ c.loop-k.invariant

pub returns : goal.returns
returns c =
    let w = c.args.w in
    sym (over_none (with_head w) (λ s. refl) w.mirror (view c.args.page.now) c.loop-k.k (omega (arith, c.get_slot_count-k-end.ensures.0)) _)
    ∙ c.loop-k.invariant
