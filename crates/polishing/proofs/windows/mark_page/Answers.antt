use Prim.Native.Nat.{◌+◌}
use mathlib.Core.Path.{refl, sym, ap, ◌∙◌}
use mathlib.Core.Bool.{Bool}
use mathlib.Core.List.{List}
use native.Mathlib.Omega.{arith}
use Rattle.store.specs.Page.{view}
use Rattle.exchange.proofs.Laws.Left.{readings_from}
use Rattle.polishing.specs.Words.{windows_over, with_mark}
use Rattle.polishing.proofs.PassLaws.{over_next, over_none}
use Rattle.polishing.proofs.windows.mark_page.Goals as goal

pub loop-k-preserved : goal.loop-k-preserved
loop-k-preserved c =
    let p = c.args.page.now in
    ap (λ (v : List Bool). windows_over c.args.mirror v (readings_from (view p) (c.loop-k.k + 1))) c.mark_head.ensures
    ∙ sym (over_next with_mark (λ v. refl) _ p (c.told-page, c.requires) _ (omega (arith, c.get_slot_count-k-end.ensures.0)) _ _ c.head_at.ensures)
    ∙ c.loop-k.invariant

pub returns : goal.returns
returns c =
    sym (over_none with_mark (λ v. refl) c.args.mirror _ c.loop-k.k (omega (arith, c.get_slot_count-k-end.ensures.0)) _) ∙ c.loop-k.invariant
