use Prim.Native.Nat.{ℕ, ◌+◌}
use mathlib.Core.Path.{refl, sym, ap, ◌∙◌}
use mathlib.Core.List.{List}
use native.Mathlib.Omega.{arith}
use Rattle.store.specs.Page.{view, sound}
use Rattle.store.specs.PageSteps.{opened}
use Rattle.store.specs.Segment.{seg_view}
use Rattle.store.proofs.Laws.Report.{each_sound}
use Rattle.exchange.specs.Words.{page_readings}
use Rattle.exchange.proofs.Laws.Left.{pages_readings}
use Rattle.polishing.specs.Words.{with_head, marks_over}
use Rattle.polishing.specs.declared.rows.Marks.{Marks}
use Rattle.polishing.proofs.PassLaws.{over_pages_next, over_pages_none}
use Rattle.polishing.proofs.rows.Marks.add_segment.Goals as goal

pub add_page-requires : goal.add_page-requires
add_page-requires c =
    ap (λ (q : List ℕ). sound (view q)) c.page_of.ensures ∙ each_sound c.args.segment.now c.requires.1 c.loop-p.p (omega arith)

pub loop-p-preserved : goal.loop-p-preserved
loop-p-preserved c =
    let w = c.args.w in
    let s = c.args.segment.now in
    ap (λ (x : Marks). marks_over w x (pages_readings (seg_view s) (c.loop-p.p + 1)))
    (c.add_page.ensures ∙ ap (λ (q : List ℕ). marks_over w c.loop-p.self (page_readings (opened (view q)))) c.page_of.ensures)
    ∙ sym (over_pages_next (with_head w) (λ s. refl) w.mirror s c.loop-p.p (omega arith) c.loop-p.self) ∙ c.loop-p.invariant

pub returns : goal.returns
returns c =
    let w = c.args.w in
    sym (over_pages_none (with_head w) (λ s. refl) w.mirror c.args.segment.now c.loop-p.p (omega arith) _) ∙ c.loop-p.invariant
