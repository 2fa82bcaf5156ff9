use Prim.Native.Nat.{ℕ}
use mathlib.Core.Path.{◌≡◌, sym, ap, subst, ◌∙◌}
use mathlib.Core.List.{List}
use native.Mathlib.Omega.{arith}
use Rattle.store.specs.Page.{view, sound}
use Rattle.store.specs.PageSteps.{opened}
use Rattle.store.specs.Segment.{page_of}
use Rattle.exchange.specs.Words.{PageSums}
use Rattle.exchange.proofs.MeasureLaws.{pages_next, pages_stop, pages_all}
use Rattle.exchange.proofs.measure.measure_segment.Goals.{After-is_sound}
use Rattle.exchange.proofs.measure.measure_segment.Goals as goal

-- whether page p is sound
told : (c : After-is_sound) → c.is_sound.result ≡ sound (view (page_of c.args.segment.now c.loop-p.p))
told c = c.is_sound.ensures ∙ ap (λ (q : List ℕ). sound (view q)) c.page_of-page.ensures

pub returns-then-not-is_sound : goal.returns-then-not-is_sound
returns-then-not-is_sound c =
    pages_stop c.args.segment.now c.loop-p.p (omega arith) (sym (told (goal.at.returns-then-not-is_sound c).After-is_sound) ∙ c.if-not-is_sound.true)

pub loop-p-preserved : goal.loop-p-preserved
loop-p-preserved c =
    pages_next c.args.segment.now c.loop-p.p _ c.loop-p.invariant (omega arith)
    (sym (told (goal.at.loop-p-preserved c).After-is_sound) ∙ c.if-not-is_sound.false) _
    (subst (λ (q : List ℕ). PageSums (opened (view q)) c.measure_page-more.result) c.page_of-page.ensures c.measure_page-more.ensures)

pub returns : goal.returns
returns c = pages_all c.args.segment.now c.loop-p.p _ c.loop-p.invariant (omega arith)
