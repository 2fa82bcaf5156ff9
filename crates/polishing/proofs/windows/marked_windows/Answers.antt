use Prim.Native.Nat.{ℕ, ◌+◌}
use mathlib.Core.Path.{◌≡◌, sym, ap, subst, ◌∙◌}
use mathlib.Core.List.{List}
use native.Mathlib.Omega.{arith}
use Rattle.std.specs.Prelude.{false, replicate}
use Rattle.store.specs.Page.{view, sound}
use Rattle.store.specs.PageSteps.{opened}
use Rattle.store.specs.Segment.{page_of}
use Rattle.store.proofs.Laws.Report.{damaged}
use Rattle.exchange.specs.Words.{page_readings}
use Rattle.polishing.specs.Words.{windows_over}
use Rattle.polishing.proofs.WindowPassLaws.{MarkedTo, marked_next, marked_all}
use Rattle.polishing.proofs.windows.marked_windows.Goals.{After-is_sound}
use Rattle.polishing.proofs.windows.marked_windows.Goals as goal

-- whether page p is sound
told : (c : After-is_sound) → c.is_sound.result ≡ sound (view (page_of c.args.segment.now c.loop-p.p))
told c = c.is_sound.ensures ∙ ap (λ (q : List ℕ). sound (view q)) c.page_of-page.ensures

pub returns-then-not-is_sound : goal.returns-then-not-is_sound
returns-then-not-is_sound c =
    let d = sym (told (goal.at.returns-then-not-is_sound c).After-is_sound) ∙ c.if-not-is_sound.true in
    damaged c.args.segment.now record { on = c.loop-p.p; below = omega arith; unsound = d }

pub loop-p-preserved : goal.loop-p-preserved
loop-p-preserved c =
    let ok = sym (told (goal.at.loop-p-preserved c).After-is_sound) ∙ c.if-not-is_sound.false in
    let m = c.args.mirror in
    let e = c.mark_page.ensures ∙ ap (λ (q : List ℕ). windows_over m c.loop-p.marked (page_readings (opened (view q)))) c.page_of-page.ensures in
    subst (MarkedTo m c.args.segment.now (replicate 1024 false) (c.loop-p.p + 1)) (sym e) (marked_next _ _ _ c.loop-p.p _ c.loop-p.invariant (omega arith) ok)

pub returns : goal.returns
returns c = marked_all _ _ _ c.loop-p.p _ c.loop-p.invariant (omega arith)
