use Prim.Native.Nat.{ℕ, ◌+◌, ◌-◌, ◌/◌}
use mathlib.Core.Path.{◌≡◌, refl, ap, ◌∙◌}
use native.Mathlib.Omega.{arith}
use lib.ListN.{length}
use Rattle.std.proofs.Common.{Option, Result, Some, None, Ok, Err}
use Rattle.std.proofs.lemmas.Result.{err_from_is_err_and}
use Rattle.store.specs.Refusals.{DONE}
use Rattle.store.specs.Segment.{seg_view}
use Rattle.store.specs.Scan.{Scanned, without, scan_from, scan_plan}
use Rattle.store.specs.declared.Refusal.{Refusal}
use Rattle.store.specs.declared.Step.{Step}
use Rattle.segment_scan.specs.Pages.{or_later}
use Rattle.segment_scan.proofs.Positions.{from_turn, from_done, plan_from}
use Rattle.segment_scan.proofs.scan_pages.Goals.{After-scan_page}
use Rattle.segment_scan.proofs.scan_pages.Goals as goal

-- the scan from the next page on, and that the page's answer with it is the whole scan's
abbrev later : After-scan_page → Scanned
later c =
    let s = c.args.segment.now in
    let p = c.loop-p.p in
    scan_from (length s / 16384 - (p + 1)) (seg_view s) (p + 1) 0

turned : (c : After-scan_page) → (r : Result (Option Step) Refusal) → c.scan_page.result ≡ r
    → let a = c.args in
    let s = a.segment.now in
    or_later r s (later c) ≡ scan_from (length s / 16384 - a.page) (seg_view s) a.page a.slot
turned c r e =
    let s = c.args.segment.now in
    rw (← e)
    (c.scan_page.ensures (later c)
    ∙ from_turn (seg_view s) (length s / 16384) c.loop-p.p c.loop-p.k c.loop-p-test.true ∙ c.loop-p.invariant)

planned : (c : After-scan_page) → (r : Result (Option Step) Refusal) → c.scan_page.result ≡ r
    → or_later r c.args.segment.now (later c) ≡ scan_plan (seg_view c.args.segment.now) c.args.page c.args.slot
planned c r e = let a = c.args in turned c r e ∙ plan_from a.segment.now (length a.segment.now / 16384) a.page a.slot refl

pub returns-in_err-step : goal.returns-in_err-step
returns-in_err-step c =
    let e = err_from_is_err_and c.from_residual.result c.from_residual.ensures.1 in
    rw (e.1, e.2) (planned (goal.at.returns-in_err-step c).After-scan_page (Err c.in_err-step.field-0.0) c.in_err-step.was)

pub returns-in-Some : goal.returns-in-Some
returns-in-Some c = planned (goal.at.returns-in-Some c).After-scan_page (Ok (Some c.in-Some.step)) (c.in_ok-step.was ∙ ap Ok c.in-Some.is)

pub loop-p-preserved : goal.loop-p-preserved
loop-p-preserved c = turned (goal.at.loop-p-preserved c).After-scan_page (Ok None) (c.in_ok-step.was ∙ ap Ok c.in_default.is)

pub returns : goal.returns
returns c =
    let a = c.args in
    let s = a.segment.now in
    let n = length s / 16384 in
    let end : c.max.result ≡ c.loop-p.p = grind arith in
    ap (λ (p : ℕ). without DONE p c.loop-p.k) end
    ∙ from_done (seg_view s) n c.loop-p.p c.loop-p.k c.loop-p-test.false ∙ c.loop-p.invariant ∙ plan_from s n a.page a.slot refl
