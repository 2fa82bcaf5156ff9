use mathlib.Core.Path.{sym, ◌∙◌}
use Rattle.store.proofs.Laws.Report.{on_size, on_damage}
use Rattle.fill_report.proofs.SumLaws.{sum_told}
use Rattle.fill_report.proofs.report_by_value.Goals as goal

pub returns-then-not-is_segment : goal.returns-then-not-is_segment
returns-then-not-is_segment c = sym (on_size _ _ (sym c.is_segment.ensures ∙ c.if-not-is_segment.true))

pub returns-in_default : goal.returns-in_default
returns-in_default c = sym (on_damage _ _ (sym c.is_segment.ensures ∙ c.if-not-is_segment.false) c.in_default.ensures)

pub returns : goal.returns
returns c =
    let e = c.in-Some.ensures in
    rw c.ok_or.ensures.value
    (sum_told c.args.segment.now c.args.tally c.in-Some.figures (sym c.is_segment.ensures ∙ c.if-not-is_segment.false) e.0 e.1 c.checked_sum.result
    c.checked_sum.ensures)
