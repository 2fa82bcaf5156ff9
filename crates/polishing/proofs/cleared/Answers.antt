use mathlib.Core.Path.{◌≡◌, sym, ◌∙◌}
use mathlib.Core.Bool.{true}
use Rattle.std.proofs.lemmas.Result.{err_from_is_err_and}
use Rattle.store.specs.Segment.{size_ok}
use Rattle.polishing.proofs.Laws.Judged.{on_size}
use Rattle.polishing.proofs.AnswerLaws.{other_edition, not_judged, judged}
use Rattle.polishing.proofs.cleared.Goals.{Else-not-is_segment}
use Rattle.polishing.proofs.cleared.Goals as goal

right : (c : Else-not-is_segment) → size_ok c.args.segment.now ≡ true
right c = sym c.is_segment.ensures ∙ c.if-not-is_segment.false

pub returns-then-not-is_segment : goal.returns-then-not-is_segment
returns-then-not-is_segment c = sym (on_size _ _ _ _ (sym c.is_segment.ensures ∙ c.if-not-is_segment.true))

pub returns-in_err-edition : goal.returns-in_err-edition
returns-in_err-edition c =
    let e = err_from_is_err_and c.from_residual.result c.from_residual.ensures.1 in
    rw (e.1, e.2, c.in_err-edition.ensures.0) (other_edition _ _ _ _ (right (goal.at.returns-in_err-edition c).Else-not-is_segment) c.in_err-edition.ensures.1)

pub returns-in_err-readings : goal.returns-in_err-readings
returns-in_err-readings c =
    let e = err_from_is_err_and c.from_residual-in_err-readings.result c.from_residual-in_err-readings.ensures.1 in
    rw (e.1, e.2) (not_judged _ _ _ _ (right (goal.at.returns-in_err-readings c).Else-not-is_segment) _ c.in_ok-edition.ensures _
    c.in_err-readings.ensures.refused)

pub returns : goal.returns
returns c =
    judged _ _ _ _ (right (goal.at.returns c).Else-not-is_segment) _ c.in_ok-edition.ensures c.in_ok-readings.readings c.in_ok-readings.ensures.of _
    c.are_enough.ensures
