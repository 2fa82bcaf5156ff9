use mathlib.Core.Path.{◌≡◌, sym, ◌∙◌}
use mathlib.Core.Bool.{true}
use native.Mathlib.Omega.{arith}
use Rattle.std.proofs.lemmas.Result.{err_from_is_err_and}
use Rattle.store.specs.Numbers.{put}
use Rattle.store.specs.Refusals.{DONE}
use Rattle.store.specs.Report.{all_sound}
use Rattle.store.specs.Segment.{seg_view, size_ok}
use Rattle.polishing.specs.Polishing.{rows_named, whole_in, words}
use Rattle.polishing.proofs.AnswerLaws.{not_listed}
use Rattle.polishing.proofs.Laws.Listed.{on_size, on_room, on_done}
use Rattle.polishing.proofs.whole_readings.Goals.{In_ok-readings, Else-not-is_segment}
use Rattle.polishing.proofs.whole_readings.Goals as goal

pub returns-then-not-is_segment : goal.returns-then-not-is_segment
returns-then-not-is_segment c = sym (on_size _ _ _ _ (sym c.is_segment.ensures ∙ c.if-not-is_segment.true))

right : (c : Else-not-is_segment) → size_ok c.args.segment.now ≡ true
right c = sym c.is_segment.ensures ∙ c.if-not-is_segment.false

pub returns-in_err-readings : goal.returns-in_err-readings
returns-in_err-readings c =
    let e = err_from_is_err_and c.from_residual.result c.from_residual.ensures.1 in
    rw (e.1, e.2) (not_listed _ _ _ _ (right (goal.at.returns-in_err-readings c).Else-not-is_segment) _ c.in_err-readings.ensures.refused)

-- the rows are named, and every page is sound
module _ (c : In_ok-readings) where
  rule : rows_named c.args.rows ≡ true
  rule = rw c.in_ok-readings.ensures.of.2 at c.in_ok-readings.readings.named

  sounds : all_sound (seg_view c.args.segment.now) ≡ true
  sounds = rw c.in_ok-readings.ensures.of.0 at c.in_ok-readings.readings.sounds

pub returns-then-place-lt-WINDOWS : goal.returns-then-place-lt-WINDOWS
returns-then-place-lt-WINDOWS c =
    let g = goal.at.returns-then-place-lt-WINDOWS c in
    sym (on_room _ _ _ _ (right g.Else-not-is_segment) (rule g.In_ok-readings) (sounds g.In_ok-readings) (omega arith))

pub returns : goal.returns
returns c =
    let g = goal.at.returns c in
    let r = c.in_ok-readings.ensures.of in
    (λ i. record { answer = DONE; place = (c.write.ensures ∙ (λ j. put c.args.place.now 0 (words (whole_in (r.0 j) (r.1 j) (r.2 j))))) i })
    ∙ sym (on_done _ _ _ _ (right g.Else-not-is_segment) (rule g.In_ok-readings) (sounds g.In_ok-readings) (omega arith))
