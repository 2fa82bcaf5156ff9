use mathlib.Core.Path.{◌≡◌, sym, ◌∙◌}
use mathlib.Core.Bool.{true}
use native.Mathlib.Omega.{arith}
use Rattle.store.specs.Refusals.{DONE, ROOM}
use Rattle.store.specs.Segment.{size_ok}
use Rattle.exchange.proofs.Laws.Export.{on_size, on_damage, on_room, on_done}
use Rattle.exchange.proofs.export.Goals.{Else-not-is_segment}
use Rattle.exchange.proofs.export.Goals as goal

pub returns-then-not-is_segment : goal.returns-then-not-is_segment
returns-then-not-is_segment c = sym (on_size c.args.segment.now c.args.file.now (sym c.is_segment.ensures ∙ c.if-not-is_segment.true))

right : (c : Else-not-is_segment) → size_ok c.args.segment.now ≡ true
right c = sym c.is_segment.ensures ∙ c.if-not-is_segment.false

pub returns-in_default : goal.returns-in_default
returns-in_default c = sym (on_damage c.args.segment.now c.args.file.now (right (goal.at.returns-in_default c).Else-not-is_segment) c.in_default.ensures)

pub returns-then-file-sums : goal.returns-then-file-sums
returns-then-file-sums c =
    let told = c.in-Some.ensures in
    (λ i. record { answer = ROOM; length = told.length i; passed = told.passed i; place = c.args.file.now })
    ∙ sym (on_room c.args.segment.now c.args.file.now (right (goal.at.returns-then-file-sums c).Else-not-is_segment) told.sound (omega (arith, told.length)))

pub returns : goal.returns
returns c =
    let told = c.in-Some.ensures in
    (λ i. record { answer = DONE; length = told.length i; passed = told.passed i; place = c.write_file.ensures i })
    ∙ sym (on_done c.args.segment.now c.args.file.now (right (goal.at.returns c).Else-not-is_segment) told.sound (omega (arith, told.length)))
