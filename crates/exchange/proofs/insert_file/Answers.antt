use mathlib.Core.Path.{◌≡◌, ap, subst, ◌∙◌}
use lib.ListN.{drop}
use Rattle.std.specs.Prelude.{Some, Ok}
use Rattle.exchange.specs.Exchange.{parse}
use Rattle.exchange.specs.Words.{follows, Inside, Lies}
use Rattle.exchange.proofs.ImportLaws.{left_none, left_stop, left_next}
use Rattle.exchange.proofs.insert_file.Goals.{In-Some}
use Rattle.exchange.proofs.insert_file.Goals as goal

stands : (c : In-Some) → parse (drop c.loop-record.at c.args.file.now) ≡ follows c.args.file.now (Ok (Some c.in-Some.record))
stands c = c.record_at.ensures.0 ∙ ap (follows c.args.file.now) (c.in_ok-record.was ∙ ap Ok c.in-Some.is)

inside : (c : In-Some) → Inside c.args.file.now c.loop-record.at c.in-Some.record.data c.in-Some.record.end
inside c = subst (Lies c.args.file.now c.loop-record.at) (c.in_ok-record.was ∙ ap Ok c.in-Some.is) c.record_at.ensures.1

pub returns-in-Err : goal.returns-in-Err
returns-in-Err c =
    let a = c.args in
    let i = c.loop-record in
    let g = (goal.at.returns-in-Err c).In-Some in
    left_stop a.segment.now a.inventory.now a.file.now i.segment i.inventory i.known i.at i.records i.invariant c.in-Some.record (stands g) (inside g) _ _ _
    c.in-Err.ensures.0

pub loop-record-preserved : goal.loop-record-preserved
loop-record-preserved c =
    let a = c.args in
    let i = c.loop-record in
    let g = (goal.at.loop-record-preserved c).In-Some in
    left_next a.segment.now a.inventory.now a.file.now i.segment i.inventory i.known i.at i.records i.invariant c.in-Some.record (stands g) (inside g)
    c.insert_row.new.segment c.insert_row.new.inventory _ c.in_default-insert_row.ensures.0 _ c.insert_row.ensures.1

pub returns : goal.returns
returns c =
    let a = c.args in
    let i = c.loop-record in (
      left_none a.segment.now a.inventory.now a.file.now i.segment i.inventory i.known i.at i.records i.invariant
          (c.record_at.ensures.0 ∙ ap (follows a.file.now) (c.in_ok-record.was ∙ ap Ok c.in_default.is)),
      tt,
    )
