use mathlib.Core.Path.{◌≡◌, refl, sym, ◌∙◌}
use mathlib.Core.Bool.{true, ◌&&◌}
use Rattle.std.proofs.lemmas.Result.{err_from_is_err_and}
use Rattle.store.specs.Segment.{size_ok, inv_ok}
use Rattle.exchange.specs.Exchange.{parse}
use Rattle.exchange.proofs.Laws.Import.{by_sizes, by_file}
use Rattle.exchange.proofs.ImportLaws.{import_fault}
use Rattle.exchange.proofs.import.Goals.{After-read_through}
use Rattle.exchange.proofs.import.Goals as goal

-- what the tests told
sizes_here : (c : After-read_through) → let a = c.args in (size_ok a.segment.now && inv_ok a.inventory.now) ≡ true
sizes_here c = sym c.sizes_ok.ensures ∙ c.if-not-sizes_ok.false

pub returns-then-not-sizes_ok : goal.returns-then-not-sizes_ok
returns-then-not-sizes_ok c =
    let a = c.args in (
      sym (by_sizes a.segment.now a.inventory.now a.file.now (sym c.sizes_ok.ensures ∙ c.if-not-sizes_ok.true)),
      tt,
    )

pub returns-in_err-read_through : goal.returns-in_err-read_through
returns-in_err-read_through c =
    let a = c.args in
    let e = err_from_is_err_and c.from_residual.result c.from_residual.ensures.1 in
    rw (e.1, e.2) (import_fault a.segment.now a.inventory.now a.file.now (sizes_here (goal.at.returns-in_err-read_through c).After-read_through) _
    c.in_err-read_through.ensures)

pub returns : goal.returns
returns c =
    let a = c.args in
    let e = c.insert_file.ensures in
    (e.0 ∙ sym (by_file a.segment.now a.inventory.now a.file.now (sizes_here (goal.at.returns c).After-read_through) (parse a.file.now) refl), e.1)
