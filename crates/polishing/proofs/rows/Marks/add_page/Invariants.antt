use mathlib.Core.Path.{◌≡◌}
use Rattle.store.specs.Page.{view}
use Rattle.store.specs.PageSteps.{opened}
use Rattle.exchange.specs.Words.{page_readings}
use Rattle.exchange.proofs.Laws.Left.{readings_from}
use Rattle.polishing.specs.Words.{marks_over}
use Rattle.polishing.proofs.rows.Marks.add_page.Given as goal

abbrev pub invariant-loop-k : goal.invariant-loop-k
invariant-loop-k l =
    marks_over l.w l.self (readings_from (view l.page) l.k) ≡ marks_over l.w l.initial.self (page_readings (opened (view l.page)))
