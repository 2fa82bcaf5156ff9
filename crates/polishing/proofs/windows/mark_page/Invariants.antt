use mathlib.Core.Path.{◌≡◌}
use Rattle.store.specs.Page.{view}
use Rattle.store.specs.PageSteps.{opened}
use Rattle.exchange.specs.Words.{page_readings}
use Rattle.exchange.proofs.Laws.Left.{readings_from}
use Rattle.polishing.specs.Words.{windows_over}
use Rattle.polishing.proofs.windows.mark_page.Given as goal

abbrev pub invariant-loop-k : goal.invariant-loop-k
invariant-loop-k l =
    windows_over l.mirror l.marked (readings_from (view l.page) l.k) ≡ windows_over l.mirror l.initial.marked (page_readings (opened (view l.page)))
