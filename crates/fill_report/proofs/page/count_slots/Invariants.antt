use Rattle.store.specs.Page.{view}
use Rattle.fill_report.specs.Words.{SlotsTo}
use Rattle.fill_report.proofs.page.count_slots.Given as goal

abbrev pub invariant-loop-k : goal.invariant-loop-k
invariant-loop-k l = SlotsTo (view l.page) l.k l.c
