use Rattle.store.specs.Page.{view}
use Rattle.exchange.proofs.MeasureLaws.{MeasuredTo}
use Rattle.exchange.proofs.measure.measure_page.Given as goal

abbrev pub invariant-loop-k : goal.invariant-loop-k
invariant-loop-k l = MeasuredTo (view l.page) l.k l.sums
