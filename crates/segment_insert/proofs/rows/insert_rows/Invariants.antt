use Rattle.segment_insert.proofs.RowsLaws.{RowsLeft}
use Rattle.segment_insert.proofs.rows.insert_rows.Given as goal

abbrev pub invariant-loop-k : goal.invariant-loop-k
invariant-loop-k l =
    RowsLeft l.initial.segment l.initial.inventory l.rows l.lengths l.initial.ids l.segment l.inventory l.ids l.known l.at l.k
