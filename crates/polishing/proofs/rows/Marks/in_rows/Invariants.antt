use mathlib.Core.Path.{◌≡◌}
use Rattle.polishing.specs.Words.{in_rows}
use Rattle.polishing.proofs.rows.Marks.in_rows.Given as goal

abbrev pub invariant-loop-row : goal.invariant-loop-row
invariant-loop-row l = l.common ≡ in_rows l.row-index l.self.map l.word
