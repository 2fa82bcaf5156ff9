use Prim.Native.Nat.{◌-◌}
use lib.ListN.{length}
use Rattle.exchange.proofs.ImportLaws.{FileLeft}
use Rattle.exchange.proofs.insert_file.Given as goal

abbrev pub invariant-loop-record : goal.invariant-loop-record
invariant-loop-record l = FileLeft l.initial.segment l.initial.inventory l.file l.segment l.inventory l.known l.at l.records

abbrev pub decreases-loop-record : goal.decreases-loop-record
decreases-loop-record l = length l.file - l.at
