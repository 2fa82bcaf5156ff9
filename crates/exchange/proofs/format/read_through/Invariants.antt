use Prim.Native.Nat.{◌-◌, ◌≤◌}
use mathlib.Core.Path.{◌≡◌}
use lib.ListN.{length, drop}
use Rattle.exchange.specs.Exchange.{parse}
use Rattle.exchange.specs.Words.{fault_of}
use Rattle.exchange.proofs.format.read_through.Given as goal

abbrev pub invariant-loop-record : goal.invariant-loop-record
invariant-loop-record l = (l.at ≤ length l.file) × (fault_of (parse (drop l.at l.file)) ≡ fault_of (parse l.file))

abbrev pub decreases-loop-record : goal.decreases-loop-record
decreases-loop-record l = length l.file - l.at
