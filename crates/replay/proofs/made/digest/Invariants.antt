-- A digest stays below its modulus.
use Rattle.std.proofs.Common.{◌<◌}
use Rattle.replay.proofs.made.digest.Given as goal

abbrev pub invariant-loop-b : goal.invariant-loop-b
invariant-loop-b l = l.d < 4294967291
