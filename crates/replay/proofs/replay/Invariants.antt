-- What is kept lies in the buffer, which stays as long as it was.
use Rattle.std.proofs.Common.{length, ◌≡◌, ◌≤◌}
use Rattle.replay.proofs.replay.Given as goal

abbrev pub invariant-loop : goal.invariant-loop
invariant-loop g l = (length l.text ≡ length l.initial.text) × (l.kept ≤ length l.text)
