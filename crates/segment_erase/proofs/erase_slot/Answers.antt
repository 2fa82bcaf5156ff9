use Rattle.store.specs.Segment.{result}
use Rattle.segment_erase.proofs.erase_slot.Goals as goal

pub returns-in-Free : goal.returns-in-Free
unfolding result
returns-in-Free c = rw c.in-Free.is

pub returns-in-Target : goal.returns-in-Target
unfolding result
returns-in-Target c = rw c.in-Target.is
