use native.Mathlib.Omega.{arith}
use Rattle.page_compactify.specs.Keys.{kind_in}
use Rattle.page_compactify.proofs.KeyLaws.{live_ordinary}
use Rattle.page_compactify.proofs.compact.live_slot.Goals as goal

pub returns-else-is_target : goal.returns-else-is_target
unfolding kind_in
returns-else-is_target c = (rw c.len_in-length.ensures.0 (live_ordinary (kind_in c.args.e) _ _ (omega arith) c.if-is_target.ensures), omega arith)
