use mathlib.Core.Path.{◌∙◌}
use Rattle.segment_write.proofs.Stored.{resize_is}
use Rattle.segment_write.proofs.resize.resize_record.Goals as goal

pub returns : goal.returns
returns c = let a = c.args in c.store_record.ensures ∙ resize_is a.segment.now a.inventory.now a.id a.size
