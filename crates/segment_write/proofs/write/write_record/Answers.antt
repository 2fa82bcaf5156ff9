use mathlib.Core.Path.{◌∙◌}
use Rattle.segment_write.proofs.Stored.{write_is}
use Rattle.segment_write.proofs.write.write_record.Goals as goal

pub returns : goal.returns
returns c = let a = c.args in c.store_record.ensures ∙ write_is a.segment.now a.inventory.now a.id a.bytes.now
