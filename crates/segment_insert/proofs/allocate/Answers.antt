use mathlib.Core.Path.{◌∙◌}
use Rattle.segment_insert.proofs.Placed.{allocate_is}
use Rattle.segment_insert.proofs.allocate.Goals as goal

pub returns : goal.returns
returns c = c.insert.ensures ∙ allocate_is c.args.segment.now c.args.inventory.now c.args.size
