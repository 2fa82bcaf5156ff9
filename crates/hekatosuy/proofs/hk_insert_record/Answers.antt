use mathlib.Core.Path.{ap}
use Rattle.hekatosuy.specs.Handed.{with_id}
use Rattle.hekatosuy.proofs.hk_insert_record.Goals as goal

pub returns : goal.returns
returns c = rw (c.hand_id.ensures.0, c.hand_id.ensures.1) (ap (with_id c.args.id.now) c.insert_record.ensures)
