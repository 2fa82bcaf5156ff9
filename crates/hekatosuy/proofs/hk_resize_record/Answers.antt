use mathlib.Core.Path.{ap}
use Rattle.hekatosuy.specs.Handed.{without_id}
use Rattle.hekatosuy.proofs.hk_resize_record.Goals as goal

pub returns : goal.returns
returns c = rw c.answer_no.ensures (ap without_id c.resize_record-r.ensures)
