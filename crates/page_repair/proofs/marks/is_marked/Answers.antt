use Rattle.page_repair.proofs.BitLaws.{marked_is}
use Rattle.page_repair.proofs.marks.is_marked.Goals as goal

pub returns : goal.returns
returns c = let a = c.args in marked_is a.used.now a.i
