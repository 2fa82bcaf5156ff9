use Rattle.hekatosuy.proofs.hk_repair.Goals as goal

pub returns : goal.returns
returns c = rw (c.answer_no.ensures, c.count.ensures) c.repair-r.ensures
