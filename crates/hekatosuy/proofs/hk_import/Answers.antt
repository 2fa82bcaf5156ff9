use Rattle.hekatosuy.proofs.hk_import.Goals as goal

pub returns : goal.returns
returns c = rw (c.answer_no.ensures, c.count.ensures) c.import-r.ensures.0
