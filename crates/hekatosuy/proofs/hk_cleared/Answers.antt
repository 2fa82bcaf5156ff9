use Rattle.hekatosuy.proofs.hk_cleared.Goals as goal

pub returns : goal.returns
returns c = rw (c.answer_no.ensures, c.cleared.ensures) c.cleared-r.ensures
