use Rattle.hekatosuy.proofs.hk_whole_readings.Goals as goal

pub returns : goal.returns
returns c = rw c.answer_no.ensures c.whole_readings-r.ensures
