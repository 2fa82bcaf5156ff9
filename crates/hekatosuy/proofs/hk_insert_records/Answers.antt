use Rattle.hekatosuy.proofs.hk_insert_records.Goals as goal

pub returns : goal.returns
returns c = rw (c.answer_no.ensures, c.count.ensures) c.insert_records-r.ensures.0
