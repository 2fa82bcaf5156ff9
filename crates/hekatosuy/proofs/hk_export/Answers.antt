use Rattle.hekatosuy.proofs.hk_export.Goals as goal

pub returns : goal.returns
returns c = rw (c.answer_no.ensures, c.exported-told.ensures.0, c.exported-told.ensures.1) c.export-r.ensures
