use Rattle.page_check.proofs.MapLaws.{blank}
use Rattle.page_check.proofs.records_fit.Goals as goal

pub claim_all-requires : goal.claim_all-requires
claim_all-requires c = (c.requires, blank)
