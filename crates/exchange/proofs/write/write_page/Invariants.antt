use Rattle.store.specs.Page.{view}
use Rattle.store.specs.PageSteps.{opened}
use Rattle.exchange.specs.Words.{page_file}
use Rattle.exchange.proofs.LeftLaws.{file_from}
use Rattle.exchange.proofs.WriteLaws.{Left}
use Rattle.exchange.proofs.write.write_page.Given as goal

abbrev pub invariant-loop-k : goal.invariant-loop-k
invariant-loop-k l = Left l.initial.file l.at (page_file (opened (view l.page))) l.file l.to (file_from (view l.page) l.k)
