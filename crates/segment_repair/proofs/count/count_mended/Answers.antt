use Prim.Native.Nat.{ℕ}
use mathlib.Core.Path.{sym, ap, ◌∙◌}
use mathlib.Core.List.{List}
use borrow.Author.Tests.{not-true, not-false}
use Rattle.store.specs.Page.{view}
use Rattle.page_repair.specs.Kept.{CountedPage}
use Rattle.segment_repair.proofs.CountLaws.{codable_deeds, head_stays, head_anew}
use Rattle.segment_repair.proofs.count.count_mended.Goals.{After-page-page}
use Rattle.segment_repair.proofs.count.count_mended.Goals as goal

counted : (c : After-page-page) → CountedPage c.page-page.result.now c.args.n
counted c =
    record { counted = c.requires.is ∙ ap (λ (q : List ℕ). (view q).slot_count) (sym c.page-page.ensures); few = c.requires.few }

pub gather-r-requires : goal.gather-r-requires
gather-r-requires c =
    (counted (goal.at.gather-r-requires c).After-page-page, codable_deeds c.requires c.judge_page-deeds.ensures c.page-page.ensures)

pub returns-then-ne : goal.returns-then-ne
returns-then-ne c =
    head_anew c.requires c.judge_page-deeds.ensures c.page-page.ensures c.gather-r.ensures.0 c.of.ensures c.header_after-h.ensures
    (sym (not-true _ (sym c.ne.ensures ∙ c.if-ne.true)))

pub returns-else-ne : goal.returns-else-ne
returns-else-ne c =
    head_stays c.requires c.judge_page-deeds.ensures c.page-page.ensures c.gather-r.ensures.0 c.of.ensures c.header_after-h.ensures
    (sym (not-false _ (sym c.ne.ensures ∙ c.if-ne.false)))
