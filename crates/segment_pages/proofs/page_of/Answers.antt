use mathlib.Core.Path.{◌∙◌}
use Rattle.store.proofs.Laws.Segments.{lent_part_lem}
use Rattle.segment_pages.proofs.page_of.Goals as goal

pub returns : goal.returns
returns c =
    let whole = rw c.unwrap.ensures at c.as_array.ensures.cases in
    whole.same ∙ lent_part_lem c.args.segment.now c.args.p
