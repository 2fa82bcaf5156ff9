use mathlib.Core.Path.{◌≡◌, sym, ◌∙◌}
use mathlib.Core.Bool.{true}
use Rattle.std.proofs.lemmas.Result.{err_from_is_err_and}
use Rattle.store.specs.Segment.{size_ok}
use Rattle.segment_pages.proofs.Root.{root_is}
use Rattle.segment_read.proofs.Locate.{locate_size, locate_root}
use Rattle.segment_read.proofs.find_record.Goals.{After-root_of}
use Rattle.segment_read.proofs.find_record.Goals as goal

whole : (c : After-root_of) → size_ok c.args.segment.now ≡ true
whole c = sym c.is_segment.ensures ∙ c.if-not-is_segment.false

pub returns-then-not-is_segment : goal.returns-then-not-is_segment
returns-then-not-is_segment c =
    let a = c.args in
    locate_size a.segment.now a.id (sym c.is_segment.ensures ∙ c.if-not-is_segment.true)

pub read_slot-requires : goal.read_slot-requires
read_slot-requires c = root_is c.args.segment.now c.args.id _ (sym c.root_of.ensures ∙ c.in_ok-slot.was)

pub returns-in_err-slot : goal.returns-in_err-slot
returns-in_err-slot c =
    let a = c.args in
    let p = err_from_is_err_and c.from_residual.result c.from_residual.ensures.1 in
    rw (p.1, p.2) (locate_root a.segment.now a.id (whole (goal.at.returns-in_err-slot c).After-root_of) _ (sym c.in_err-slot.was ∙ c.root_of.ensures))

pub returns : goal.returns
returns c =
    let a = c.args in
    c.read_slot.ensures ∙ locate_root a.segment.now a.id (whole (goal.at.returns c).After-root_of) _ (sym c.in_ok-slot.was ∙ c.root_of.ensures)
