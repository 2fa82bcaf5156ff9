use mathlib.Core.Path.{◌≡◌, sym, ◌∙◌}
use mathlib.Core.Bool.{true, ◌&&◌}
use Rattle.std.proofs.lemmas.Result.{err_from_is_err_and}
use Rattle.store.specs.Segment.{size_ok, inv_ok}
use Rattle.segment_pages.proofs.Root.{root_is}
use Rattle.segment_erase.proofs.Erased.{refused_is, step_size, step_by}
use Rattle.segment_erase.proofs.erase_record.Goals.{After-root_of}
use Rattle.segment_erase.proofs.erase_record.Goals as goal

-- what the test of the sizes told
sizes_here : (c : After-root_of) → let a = c.args in (size_ok a.segment.now && inv_ok a.inventory.now) ≡ true
sizes_here c = sym c.sizes_ok.ensures ∙ c.if-not-sizes_ok.false

pub returns-then-not-sizes_ok : goal.returns-then-not-sizes_ok
returns-then-not-sizes_ok c =
    let a = c.args in
    step_size a.segment.now a.inventory.now a.id (sym c.sizes_ok.ensures ∙ c.if-not-sizes_ok.true)

pub erase_slot-requires-clause-root_is : goal.erase_slot-requires-clause-root_is
erase_slot-requires-clause-root_is c = root_is c.args.segment.now c.args.id _ (sym c.root_of.ensures ∙ c.in_ok-slot.was)

pub returns-in_err-slot : goal.returns-in_err-slot
returns-in_err-slot c =
    let a = c.args in
    let p = err_from_is_err_and c.from_residual.result c.from_residual.ensures.1 in
    rw (p.1, p.2)
    (refused_is a.segment.now a.inventory.now _ ∙ step_by a.segment.now a.inventory.now a.id (sizes_here (goal.at.returns-in_err-slot c).After-root_of) _
    (sym c.root_of.ensures ∙ c.in_err-slot.was))

pub returns : goal.returns
returns c =
    let a = c.args in
    c.erase_slot.ensures ∙ step_by a.segment.now a.inventory.now a.id (sizes_here (goal.at.returns c).After-root_of) _
    (sym c.root_of.ensures ∙ c.in_ok-slot.was)
