use mathlib.Core.Path.{◌≡◌, sym, ◌∙◌}
use mathlib.Core.Bool.{true, ◌&&◌}
use Prim.Native.Nat.{◌≤◌}
use native.Mathlib.Omega.{arith}
use Rattle.std.proofs.lemmas.Result.{err_from_is_err_and}
use Rattle.store.specs.Segment.{size_ok, inv_ok}
use Rattle.segment_pages.proofs.Root.{root_is}
use Rattle.segment_write.proofs.Stored.{step_size, step_long, step_refused, step_by}
use Rattle.segment_write.proofs.store_record.Goals.{After-root_of, Else-not-sizes_ok}
use Rattle.segment_write.proofs.store_record.Given as given
use Rattle.segment_write.proofs.store_record.Goals as goal

-- what the tests told
sizes_here : (g : given.Over) (c : Else-not-sizes_ok g) → let a = c.args in (size_ok a.segment.now && inv_ok a.inventory.now) ≡ true
sizes_here g c = sym c.sizes_ok.ensures ∙ c.if-not-sizes_ok.false

short : (g : given.Over) (c : After-root_of g) → g.C.Change.sized c.args.change.now ≤ 16364
short g c = omega (arith, c.if-size-gt-LONGEST.false, c.size.ensures)

pub returns-then-not-sizes_ok : goal.returns-then-not-sizes_ok
returns-then-not-sizes_ok g c =
    let a = c.args in
    let m = g.C.Change in
    step_size a.segment.now a.inventory.now a.id (m.sized a.change.now) (m.made a.change.now) (sym c.sizes_ok.ensures ∙ c.if-not-sizes_ok.true)

pub returns-then-size-gt-LONGEST : goal.returns-then-size-gt-LONGEST
returns-then-size-gt-LONGEST g c =
    let a = c.args in
    let m = g.C.Change in
    step_long a.segment.now a.inventory.now a.id (m.sized a.change.now) (m.made a.change.now)
    (sizes_here g (goal.at.returns-then-size-gt-LONGEST g c).Else-not-sizes_ok) (omega (arith, c.if-size-gt-LONGEST.true, c.size.ensures))

pub store_slot-requires-clause-root_is : goal.store_slot-requires-clause-root_is
store_slot-requires-clause-root_is g c = root_is c.args.segment.now c.args.id _ (sym c.root_of.ensures ∙ c.in_ok-slot.was)

pub returns-in_err-slot : goal.returns-in_err-slot
returns-in_err-slot g c =
    let a = c.args in
    let m = g.C.Change in
    let p = err_from_is_err_and c.from_residual.result c.from_residual.ensures.1 in
    rw (p.1, p.2)
    (step_refused a.segment.now a.inventory.now a.id (m.sized a.change.now) (m.made a.change.now)
    (sizes_here g (goal.at.returns-in_err-slot g c).Else-not-sizes_ok) (short g (goal.at.returns-in_err-slot g c).After-root_of) _
    (sym c.root_of.ensures ∙ c.in_err-slot.was))

pub returns : goal.returns
returns g c =
    let a = c.args in
    let m = g.C.Change in
    c.store_slot.ensures
    ∙ step_by a.segment.now a.inventory.now a.id (m.sized a.change.now) (m.made a.change.now) (sizes_here g (goal.at.returns g c).Else-not-sizes_ok)
    (short g (goal.at.returns g c).After-root_of) _ (sym c.root_of.ensures ∙ c.in_ok-slot.was)
