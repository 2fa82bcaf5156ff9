use mathlib.Core.Path.{ap, ◌∙◌}
use Prim.Native.Nat.{ℕ, ◌+◌, ◌/◌}
use native.Mathlib.Omega.{arith}
use lib.ListN.{length}
use Rattle.store.specs.Inventory.{found_in}
use Rattle.segment_steps.proofs.After.{sizes}
use Rattle.segment_insert.proofs.Placed.{row_long, row_page}
use Rattle.segment_insert.proofs.page_for.Goals as goal

pub returns-then-size-gt-LONGEST : goal.returns-then-size-gt-LONGEST
returns-then-size-gt-LONGEST g c =
    let a = c.args in
    row_long a.segment.now a.inventory.now (g.R.Row.bytes a.row.now) c.requires (omega (arith, c.len-size.ensures))

pub find_page-requires : goal.find_page-requires
find_page-requires g c = omega (arith, (sizes c.args.segment.now c.args.inventory.now c.requires).one)

pub returns : goal.returns
returns g c =
    let a = c.args in
    rw c.ok_or.ensures.value
    (row_page a.segment.now a.inventory.now (g.R.Row.bytes a.row.now) c.requires (omega (arith, c.len-size.ensures)) _
    (c.find_page.ensures ∙ ap (λ (m : ℕ). found_in a.inventory.now (length a.segment.now / 16384) (m + 8)) c.len-size.ensures))
