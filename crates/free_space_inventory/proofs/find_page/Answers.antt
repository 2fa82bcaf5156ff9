use Rattle.std.specs.Prelude.{ℕ, ◌≡◌, Bool, true, false, cond, ltb, Some, None}
use Rattle.std.specs.Bool.{then_some}
use Rattle.std.proofs.Common.{refl}
use mathlib.Core.Path.{◌∙◌}
use native.Mathlib.Omega.{arith}
use borrow.Author.Tests.{lt-ltb, le-ltb}
use Rattle.store.proofs.Laws.Classes.{class_low, class_top}
use Rattle.store.specs.Inventory.{found_in}
use Rattle.free_space_inventory.proofs.find_page.Goals as goal

choice : (b : Bool) (x : ℕ) → then_some b x ≡ cond b (Some x) None
choice true x = refl
choice false x = refl

pub returns-in_err-used : goal.returns-in_err-used
unfolding found_in
returns-in_err-used c = rw (lt-ltb 16372 c.args.need (omega (arith, c.in_err-used.ensures))) c.from_residual.ensures

pub overflow_sub-class_of : goal.overflow_sub-class_of
overflow_sub-class_of c = omega (arith, class_low c.in_ok-used.used)

pub read_entry-page-requires : goal.read_entry-page-requires
read_entry-page-requires c = omega (arith, class_top c.in_ok-used.used)

pub returns : goal.returns
unfolding found_in
returns c =
    rw (le-ltb _ _ c.in_ok-used.ensures.0, ← c.in_ok-used.ensures.1, ← c.class_of.ensures, ← c.read_entry-page.ensures)
    (c.then_some.ensures ∙ choice (ltb c.read_entry-page.result c.args.n) c.read_entry-page.result)
