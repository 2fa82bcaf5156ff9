use mathlib.Core.Path.{◌≡◌}
use Prim.Native.Nat.{◌+◌, ◌≤◌, ◌-◌}
use Rattle.store.specs.Page.{view}
use Rattle.store.specs.PageSteps.{free_below}
use Rattle.slotted_page.proofs.erase.free_below.Given as goal

abbrev pub invariant-loop-j : goal.invariant-loop-j
invariant-loop-j l = (l.j ≤ l.k) × (l.k - l.j + free_below (view l.page).at l.j ≡ free_below (view l.page).at l.k)

abbrev pub decreases-loop-j : goal.decreases-loop-j
decreases-loop-j l = l.j
