use mathlib.Core.Path.{◌≡◌}
use Prim.Native.Nat.{◌+◌, ◌≤◌, ◌-◌}
use Rattle.store.specs.Page.{view}
use Rattle.store.specs.PageSteps.{next_free}
use Rattle.page_places.proofs.reserve.next_free.Given as goal

abbrev pub invariant-loop-i : goal.invariant-loop-i
invariant-loop-i l = (l.i ≤ l.c + 1) × (next_free (l.c - l.i) (view l.page).at l.i ≡ next_free (l.c - l.k) (view l.page).at l.k)
