use Prim.Native.Nat.{◌-◌, ◌<◌}
use Rattle.free_space_inventory.proofs.Search.{Placed, Searched}
use Rattle.free_space_inventory.proofs.move_entries.Given as goal

abbrev pub invariant-loop-u : goal.invariant-loop-u
invariant-loop-u l = Placed l.initial.inventory l.p l.nibble l.old l.initial.u l.inventory l.u × (l.old < l.u)

abbrev pub decreases-loop-u : goal.decreases-loop-u
decreases-loop-u l = l.u

abbrev pub invariant-pages : goal.invariant-pages
invariant-pages l = Searched l.initial.inventory l.n l.page l.old l.end l.inventory l.u l.p × (l.old < l.u)

abbrev pub decreases-pages : goal.decreases-pages
decreases-pages l = l.n - l.p
