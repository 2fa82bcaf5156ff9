use Prim.Native.Nat.{◌-◌, ◌≤◌, max}
use mathlib.Core.Path.{◌≡◌}
use Rattle.store.specs.Inventory.{run_end}
use Rattle.free_space_inventory.proofs.run_end.Given as goal

abbrev pub invariant-loop-c : goal.invariant-loop-c
invariant-loop-c l = (run_end l.inventory l.page l.c (l.new - l.c) ≡ run_end l.inventory l.page l.old (l.new - l.old)) × (l.c ≤ max l.old l.new)
