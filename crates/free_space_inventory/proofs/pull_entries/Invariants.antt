use Prim.Native.Nat.{◌-◌}
use mathlib.Core.Path.{◌≡◌}
use Rattle.store.specs.Inventory.{pulled_back}
use Rattle.free_space_inventory.proofs.pull_entries.Given as goal

abbrev pub invariant-loop-c : goal.invariant-loop-c
invariant-loop-c l = pulled_back l.page l.c (15 - l.c) l.inventory ≡ pulled_back l.page l.new (15 - l.new) l.initial.inventory
