use Prim.Native.Nat.{◌-◌}
use mathlib.Core.Path.{◌≡◌}
use Rattle.store.specs.Inventory.{set_from}
use Rattle.free_space_inventory.proofs.fill_entries.Given as goal

abbrev pub invariant-loop-u : goal.invariant-loop-u
invariant-loop-u l = set_from (λ _. l.v) l.old (l.u - l.old) l.inventory ≡ set_from (λ _. l.v) l.old (l.end - l.old) l.initial.inventory
