use mathlib.Core.Path.{◌≡◌}
use Prim.Native.Nat.{◌*◌, ◌≤◌}
use lib.ListN.{length, take}
use Rattle.store.specs.Numbers.{put}
use Rattle.layout_runs.proofs.copy_in.Given as goal

abbrev pub invariant-loop : goal.invariant-loop
invariant-loop l = (l.page ≡ put l.fn.page l.at (take l.k l.src)) × (l.k ≡ 32 * l.counter) × (l.k ≤ length l.src) × (length l.page ≡ length l.fn.page)
