use Prim.Native.Nat.{◌/◌}
use mathlib.Core.Path.{◌≡◌}
use lib.ListN.{length}
use Rattle.store.specs.Repair.{standing, seg_entries, seg_after, true_inv}
use Rattle.segment_repair.proofs.count.count_pages.Given as goal

abbrev pub invariant-loop-p : goal.invariant-loop-p
invariant-loop-p l =
    (l.entries ≡ length (seg_entries (standing l.judge.segment.now) l.p))
    × (l.inventory ≡ true_inv (seg_after (standing l.judge.segment.now)) (length l.judge.segment.now / 16384) l.p)
