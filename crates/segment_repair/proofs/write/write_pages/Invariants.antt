use mathlib.Core.Path.{◌≡◌}
use lib.ListN.{length}
use Rattle.store.specs.Numbers.{put}
use Rattle.store.specs.Repair.{standing, seg_bytes, seg_entries, words}
use Rattle.segment_repair.proofs.write.write_pages.Given as goal

abbrev pub invariant-loop-p : goal.invariant-loop-p
invariant-loop-p l =
    (l.segment ≡ seg_bytes (standing l.initial.segment) l.p l.initial.segment)
    × (l.entries ≡ put l.initial.entries 0 (words (seg_entries (standing l.initial.segment) l.p)))
    × (l.at ≡ length (seg_entries (standing l.initial.segment) l.p))
