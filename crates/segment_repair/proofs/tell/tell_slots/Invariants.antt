use Prim.Native.Nat.{◌+◌, ◌*◌}
use mathlib.Core.Path.{◌≡◌}
use lib.ListN.{length}
use Rattle.store.specs.Numbers.{put}
use Rattle.store.specs.Repair.{slot_entries, words}
use Rattle.page_repair.specs.Mended.{deeds_of}
use Rattle.segment_repair.proofs.tell.tell_slots.Given as goal

abbrev pub invariant-loop-slot : goal.invariant-loop-slot
invariant-loop-slot l =
    (l.next ≡ l.at + length (slot_entries (deeds_of l.deeds) l.p l.slot))
    × (l.entries ≡ put l.initial.entries (3 * l.at) (words (slot_entries (deeds_of l.deeds) l.p l.slot)))
