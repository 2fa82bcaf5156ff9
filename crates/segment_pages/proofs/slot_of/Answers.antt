use Prim.Native.Nat.{◌≤◌}
use native.Mathlib.Omega.{arith}
use Rattle.store.specs.Page.{view}
use Rattle.segment_pages.proofs.Seen.{at_past}
use Rattle.segment_pages.proofs.slot_of.Goals.{Start}
use Rattle.segment_pages.proofs.slot_of.Goals as goal

pub returns-then-get_slot_count-k : goal.returns-then-get_slot_count-k
returns-then-get_slot_count-k c =
    let entry = (goal.at.returns-then-get_slot_count-k c).Start in
    let past : (view entry.args.page.now).slot_count ≤ entry.args.k = omega (arith, c.get_slot_count.ensures.0) in
    (at_past entry.args.page.now entry.args.k past, tt)
