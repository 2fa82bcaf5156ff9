use Prim.Native.Nat.{◌-◌}
use mathlib.Core.Path.{◌≡◌}
use Rattle.store.specs.Segment.{seg_view}
use Rattle.store.specs.Scan.{scan_from}
use Rattle.segment_scan.proofs.scan_pages.Given as goal

abbrev pub invariant-loop-p : goal.invariant-loop-p
invariant-loop-p l = scan_from (l.n - l.p) (seg_view l.segment) l.p l.k ≡ scan_from (l.n - l.page) (seg_view l.segment) l.page l.slot
