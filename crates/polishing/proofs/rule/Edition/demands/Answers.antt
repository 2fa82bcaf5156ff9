use Prim.Native.Nat.{◌+◌}
use mathlib.Core.Path.{ap}
use mathlib.Core.Bool.{Bool, ◌&&◌, and-true}
use lib.Dec.{leb, leb-zero}
use Rattle.polishing.specs.Words.{mounted, turned}
use Rattle.polishing.proofs.Laws.Counted.{counted_sides}
use Rattle.polishing.proofs.rule.Edition.demands.Goals as goal

pub returns-in-First : goal.returns-in-First
returns-in-First c w = rw (c.in-First.is, counted_sides w, leb-zero (mounted w), leb-zero (turned w))

pub returns-in-Second : goal.returns-in-Second
returns-in-Second c w =
    rw (c.in-Second.is, counted_sides w)
    (ap (λ (b : Bool). leb 3 (mounted w + turned w) && (leb 1 (mounted w) && b)) (and-true (leb 1 (turned w))))
