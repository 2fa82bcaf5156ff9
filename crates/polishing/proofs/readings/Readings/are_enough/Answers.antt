use Prim.Native.Nat.{ℕ, ◌≤◌}
use mathlib.Core.Path.{sym, ◌∙◌}
use mathlib.Core.Bool.{Bool}
use native.Mathlib.Omega.{arith}
use Rattle.polishing.specs.Polishing.{whole_in}
use Rattle.polishing.proofs.Laws.Counted.{counts_none, counts_few, counts_next, counts_met}
use Rattle.polishing.proofs.readings.Readings.are_enough.Goals.{At-loop-w}
use Rattle.polishing.proofs.readings.Readings.are_enough.Goals as goal

abbrev whole : At-loop-w → ℕ → Bool
whole c = let r = c.args.self.now in whole_in r.segment.now r.mirror r.rows

few : (at : At-loop-w) → (at.loop-w.counts.mounted ≤ 32768) × (at.loop-w.counts.turned ≤ 32768)
few at = counts_few (whole at) at.loop-w.w at.loop-w.counts at.loop-w.invariant

pub loop-w-init : goal.loop-w-init
loop-w-init c = counts_none _ _ c.default-counts.ensures

pub meet-requires : goal.meet-requires
meet-requires c = omega (arith, few (goal.at.meet-requires c).At-loop-w)

pub returns-then-meet : goal.returns-then-meet
returns-then-meet c =
    sym (counts_met (whole (goal.at.returns-then-meet c).At-loop-w) c.loop-w.w c.loop-w.counts c.loop-w.invariant _ _ c.demands-demands.ensures
    (sym c.meet.ensures ∙ c.if-meet.true))

pub with_window-counts-requires : goal.with_window-counts-requires
with_window-counts-requires c = omega (arith, few (goal.at.with_window-counts-requires c).At-loop-w)

pub loop-w-preserved : goal.loop-w-preserved
loop-w-preserved c =
    counts_next (whole (goal.at.loop-w-preserved c).At-loop-w) c.loop-w.w c.loop-w.counts c.loop-w.invariant (omega arith) _ c.word.ensures _
    c.with_window-counts.ensures

pub meet-requires-2 : goal.meet-requires-2
meet-requires-2 c = omega (arith, few (goal.at.meet-requires-2 c).At-loop-w)
