use mathlib.Core.Path.{◌≡◌}
use native.Mathlib.Omega.{arith}
use lib.Dec.{leb}
use borrow.Author.Tests.{leb-true}
use Rattle.store.specs.Page.{view}
use Rattle.page_check.specs.Fit.{Sums}
use Rattle.page_check.proofs.SlotLaws.{some_if}
use Rattle.page_check.proofs.FitLaws.{records_lower, records_under, total_more}
use Rattle.page_check.proofs.sweep.sweep.Goals as goal

pub loop-k-preserved : goal.loop-k-preserved
loop-k-preserved c =
    let so_far = c.loop-k.invariant in
    let run = c.in_ok-run.ensures in
    record {
      top = omega (arith, run.1.down);
      fit = records_under _ _ _ _ _ _ so_far.top so_far.fit run.0 run.1;
      adds = total_more _ _ _ _ so_far.adds run.1.size (omega (arith, run.1.down));
    }

pub returns : goal.returns
returns c =
    let v = view c.args.page.now in
    let h = c.args.header in
    let at = c.loop-k in
    let e : at.k ≡ h.count = omega arith in
    rw c.then_some.ensures
    (some_if (Sums v h) (leb h.start at.low) at.total
    (λ y. rw (← e) (records_lower _ _ _ _ _ at.invariant.fit (leb-true h.start at.low y), at.invariant.adds)))
