use mathlib.Core.Path.{◌≡◌}
use native.Mathlib.Omega.{arith}
use Rattle.page_check.proofs.SlotLaws.{not_both}
use Rattle.page_check.proofs.FitLaws.{records_more, total_more}
use Rattle.page_check.proofs.MarkLaws.{below_next, marked_more, apart_before, clear_apart}
use Rattle.page_check.proofs.map.claim_all.Goals as goal

pub returns-then-not-claim_record : goal.returns-then-not-claim_record
returns-then-not-claim_record c h =
    let at = c.loop-k in
    let run = c.in_ok-run.ensures.1 in
    not_both (c.claim_record.ensures.tells.back (
      λ p. omega (arith, run.start p, h.above at.k (omega arith) (omega (arith, run.size))),
      clear_apart _ _ _ _ _ _ _ at.invariant.marked run (λ j g. h.apart j at.k g (omega arith)),
    )) c.if-not-claim_record.true

pub loop-k-preserved : goal.loop-k-preserved
loop-k-preserved c =
    let so_far = c.loop-k.invariant in
    let run = c.in_ok-run.ensures in
    let e = c.if-not-claim_record.false in
    let lies = c.claim_record.ensures.tells.yes e in
    record {
      fit = records_more _ _ _ _ so_far.fit run.0 (λ p. omega (arith, lies.0 (omega (arith, run.1.size)), run.1.start (omega (arith, run.1.size))))
          (apart_before _ _ _ _ _ _ _ so_far.marked run.1 lies.1);
      adds = total_more _ _ _ _ so_far.adds run.1.size (omega (arith, run.1.down));
      marked = marked_more _ _ _ _ _ _ _ so_far.marked run.1 _ (λ j. below_next j _) (λ j h. omega arith) (omega arith) _
          (c.claim_record.ensures.claimed e);
    }

pub returns : goal.returns
returns c =
    let at = c.loop-k in
    let e : at.k ≡ c.args.header.count = omega arith in
    rw (← e) (at.invariant.fit, at.invariant.adds)
