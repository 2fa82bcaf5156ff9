use native.Mathlib.Omega.{arith}
use Rattle.fill_report.proofs.SumLaws.{sum_not_fit, sum_fits, sum_is}
use Rattle.fill_report.proofs.sums.checked_classes.Goals as goal

pub returns-in_err-sum : goal.returns-in_err-sum
returns-in_err-sum c =
    let h = c.loop-c.invariant in
    rw c.from_residual.ensures (sum_not_fit c.args.a c.args.b (omega (arith, h.length_a, h.length_b)) c.loop-c.c (omega (arith, h.length_a))
    (omega (arith, c.in_err-sum.ensures)))

pub returns : goal.returns
returns c =
    let h = c.loop-c.invariant in
    let a = c.args.a in
    let b = c.args.b in (
      sum_fits a b (omega (arith, h.length_a, h.length_b)) (λ i l. h.fit i (omega arith)),
      sum_is a b (omega (arith, h.length_a, h.length_b)) c.loop-c.sum
          (omega (arith, h.length_a, h.length_sum)) (λ i l. h.sums i (omega arith)),
    )
