use Prim.Native.Nat.{ℕ}
use mathlib.Core.Path.{◌≡◌, subst}
use native.Mathlib.Omega.{arith}
use Rattle.segment_judge.proofs.RowLaws.{slot_used, row_asks, Half, half_none, half_more, half_all}
use Rattle.segment_judge.proofs.Judge.judge_page.Goals as goal

pub judge_records-requires : goal.judge_records-requires
judge_records-requires c = row_asks _ _ _ _ c.page.ensures c.requires

pub loop-k-init : goal.loop-k-init
loop-k-init c = half_none _ _ _ c.requires _ _ c.page.ensures c.judge_records.ensures

pub judge_slot-requires : goal.judge_slot-requires
judge_slot-requires c =
    let l = c.loop-k-test.true in
    (slot_used _ _ _ _ c.requires l, c.loop-k.invariant.left c.loop-k.k (omega arith) l)

pub loop-k-preserved : goal.loop-k-preserved
loop-k-preserved c = half_more _ _ _ c.requires c.loop-k.k c.loop-k.deeds _ c.loop-k.invariant c.loop-k-test.true c.judge_slot.ensures

pub returns : goal.returns
returns c =
    let a = c.args in
    let e : c.loop-k.k ≡ a.n = omega arith in
    half_all _ _ _ c.requires _ (subst (λ (k : ℕ). Half a.self.now.segment.now a.p a.n k c.loop-k.deeds) e c.loop-k.invariant)
