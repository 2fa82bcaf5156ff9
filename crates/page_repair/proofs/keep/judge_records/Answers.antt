use Prim.Native.Nat.{◌<◌}
use mathlib.Core.Path.{◌≡◌}
use native.Mathlib.Omega.{arith}
use lib.ListN.{length}
use Rattle.page_repair.proofs.KeepLaws.{marks_none, judged_none, judged_more}
use Rattle.page_repair.proofs.keep.judge_records.Goals as goal

pub loop-k-init : goal.loop-k-init
loop-k-init c = record { judged = judged_none _ _; marks = marks_none _ }

pub judge_record-requires : goal.judge_record-requires
judge_record-requires c = record {
  counted_page = (record { counted = c.get_slot_count-c.ensures.0; few = omega (arith, c.requires.0.few) }, omega arith);
  kept_marks = c.loop-k.invariant.marks;
}

pub loop-k-preserved : goal.loop-k-preserved
loop-k-preserved c = record {
  judged =
      let inside : c.loop-k.k < length c.loop-k.deeds = omega (arith, c.requires.0.few, c.loop-k.invariant.judged.long) in
      judged_more _ _ _ _ _ c.loop-k.invariant.judged inside c.judge_record.ensures.0;
  marks = c.judge_record.ensures.1;
}

pub returns : goal.returns
returns c =
    let e : c.loop-k.k ≡ c.args.n = omega arith in
    rw (← e) c.loop-k.invariant.judged
