use Prim.Native.Nat.{◌+◌, ◌≤◌}
use native.Mathlib.Omega.{arith}
use lib.ListN.{length}
use Rattle.std.proofs.lemmas.Result.{err_from_is_err_and}
use Rattle.segment_read.proofs.Locate.{read_part, read_refused, read_inside}
use Rattle.segment_read.proofs.get_record.Goals.{In_ok-offset}
use Rattle.segment_read.proofs.get_record.Goals as goal

inside : (c : In_ok-offset) → c.in_ok-offset.field-0.offset + c.in_ok-offset.field-0.length ≤ length c.args.segment.now
inside c = read_inside c.args.segment.now c.args.id c.find_record.result c.find_record.ensures _ c.in_ok-offset.was

pub overflow_add-result : goal.overflow_add-result
overflow_add-result c = omega (arith, inside (goal.at.overflow_add-result c).In_ok-offset)

pub slice_bounds-result-end : goal.slice_bounds-result-end
slice_bounds-result-end c = inside (goal.at.slice_bounds-result-end c).In_ok-offset

pub returns-in_err-offset : goal.returns-in_err-offset
returns-in_err-offset c =
    let a = c.args in
    let p = err_from_is_err_and c.from_residual.result c.from_residual.ensures.1 in
    rw (p.1, p.2) (read_refused a.segment.now a.id c.find_record.result c.find_record.ensures _ c.in_err-offset.was)

pub returns : goal.returns
returns c =
    let a = c.args in
    read_part a.segment.now a.id c.find_record.result c.find_record.ensures _ c.in_ok-offset.was
