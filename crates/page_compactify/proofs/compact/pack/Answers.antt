use native.Mathlib.Omega.{arith}
use Prim.Native.Nat.{◌+◌}
use lib.ListN.{get_or, drop}
use Rattle.page_compactify.proofs.PackLaws.{Turn, turn_at, to_pack_end}
use Rattle.page_compactify.proofs.compact.pack.Invariants.{planned, start}
use Rattle.page_compactify.proofs.compact.pack.Goals.{In-loop-e}
use Rattle.page_compactify.proofs.compact.pack.Goals as goal

next : (c : In-loop-e) →
    let l = c.loop-e in
    let p = c.args.page.now in
    let es = c.args.keys.now in
    Turn (get_or es l.e-index 0) (drop (l.e-index + 1) es) l.d l.page (planned p es) (start p es)
next c =
    let l = c.loop-e in
    let p = c.args.page.now in
    let es = c.args.keys.now in
    turn_at es l.e-index l.d (start p es) l.page (planned p es) (omega arith) (omega arith) l.invariant.0

pub overflow_sub-d : goal.overflow_sub-d
overflow_sub-d c = omega (arith, next (goal.at.overflow_sub-d c).In-loop-e)

pub place-requires : goal.place-requires
place-requires c =
    let t = next (goal.at.place-requires c).In-loop-e in
    record { whole = omega arith; from = omega (arith, t); to = omega (arith, t); slot = t.slot }

pub loop-e-preserved : goal.loop-e-preserved
loop-e-preserved c =
    (rw (c.place.ensures, c.len_in-d.ensures.0) (next (goal.at.loop-e-preserved c).In-loop-e).rest, omega arith, omega arith)

pub returns : goal.returns
returns c =
    let l = c.loop-e in
    to_pack_end c.args.keys.now l.e-index l.d _ _ _ _ _ _ _ (omega arith) l.invariant.0
    c.of.ensures.count c.of.ensures.first c.of.ensures.space c.write.ensures
