use Prim.Native.Nat.{ℕ, ◌+◌, ◌-◌, ◌*◌, ◌/◌, ◌%◌}
use mathlib.Core.Path.{◌≡◌, refl, subst}
use native.Mathlib.Omega.{arith}
use Rattle.page_check.specs.Map.{Clear}
use Rattle.page_check.proofs.SlotLaws.{tells_no}
use Rattle.page_check.proofs.MapLaws.{mask_of, mask_and}
use Rattle.page_repair.proofs.BitLaws.{clear_more, not_clear, clear_word}
use Rattle.page_repair.proofs.marks.is_clear.Goals as goal

pub loop-i-init : goal.loop-i-init
loop-i-init c =
    record {
      upto = omega arith;
      b = c.args.o % 64;
      inside = omega arith;
      begun = omega arith;
      short = omega arith;
      mask = c.bits_from-m.ensures;
      clear = λ x f g. absurd (omega arith);
    }

pub returns-then-used-i-ne0 : goal.returns-then-used-i-ne0
returns-then-used-i-ne0 c =
    let at = c.loop-i in
    let a = c.args in
    let v = at.invariant in
    tells_no (not_clear a.used.now a.o at.i v.b 64 at.m v.mask (omega arith) (omega arith) v.begun a.end (omega arith)
    (λ e. c.if-used-i-ne0.true e))

pub loop-i-preserved : goal.loop-i-preserved
loop-i-preserved c =
    let at = c.loop-i in
    let a = c.args in
    let v = at.invariant in
    let q : 64 * at.i + 64 ≡ 64 * (at.i + 1) + 0 = omega arith in
    record {
      upto = omega arith;
      b = 0;
      inside = omega arith;
      begun = omega arith;
      short = omega arith;
      mask = mask_of _ 0 64 refl;
      clear = rw (← q) (clear_more a.used.now a.o at.i v.b 64 at.m v.mask (omega arith) (omega arith) (omega arith)
          v.clear c.if-used-i-ne0.false);
    }

pub returns : goal.returns
returns c =
    let at = c.loop-i in
    let a = c.args in
    let v = at.invariant in
    let last = (a.end - 1) / 64 in
    let b = (a.end - 1) % 64 + 1 in
    let e : at.i ≡ last = omega arith in
    let mask = mask_and at.m c.bits_to.result v.b 64 b v.mask c.bits_to.ensures (omega arith) in
    let s = subst (λ (x : ℕ). Clear a.used.now a.o (64 * x + v.b)) e v.clear in
    clear_word a.used.now a.o last v.b b _ mask (omega arith) (omega arith) a.end (omega arith) (omega arith) (omega arith) s
