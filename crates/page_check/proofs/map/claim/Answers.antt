use Prim.Native.Nat.{ℕ, ◌+◌, ◌-◌, ◌*◌, ◌/◌, ◌%◌}
use mathlib.Core.Path.{◌≡◌, refl, subst}
use native.Mathlib.Omega.{arith}
use lib.Bits.{bit_and}
use Rattle.page_check.specs.Map.{Claimed}
use Rattle.page_check.proofs.SlotLaws.{tells_no, not_both, refuted}
use Rattle.page_check.proofs.MapLaws.{mask_of, mask_and, claim_more}
use Rattle.page_check.proofs.map.claim.Goals as goal

pub returns-then-not-claim_word : goal.returns-then-not-claim_word
returns-then-not-claim_word c =
    let a = c.args in
    let at = c.loop-i in
    let v = at.invariant in
    let w = c.claim_word in
    let one = claim_more a.used.now at.used w.new.used a.o (64 * at.i + 64) at.i v.b 64 at.m w.result v.mask (omega arith)
    (omega arith) v.begun (omega arith) refl v.claimed w.ensures in
    record { tells = tells_no (λ h. not_both (one.tells.back (λ x f g. h x f (omega arith))) c.if-not-claim_word.true); claimed = refuted }

pub loop-i-preserved : goal.loop-i-preserved
loop-i-preserved c =
    let a = c.args in
    let at = c.loop-i in
    let v = at.invariant in
    let w = c.claim_word in
    let one = claim_more a.used.now at.used w.new.used a.o (64 * at.i + 64) at.i v.b 64 at.m w.result v.mask (omega arith)
    (omega arith) v.begun (omega arith) refl v.claimed w.ensures in
    let q : 64 * at.i + 64 ≡ 64 * (at.i + 1) + 0 = omega arith in
    record {
      upto = omega arith;
      words = w.array_long;
      b = 0;
      inside = omega arith;
      begun = omega arith;
      short = omega arith;
      mask = mask_of _ 0 64 refl;
      claimed = rw (← q) (one.claimed c.if-not-claim_word.false);
    }

pub returns : goal.returns
returns c =
    let a = c.args in
    let at = c.loop-i in
    let v = at.invariant in
    let w = c.claim_word-2 in
    let last = (a.end - 1) / 64 in
    let b = (a.end - 1) % 64 + 1 in
    let e : at.i ≡ last = omega arith in
    let mask = mask_and at.m c.bits_to.result v.b 64 b v.mask c.bits_to.ensures (omega arith) in
    let s = subst (λ (x : ℕ). Claimed a.used.now at.used a.o (64 * x + v.b)) e v.claimed in
    claim_more a.used.now at.used w.new.used a.o a.end last v.b b (bit_and at.m c.bits_to.result)
    w.result mask (omega arith) (omega arith) (omega arith) (omega arith) (omega arith) s w.ensures
