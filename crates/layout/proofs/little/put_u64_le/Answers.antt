use mathlib.Core.Path.{◌≡◌, ap, ◌∙◌}
use Prim.Native.Nat.{◌+◌, ◌-◌}
use native.Mathlib.Nat.{div-one}
use native.Mathlib.Omega.{arith}
use borrow.Rule.Slice.PartMut.{put_mid}
use Rattle.std.specs.Int.{w64, to_le_bytes}
use Rattle.store.specs.Numbers.{to_le}
use Rattle.store.proofs.Laws.Numbers.{lent, length_to_le}
use Rattle.layout.proofs.little.put_u64_le.Goals as goal

pub returns : goal.returns
returns c =
    let a = c.args in
    let e : to_le_bytes w64 a.v ≡ to_le 8 a.v = simp div-one in
    ap (put_mid a.at (a.at + 8 - a.at) a.bytes.now) (c.copy_from_slice.ensures.after ∙ c.to_le_bytes.ensures ∙ e)
    ∙ lent a.bytes.now a.at (a.at + 8) (to_le 8 a.v) (omega arith) (omega arith) (omega (arith, length_to_le 8 a.v))
