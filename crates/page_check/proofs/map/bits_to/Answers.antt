use Prim.Native.Nat.{◌+◌, ◌-◌}
use mathlib.Core.Path.{◌≡◌}
use native.Mathlib.Omega.{arith}
use Rattle.page_check.proofs.MapLaws.{mask_of, ones_shr}
use Rattle.page_check.proofs.map.bits_to.Goals as goal

pub returns : goal.returns
returns c =
    let b = c.args.b in
    let e : 63 - b ≡ 64 - (b + 1) = omega arith in
    mask_of _ 0 (b + 1) (rw e (ones_shr (b + 1) (omega arith)))
