use native.Mathlib.Omega.{arith}
use lib.Pow.{pow_pos}
use Rattle.page_check.proofs.MapLaws.{mask_of, one_shl}
use Rattle.page_check.proofs.map.bits_from.Goals as goal

pub returns : goal.returns
returns c = mask_of _ _ 64 (omega (arith, one_shl c.args.a (omega arith), pow_pos c.args.a))
