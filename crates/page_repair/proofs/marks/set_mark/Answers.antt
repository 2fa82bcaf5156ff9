use Prim.Native.Nat.{◌%◌}
use native.Mathlib.Omega.{arith}
use borrow.Author.Rules.{rules}
use Rattle.page_check.proofs.MapLaws.{one_shl}
use Rattle.page_repair.proofs.BitLaws.{mark_set}
use Rattle.page_repair.proofs.marks.set_mark.Goals as goal

pub returns : goal.returns
returns c =
    let a = c.args in
    (mark_set a.used.now a.i _ c.requires.0 (one_shl (a.i % 64) (omega arith)) c.requires.1, search rules)
