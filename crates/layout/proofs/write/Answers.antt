use mathlib.Core.Path.{◌≡◌, ap, ◌∙◌}
use mathlib.Core.List.{List}
use Prim.Native.Nat.{ℕ, ◌+◌, ◌-◌}
use native.Mathlib.Omega.{arith}
use borrow.Rule.Slice.PartMut.{put_mid}
use Rattle.store.specs.Numbers.{cut, to_be}
use Rattle.store.proofs.Laws.Numbers.{lent, length_to_be}
use Rattle.layout.proofs.Numbers.{to_be_lowest}
use Rattle.layout.proofs.write.Goals as goal

pub returns : goal.returns
returns g c =
    let n = g.row.N in
    let a = c.args in
    let copied : c.copy_from_slice.new.self ≡ to_be n a.v =
    c.copy_from_slice.ensures.after ∙ ap (λ (q : List ℕ). cut q (8 - n) (8 - (8 - n))) c.to_be_bytes.ensures ∙ to_be_lowest n a.v (omega arith) in
    ap (put_mid a.at (a.at + n - a.at) a.page.now) copied
    ∙ lent a.page.now a.at (a.at + n) (to_be n a.v) (omega arith) (omega arith) (omega (arith, length_to_be n a.v))
