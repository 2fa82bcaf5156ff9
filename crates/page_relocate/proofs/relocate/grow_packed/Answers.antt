use mathlib.Core.Path.{◌≡◌, sym, ap, ◌∙◌}
use Prim.Native.Nat.{◌+◌, ◌≤◌}
use native.Mathlib.Omega.{arith}
use lib.ListN.{length-replicate, replicate}
use Rattle.store.specs.Slots.{len, off}
use Rattle.store.specs.Page.{view}
use Rattle.page_relocate.proofs.RecordLaws.{saved_old, again_done}
use Rattle.page_relocate.proofs.relocate.grow_packed.Goals.{After-len-n}
use Rattle.page_relocate.proofs.relocate.grow_packed.Goals as goal

-- where the record's length is read
module _ (c : After-len-n) where
  length_is : c.len-n.result ≡ len ((view c.args.page.now).at c.args.k)
  length_is = c.len-n.ensures ∙ ap len c.requires.s_value

  in_page : off c.args.s + c.len-n.result ≤ 16384
  in_page = omega (arith, c.requires.used_slot.sound.high c.args.k, length_is, ap off c.requires.s_value)

pub returns : goal.returns
returns c =
    let a = c.args in
    let x = saved_old a.page.now a.k a.size c.requires.used_slot c.offset.result c.len-n.result (replicate 16384 0)
    c.save.new.to (c.offset.ensures ∙ ap off c.requires.s_value) (length_is (goal.at.returns c).After-len-n)
    (rw length-replicate (omega (arith, in_page (goal.at.returns c).After-len-n))) c.save.ensures in
    (rw x at c.rewrite.ensures.0 ∙ sym (again_done a.page.now a.k a.size c.requires.used_slot), c.rewrite.ensures.1)
