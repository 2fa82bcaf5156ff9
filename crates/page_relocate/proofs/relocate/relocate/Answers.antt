use mathlib.Core.Path.{◌≡◌, refl, ap, ◌∙◌}
use native.Mathlib.Omega.{arith}
use Rattle.store.specs.Slots.{len}
use Rattle.store.specs.Page.{view}
use Rattle.page_relocate.proofs.RecordLaws.{relocate_refused}
use Rattle.page_relocate.proofs.relocate.relocate.Goals.{After-len-n}
use Rattle.page_relocate.proofs.relocate.relocate.Goals as goal

length_is : (c : After-len-n) → c.len-n.result ≡ len ((view c.args.page.now).at c.args.k)
length_is c = c.len-n.ensures ∙ ap len c.get_slot-s.ensures.0

pub returns-then-header-size : goal.returns-then-header-size
returns-then-header-size c =
    let a = c.args in
    let e = length_is (goal.at.returns-then-header-size c).After-len-n in
    rw (relocate_refused a.page.now a.k a.size c.requires (omega arith) (omega arith)) (refl, refl)
