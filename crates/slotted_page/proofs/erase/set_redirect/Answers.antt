use mathlib.Core.Path.{sym, ◌∙◌}
use mathlib.Core.List.{[]}
use Rattle.store.specs.Page.{view}
use Rattle.store.proofs.Laws.Numbers.{put_nil}
use Rattle.store.specs.declared.Slot.TheVariants.{Redirect}
use Rattle.slotted_page.proofs.FillLaws.{move_writes}
use Rattle.slotted_page.proofs.erase.set_redirect.Goals as goal

pub returns : goal.returns
returns c =
    let a = c.args in
    c.write_slot.ensures ∙ sym (move_writes (view a.page.now) a.k (Redirect a.id) [] a.page.now ∙ put_nil _ 0)
