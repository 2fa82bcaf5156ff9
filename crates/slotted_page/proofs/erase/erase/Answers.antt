use mathlib.Core.Path.{◌∙◌, ap}
use Prim.Native.Nat.{ℕ, min}
use Rattle.store.specs.Page.{view}
use Rattle.slotted_page.proofs.EraseLaws.{erase_done}
use Rattle.slotted_page.proofs.erase.erase.Goals as goal

pub returns : goal.returns
returns c =
    let a = c.args in
    let h = c.of-h in
    erase_done (view a.page.now) a.k h.result.count h.result.space c.pruned_by-m.result c.min.result a.page.now c.drop_record.new.page
    h.ensures.count h.ensures.space c.pruned_by-m.ensures.0 (c.min.ensures ∙ ap (λ (x : ℕ). min x a.k) h.ensures.first) c.drop_record.ensures
