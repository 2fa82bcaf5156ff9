use Prim.Native.Nat.{ℕ}
use mathlib.Core.Path.{sym, ap, ◌∙◌}
use mathlib.Core.List.{List}
use Rattle.store.specs.Page.{view}
use Rattle.segment_repair.proofs.CountLaws.{quiet_counted}
use Rattle.segment_repair.proofs.count.count_used.Goals as goal

pub returns-then-all_stay : goal.returns-then-all_stay
returns-then-all_stay c =
    quiet_counted c.requires (c.is_sound.ensures c.if-is_sound.true) (sym c.all_stay.ensures ∙ c.if-all_stay.true)
    (c.get_free_space.ensures.0 ∙ ap (λ (q : List ℕ). (view q).free_space) c.page.ensures)
