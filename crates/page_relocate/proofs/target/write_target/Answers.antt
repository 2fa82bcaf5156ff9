use mathlib.Core.Path.{sym, ap, ◌∙◌}
use mathlib.Core.List.{List, ◌++◌}
use Prim.Native.Nat.{ℕ}
use Rattle.store.specs.Numbers.{put, to_be, fit}
use Rattle.store.proofs.Laws.Writes.{write_append}
use Rattle.page_relocate.proofs.target.write_target.Goals as goal

pub returns : goal.returns
returns c =
    let a = c.args in
    let i = to_be 8 a.id in
    let bs = fit a.size a.bytes.now in
    c.fit_in.ensures ∙ rw c.put_u64.ensures (sym (write_append a.place.offset i bs c.write_slot.new.page))
    ∙ ap (λ (q : List ℕ). put q a.place.offset (i ++ bs)) c.write_slot.ensures
