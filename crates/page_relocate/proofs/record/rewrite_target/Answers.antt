use mathlib.Core.Path.{sym, ap, ◌∙◌}
use mathlib.Core.List.{List, ◌++◌}
use Prim.Native.Nat.{ℕ, ◌+◌}
use native.Mathlib.Omega.{arith}
use lib.ListN.{length}
use Rattle.store.specs.Numbers.{put, to_be}
use Rattle.store.proofs.Laws.Writes.{write_append}
use Rattle.page_relocate.proofs.RecordLaws.{bytes_done_lem}
use Rattle.page_relocate.proofs.record.rewrite_target.Goals as goal

pub returns : goal.returns
returns c =
    let a = c.args in
    let x = c.in-Some.field-0 in
    let i = to_be 8 a.id in
    bytes_done_lem a.page.now a.k (length a.bytes.now + 8) c.requires.used_slot x.slot x.offset c.move_slot.new.page c.copy_in.new.page
    c.in-Some.ensures.1 c.in-Some.ensures.0 (i ++ a.bytes.now) (omega arith)
    (c.copy_in.ensures ∙ ap (λ (q : List ℕ). put q (x.offset + 8) a.bytes.now) c.put_u64.ensures
    ∙ sym (write_append x.offset i a.bytes.now c.move_slot.new.page))
