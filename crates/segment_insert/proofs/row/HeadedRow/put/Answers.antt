use mathlib.Core.Path.{◌≡◌, sym, ap, ◌∙◌}
use mathlib.Core.List.{List, ◌++◌}
use Prim.Native.Nat.{ℕ, ◌+◌}
use Rattle.store.specs.Numbers.{put, to_be}
use Rattle.store.proofs.Laws.Writes.{write_append}
use Rattle.segment_insert.proofs.row.HeadedRow.put.Goals as goal

-- two writes, one right behind the other
both : (p q r : List ℕ) (at i : ℕ) (bs : List ℕ) → q ≡ put p at (to_be 8 i) → r ≡ put q (at + 8) bs → r ≡ put p at (to_be 8 i ++ bs)
both p q r at i bs d e = e ∙ ap (λ (l : List ℕ). put l (at + 8) bs) d ∙ sym (write_append at (to_be 8 i) bs p)

pub returns : goal.returns
returns c =
    let a = c.args in
    both a.page.now c.put_u64.new.page c.copy_in.new.page a.at a.self.now.head a.self.now.bytes.now c.put_u64.ensures
    c.copy_in.ensures
