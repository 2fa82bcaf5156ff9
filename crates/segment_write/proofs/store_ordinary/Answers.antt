use mathlib.Core.Path.{◌≡◌, sym, subst, ◌∙◌}
use mathlib.Core.List.{List}
use Prim.Native.Nat.{ℕ}
use Rattle.store.specs.Numbers.{page_no, slot_no}
use Rattle.store.specs.Segment.{seg_view}
use Rattle.store.specs.Laws.Lent.{TakenOn}
use Rattle.segment_moves.proofs.Moved.{no_target}
use Rattle.segment_write.proofs.Stored.{Moves, moves, unmoved, told_asks, by_page, by_forward}
use Rattle.segment_write.proofs.store_ordinary.Goals.{Else-on_page, Then-on_page}
use Rattle.segment_write.proofs.store_ordinary.Given as given
use Rattle.segment_write.proofs.store_ordinary.Goals as goal

moved_here : (g : given.Over) (c : Then-on_page g) → let a = c.args in let k = slot_no a.id in let m = g.C.Change in
    let old = ((seg_view a.segment.now).page (page_no a.id)).bytes k in
    Moves a.segment.now (page_no a.id) k (m.sized a.change.now) (m.made a.change.now old) c.on_page.new.segment
moved_here g c =
    let a = c.args in
    let s = a.segment.now in
    let p = page_no a.id in
    let k = slot_no a.id in
    let m = g.C.Change in
    let n = m.sized a.change.now in
    let old = ((seg_view s).page p).bytes k in
    let step = c.on_page in
    moves s p k c.requires.taken_on n (m.made a.change.now old)
    step.new.segment step.ensures.0 step.result step.ensures.1 (no_target (((seg_view s).page p).at k) n c.requires.id_value.0)
    (g.met.C.Change.long a.change.now old) c.if-on_page.true

same_here : (g : given.Over) (c : Else-on_page g) → c.on_page.new.segment ≡ c.args.segment.now
same_here g c =
    let a = c.args in
    let s = a.segment.now in
    let p = page_no a.id in
    let k = slot_no a.id in
    let m = g.C.Change in
    let old = ((seg_view s).page p).bytes k in
    let step = c.on_page in
    unmoved s p k c.requires.taken_on (m.sized a.change.now) (m.made a.change.now old)
    step.new.segment step.ensures.0 step.result step.ensures.1 c.if-on_page.false

pub update_on-requires-clause-within : goal.update_on-requires-clause-within
update_on-requires-clause-within g c =
    told_asks c.args.segment.now _ _ _ _ _ (moved_here g (goal.at.update_on-requires-clause-within g c).Then-on_page) c.args.inventory.now

pub returns-then-on_page : goal.returns-then-on_page
returns-then-on_page g c =
    let a = c.args in
    let m = g.C.Change in
    by_page a.segment.now a.inventory.now a.id (m.sized a.change.now) (m.made a.change.now) 0 0
    c.on_page.new.segment _ (moved_here g (goal.at.returns-then-on_page g c).Then-on_page) c.update_on.ensures

pub forward-requires-clause-taken_on : goal.forward-requires-clause-taken_on
forward-requires-clause-taken_on g c =
    let a = c.args in
    subst (λ (l : List ℕ). TakenOn l (page_no a.id) (slot_no a.id)) (sym (same_here g (goal.at.forward-requires-clause-taken_on g c).Else-on_page))
    c.requires.taken_on

pub returns : goal.returns
returns g c =
    let a = c.args in
    let m = g.C.Change in
    by_forward a.segment.now a.inventory.now a.id (m.sized a.change.now) (m.made a.change.now) 0 0 (sym c.on_page.ensures.1 ∙ c.if-on_page.false)
    c.on_page.new.segment (same_here g (goal.at.returns g c).Else-on_page) _ c.forward.ensures
