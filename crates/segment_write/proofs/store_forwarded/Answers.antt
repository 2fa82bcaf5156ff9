use mathlib.Core.Path.{◌≡◌, sym, ap, subst, ◌∙◌}
use mathlib.Core.Bool.{false}
use mathlib.Core.List.{List, ◌++◌}
use Prim.Native.Nat.{ℕ, ◌+◌}
use native.Mathlib.Omega.{arith}
use lib.ListN.{drop}
use lib.Dec.{leb}
use Rattle.store.specs.Numbers.{to_be, page_no, slot_no}
use Rattle.store.specs.Segment.{seg_view}
use Rattle.segment_pages.proofs.Root.{back_taken}
use Rattle.segment_moves.proofs.Moved.{target_length}
use Rattle.segment_forward.specs.Words.{Follows}
use Rattle.segment_write.proofs.Stored.{Moves, moves, unmoved, told_asks, by_damaged, by_home, by_stay, by_again}
use Rattle.segment_write.proofs.store_forwarded.Goals.{After-fits_home, Else-fits_home, Else-on_target, Then-on_target}
use Rattle.segment_write.proofs.store_forwarded.Given as given
use Rattle.segment_write.proofs.store_forwarded.Goals as goal

-- what the tests told
follows : (g : given.Over) (c : After-fits_home g) → let a = c.args in Follows a.segment.now a.id a.t
follows g c = record { root = c.requires.root_is; back = sym c.points_back.ensures ∙ c.if-not-points_back.false }

fits : (g : given.Over) (c : After-fits_home g) → let a = c.args in
    c.fits_home.result ≡ leb (g.C.Change.sized a.change.now) ((seg_view a.segment.now).page (page_no a.id)).free_space
fits g c = c.fits_home.ensures ∙ ap (λ (n : ℕ). leb n ((seg_view c.args.segment.now).page (page_no c.args.id)).free_space) c.size.ensures

far : (g : given.Over) (c : Else-fits_home g) → let a = c.args in
    leb (g.C.Change.sized a.change.now) ((seg_view a.segment.now).page (page_no a.id)).free_space ≡ false
far g c = sym (fits g (goal.at.Else-fits_home g c).After-fits_home) ∙ c.if-fits_home.false

-- at the target: the record there, or every byte
moved_there : (g : given.Over) (c : Then-on_target g) → let a = c.args in let k = slot_no a.t in let m = g.C.Change in
    let old = drop 8 (((seg_view a.segment.now).page (page_no a.t)).bytes k) in
    Moves a.segment.now (page_no a.t) k (m.sized a.change.now + 8) (to_be 8 a.id ++ m.made a.change.now old) c.on_target.new.segment
moved_there g c =
    let a = c.args in
    let s = a.segment.now in
    let p = page_no a.t in
    let k = slot_no a.t in
    let m = g.C.Change in
    let n = m.sized a.change.now in
    let old = drop 8 (((seg_view s).page p).bytes k) in
    let step = c.on_target in
    moves s p k (back_taken s a.id a.t (follows g (goal.at.Then-on_target g c).After-fits_home).back) (n + 8) (to_be 8 a.id ++ m.made a.change.now old)
    step.new.segment step.ensures.0 step.result step.ensures.1 (λ e. omega arith)
    (target_length a.id (m.made a.change.now old) n (g.met.C.Change.long a.change.now old)) c.if-on_target.true

same_there : (g : given.Over) (c : Else-on_target g) → c.on_target.new.segment ≡ c.args.segment.now
same_there g c =
    let a = c.args in
    let s = a.segment.now in
    let p = page_no a.t in
    let k = slot_no a.t in
    let m = g.C.Change in
    let old = drop 8 (((seg_view s).page p).bytes k) in
    let step = c.on_target in
    unmoved s p k (back_taken s a.id a.t (follows g (goal.at.Else-on_target g c).After-fits_home).back) (m.sized a.change.now + 8)
    (to_be 8 a.id ++ m.made a.change.now old) step.new.segment step.ensures.0 step.result step.ensures.1 c.if-on_target.false

pub returns-then-not-points_back : goal.returns-then-not-points_back
returns-then-not-points_back g c =
    let a = c.args in
    let m = g.C.Change in
    by_damaged a.segment.now a.inventory.now a.id (m.sized a.change.now) (m.made a.change.now) a.t
    (sym c.points_back.ensures ∙ c.if-not-points_back.true)

pub returns-then-fits_home : goal.returns-then-fits_home
returns-then-fits_home g c =
    let a = c.args in
    let m = g.C.Change in
    c.go_home.ensures
    ∙ by_home a.segment.now a.inventory.now a.id (m.sized a.change.now) (m.made a.change.now) a.t
    (follows g (goal.at.returns-then-fits_home g c).After-fits_home)

pub on_target-requires-clause-taken_on : goal.on_target-requires-clause-taken_on
on_target-requires-clause-taken_on g c =
    back_taken c.args.segment.now c.args.id c.args.t (follows g (goal.at.on_target-requires-clause-taken_on g c).After-fits_home).back

pub update_on-requires-clause-within : goal.update_on-requires-clause-within
update_on-requires-clause-within g c =
    told_asks c.args.segment.now _ _ _ _ _ (moved_there g (goal.at.update_on-requires-clause-within g c).Then-on_target) c.args.inventory.now

pub returns-then-on_target : goal.returns-then-on_target
returns-then-on_target g c =
    let a = c.args in
    let m = g.C.Change in
    by_stay a.segment.now a.inventory.now a.id (m.sized a.change.now) (m.made a.change.now) a.t
    (follows g (goal.at.returns-then-on_target g c).After-fits_home) (far g (goal.at.returns-then-on_target g c).Else-fits_home)
    c.on_target.new.segment _ (moved_there g (goal.at.returns-then-on_target g c).Then-on_target) c.update_on.ensures

pub forward_again-requires-clause-follows : goal.forward_again-requires-clause-follows
forward_again-requires-clause-follows g c =
    let a = c.args in
    subst (λ (l : List ℕ). Follows l a.id a.t) (sym (same_there g (goal.at.forward_again-requires-clause-follows g c).Else-on_target))
    (follows g (goal.at.forward_again-requires-clause-follows g c).After-fits_home)

pub returns : goal.returns
returns g c =
    let a = c.args in
    let m = g.C.Change in
    by_again a.segment.now a.inventory.now a.id (m.sized a.change.now) (m.made a.change.now) a.t (follows g (goal.at.returns g c).After-fits_home)
    (far g (goal.at.returns g c).Else-fits_home) (sym c.on_target.ensures.1 ∙ c.if-on_target.false)
    c.on_target.new.segment (same_there g (goal.at.returns g c).Else-on_target) _ c.forward_again.ensures
