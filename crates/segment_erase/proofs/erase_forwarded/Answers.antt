use mathlib.Core.Path.{◌≡◌, refl, sym, ◌∙◌}
use mathlib.Core.Bool.{true}
use native.Mathlib.Omega.{arith}
use lib.ListN.{length}
use Rattle.store.specs.Numbers.{page_no, slot_no}
use Rattle.store.specs.Segment.{seg_view, points_back}
use Rattle.store.specs.Laws.Lent.{TakenOn}
use Rattle.store.specs.declared.Slot.TheVariants.{Redirect}
use Rattle.segment_pages.proofs.Root.{root_taken, back_taken}
use Rattle.segment_steps.proofs.After.{Took, left_room}
use Rattle.segment_erase.proofs.Erased.{erasing, took_erasing, by_damaged, still_taken, both_length, target_left, root_left, by_redirect}
use Rattle.segment_erase.proofs.erase_forwarded.Goals.{After-erase_on, After-erase_on-2, Else-not-points_back, Start}
use Rattle.segment_erase.proofs.erase_forwarded.Goals as goal

-- what the test of the target told, and what the root's step left
back : (c : Else-not-points_back) → let a = c.args in points_back (seg_view a.segment.now) a.id a.t ≡ true
back c = sym c.points_back.ensures ∙ c.if-not-points_back.false

back_then : (c : After-erase_on) → let a = c.args in points_back (seg_view a.segment.now) a.id a.t ≡ true
back_then c = back (goal.at.After-erase_on c).Else-not-points_back

taken : (c : Start) → TakenOn c.args.segment.now (page_no c.args.id) (slot_no c.args.id)
taken c = root_taken c.args.segment.now c.args.id (Redirect c.args.t) c.requires.root_is refl

took : (c : After-erase_on) → let a = c.args in Took a.segment.now (erasing a.segment.now a.id) c.erase_on.new.segment
took c = let a = c.args in took_erasing a.segment.now a.id (taken (goal.at.After-erase_on c).Start) c.erase_on.new.segment c.erase_on.ensures

-- both steps keep the segment's length
same_size : (c : After-erase_on-2) → length c.erase_on-2.new.segment ≡ length c.args.segment.now
same_size c =
    let a = c.args in
    both_length a.segment.now a.inventory.now a.id a.t (back_then (goal.at.After-erase_on-2 c).After-erase_on) c.erase_on.new.segment
    (took (goal.at.After-erase_on-2 c).After-erase_on) c.erase_on-2.new.segment
    c.erase_on-2.ensures

pub returns-then-not-points_back : goal.returns-then-not-points_back
returns-then-not-points_back c =
    let a = c.args in
    by_damaged a.segment.now a.inventory.now a.id a.t (sym c.points_back.ensures ∙ c.if-not-points_back.true)

pub erase_on-requires-2 : goal.erase_on-requires-2
erase_on-requires-2 c =
    let a = c.args in
    still_taken a.segment.now a.inventory.now a.id a.t (back_then (goal.at.erase_on-requires-2 c).After-erase_on) c.erase_on.new.segment
    (took (goal.at.erase_on-requires-2 c).After-erase_on)

pub update_on-requires-clause-within : goal.update_on-requires-clause-within
update_on-requires-clause-within c =
    let a = c.args in
    let s = a.segment.now in
    let r = c.erase_on-2.new.segment in
    let at = (goal.at.update_on-requires-clause-within c).After-erase_on in (
      omega (arith, same_size (goal.at.update_on-requires-clause-within c).After-erase_on-2, (back_taken s a.id a.t (back_then at)).whole),
      left_room r (page_no a.t) (erasing s a.t).plan.after
          (target_left s a.inventory.now a.id a.t (back_then at) c.erase_on.new.segment (took at) r c.erase_on-2.ensures),
    )

pub update_on-requires-2-clause-within : goal.update_on-requires-2-clause-within
update_on-requires-2-clause-within c =
    let a = c.args in
    let s = a.segment.now in
    let r = c.erase_on-2.new.segment in
    let at = (goal.at.update_on-requires-2-clause-within c).After-erase_on in (
      omega (arith, same_size (goal.at.update_on-requires-2-clause-within c).After-erase_on-2, c.requires.root_is.whole),
      left_room r (page_no a.id) (erasing s a.id).plan.after
          (root_left s a.inventory.now a.id a.t (back_then at) c.erase_on.new.segment (took at) r c.erase_on-2.ensures),
    )

pub returns : goal.returns
returns c =
    let a = c.args in
    by_redirect a.segment.now a.inventory.now a.id a.t (back_then (goal.at.returns c).After-erase_on) c.erase_on.new.segment
    (took (goal.at.returns c).After-erase_on) c.erase_on-2.new.segment
    c.erase_on-2.ensures _ _ c.update_on.ensures c.update_on-2.ensures
