use mathlib.Core.Path.{refl, sym, ap, ◌∙◌}
use Prim.Native.Nat.{ℕ, ◌+◌}
use Rattle.store.specs.Numbers.{fit, page_no}
use Rattle.std.specs.Prelude.{Result as ResultOf}
use Rattle.std.proofs.lemmas.Result.{err_from_is_err_and}
use Rattle.store.specs.Answers.{outcome}
use Rattle.store.specs.declared.Refusal.{Refusal}
use Rattle.store.specs.Inventory.{found_in}
use Rattle.store.specs.Segment.{seg_view, find}
use Rattle.store.proofs.Laws.Fit.{length_fit}
use Rattle.store.specs.declared.Slot.TheVariants.{Redirect}
use Rattle.segment_pages.proofs.Root.{root_taken}
use Rattle.segment_forward.specs.Words.{root_or_old}
use Rattle.segment_forward.proofs.Steps.{BothLeft, asks_first, asks_second}
use Rattle.segment_forward.proofs.Forwarded.{Placed, placed_at, again_refused, root_asks, again_asks, again_left, again_done}
use Rattle.segment_forward.proofs.forward_again.Goals.{After-erase_on, In_ok-new_target}
use Rattle.segment_forward.proofs.forward_again.Goals as goal

abbrev target : In_ok-new_target → ℕ
target c = c.in_ok-new_target.new_target

-- the new target, as the search left it
placed : (c : In_ok-new_target) → let a = c.args in
    Placed a.segment.now a.id (fit a.size a.bytes.now) (root_or_old a.id a.t)
    (find found_in (seg_view a.segment.now) a.inventory.now (a.size + 8) (root_or_old a.id a.t)) (target c)
    c.place_target.new.segment
placed c =
    let a = c.args in
    placed_at a.segment.now a.inventory.now a.id a.size (fit a.size a.bytes.now) c.place_target.new.segment c.requires.sizes.few
    (length_fit a.size a.bytes.now) (root_or_old a.id a.t) _ _ c.in_ok-new_target.was c.place_target.ensures

-- what is left once the old target is freed
left : (c : After-erase_on) → let a = c.args in
    BothLeft a.segment.now c.erase_on.new.segment (page_no a.t) (page_no (target (goal.at.After-erase_on c).In_ok-new_target))
left c =
    let a = c.args in
    again_left a.segment.now a.id (fit a.size a.bytes.now) a.t _ _ _ (placed (goal.at.After-erase_on c).In_ok-new_target) c.requires.follows
    c.set_redirect_on.new.segment c.set_redirect_on.ensures c.erase_on.new.segment c.erase_on.ensures

pub returns-in_err-new_target : goal.returns-in_err-new_target
returns-in_err-new_target c =
    let a = c.args in
    let s = a.segment.now in
    let v = a.inventory.now in
    let bs = fit a.size a.bytes.now in
    let p = err_from_is_err_and c.from_residual.result c.from_residual.ensures.1 in
    rw (p.1, p.2)
    (again_refused s v a.id a.size bs c.place_target.new.segment _ a.t
    (find found_in (seg_view s) v (a.size + 8) (root_or_old a.id a.t))
    (ap (λ (x : ResultOf ℕ Refusal). outcome x c.place_target.new.segment v) (sym c.in_err-new_target.was) ∙ c.place_target.ensures))

pub set_redirect_on-requires : goal.set_redirect_on-requires
set_redirect_on-requires c =
    let a = c.args in
    let s = a.segment.now in record {
      taken_on = root_asks s a.id (fit a.size a.bytes.now) a.t _ _ _ (placed (goal.at.set_redirect_on-requires c).In_ok-new_target)
          (root_taken s a.id (Redirect a.t) c.requires.follows.root refl);
      id_bound = (placed (goal.at.set_redirect_on-requires c).In_ok-new_target).small;
    }

pub erase_on-requires : goal.erase_on-requires
erase_on-requires c =
    let a = c.args in
    again_asks a.segment.now a.id (fit a.size a.bytes.now) a.t _ _ _ (placed (goal.at.erase_on-requires c).In_ok-new_target) c.requires.follows
    c.set_redirect_on.new.segment c.set_redirect_on.ensures

pub update_on-requires-clause-within : goal.update_on-requires-clause-within
update_on-requires-clause-within c =
    asks_first c.args.segment.now c.args.inventory.now _ _ _ (left (goal.at.update_on-requires-clause-within c).After-erase_on)

pub update_on-requires-2-clause-within : goal.update_on-requires-2-clause-within
update_on-requires-2-clause-within c =
    asks_second c.args.segment.now c.args.inventory.now _ _ _ (left (goal.at.update_on-requires-2-clause-within c).After-erase_on)

pub returns : goal.returns
returns c =
    let a = c.args in
    again_done a.segment.now a.id (fit a.size a.bytes.now) a.t _ _ _ (placed (goal.at.returns c).In_ok-new_target) c.requires.follows
    c.set_redirect_on.new.segment c.set_redirect_on.ensures c.erase_on.new.segment c.erase_on.ensures
    a.inventory.now a.size _ _ c.update_on.ensures c.update_on-2.ensures
