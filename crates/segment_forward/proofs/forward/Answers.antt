use mathlib.Core.Path.{◌≡◌, sym, ap, ◌∙◌}
use mathlib.Core.Bool.{Bool}
use mathlib.Core.List.{List, []}
use lib.Dec.{eqb}
use Prim.Native.Nat.{ℕ, ◌+◌}
use Rattle.store.specs.Numbers.{fit, page_no}
use Rattle.std.specs.Prelude.{Result as ResultOf}
use Rattle.std.proofs.lemmas.Result.{err_from_is_err_and}
use Rattle.store.specs.Answers.{outcome}
use Rattle.store.specs.declared.Refusal.{Refusal}
use Rattle.store.specs.Inventory.{found_in}
use Rattle.store.specs.Segment.{seg_view, find, result, forwarded}
use Rattle.store.proofs.Laws.Fit.{length_fit}
use Rattle.segment_forward.specs.Words.{root_or_old}
use Rattle.segment_forward.proofs.Steps.{BothLeft, asks_first, asks_second}
use Rattle.segment_forward.proofs.Search.{root_alone}
use Rattle.segment_forward.proofs.Forwarded.{Placed, placed_at, forward_refused, root_asks, forward_left, forward_done}
use Rattle.segment_forward.proofs.forward.Goals.{After-erase_for_redirect_on, In_ok-target}
use Rattle.segment_forward.proofs.forward.Goals as goal

abbrev target : In_ok-target → ℕ
target c = c.in_ok-target.target

-- the new target, as the search left it
placed : (c : In_ok-target) → let a = c.args in
    Placed a.segment.now a.id (fit a.size a.bytes.now) (root_or_old a.id a.id)
    (find found_in (seg_view a.segment.now) a.inventory.now (a.size + 8) (root_or_old a.id a.id)) (target c)
    c.place_target.new.segment
placed c =
    let a = c.args in
    placed_at a.segment.now a.inventory.now a.id a.size (fit a.size a.bytes.now) c.place_target.new.segment c.requires.sizes.few
    (length_fit a.size a.bytes.now) (root_or_old a.id a.id) _ _ c.in_ok-target.was c.place_target.ensures

-- what is left once the root's record is erased
left : (c : After-erase_for_redirect_on) → let a = c.args in
    BothLeft a.segment.now c.erase_for_redirect_on.new.segment (page_no a.id) (page_no (target (goal.at.After-erase_for_redirect_on c).In_ok-target))
left c =
    let a = c.args in
    forward_left a.segment.now a.id (fit a.size a.bytes.now) a.id _ _ _ (placed (goal.at.After-erase_for_redirect_on c).In_ok-target) c.requires.taken_on
    c.erase_for_redirect_on.new.segment c.erase_for_redirect_on.ensures

-- the first forwarding has no old target: only the root's page is excluded
alone : (s v : List ℕ) (i n : ℕ) (bs : List ℕ)
    → result s (forwarded (seg_view s) v i n (λ o. bs) [] (find found_in (seg_view s) v (n + 8) (root_or_old i i)))
    ≡ result s (forwarded (seg_view s) v i n (λ o. bs) [] (find found_in (seg_view s) v (n + 8) (λ p. eqb p (page_no i))))
alone s v i n bs = ap (λ (ex : ℕ → Bool). result s (forwarded (seg_view s) v i n (λ o. bs) [] (find found_in (seg_view s) v (n + 8) ex))) (root_alone i)

pub returns-in_err-target : goal.returns-in_err-target
returns-in_err-target c =
    let a = c.args in
    let s = a.segment.now in
    let v = a.inventory.now in
    let bs = fit a.size a.bytes.now in
    let p = err_from_is_err_and c.from_residual.result c.from_residual.ensures.1 in
    rw (p.1, p.2)
    (forward_refused s v a.id a.size bs c.place_target.new.segment _
    (find found_in (seg_view s) v (a.size + 8) (root_or_old a.id a.id))
    (ap (λ (x : ResultOf ℕ Refusal). outcome x c.place_target.new.segment v) (sym c.in_err-target.was) ∙ c.place_target.ensures) ∙ alone s v a.id a.size bs)

pub erase_for_redirect_on-requires : goal.erase_for_redirect_on-requires
erase_for_redirect_on-requires c =
    let a = c.args in
    record {
      taken_on = root_asks a.segment.now a.id (fit a.size a.bytes.now) a.id _ _ _ (placed (goal.at.erase_for_redirect_on-requires c).In_ok-target)
          c.requires.taken_on;
      id_bound = (placed (goal.at.erase_for_redirect_on-requires c).In_ok-target).small;
    }

pub update_on-requires-clause-within : goal.update_on-requires-clause-within
update_on-requires-clause-within c =
    asks_first c.args.segment.now c.args.inventory.now _ _ _ (left (goal.at.update_on-requires-clause-within c).After-erase_for_redirect_on)

pub update_on-requires-2-clause-within : goal.update_on-requires-2-clause-within
update_on-requires-2-clause-within c =
    asks_second c.args.segment.now c.args.inventory.now _ _ _ (left (goal.at.update_on-requires-2-clause-within c).After-erase_for_redirect_on)

pub returns : goal.returns
returns c =
    let a = c.args in
    let s = a.segment.now in
    let v = a.inventory.now in
    let bs = fit a.size a.bytes.now in
    forward_done s a.id bs a.id _ _ _ (placed (goal.at.returns c).In_ok-target) c.requires.taken_on c.erase_for_redirect_on.new.segment
    c.erase_for_redirect_on.ensures
    v a.size _ _ c.update_on.ensures c.update_on-2.ensures ∙ alone s v a.id a.size bs
