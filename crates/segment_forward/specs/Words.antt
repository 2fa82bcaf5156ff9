-- Words for the contracts: a redirect to be followed, and the search that both forwardings make.
use Rattle.std.specs.Prelude.{ℕ, ◌≡◌, Bool, true, ◌||◌, List, [], ◌∷◌, ◌++◌, eqb}
use Rattle.store.specs.Numbers.{to_be, id_of, page_no}
use Rattle.store.specs.Segment.{seg_view, points_back, on, Out, refuse, done, Found, nowhere, found}
use Rattle.store.specs.Laws.Lent.{RootIs}
use Rattle.store.specs.declared.Slot.TheVariants.{Redirect}
use Rattle.slotted_page.specs.Words.{target_plan}

-- the record of id i lies at the target t: its own slot is a redirect there, and the target points back
pub record Follows (s : List ℕ) (i t : ℕ) : Type 0 where
  pub root : RootIs s i (Redirect t)
  pub back : points_back (seg_view s) i t ≡ true

-- "the page named is the root's or old target's": of the root i and the target t
abbrev pub root_or_old : ℕ → ℕ → ℕ → Bool
root_or_old i t p = eqb p (page_no i) || eqb p (page_no t)

-- a place for a new target of root i with these bytes, taken or refused: its id, and the step on its page. The inventory is not told
abbrev pub new_target : List ℕ → ℕ → List ℕ → Found → Out
new_target v i bs (nowhere a) = refuse v a
new_target v i bs (found q j a) = done (id_of q j) (on q (target_plan j a (to_be 8 i ++ bs)) ∷ []) v
