-- Words for the contracts of the page's steps: what a step leaves and answers.
use Rattle.std.specs.Prelude.{List, [], ◌∷◌, ℕ}
use Rattle.store.specs.Slots.{off, len}
use Rattle.store.specs.Page.{View}
use Rattle.store.specs.PageSteps.{move, Plan, run, with_slot, filled, and_then, Alloc, no_room, got, plan}
use Rattle.store.specs.declared.Slot.TheVariants.{Redirect, Target}
pub use Rattle.page_places.specs.Words.{unfilled, page_bare, place_at, place_of, Inside, PastEntry}

-- ---- allocate

abbrev pub page_after : Alloc → List ℕ → List ℕ
page_after no_room p = p
page_after (got k a) p = run a.edits p

-- its bytes written where it stands
abbrev pub filled_at : Alloc → List ℕ → Alloc
filled_at no_room bs = no_room
filled_at (got k a) bs = got k (filled a k bs)

-- the same, and its entry a target's
abbrev pub target_plan : ℕ → Plan → List ℕ → Plan
target_plan k a bs = and_then a (λ w. let x = with_slot w k (Target (off (w.at k)) (len (w.at k))) bs in plan (move k x ∷ []) x)

abbrev pub target_at : Alloc → List ℕ → Alloc
target_at no_room bs = no_room
target_at (got k a) bs = got k (target_plan k a bs)

-- ---- a redirect's entry alone

abbrev pub redirect_plan : View → ℕ → ℕ → Plan
redirect_plan v k id = let x = with_slot v k (Redirect id) [] in plan (move k x ∷ []) x
