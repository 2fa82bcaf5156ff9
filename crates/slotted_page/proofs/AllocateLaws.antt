-- Allocate's plan: its own bytes, and others in their place.
use mathlib.Core.Path.{sym, ap, ◌∙◌, subst}
use mathlib.Core.List.{List, [], ◌∷◌, ◌++◌}
use Prim.Native.Nat.{ℕ, ◌-◌}
use lib.Dec.{ltb}
use Rattle.store.specs.Numbers.{zeros}
use Rattle.store.specs.Slots.{len}
use Rattle.store.specs.Page.{View}
use Rattle.store.specs.PageSteps.{Edit, commit, plan, and_then, make_room, cost, allocated, no_room, got, allocate}
use Rattle.store.proofs.Laws.Changes.{roomy_kept}
use Rattle.store.specs.Laws.Views.{Sound}
use Rattle.store.proofs.Laws.Views.{upd_same}
use Rattle.store.proofs.Laws.Calls.{by_test}
use Rattle.store.specs.declared.Slot.TheVariants.{Ordinary}
use Rattle.slotted_page.proofs.FillLaws.{Ends, Ended, Sized, commit_ends}
use Rattle.page_places.proofs.ReserveLaws.{head_after}

-- the record's bytes: the plan's own zeros, or any of its size
pub allocate_ended : (p : List ℕ) (v : View) (n : ℕ) → Sound v → Ended p (zeros n) (allocate v n)
unfolding allocate
allocate_ended p v n s =
    by_test (Ended p (zeros n)) (ltb v.free_space (cost v n)) no_room
    (got v.first_free (and_then (make_room v (cost v n)) (λ u. plan (commit u.first_free (allocated u n) ∷ []) (allocated u n))))
    (λ e. tt)
    (λ e.
    let w : View = (make_room v (cost v n)).after in
    let es : List Edit = (make_room v (cost v n)).edits in
    subst (λ (j : ℕ). Ends p j (zeros n) (es ++ commit w.first_free (allocated w n) ∷ []) (allocated w n)) (roomy_kept v (cost v n) s).first_free
    (commit_ends p es (head_after w n) w.first_free (Ordinary (w.data_start - n) n) (zeros n)))

pub allocate_sized : (v : View) (n : ℕ) → Sound v → Sized n (allocate v n)
unfolding allocate
allocate_sized v n s =
    by_test (Sized n) (ltb v.free_space (cost v n)) no_room
    (got v.first_free (and_then (make_room v (cost v n)) (λ u. plan (commit u.first_free (allocated u n) ∷ []) (allocated u n))))
    (λ e. tt)
    (λ e.
    let w : View = (make_room v (cost v n)).after in
    ap (λ (j : ℕ). len ((allocated w n).at j)) (sym (roomy_kept v (cost v n) s).first_free)
    ∙ ap len (upd_same w.at w.first_free (Ordinary (w.data_start - n) n)))
