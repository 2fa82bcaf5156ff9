-- A plan but for its record's bytes.
use mathlib.Core.Path.{◌≡◌, refl, ap, ◌∙◌}
use mathlib.Core.List.{List, [], ◌∷◌, ◌++◌}
use Prim.Native.Nat.{ℕ, ◌+◌, ◌*◌}
use borrow.Author.Tests.{eq-eqb}
use Rattle.store.specs.Numbers.{put}
use Rattle.store.specs.Slots.{off, slot_bytes}
use Rattle.store.specs.Page.{View}
use Rattle.store.specs.PageSteps.{Edit, apply, commit, run, with_slot}
use Rattle.store.proofs.Laws.Numbers.{put_nil}
use Rattle.store.proofs.Laws.Views.{upd_same}
use Rattle.store.proofs.Laws.Exact.{run_append}
use Rattle.store.specs.declared.Slot.{Slot}
use Rattle.layout.specs.Run.{head_of}
use Rattle.page_places.specs.Words.{bare, unfilled}

-- one commit as the code does it: the header, the entry, the bytes
pub commit_writes : (w : View) (k : ℕ) (s : Slot) (bs p : List ℕ)
    → apply (commit k (with_slot w k s bs)) p
    ≡ put (put (put p 0 (head_of w.slot_count w.first_free w.data_start w.free_space)) (12 + 8 * k) (slot_bytes s)) (off s) bs
unfolding apply head_of
commit_writes w k s bs p = rw (eq-eqb k k refl)

unfilled_last : (es : List Edit) (e : Edit) → unfilled (es ++ e ∷ []) ≡ es ++ bare e ∷ []
unfilled_last [] e = refl
unfilled_last (x ∷ []) e = refl
unfilled_last (x ∷ y ∷ es) e = ap {B = List Edit} (λ r. x ∷ r) (unfilled_last (y ∷ es) e)

pub run_bare : (es : List Edit) (w : View) (k : ℕ) (s : Slot) (bs p : List ℕ)
    → run (unfilled (es ++ commit k (with_slot w k s bs) ∷ [])) p
    ≡ put (put (run es p) 0 (head_of w.slot_count w.first_free w.data_start w.free_space)) (12 + 8 * k) (slot_bytes s)
run_bare es w k s bs p =
    let u : View = with_slot w k s bs in
    let q : List ℕ = put (run es p) 0 (head_of w.slot_count w.first_free w.data_start w.free_space) in
    ap (λ (l : List Edit). run l p) (unfilled_last es (commit k u)) ∙ run_append es (bare (commit k u) ∷ []) p ∙ commit_writes u k (u.at k) [] (run es p)
    ∙ put_nil (put q (12 + 8 * k) (slot_bytes (u.at k))) (off (u.at k)) ∙ ap (λ (x : Slot). put q (12 + 8 * k) (slot_bytes x)) (upd_same w.at k s)
