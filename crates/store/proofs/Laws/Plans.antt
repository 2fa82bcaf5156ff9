-- Each of the five writing calls is a plan, and its steps are exact on every segment of a right size.
use Rattle.std.specs.Prelude.{ℕ, ◌*◌, ◌/◌, ◌%◌, ◌≤◌, ◌≡◌, refl, not, ◌&&◌, List, [], ◌∷◌, length, ltb, leb, eqb}
use Rattle.std.proofs.Common.{◌∙◌, leb-true}
use Rattle.std.proofs.lemmas.Bool.{not-false}
use Rattle.store.specs.Numbers.{fit}
use Rattle.store.specs.PageSteps.{run}
use Rattle.store.specs.Inventory.{found_in}
use Rattle.store.specs.Segment.{SegView, seg_view, size_ok, inv_ok, page_of, OnPage, Out, carried, carried_on, step, refuse, insert_plan}
use Rattle.store.specs.Segment.{allocate_plan, write_plan, resize_plan, erase_plan, insert_step, allocate_step, write_step, resize_step, erase_step}
use Rattle.store.proofs.Laws.Numbers.{length_put}
use Rattle.store.proofs.Laws.Fit.{length_fit}
use Rattle.store.proofs.Laws.SoundPage.{and_both}
use Rattle.store.specs.Calls.{Call, insert, allocate, write, resize, erase, called}
use Rattle.store.proofs.Laws.Segments.{AllExact, planned}
use Rattle.store.proofs.Laws.Calls.{by_test, insert_exact, store_exact, erase_call_exact}

pub length_carried : (es : List OnPage) (s : List ℕ) → length (carried es s) ≡ length s
length_carried [] s = refl
length_carried (e ∷ es) s = length_carried es (carried_on e s) ∙ length_put s (e.on * 16384) (run e.plan.edits (page_of s e.on))

-- a plan whose steps are exact on every segment of a right size
abbrev pub Exacting : (SegView → Out) → Type 0
Exacting plan = (s : List ℕ) → length s / 16384 ≤ 32527 → AllExact s (plan (seg_view s)).steps

pub planned_exact : (plan : SegView → Out) → Exacting plan → (v s : List ℕ) → AllExact s (planned plan v s).steps
planned_exact plan x v s =
    by_test (λ o. AllExact s o.steps) (not (size_ok s && inv_ok v)) (refuse v 1) (plan (seg_view s)) (λ e. tt)
    (λ e.
    let a = and_both (size_ok s) (inv_ok v) (not-false (size_ok s && inv_ok v) e) in
    let b = and_both (eqb (length s % 16384) 0) (leb (length s / 16384) 32527) a.0 in
    x s (leb-true (length s / 16384) 32527 b.1))

-- ---- the five writing calls: each is a plan, and exact everywhere

abbrev pub plan_of : Call → List ℕ → SegView → Out
plan_of (insert bs) v z = insert_plan found_in z v bs
plan_of (allocate n) v z = allocate_plan found_in z v n
plan_of (write i bs) v z = write_plan found_in z v i bs
plan_of (resize i n) v z = resize_plan found_in z v i n
plan_of (erase i) v z = erase_plan z v i

pub called_plan : (c : Call) (s v : List ℕ) → called c s v ≡ step s v (plan_of c v (seg_view s))
unfolding insert_step allocate_step write_step resize_step erase_step
called_plan (insert bs) s v = refl
called_plan (allocate n) s v = refl
called_plan (write i bs) s v = refl
called_plan (resize i n) s v = refl
called_plan (erase i) s v = refl

pub call_exacting : (c : Call) (v : List ℕ) → Exacting (plan_of c v)
call_exacting (insert bs) v z l = insert_exact z v bs
call_exacting (allocate n) v z l =
    by_test (λ o. AllExact z o.steps) (ltb 16364 n) (refuse v 3) (insert_plan found_in (seg_view z) v _) (λ e. tt) (λ e. insert_exact z v _)
call_exacting (write i bs) v z l = store_exact z v i (length bs) (λ old. bs) (λ old. refl) l
call_exacting (resize i n) v z l = store_exact z v i n (fit n) (length_fit n) l
call_exacting (erase i) v z l = erase_call_exact z v i
