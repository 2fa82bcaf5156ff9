-- Demand 1: "a refused call changes nothing", and each answer is one of 0 to 8; no call makes segment or inventory longer or shorter, and none
-- makes a page unsound that was sound. For all bytes, damaged ones too.
use Rattle.std.specs.Prelude.{ℕ, ◌/◌, ◌%◌, ◌≤◌, ◌≡◌, true, ◌&&◌, ◌≢◌, eqb, leb}
use Rattle.std.proofs.Common.{sym, ap, ◌∙◌}
use Rattle.std.proofs.Math.Path.{subst}
use mathlib.Core.List.{List}
use Rattle.std.proofs.Math.ListN.{length}
use Rattle.store.specs.Page.{sound}
use Rattle.store.specs.Segment.{SegView, seg_view, size_ok, inv_ok, OnPage, Result, result, carried}
use Rattle.store.specs.Calls.{Call, called}
use Rattle.store.proofs.Laws.Plans.{length_carried, planned_exact, plan_of, called_plan, call_exacting}
use Rattle.store.proofs.Laws.Segments.{planned, carried_seen, settled_sound}
use Rattle.store.proofs.Laws.Refused.{tested}

module _ (c : Call) (s v : List ℕ) where
  pub refused_keeps : (called c s v).answer ≢ 0 → ((called c s v).seg ≡ s) × ((called c s v).inv ≡ v)
  unfolding result
  refused_keeps =
      subst (λ (r : Result). r.answer ≢ 0 → (r.seg ≡ s) × (r.inv ≡ v)) (sym (called_plan c s v))
      (λ n. let k = (tested c s v).keeps n in (ap (λ (es : List OnPage). carried es s) k.0, k.1))

  pub answer_most : (called c s v).answer ≤ 8
  unfolding result
  answer_most = subst (λ (r : Result). r.answer ≤ 8) (sym (called_plan c s v)) (tested c s v).most

  pub length_kept : length (called c s v).seg ≡ length s
  unfolding result
  length_kept = subst (λ (r : Result). length r.seg ≡ length s) (sym (called_plan c s v)) (length_carried (planned (plan_of c v) v s).steps s)

  pub inventory_kept : length (called c s v).inv ≡ length v
  unfolding result
  inventory_kept = subst (λ (r : Result). length r.inv ≡ length v) (sym (called_plan c s v)) (tested c s v).long

  -- so sizes that were right are right afterwards
  pub sizes_kept : (size_ok s && inv_ok v) ≡ true → (size_ok (called c s v).seg && inv_ok (called c s v).inv) ≡ true
  sizes_kept h = (λ i. (eqb (length_kept i % 16384) 0 && leb (length_kept i / 16384) 32527) && eqb (inventory_kept i) 16384) ∙ h

  -- a page that is seen to be sound is so afterwards: a step leaves its own page sound, and the others as they were
  pub sound_stays : (p : ℕ) → sound ((seg_view s).page p) ≡ true → sound ((seg_view (called c s v).seg).page p) ≡ true
  unfolding result
  sound_stays p h =
      let x = planned_exact (plan_of c v) (call_exacting c v) v s in
      subst (λ (r : Result). sound ((seg_view r.seg).page p) ≡ true) (sym (called_plan c s v))
      (ap (λ (u : SegView). sound (u.page p)) (carried_seen (planned (plan_of c v) v s).steps s x)
      ∙ settled_sound (planned (plan_of c v) v s).steps s (seg_view s) x p h)
