-- The position that a step of the scan leaves fits one number: its slot is below 65,536, and its page no later than where it began or the
-- scan's end.
use Prim.Native.Nat.{ℕ, zero, suc, ◌+◌, ◌-◌, ◌^◌, ◌≤◌, ◌<◌}
use mathlib.Core.Path.{◌≡◌}
use mathlib.Core.Bool.{true}
use mathlib.Core.List.{List}
use native.Mathlib.Omega.{arith}
use lib.Dec.{ltb}
use borrow.Author.Tests.{ltb-true, ltb-false}
use Rattle.store.specs.Page.{View, lies_well}
use Rattle.store.specs.Refusals.{DONE, SIZE, DAMAGED}
use Rattle.store.specs.Segment.{seg_view, size_ok}
use Rattle.store.specs.Scan.{without, record_at, over_page, next_record, damaged_at, scan_from, scan_plan, scan_step}
use Rattle.store.specs.Answers.{step_of, scanned_of}
use Rattle.std.proofs.Common.{Option, Some, None, Result, Ok, Err}
use Rattle.store.specs.declared.Record.{Record}
use Rattle.store.specs.declared.Refusal.{Refusal}
use Rattle.store.specs.declared.Step.{Step}
use Rattle.store.proofs.Laws.Cases.{by_test}
use Rattle.store.proofs.Laws.SoundSegment.{sized}
use Rattle.segment_scan.proofs.Positions.{few_at}
use Rattle.hekatosuy.specs.Handed.{Positioned}

module _ (s : List ℕ) where
  over : (a : ℕ) → Positioned (without a over_page 0)
  over a = record { page = omega arith; slot = omega arith }

  from : (m p k : ℕ) → p + m ≤ 32528 → k < 65536 → Positioned (scan_from m (seg_view s) p k)
  from zero p k h l = record { page = omega arith; slot = l }
  from (suc m) p k h l =
      let v : View = (seg_view s).page p in
      let j : ℕ = next_record (v.slot_count - k) v k in
      by_test Positioned (damaged_at v k) (without DAMAGED over_page 0) _ (λ e. over DAMAGED)
      (λ e. by_test Positioned (ltb j v.slot_count) _ (scan_from m (seg_view s) (p + 1) 0)
      (λ t. by_test Positioned (lies_well v j) (record_at v p j) (without DAMAGED over_page 0)
      (λ w. record { page = omega arith; slot = omega (arith, few_at v k e, ltb-true j v.slot_count t) })
      (λ w. over DAMAGED))
      (λ t. from m (p + 1) 0 (omega arith) (omega arith)))

  pages : (p : ℕ) → size_ok s ≡ true → p ≤ 32527 → p + ((seg_view s).pages - p) ≤ 32528
  unfolding seg_view
  pages p z g = omega (arith, (sized s z).few)

  pub positioned : (p k : ℕ) → p < 2 ^ 48 → k < 65536 → Positioned (scan_step s p k)
  unfolding scan_step scan_plan
  positioned p k h l =
      by_test Positioned (ltb 32527 p) (without DONE p k) _ (λ e. record { page = h; slot = l })
      (λ e. by_test Positioned (size_ok s) _ (without SIZE over_page 0)
      (λ z. from ((seg_view s).pages - p) p k (pages p z (ltb-false 32527 p e)) l)
      (λ z. over SIZE))

-- a step's position does not depend on the segment's bytes
same_step : (x : Option Record) (p k : ℕ) (xs ys : List ℕ) → Positioned (step_of x p k xs) → Positioned (step_of x p k ys)
same_step (Some x) p k xs ys h = record { page = h.page; slot = h.slot }
same_step None p k xs ys h = record { page = h.page; slot = h.slot }

pub same_position : (t : Result Step Refusal) (xs ys : List ℕ) → Positioned (scanned_of t xs) → Positioned (scanned_of t ys)
same_position (Ok t) xs ys h = same_step t.found t.page t.slot xs ys h
same_position (Err r) xs ys h = record { page = h.page; slot = h.slot }

pub step_fits : (x : Option Record) (p k : ℕ) (xs : List ℕ) → Positioned (step_of x p k xs) → (p < 2 ^ 48) × (k < 65536)
step_fits (Some x) p k xs h = (h.page, h.slot)
step_fits None p k xs h = (h.page, h.slot)
