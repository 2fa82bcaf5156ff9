-- The companion of demand 3, for all segments, sound or damaged: two segments as long as one another, of which the same is seen (entries by
-- kind and values, so that free slots may differ in the bits that are ignored on reading), with equal inventories. The same calls with the
-- same data give equal answers, ids and inventories and leave the two so; and reads and scans of them are equal.
use Rattle.std.specs.Prelude.{ℕ, ◌/◌, ◌%◌, ◌≡◌, ◌&&◌, List, [], ◌∷◌, ltb, eqb}
use Rattle.std.proofs.Common.{sym, ◌∙◌, subst}
use Rattle.std.proofs.Math.Path.{ap}
use Rattle.std.proofs.Math.Bool.{cond}
use Rattle.std.proofs.Math.Dec.{leb}
use Rattle.store.specs.Segment.{SegView, seg_view, Out, result, step, no_read, read_plan, read_step}
use Rattle.store.specs.Scan.{without, over_page, scan_plan, scan_step}
use Rattle.store.specs.Records.{entries, scan_all}
use Rattle.store.specs.Calls.{Call, called, results}
use Rattle.store.specs.Alike.{AlikeByKind, Same, AllSame}
use Rattle.store.proofs.Laws.Segments.{planned, same_answer, same_id, same_inv_lem, left_alike}
use Rattle.store.proofs.Laws.Plans.{length_carried, Exacting, planned_exact, plan_of, called_plan, call_exacting}

-- once over the call
same : (plan : SegView → Out) → Exacting plan → (s t v : List ℕ) → AlikeByKind s t
    → Same AlikeByKind (step s v (plan (seg_view s))) (step t v (plan (seg_view t)))
unfolding result
same plan x s t v a =
    record {
      answer = same_answer s t v plan a.long a.seen;
      id = same_id s t v plan a.long a.seen;
      inv = same_inv_lem s t v plan a.long a.seen;
      seg = record {
        long = length_carried (planned plan v s).steps s ∙ a.long ∙ sym (length_carried (planned plan v t).steps t);
        seen = left_alike s t v plan a.long a.seen (planned_exact plan x v s) (planned_exact plan x v t);
      };
    }

pub same_call : (c : Call) (s t v : List ℕ) → AlikeByKind s t → Same AlikeByKind (called c s v) (called c t v)
same_call c s t v a = rw (called_plan c s v, called_plan c t v) (same (plan_of c v) (call_exacting c v) s t v a)

module _ (s t : List ℕ) (alike : AlikeByKind s t) where
  -- reads and scans are equal outright
  pub read_same : (i : ℕ) → read_step s i ≡ read_step t i
  unfolding read_step
  read_same i = λ x. cond (eqb (alike.long x % 16384) 0 && leb (alike.long x / 16384) 32527) (read_plan (alike.seen x) i) (no_read 1)

  pub scan_same : (p k : ℕ) → scan_step s p k ≡ scan_step t p k
  unfolding scan_step
  scan_same p k = λ x. cond (ltb 32527 p) (without 0 p k)
      (cond (eqb (alike.long x % 16384) 0 && leb (alike.long x / 16384) 32527) (scan_plan (alike.seen x) p k) (without 1 over_page 0))

  -- and so is the whole scan's list
  pub scan_all_same : scan_all s ≡ scan_all t
  unfolding scan_all
  scan_all_same = ap entries alike.seen

-- ---- any sequence of calls

pub demand_3_by_kind : (cs : List Call) (s t v w : List ℕ) → AlikeByKind s t → v ≡ w → AllSame AlikeByKind (results cs s v) (results cs t w)
demand_3_by_kind [] s t v w a e = tt
demand_3_by_kind (c ∷ cs) s t v w a e =
    let h = same_call c s t v a in
    subst (λ (x : List ℕ). AllSame AlikeByKind (results (c ∷ cs) s v) (results (c ∷ cs) t x)) e
    (h, demand_3_by_kind cs (called c s v).seg (called c t v).seg (called c s v).inv (called c t v).inv h.seg h.inv)
