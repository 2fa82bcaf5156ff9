-- An id that insert or allocate plans to hand out was not in use, in a sound segment.
use Rattle.std.specs.Prelude.{ℕ, ◌≡◌, List, ltb}
use Rattle.std.proofs.Common.{arith}
use Rattle.store.specs.Inventory.{found_in}
use Rattle.store.specs.Segment.{seg_view, Out, refuse, insert_plan}
use Rattle.store.specs.Calls.{Call, insert, allocate, write, resize, erase, Makes}
use Rattle.store.specs.SoundSegment.{slot_on}
use Rattle.store.proofs.Laws.Calls.{by_test}
use Rattle.store.proofs.Laws.Stays.{Seen, insert_new}
use Rattle.store.proofs.Laws.Plans.{plan_of}
use Rattle.store.specs.declared.Slot.TheVariants.{Free}

pub plan_unused : (c : Call) (s v : List ℕ) → Makes c → Seen (seg_view s) v
    → (plan_of c v (seg_view s)).answer ≡ 0 → slot_on (seg_view s) (plan_of c v (seg_view s)).id ≡ Free
plan_unused (insert bs) s v m e = insert_new (seg_view s) v e bs
plan_unused (allocate n) s v m e =
    by_test (λ (o : Out). o.answer ≡ 0 → slot_on (seg_view s) o.id ≡ Free) (ltb 16364 n) (refuse v 3) (insert_plan found_in (seg_view s) v _)
    (λ b x. absurd (omega arith))
    (λ b. insert_new (seg_view s) v e _)
plan_unused (write i bs) s v m e = absurd m
plan_unused (resize i n) s v m e = absurd m
plan_unused (erase i) s v m e = absurd m
