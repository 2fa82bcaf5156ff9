-- Repair's entries are exactly the changes: "An entry for each slot whose 8 bytes change, for each page whose 12 header bytes change, and for the
-- inventory if any of its bytes changes; no other." The entries are `entries (standing s) v`: RepairKept's `Listed` has them in the list.
use Rattle.std.specs.Prelude.{ℕ, ◌+◌, ◌*◌, ◌/◌, ◌≤◌, ◌<◌, ◌≡◌, cond, List, ◌≢◌, length}
use Rattle.std.proofs.Common.{arith}
use Rattle.store.specs.Numbers.{cut, In}
use Rattle.store.specs.Page.{view}
use Rattle.store.specs.Segment.{page_of, size_ok, inv_ok}
use Rattle.store.specs.Repair.{standing, lost, deed, deed_no, Entry, entry, entries, Repaired, repair_step}
use Rattle.store.specs.RepairTold.{Ascending, Tells, TellsHeader}
use Rattle.store.proofs.Laws.SoundPage.{and_both}
use Rattle.store.proofs.Laws.SoundSegment.{sized}
use Rattle.store.proofs.Laws.RepairCall.{Outcome, of_size, of_room, of_done, outcome}
use Rattle.store.proofs.Laws.RepairEntries.{SlotChanges, HeadChanges, slot_told, slot_only, head_told, head_only, inv_told, inv_only}
use Rattle.store.proofs.Laws.RepairEntries.{entries_ascend, place_most}

-- of page p, in a repair of s that leaves r
abbrev pub SlotDiffers : List ℕ → Repaired → ℕ → ℕ → Type 0
SlotDiffers s r p k = cut (page_of r.seg p) (12 + 8 * k) 8 ≢ cut (page_of s p) (12 + 8 * k) 8

abbrev pub HeaderDiffers : List ℕ → Repaired → ℕ → Type 0
HeaderDiffers s r p = cut (page_of r.seg p) 0 12 ≢ cut (page_of s p) 0 12

-- some number is told of a place
pub record Has (es : List Entry) (p k : ℕ) : Type 0 where
  pub what : ℕ
  pub is : In (entry p k what) es

-- "The number in each fits what changed: freed record, freed redirect, target made ordinary"
pub record OfSlot (s : List ℕ) (r : Repaired) (p k d : ℕ) : Type 0 where
  pub below : p < length s / 16384
  pub counted : k < (view (page_of s p)).slot_count
  pub differs : SlotDiffers s r p k
  pub tells : Tells ((view (page_of s p)).at k) ((view (page_of r.seg p)).at k) d

-- "header worked out, header zeroed"
pub record OfHeader (s : List ℕ) (r : Repaired) (p d : ℕ) : Type 0 where
  pub below : p < length s / 16384
  pub differs : HeaderDiffers s r p
  pub tells : TellsHeader (page_of s p) (page_of r.seg p) d

pub record Told (s v : List ℕ) (r : Repaired) : Type 0 where
  -- "(p, k) has an entry exactly if the 8 bytes of slot k of page p change"
  pub slot_has : (p k : ℕ) → p < length s / 16384 → SlotDiffers s r p k → Has (entries (standing s) v) p k
  pub slot_no_of : (p k d : ℕ) → k < 65535 → In (entry p k d) (entries (standing s) v) → OfSlot s r p k d
  -- "(p, 65,535) exactly if the 12 header bytes change"
  pub header_has : (p : ℕ) → p < length s / 16384 → HeaderDiffers s r p → Has (entries (standing s) v) p 65535
  pub header_of : (p d : ℕ) → In (entry p 65535 d) (entries (standing s) v) → OfHeader s r p d
  -- "(n, 65,536) exactly if a byte of the inventory changes"
  pub inventory_has : r.inv ≢ v → Has (entries (standing s) v) (length s / 16384) 65536
  pub inventory_of : (p d : ℕ) → In (entry p 65536 d) (entries (standing s) v) → (p ≡ length s / 16384) × (d ≡ 6) × (r.inv ≢ v)
  -- no other place has one
  pub places : (e : Entry) → In e (entries (standing s) v) → e.place ≤ 65536
  -- "Entries ascend strictly by page, then place."
  pub ascends : Ascending (entries (standing s) v)

told_by : (s v l : List ℕ) (r : Repaired) → Outcome s v l r → r.answer ≡ 0 → Told s v r
unfolding standing SlotChanges HeadChanges
told_by s v l r (of_size e) q = absurd (omega arith)
told_by s v l r (of_room e f) q = absurd (omega arith)
told_by s v l r (of_done e f) q =
    let w = (sized s (and_both (size_ok s) (inv_ok v) e).0).whole in
    record {
      slot_has = λ p k a n. record { what = deed_no (deed (standing s) p k); is = slot_told s w v p k a n };
      slot_no_of = λ p k d m h.
          let t = slot_only s w v p k d m h in
          record { below = t.below; counted = t.counted; differs = t.changes; tells = t.tells };
      header_has = λ p a n. record { what = cond (lost (view (page_of s p))) 5 4; is = head_told s w v p a n };
      header_of = λ p d h. let t = head_only s w v p d h in record { below = t.below; differs = t.changes; tells = t.tells };
      inventory_has = λ n. record { what = 6; is = inv_told s w v n };
      inventory_of = λ p d h. inv_only s w v p d h;
      places = λ e h. place_most (standing s) v e h;
      ascends = entries_ascend (standing s) v;
    }

pub told_afterwards : (s v l : List ℕ) → (repair_step s v l).answer ≡ 0 → Told s v (repair_step s v l)
told_afterwards s v l q = told_by s v l (repair_step s v l) (outcome s v l) q
