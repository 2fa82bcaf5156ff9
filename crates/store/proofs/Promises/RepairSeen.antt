-- Repair looks at nothing unseen: "Answer, count, entries and every byte written are a function of n, the inventory, the headers, the slots below
-- the count of pages that are not lost and the first 8 bytes of kept targets." Two segments that are the same in these are repaired the same.
use Rattle.std.specs.Prelude.{ℕ, ◌/◌, ◌<◌, ◌≡◌}
use Rattle.std.proofs.Math.Path.{refl}
use Rattle.std.proofs.Common.{ap}
use mathlib.Core.List.{List}
use Rattle.std.proofs.Math.ListN.{length}
use Rattle.store.specs.Numbers.{put}
use Rattle.store.specs.Repair.{standing, page_bytes, Entry, entries, words, Repaired, repair_step}
use Rattle.store.specs.RepairTold.{LooksSame}
use Rattle.store.proofs.Laws.RepairSeen.{page_written, inv_written, all_told, looks_seen, field_same}

-- a and b are left by repairs of s and t
pub record SameRepair (s t : List ℕ) (a b : Repaired) : Type 0 where
  pub answer : a.answer ≡ b.answer
  pub count : a.count ≡ b.count
  pub list : a.list ≡ b.list
  pub inv : a.inv ≡ b.inv
  -- what is put into a page, whatever else it holds
  pub written : (p : ℕ) → p < length s / 16384 → (q : List ℕ) → page_bytes (standing s) p q ≡ page_bytes (standing t) p q

module _ (s t v l : List ℕ) (h : LooksSame s t) where
  same : entries (standing s) v ≡ entries (standing t) v
  same = all_told (standing s) (standing t) (looks_seen s t h) v

  pub repair_same : SameRepair s t (repair_step s v l) (repair_step t v l)
  unfolding standing
  repair_same =
      record {
        answer = field_same s t v l h (λ r. r.answer) refl refl refl;
        count = field_same s t v l h (λ r. r.count) refl (ap (λ (es : List Entry). length es) same) (ap (λ (es : List Entry). length es) same);
        list = field_same s t v l h (λ r. r.list) refl refl (ap (λ (es : List Entry). put l 0 (words es)) same);
        inv = field_same s t v l h (λ r. r.inv) refl refl (inv_written (standing s) (standing t) (looks_seen s t h) v);
        written = λ p m q. page_written (standing s) (standing t) (looks_seen s t h) p m q;
      }
