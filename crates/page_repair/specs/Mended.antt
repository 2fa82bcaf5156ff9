-- What is done to each slot of a page, in a row of deeds or of their numbers, and what is gathered of the slots afterwards.
use Rattle.std.specs.Prelude.{ℕ, zero, suc, ◌+◌, ◌-◌, ◌*◌, min, ◌≡◌, cond, not, ◌&&◌, List, length, get_or, eqb, leb}
use Rattle.store.specs.Numbers.{sum}
use Rattle.store.specs.Slots.{off, len, is_free}
use Rattle.store.specs.Page.{View}
use Rattle.store.specs.PageSteps.{next_free}
use Rattle.store.specs.Repair.{changes, slot_by, lowest, slot_entries}
use Rattle.store.specs.Laws.Slots.{Codable}
use Rattle.store.specs.declared.Deed.{Deed}
use Rattle.store.specs.declared.Deed.TheVariants.{Stays, RecordFreed, RedirectFreed, MadeOrdinary}
use Rattle.store.specs.declared.Slot.{Slot}
use Rattle.page_repair.specs.declared.mend.Numbers.{Numbers}
use Rattle.layout.specs.declared.header.Header.{Header}

-- a row of deeds; the slots behind it stay
abbrev pub deeds_of : List Deed → ℕ → Deed
deeds_of ds k = get_or ds k Stays

-- a number as what is done, and a row of numbers; the slots behind it stay
abbrev pub deed_of : ℕ → Deed
deed_of zero = Stays
deed_of (suc zero) = RecordFreed
deed_of (suc (suc zero)) = RedirectFreed
deed_of (suc (suc (suc k))) = MadeOrdinary

abbrev pub deeds_numbered : List ℕ → ℕ → Deed
deeds_numbered ds k = deed_of (get_or ds k 0)

-- each slot can be written
abbrev pub CodableBy : (ℕ → Deed) → View → Type 0
CodableBy d v = (k : ℕ) → Codable (slot_by d v k)

-- gathered of the first n slots as they are afterwards: how many change, the first free one, the lowest offset, the sum of the lengths
pub record Gathered (d : ℕ → Deed) (v : View) (n : ℕ) (r : Numbers) : Type 0 where
  pub changes : (p : ℕ) → r.changes ≡ length (slot_entries d p n)
  pub first : r.first ≡ next_free n (slot_by d v) 0
  pub low : r.low ≡ lowest n (slot_by d v)
  pub total : r.total ≡ sum n (λ k. len (slot_by d v k))

-- one slot more, the k-th, whose entry becomes x by the deed d
abbrev pub gathered : Numbers → ℕ → Deed → Slot → Numbers
gathered r k d x =
    record {
      changes = cond (changes d) (r.changes + 1) r.changes;
      first = cond (eqb r.first k && not (is_free x)) (k + 1) r.first;
      low = cond (eqb (len x) 0) r.low (min (off x) r.low);
      total = r.total + len x;
    }

-- the header's numbers by what is gathered of all slots; the count stays
abbrev pub head_after : View → Numbers → Header
head_after v r =
    record {
      count = v.slot_count;
      first = r.first;
      start = cond (leb (12 + 8 * v.slot_count) v.data_start && leb v.data_start r.low) v.data_start r.low;
      space = 16372 - (8 * v.slot_count + r.total);
    }

-- those that it says
abbrev pub head_of_view : View → Header
head_of_view v = record { count = v.slot_count; first = v.first_free; start = v.data_start; space = v.free_space }
