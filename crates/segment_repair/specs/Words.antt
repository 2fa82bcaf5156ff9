-- What repair's passes tell of a page.
use Rattle.std.specs.Prelude.{ℕ, ◌+◌, ◌*◌, ◌≤◌, ◌<◌, ◌≡◌, true, cond, List, length, Some, None}
use Rattle.store.specs.Numbers.{put}
use Rattle.store.specs.Page.{View, fresh}
use Rattle.store.specs.Segment.{SegView, page_of}
use Rattle.store.specs.Repair.{standing, lost, page_after, page_bytes, page_entries, Entry, entry, deed_no, words}
use Rattle.segment_repair.specs.declared.count.Counted.{Counted}
use Rattle.segment_repair.specs.declared.state.State.{State}
use Rattle.segment_repair.specs.declared.state.State.TheVariants.{Lost, Fresh, Used}
use Rattle.segment_repair.specs.declared.tell.What.{What}
use Rattle.segment_repair.specs.declared.tell.What.TheVariants.{Slot, HeaderWorkedOut, HeaderZeroed, InventoryWorkedOut}

-- so a page stands
abbrev pub StandsAs : View → State → Type 0
StandsAs v Lost = lost v ≡ true
StandsAs v Fresh = fresh v ≡ true
StandsAs v (Used n) = (n ≡ v.slot_count) × (0 < n) × (n ≤ 2046)

-- of page p: its entries, and its free space afterwards, if it is in use then
pub record CountedAs (u : SegView) (p : ℕ) (r : Counted) : Type 0 where
  pub entries : r.entries ≡ length (page_entries u p)
  pub space : r.space ≡ cond (fresh (page_after u p)) None (Some (page_after u p).free_space)
  pub small : (n : ℕ) → r.space ≡ Some n → n ≤ 16372

-- page p is written, and its entries from number `at` on; `next` is the number after them
pub record Written (s s' l l' : List ℕ) (p at next : ℕ) : Type 0 where
  pub seg : s' ≡ put s (p * 16384) (page_bytes (standing s) p (page_of s p))
  pub list : l' ≡ put l (3 * at) (words (page_entries (standing s) p))
  pub told : next ≡ at + length (page_entries (standing s) p)

-- ---- an entry's place and number: 65,535 is a header's place, 65,536 the inventory's

abbrev pub place_of : What → ℕ
place_of (Slot k d) = k
place_of HeaderWorkedOut = 65535
place_of HeaderZeroed = 65535
place_of InventoryWorkedOut = 65536

abbrev pub number_of : What → ℕ
number_of (Slot k d) = deed_no d
number_of HeaderWorkedOut = 4
number_of HeaderZeroed = 5
number_of InventoryWorkedOut = 6

abbrev pub entry_of : ℕ → What → Entry
entry_of p w = entry p (place_of w) (number_of w)
