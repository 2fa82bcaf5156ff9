-- Where a read finds its record, in the order in which the code asks.
use Rattle.std.specs.Prelude.{ℕ, cond}
use Rattle.store.specs.Numbers.{page_no, slot_no}
use Rattle.store.specs.Refusals.{DONE, DAMAGED, NONE}
use Rattle.store.specs.declared.Part.{Part}
use Rattle.store.specs.Segment.{SegView, points_back, no_part, part_on, Located}
use Rattle.store.specs.declared.Slot.{Slot}
use Rattle.store.specs.declared.Slot.TheVariants.{Ordinary, Free, Redirect, Target}

abbrev pub found_at : Part → Located
found_at a = record { answer = DONE; part = a }

abbrev pub not_found : ℕ → Located
not_found a = record { answer = a; part = no_part }

-- the record of id i by a redirect to t
unfoldable pub followed : SegView → ℕ → ℕ → Located
followed s i t = cond (points_back s i t) (found_at (part_on (page_no t) ((s.page (page_no t)).at (slot_no t)))) (not_found DAMAGED)

-- by its own slot
unfoldable pub locate_by : SegView → ℕ → Slot → Located
locate_by s i (Ordinary o l) = found_at (part_on (page_no i) (Ordinary o l))
locate_by s i Free = not_found NONE
locate_by s i (Redirect t) = followed s i t
locate_by s i (Target o l) = found_at (part_on (page_no i) (Target o l))
