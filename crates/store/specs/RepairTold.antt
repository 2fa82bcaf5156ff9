-- What is said of repair: where it writes (Promises/RepairKept), which entries there are and what they tell (Promises/RepairEntries), what it
-- looks at (Promises/RepairSeen).
use Rattle.std.specs.Prelude.{ℕ, ◌+◌, ◌-◌, ◌*◌, ◌/◌, ◌<◌, ◌≡◌, true, false, cond, List, [], ◌∷◌, ◌⊎◌, length}
use Rattle.store.specs.Numbers.{cut, zeros, In}
use Rattle.store.specs.Slots.{is_record, is_target}
use Rattle.store.specs.Page.{View, view}
use Rattle.store.specs.Segment.{page_of}
use Rattle.store.specs.SoundSegment.{slot_on, back_id}
use Rattle.store.specs.Repair.{standing, lost, kept, Entry}
use Rattle.store.specs.declared.Slot.{Slot}
use Rattle.store.specs.declared.Slot.TheVariants.{Ordinary, Free, Redirect, Target}

-- ---- bytes

-- "headers and directories": where they end on a page; a lost page has only its header
abbrev pub directory : View → ℕ
directory v = cond (lost v) 12 (12 + 8 * v.slot_count)

-- ---- entries

-- "entries ascend by (page, place)": strictly, so that no two are of one place
abbrev pub Before : Entry → Entry → Type 0
Before a b = (a.page < b.page) ⊎ ((a.page ≡ b.page) × (a.place < b.place))

abbrev pub Ascending : List Entry → Type 0
Ascending [] = Unit {0}
Ascending (x ∷ xs) = ((b : Entry) → In b xs → Before x b) × Ascending xs

-- "The number in each fits what changed: freed record, freed redirect, target made ordinary": what a slot was, what it is, the number
pub data Tells : Slot → Slot → ℕ → Type 0 where
  freed_record : (x : Slot) → is_record x ≡ true → Tells x Free 1
  freed_redirect : (t : ℕ) → Tells (Redirect t) Free 2
  made_ordinary : (o l : ℕ) → Tells (Target o l) (Ordinary (o + 8) (l - 8)) 3

-- "header worked out, header zeroed": of a page's bytes before and after, 4 where the count stays, 5 where the 12 bytes of a lost page are zero
pub data TellsHeader (p q : List ℕ) : ℕ → Type 0 where
  worked_out : lost (view p) ≡ false → (view q).slot_count ≡ (view p).slot_count → TellsHeader p q 4
  zeroed : lost (view p) ≡ true → cut q 0 12 ≡ zeros 12 → TellsHeader p q 5

-- ---- what is looked at

-- "n, the headers, the slots below the count of pages that are not lost and the first 8 bytes of kept targets", in two segments
pub record LooksSame (s t : List ℕ) : Type 0 where
  pub lengths : length s ≡ length t
  pub headers : (p : ℕ) → p < length s / 16384 → cut (page_of s p) 0 12 ≡ cut (page_of t p) 0 12
  pub slots : (p : ℕ) → p < length s / 16384 → lost (view (page_of s p)) ≡ false → (k : ℕ) → k < (view (page_of s p)).slot_count
      → cut (page_of s p) (12 + 8 * k) 8 ≡ cut (page_of t p) (12 + 8 * k) 8
  pub backs : (i : ℕ) → kept (standing s) i ≡ true → is_target (slot_on (standing s) i) ≡ true → back_id (standing s) i ≡ back_id (standing t) i
