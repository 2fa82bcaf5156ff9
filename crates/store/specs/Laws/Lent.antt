-- What contracts ask of lent bytes, as records whose parts have names.
use Rattle.std.specs.Prelude.{ℕ, ◌+◌, ◌*◌, ◌≤◌, ◌<◌, ◌≡◌, true, false, List, length}
use Rattle.store.specs.Numbers.{page_no, slot_no}
use Rattle.store.specs.Slots.{is_free}
use Rattle.store.specs.Page.{view, sound}
use Rattle.store.specs.Segment.{seg_view}
use Rattle.store.specs.Laws.Views.{Sound}
use Rattle.store.specs.declared.Slot.{Slot}

-- ---- one page

-- in use, and sound
pub record UsedPage (p : List ℕ) : Type 0 where
  pub whole : length p ≡ 16384
  pub sound : Sound (view p)

-- and one of its slots
pub record UsedSlot (p : List ℕ) (k : ℕ) : Type 0 where
  pub whole : length p ≡ 16384
  pub sound : Sound (view p)
  pub counted : k < (view p).slot_count

-- ---- page p of the segment s

-- its bytes are there
abbrev pub Within : List ℕ → ℕ → Type 0
Within s p = p * 16384 + 16384 ≤ length s

-- and it is sound, fresh or in use
pub record SoundOn (s : List ℕ) (p : ℕ) : Type 0 where
  pub whole : Within s p
  pub sound : sound ((seg_view s).page p) ≡ true

-- and its slot k is not free
pub record TakenOn (s : List ℕ) (p k : ℕ) : Type 0 where
  pub whole : Within s p
  pub sound : sound ((seg_view s).page p) ≡ true
  pub taken : is_free (((seg_view s).page p).at k) ≡ false

-- the own page of the id i is sound, and its slot's entry is x
pub record RootIs (s : List ℕ) (i : ℕ) (x : Slot) : Type 0 where
  pub whole : Within s (page_no i)
  pub sound : sound ((seg_view s).page (page_no i)) ≡ true
  pub entry : ((seg_view s).page (page_no i)).at (slot_no i) ≡ x
