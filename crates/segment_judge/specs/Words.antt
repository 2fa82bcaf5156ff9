-- What is asked of a segment whose slots are judged, and what is told of them.
use Rattle.std.specs.Prelude.{ℕ, ◌/◌, ◌≤◌, ◌<◌, ◌≡◌, ◌≢◌, true, List, length, get_or, Option, Some, None}
use Rattle.store.specs.Numbers.{page_no, slot_no}
use Rattle.store.specs.Slots.{is_target}
use Rattle.store.specs.Page.{view, sound}
use Rattle.store.specs.Segment.{page_of}
use Rattle.store.specs.SoundSegment.{slot_on, back_id}
use Rattle.store.specs.Repair.{standing, keeps}
use Rattle.store.specs.Laws.Lent.{Within}
use Rattle.store.specs.Laws.Slots.{Codable}
use Rattle.store.specs.declared.Slot.{Slot}
use Rattle.store.specs.declared.Deed.{Deed}
use Rattle.store.specs.declared.Deed.TheVariants.{Stays}
use Rattle.page_check.specs.Map.{mark}

-- ---- the pages that are sound, one bit each

-- what has a mark is sound
pub record Known (s bits : List ℕ) : Type 0 where
  pub few : length s / 16384 ≤ 32527
  pub told : (p : ℕ) → p < length s / 16384 → mark bits p ≡ 1 → sound (view (page_of s p)) ≡ true

-- and what is sound has one; no other bit is set
pub record Checked (s bits : List ℕ) : Type 0 where
  pub known : Known s bits
  pub back : (p : ℕ) → p < length s / 16384 → sound (view (page_of s p)) ≡ true → mark bits p ≡ 1
  pub rest : (p : ℕ) → length s / 16384 ≤ p → mark bits p ≡ 0

-- ---- a page in use

-- it is there, and has n slots
pub record UsedPageOn (s : List ℕ) (p n : ℕ) : Type 0 where
  pub within : Within s p
  pub is : n ≡ (view (page_of s p)).slot_count
  pub some : 0 < n
  pub few : n ≤ 2046

-- and slot k is one of them
pub record UsedOn (s : List ℕ) (p k : ℕ) : Type 0 where
  pub within : Within s p
  pub counted : k < (view (page_of s p)).slot_count
  pub few : (view (page_of s p)).slot_count ≤ 2046

-- a target that its page keeps, and the id that its record begins with
pub record KeptTarget (s : List ℕ) (t b : ℕ) : Type 0 where
  pub below : page_no t < length s / 16384
  pub few : (view (page_of s (page_no t))).slot_count ≤ 2046
  pub target : is_target (slot_on (standing s) t) ≡ true
  pub keeps : keeps (view (page_of s (page_no t))) (slot_no t) ≡ true
  pub back : b ≡ back_id (standing s) t

-- ---- the slot of an id t, seen from the id i

-- its page is there, another than that of i, and has at most 2,046 slots
pub record Apart (s : List ℕ) (i t : ℕ) : Type 0 where
  pub below : page_no t < length s / 16384
  pub other : page_no t ≢ page_no i
  pub few : (view (page_of s (page_no t))).slot_count ≤ 2046

-- where it is so, the slot that stands there
abbrev pub SlotApart : List ℕ → ℕ → ℕ → Option Slot → Type 0
SlotApart s i t (Some x) = Apart s i t × (slot_on (standing s) t ≡ x) × Codable x
SlotApart s i t None = Apart s i t → ⊥

-- ---- what is done to each slot of a page, in a row

pub record Deeds (d : ℕ → Deed) (ds : List Deed) : Type 0 where
  pub each : (k : ℕ) → get_or ds k Stays ≡ d k
