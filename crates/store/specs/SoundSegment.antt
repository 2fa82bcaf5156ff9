-- Document 01, "Page and slot layout": the sound segment.
use Rattle.std.specs.Prelude.{ℕ, ◌-◌, ◌/◌, ◌<◌, ◌≡◌, true, cond, List, ◌≢◌, length, take, ltb}
use Rattle.store.specs.Numbers.{be}
use Rattle.store.specs.Slots.{is_target}
use Rattle.store.specs.Page.{View, view, fresh, sound}
use Rattle.store.specs.Inventory.{class_of, Truth}
use Rattle.store.specs.Segment.{SegView, seg_view, page_of, size_ok, inv_ok}
use Rattle.store.specs.Numbers.{page_no, slot_no}
use Rattle.store.specs.declared.Slot.{Slot}
use Rattle.store.specs.declared.Slot.TheVariants.{Ordinary, Free, Redirect, Target}

-- the slot of an id, its record's bytes, and the id that a target's record begins with
abbrev pub slot_on : SegView → ℕ → Slot
slot_on u i = (u.page (page_no i)).at (slot_no i)

abbrev pub bytes_on : SegView → ℕ → List ℕ
bytes_on u i = (u.page (page_no i)).bytes (slot_no i)

abbrev pub back_id : SegView → ℕ → ℕ
back_id u t = be (take 8 (bytes_on u t))

-- the id is that of a record: its slot is ordinary, or a redirect. A target's own id is not: it comes and goes with its target
abbrev pub Root : Slot → Type 0
Root (Ordinary o l) = Unit {0}
Root Free = ⊥
Root (Redirect t) = Unit {0}
Root (Target o l) = ⊥

pub record Rooted (s : List ℕ) (i : ℕ) : Type 0 where
  pub below : page_no i < length s / 16384
  pub root : Root (slot_on (seg_view s) i)

-- "names a target on another page below n whose back id names that redirect": t is so named by i
pub record Names (u : SegView) (i t : ℕ) : Type 0 where
  pub below : page_no t < u.pages
  pub other : page_no t ≢ page_no i
  pub target : is_target (slot_on u t) ≡ true
  pub back : back_id u t ≡ i

-- "each target is so named": a redirect that names t
pub record NamedBy (u : SegView) (t : ℕ) : Type 0 where
  pub by : ℕ
  pub below : page_no by < u.pages
  pub names : slot_on u by ≡ Redirect t

-- "Each redirect names a target .., and each target is so named."
pub record Paired (u : SegView) : Type 0 where
  pub redirects : (i t : ℕ) → page_no i < u.pages → slot_on u i ≡ Redirect t → Names u i t
  pub targets : (t : ℕ) → page_no t < u.pages → is_target (slot_on u t) ≡ true → NamedBy u t

-- "a page's nibble is 0 if fresh, else the class of 16,372 − free space; nibbles from page n on are 0"
abbrev pub nibble_of : View → ℕ
nibble_of v = cond (fresh v) 0 (class_of (16372 - v.free_space))

abbrev pub classes : SegView → ℕ → ℕ
classes u p = cond (ltb p u.pages) (nibble_of (u.page p)) 0

-- "Every page is sound."
abbrev pub PagesSound : List ℕ → Type 0
PagesSound s = (p : ℕ) → p < length s / 16384 → sound (view (page_of s p)) ≡ true

-- "The inventory is true .. entry c (0 to 14) is the lowest page whose nibble is at most c, so n if there is none."
pub record SoundSegment (s v : List ℕ) : Type 0 where
  pub whole : size_ok s ≡ true
  pub page : inv_ok v ≡ true
  pub pages : PagesSound s
  pub pairs : Paired (seg_view s)
  pub inventory : Truth (classes (seg_view s)) (length s / 16384) v
