-- What the parts of the check find out, as statements over the view. Together they are document 01's sound page.
use Rattle.std.specs.Prelude.{ℕ, ◌+◌, ◌*◌, ◌≤◌, ◌<◌, ◌≡◌, Bool, true, false, Option, MatchOption}
use Rattle.store.specs.Numbers.{sum}
use Rattle.store.specs.Slots.{off, len, is_free, is_target}
use Rattle.store.specs.Page.{View}
use Rattle.store.specs.Laws.Edits.{Apart}
use Rattle.store.specs.declared.Part.{Part}
use Rattle.store.specs.declared.Slot.{Slot}
use Rattle.store.specs.declared.Slot.TheVariants.{Free}
use Rattle.layout.specs.declared.header.Header.{Header}

-- the answer is yes just if A holds
pub record Tells (r : Bool) (A : Type 0) : Type 0 where
  pub yes : r ≡ true → A
  pub back : A → r ≡ true

-- Slot k may stand where it is: its record ends at or below `low`, a target is long enough, and no slot below the first free one, f,
-- is free.
pub record Allowed (s : Slot) (k f low : ℕ) : Type 0 where
  pub under : off s + len s ≤ low
  pub long : is_target s ≡ true → 8 ≤ len s
  pub used : k < f → is_free s ≡ false

-- The run of l bytes at o, which ends at or below `low`, is the record of s; where s has no bytes, o is any place.
pub record Runs (s : Slot) (low o l : ℕ) : Type 0 where
  pub size : l ≡ len s
  pub down : o + l ≤ low
  pub start : 0 < l → o ≡ off s

-- what is found of slot k: its run, if it is allowed
abbrev pub Found : Slot → ℕ → ℕ → ℕ → Option Part → Type 0
Found s k f low r = MatchOption r (Allowed s k f low → ⊥) (λ run. Allowed s k f low × Runs s low run.offset run.length)

-- The first n records lie well and apart, with d the data start.
pub record RecordsFit (v : View) (n f d : ℕ) : Type 0 where
  pub allowed : (j : ℕ) → j < n → Allowed (v.at j) j f 16384
  pub above : (j : ℕ) → j < n → 0 < len (v.at j) → d ≤ off (v.at j)
  pub apart : (i j : ℕ) → i < j → j < n → Apart (v.at i) (v.at j)

-- t is the sum of the first n lengths, none of which is over 16,384
pub record Total (v : View) (n t : ℕ) : Type 0 where
  pub is : t ≡ sum n (λ k. len (v.at k))
  pub small : t ≤ 16384 * n

-- the records of all slots fit, and t is the sum of their lengths
abbrev pub Sums : View → Header → ℕ → Type 0
Sums v h t = RecordsFit v h.count h.first h.start × Total v h.count t

-- what a pass over all slots answers: that sum, if they fit
abbrev pub Passed : View → Header → Option ℕ → Type 0
Passed v h r = MatchOption r (RecordsFit v h.count h.first h.start → ⊥) (Sums v h)

-- The header's numbers fit, and slot f is free; one that is not counted is seen as free.
pub record HeaderFits (v : View) (n f d : ℕ) : Type 0 where
  pub few : n ≤ 2046
  pub first : f ≤ n
  pub free : v.at f ≡ Free
  pub dir : 12 + 8 * n ≤ d
  pub start : d ≤ 16384
