-- Which records of a page are kept, as the code notes it: bytes on a map, and for each slot what is done to it.
use Rattle.std.specs.Prelude.{ℕ, ◌≤◌, ◌<◌, ◌≡◌, true, cond, List, length, get_or}
use Rattle.store.specs.Slots.{is_record}
use Rattle.store.specs.Page.{View, view}
use Rattle.store.specs.Repair.{kept_below, is_in, keeps}
use Rattle.store.specs.declared.Deed.{Deed}
use Rattle.store.specs.declared.Deed.TheVariants.{Stays, RecordFreed}
use Rattle.page_check.specs.Map.{Marked}

-- a page of c slots, of which none is past its end
pub record CountedPage (p : List ℕ) (c : ℕ) : Type 0 where
  pub counted : c ≡ (view p).slot_count
  pub few : c ≤ 2046

-- slot j is one of those below k whose record is kept
abbrev pub KeptIn : View → ℕ → ℕ → Type 0
KeptIn v k j = is_in j (kept_below v k) ≡ true

-- the bytes of their records are marked, and no others
abbrev pub KeptMarks : View → ℕ → List ℕ → Type 0
KeptMarks v k u = Marked v (KeptIn v k) u

-- a record that is not kept is freed
abbrev pub judged : View → ℕ → Deed
judged v k = cond (is_record (v.at k)) (cond (keeps v k) Stays RecordFreed) Stays

-- so noted of the first n slots; the places behind are as they were
pub record Judged (v : View) (n : ℕ) (before after : List Deed) : Type 0 where
  pub long : length after ≡ length before
  pub told : (k : ℕ) → k < n → get_or after k Stays ≡ judged v k
  pub rest : (k : ℕ) → n ≤ k → get_or after k Stays ≡ get_or before k Stays
