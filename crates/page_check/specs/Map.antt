-- One bit for each byte of the page, in 256 words.
use Rattle.std.specs.Prelude.{ℕ, zero, suc, ◌+◌, ◌/◌, ◌%◌, ◌≤◌, ◌<◌, ◌≡◌, Bool, true, List, get_or}
use Rattle.store.specs.Slots.{off, len}
use Rattle.store.specs.Page.{View}
use Rattle.store.specs.declared.Slot.{Slot}
use Rattle.page_check.specs.Fit.{Tells}

-- bit j of x
unfoldable pub bit : ℕ → ℕ → ℕ
bit zero x = x % 2
bit (suc j) x = bit j (x / 2)

-- the bits of m from a on below b are set, and no others
pub record Mask (m a b : ℕ) : Type 0 where
  pub within : (j : ℕ) → a ≤ j → j < b → bit j m ≡ 1
  pub outside : (j : ℕ) → (a ≤ j → j < b → ⊥) → bit j m ≡ 0

-- the mark of byte i
unfoldable pub mark : List ℕ → ℕ → ℕ
mark u i = bit (i % 64) (get_or u (i / 64) 0)

abbrev pub Blank : List ℕ → Type 0
Blank u = (i : ℕ) → mark u i ≡ 0

-- the bytes from o on below e have no mark
abbrev pub Clear : List ℕ → ℕ → ℕ → Type 0
Clear u o e = (i : ℕ) → o ≤ i → i < e → mark u i ≡ 0

-- From u to v they are marked, and no other mark has changed.
pub record Claimed (u v : List ℕ) (o e : ℕ) : Type 0 where
  pub clear : Clear u o e
  pub taken : (i : ℕ) → o ≤ i → i < e → mark v i ≡ 1
  pub keeps : (i : ℕ) → (o ≤ i → i < e → ⊥) → mark v i ≡ mark u i

-- The answer is yes just if A holds, and then they are marked.
pub record Claims (r : Bool) (A : Type 0) (u v : List ℕ) (o e : ℕ) : Type 0 where
  pub tells : Tells r A
  pub claimed : r ≡ true → Claimed u v o e

-- byte i is of the record of s
abbrev pub Covers : Slot → ℕ → Type 0
Covers s i = (off s ≤ i) × (i < off s + len s)

-- the bytes of the records of the slots in P are marked, and no others
pub record Marked (v : View) (P : ℕ → Type 0) (u : List ℕ) : Type 0 where
  pub taken : (i j : ℕ) → P j → Covers (v.at j) i → mark u i ≡ 1
  pub idle : (i : ℕ) → ((j : ℕ) → P j → Covers (v.at j) i → ⊥) → mark u i ≡ 0
