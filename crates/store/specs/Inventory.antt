-- Document 01, "Inventory": a class for each page, for each class the lowest page that suits, and what an update does.
--
-- Nothing here names a number of bytes or of pages: an inventory of any length that has `Room` will do.
use Rattle.std.specs.Prelude.{ℕ, zero, suc, ◌+◌, ◌-◌, ◌*◌, ◌/◌, ◌%◌, ◌≤◌, ◌<◌, ◌≡◌, Bool, cond, List, [], ◌∷◌, length, get_or, set, eqb, ltb, leb}
use Rattle.std.specs.Prelude.{Option, Some, None}
use Rattle.store.specs.Numbers.{cut, put, le, to_le}

-- ---- classes

-- "the ranges of this table, of used bytes x": the largest x of the classes 1 to 14
abbrev pub borders : List ℕ
borders = 0 ∷ 4093 ∷ 6487 ∷ 8186 ∷ 9503 ∷ 10580 ∷ 11490 ∷ 12279 ∷ 12974 ∷ 13596 ∷ 14159 ∷ 14673 ∷ 15145 ∷ 15583 ∷ []

-- the class of x among the borders, counted from c
abbrev pub class_in : ℕ → List ℕ → ℕ → ℕ
class_in c [] x = c
class_in c (b ∷ bs) x = cond (leb x b) c (class_in (suc c) bs x)

unfoldable pub class_of : ℕ → ℕ
class_of x = class_in 1 borders x

-- ---- nibbles and entries

-- half h of the byte b, "low half first", and b with v in that half
abbrev pub half_of : ℕ → ℕ → ℕ
half_of b h = cond (eqb h 0) (b % 16) (b / 16)

abbrev pub with_half : ℕ → ℕ → ℕ → ℕ
with_half b h v = cond (eqb h 0) (b / 16 * 16 + v) (v * 16 + b % 16)

unfoldable pub nibble_at : List ℕ → ℕ → ℕ
nibble_at s j = half_of (get_or s (j / 2) 0) (j % 2)

unfoldable pub set_nibble : List ℕ → ℕ → ℕ → List ℕ
set_nibble s j v = set s (j / 2) (with_half (get_or s (j / 2) 0) (j % 2) v)

-- "Nibble number page + 240": the class of page p
abbrev pub nibble : List ℕ → ℕ → ℕ
nibble s p = nibble_at s (p + 240)

-- "entry c is a little-endian u64 at 8c"
unfoldable pub entry_at : List ℕ → ℕ → ℕ
entry_at s c = le (cut s (8 * c) 8)

unfoldable pub set_entry : List ℕ → ℕ → ℕ → List ℕ
set_entry s c v = put s (8 * c) (to_le 8 v)

-- the bytes hold the fifteen entries and a nibble for each of n pages
pub record Room (s : List ℕ) (n : ℕ) : Type 0 where
  pub entries : 120 ≤ length s
  pub pages : n + 240 ≤ 2 * length s

-- ---- requests

-- "it reads entry (class of 16,372 − need) − 1"
abbrev pub entry_for : ℕ → ℕ
entry_for need = class_of (16372 - need) - 1

-- the page for a need, of n pages; "need above 16,372, or the inventory entry read is n or more": none
unfoldable pub found_in : List ℕ → ℕ → ℕ → Option ℕ
found_in s n need = cond (ltb 16372 need) None (cond (ltb (entry_at s (entry_for need)) n) (Some (entry_at s (entry_for need))) None)

-- ---- updates

-- page q suits class c; the first of k pages from q on that does, q + k if there is none
abbrev pub suits : (ℕ → ℕ) → ℕ → ℕ → Bool
suits f c q = leb (f q) c

unfoldable pub first_from : (ℕ → ℕ) → ℕ → ℕ → ℕ → ℕ
first_from f c q zero = q
first_from f c q (suc k) = let r = first_from f c (suc q) k in cond (suits f c q) q r

-- "the next page whose nibble suits .. n if none": after p and below n
unfoldable pub next_page : List ℕ → ℕ → ℕ → ℕ → ℕ
next_page s n p c = first_from (nibble s) c (p + 1) (n - (p + 1))

-- entry c names page p; of the k entries from c on, where those that do end
abbrev pub names : List ℕ → ℕ → ℕ → Bool
names s p c = eqb (entry_at s c) p

unfoldable pub run_end : List ℕ → ℕ → ℕ → ℕ → ℕ
run_end s p c zero = c
run_end s p c (suc k) = let r = run_end s p (suc c) k in cond (names s p c) r c

-- the d entries from c on are set by f
unfoldable pub set_from : (ℕ → ℕ) → ℕ → ℕ → List ℕ → List ℕ
set_from f c zero s = s
set_from f c (suc d) s = set_from f c d (set_entry s (c + d) (f (c + d)))

-- "entries from the old class up, as far as they name this page and lie below the new class, move to the next page whose nibble suits"
unfoldable pub moved_on : List ℕ → ℕ → ℕ → ℕ → ℕ → List ℕ
moved_on s n p old new = set_from (next_page s n p) old (run_end s p old (new - old) - old) s

-- "entries from the new class up that name a later page are set to this one, stopping at the first that doesn't": k entries from c on
abbrev pub names_no_later : List ℕ → ℕ → ℕ → Bool
names_no_later s p c = leb (entry_at s c) p

unfoldable pub pulled_back : ℕ → ℕ → ℕ → List ℕ → List ℕ
pulled_back p c zero s = s
pulled_back p c (suc k) s = let r = pulled_back p (suc c) k (set_entry s c p) in cond (names_no_later s p c) s r

-- "An update writes the nibble only if its class changes. If so, .. Then .."
unfoldable pub updated : List ℕ → ℕ → ℕ → ℕ → List ℕ
updated s n p new =
    let r = pulled_back p new (15 - new) (moved_on (set_nibble s (p + 240) new) n p (nibble s p) new) in
    cond (eqb (nibble s p) new) s r

-- page p of n now has this much free space
unfoldable pub update : List ℕ → ℕ → ℕ → ℕ → List ℕ
update s n p room = updated s n p (class_of (16372 - room))

-- ---- "The inventory is true"

-- "the lowest page whose nibble is at most c, so n if there is none": e, of n pages with the nibbles f
pub record Lowest (f : ℕ → ℕ) (n c e : ℕ) : Type 0 where
  pub within : e ≤ n
  pub before : (k : ℕ) → k < e → c < f k
  pub here : e < n → f e ≤ c

-- each nibble is the one that f says, and each entry the lowest page that suits
pub record Truth (f : ℕ → ℕ) (n : ℕ) (s : List ℕ) : Type 0 where
  pub nibbles : (k : ℕ) → k + 240 < 2 * length s → nibble s k ≡ f k
  pub entries : (c : ℕ) → c < 15 → Lowest f n c (entry_at s c)
