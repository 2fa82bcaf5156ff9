-- Document 01, "Segment steps", the scan, as a whole: the records of a segment in scan order. Document 02's requests count, write and judge by
-- this list.
use Rattle.std.specs.Prelude.{ℕ, zero, suc, ◌+◌, ◌≡◌, Bool, true, false, cond, List, [], ◌∷◌, ◌++◌, map, ◌≢◌}
use Rattle.store.specs.Numbers.{same_bytes, In, one}
use Rattle.store.specs.Refusals.{DONE}
use Rattle.store.specs.Slots.{is_record}
use Rattle.store.specs.Page.{View}
use Rattle.store.specs.Segment.{SegView, seg_view}
use Rattle.store.specs.Scan.{Scanned, record_at}

-- ---- the whole scan's list

-- an id and its record
pub record Entry : Type 0 where
  pub id : ℕ
  pub bytes : List ℕ

-- slot k of page p as the scan gives it: a target under its root's id and without its 8 bytes
abbrev pub entry_of : View → ℕ → ℕ → Entry
entry_of v p k = record { id = (record_at v p k).id; bytes = (record_at v p k).bytes }

-- of the m slots from k on of page p; of the page; of the m pages from p on; of a segment
abbrev pub entries_from : ℕ → View → ℕ → ℕ → List Entry
entries_from zero v p k = []
entries_from (suc m) v p k = let r = entries_from m v p (k + 1) in cond (is_record (v.at k)) (entry_of v p k ∷ r) r

abbrev pub page_entries : View → ℕ → List Entry
page_entries v p = entries_from v.slot_count v p 0

abbrev pub pages_entries : ℕ → SegView → ℕ → List Entry
pages_entries zero u p = []
pages_entries (suc m) u p = let r = pages_entries m u (p + 1) in page_entries (u.page p) p ++ r

abbrev pub entries : SegView → List Entry
entries u = pages_entries u.pages u 0

unfoldable pub scan_all : List ℕ → List Entry
scan_all s = entries (seg_view s)

-- the same without the ids
abbrev pub rows_in : List Entry → List (List ℕ)
rows_in = map (λ (e : Entry). e.bytes)

abbrev pub records : SegView → List (List ℕ)
records u = rows_in (entries u)

-- ---- that a scan's steps give a list

-- the step d gives the entry e
pub record Gives (d : Scanned) (e : Entry) : Type 0 where
  pub answer : d.answer ≡ DONE
  pub some : d.some ≡ true
  pub id : d.id ≡ e.id
  pub bytes : d.bytes ≡ e.bytes

-- it gives none, and neither does any step after it
pub record GivesNone (step : ℕ → ℕ → Scanned) (d : Scanned) : Type 0 where
  pub answer : d.answer ≡ DONE
  pub some : d.some ≡ false
  pub still : step d.page d.slot ≡ d

-- d and the steps after it, each from the position that the one before it left, give these entries and then none
abbrev pub GivesAll : (ℕ → ℕ → Scanned) → Scanned → List Entry → Type 0
GivesAll step d [] = GivesNone step d
GivesAll step d (e ∷ es) = Gives d e × GivesAll step (step d.page d.slot) es

-- ---- "each entry once", "each as often as before"

-- no id twice
abbrev pub OnceEach : List Entry → Type 0
OnceEach [] = Unit {0}
OnceEach (e ∷ es) = ((x : Entry) → In x es → x.id ≢ e.id) × OnceEach es

-- how many of a list pass a test; how often x is among records, and in a segment's scan
abbrev pub count_if : {A : Type 0} → (A → Bool) → List A → ℕ
count_if f [] = 0
count_if f (x ∷ xs) = one (f x) + count_if f xs

abbrev pub times : List ℕ → List (List ℕ) → ℕ
times x = count_if (same_bytes x)

abbrev pub times_in : List ℕ → List ℕ → ℕ
times_in x s = times x (rows_in (scan_all s))
