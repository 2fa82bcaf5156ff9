-- Document 02, Ask 13: "The operators think of the store as a book of ids and rows." The book of a segment, and the book after a call.
use Rattle.std.specs.Prelude.{ℕ, ◌/◌, ◌≡◌, Bool, true, false, cond, ◌&&◌, List, length, eqb, ltb}
use Rattle.store.specs.Numbers.{zeros, fit, same_bytes, page_no, upd, In, one}
use Rattle.store.specs.Refusals.{DONE}
use Rattle.store.specs.Segment.{seg_view, Result, read_step}
use Rattle.store.specs.Calls.{Call, insert, allocate, write, resize, erase}
use Rattle.store.specs.Records.{Entry, OnceEach}
use Rattle.store.specs.SoundSegment.{slot_on}
use Rattle.store.specs.declared.Slot.{Slot}
use Rattle.store.specs.declared.Slot.TheVariants.{Ordinary, Free, Redirect, Target}

-- ---- "a map from root ids to bytes"

pub data Row : Type 0 where
  absent : Row
  row : List ℕ → Row

abbrev pub Book : Type 0
Book = ℕ → Row

-- "root ids": those of ordinary slots and of redirects, as `Root` has it. "Reading by a target's own id stands outside the map."
abbrev pub is_root : Slot → Bool
is_root (Ordinary o l) = true
is_root Free = false
is_root (Redirect t) = true
is_root (Target o l) = false

-- the id is in use: a root's, on a page of the segment
abbrev pub in_use_at : List ℕ → ℕ → Bool
in_use_at s i = ltb (page_no i) (length s / 16384) && is_root (slot_on (seg_view s) i)

-- with the bytes that a read gives
unfoldable pub book_of : List ℕ → Book
book_of s i = cond (in_use_at s i) (row (read_step s i).bytes) absent

-- ---- the book after a call

-- "resizes and zeros counted": the row at another size
abbrev pub fit_row : ℕ → Row → Row
fit_row n absent = absent
fit_row n (row bs) = row (fit n bs)

-- the row of the id that a call answers: "the last bytes written under that id .. until it is erased"
abbrev pub new_row : Call → Book → Row
new_row (insert bs) b = row bs
new_row (allocate n) b = row (zeros n)
new_row (write i bs) b = row bs
new_row (resize i n) b = fit_row n (b i)
new_row (erase i) b = absent

-- "a call changes no other id's bytes"; "a refused call leaves the map as it stood"
abbrev pub next_book : Call → Result → Book → Book
next_book c r b = cond (eqb r.answer DONE) (upd b r.id (new_row c b)) b

-- ---- "the scan lists each entry once": no id twice, and an id with bytes is listed exactly if the book has them under it

pub record Lists (b : Book) (es : List Entry) : Type 0 where
  pub once : OnceEach es
  pub of : (x : Entry) → In x es → b x.id ≡ row x.bytes
  pub all : (i : ℕ) (bs : List ℕ) → b i ≡ row bs → In (record { id = i; bytes = bs }) es

-- what a row counts for in such a list, 1 or 0: of the entries that pass a test, where it stands under the id i; of those with the bytes x
abbrev pub count_row : (Entry → Bool) → ℕ → Row → ℕ
count_row f i absent = 0
count_row f i (row bs) = one (f (record { id = i; bytes = bs }))

abbrev pub times_row : List ℕ → Row → ℕ
times_row x absent = 0
times_row x (row bs) = one (same_bytes x bs)
