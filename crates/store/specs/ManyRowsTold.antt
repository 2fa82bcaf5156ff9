-- What is said of many rows in one call: how it is so many calls, what it leaves of its places, what a sound segment answers afterwards
-- (Promises/ManyRows, ManyRowsSound, ManyRowsAlike).
use Rattle.std.specs.Prelude.{ℕ, ◌+◌, ◌<◌, ◌≡◌, Bool, cond, ◌||◌, List, [], ◌∷◌, ◌++◌, map, ◌≢◌, length, get_or, take, eqb}
use Rattle.store.specs.Refusals.{DONE, LONG, DAMAGED, FULL, STALE}
use Rattle.store.specs.Segment.{seg_view, Result, insert_step, read_step}
use Rattle.store.specs.Calls.{Call, insert, called, results, Each}
use Rattle.store.specs.ManyRows.{Rows}
use Rattle.store.specs.SoundSegment.{slot_on}
use Rattle.store.specs.declared.Slot.TheVariants.{Free}

-- ---- what a call tells

-- "3, 7, 4, 8 as insert gives them", or 0: the answers that are a row's own
abbrev pub of_row : ℕ → Bool
of_row a = eqb a DONE || eqb a LONG || eqb a FULL || eqb a DAMAGED || eqb a STALE

-- answer a, and nothing changes
abbrev pub unchanged : ℕ → List ℕ → List ℕ → List ℕ → Rows
unchanged a is s v = record { answer = a; inserted = 0; ids = is; seg = s; inv = v }

-- of the places, those that were written: "places 0 to k − 1 hold the ids"
abbrev pub given : Rows → Rows
given r = record { answer = r.answer; inserted = r.inserted; ids = take r.inserted r.ids; seg = r.seg; inv = r.inv }

-- the same with the answer 0
abbrev pub carried_out : Rows → Rows
carried_out r = record { answer = DONE; inserted = r.inserted; ids = r.ids; seg = r.seg; inv = r.inv }

-- "the first part and then the rest, with the rows told added"
abbrev pub joined : Rows → Rows → Rows
joined a b = record { answer = b.answer; inserted = a.inserted + b.inserted; ids = a.ids ++ b.ids; seg = b.seg; inv = b.inv }

-- ---- as so many calls

-- one call: what it answers and leaves, and its id if the row went in
abbrev pub alone : Result → Rows
alone t = record {
  answer = t.answer;
  inserted = cond (eqb t.answer DONE) 1 0;
  ids = cond (eqb t.answer DONE) (t.id ∷ []) [];
  seg = t.seg;
  inv = t.inv;
}

-- each row by a call of its own
abbrev pub inserts : List (List ℕ) → List Call
inserts = map insert

-- the segment and the inventory that a sequence of calls leaves
abbrev pub seg_after : List Call → List ℕ → List ℕ → List ℕ
seg_after [] s v = s
seg_after (c ∷ cs) s v = seg_after cs (called c s v).seg (called c s v).inv

abbrev pub inv_after : List Call → List ℕ → List ℕ → List ℕ
inv_after [] s v = v
inv_after (c ∷ cs) s v = inv_after cs (called c s v).seg (called c s v).inv

-- "At the first refusal it stops": the row after those told is there, and inserting it now answers what was answered
pub record StoppedAt (rows : List (List ℕ)) (r : Rows) : Type 0 where
  pub before : r.inserted < length rows
  pub own : (insert_step r.seg r.inv (get_or rows r.inserted [])).answer ≡ r.answer

-- "It must equal inserting them one at a time in that order: same ids, same pages, same inventory."
pub record OneAtATime (s v : List ℕ) (rows : List (List ℕ)) (r : Rows) : Type 0 where
  pub done : Each (λ (t : Result). t.answer ≡ DONE) (results (inserts (take r.inserted rows)) s v)
  pub ids : map (λ (t : Result). t.id) (results (inserts (take r.inserted rows)) s v) ≡ r.ids
  pub seg : seg_after (inserts (take r.inserted rows)) s v ≡ r.seg
  pub inv : inv_after (inserts (take r.inserted rows)) s v ≡ r.inv
  pub stops : r.answer ≢ DONE → StoppedAt rows r

-- ---- ids

-- "each row reads back by its id"; there may be more rows than ids
abbrev pub ReadBack : List ℕ → List ℕ → List (List ℕ) → Type 0
ReadBack s [] rows = Unit {0}
ReadBack s (i ∷ is) [] = ⊥
ReadBack s (i ∷ is) (b ∷ rows) = (read_step s i ≡ record { answer = DONE; bytes = b }) × ReadBack s is rows

-- each of them is so
abbrev pub EachId : (ℕ → Type 0) → List ℕ → Type 0
EachId P [] = Unit {0}
EachId P (i ∷ is) = P i × EachId P is

-- "the ids are pairwise different"
abbrev pub NoRepeat : List ℕ → Type 0
NoRepeat [] = Unit {0}
NoRepeat (i ∷ is) = EachId (λ j. i ≢ j) is × NoRepeat is

-- "and were not in use"
abbrev pub FreeIn : List ℕ → ℕ → Type 0
FreeIn s i = slot_on (seg_view s) i ≡ Free

-- ---- two calls

-- equal answers, rows told, ids and inventories, and two segments that are left alike
pub record SameRows (like : List ℕ → List ℕ → Type 0) (a b : Rows) : Type 0 where
  pub answer : a.answer ≡ b.answer
  pub inserted : a.inserted ≡ b.inserted
  pub ids : a.ids ≡ b.ids
  pub inv : a.inv ≡ b.inv
  pub seg : like a.seg b.seg
