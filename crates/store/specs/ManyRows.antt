-- Document 02, "Store a whole map in one call": many rows go in by one call, as they would one at a time.
use Rattle.std.specs.Prelude.{ℕ, ◌+◌, Bool, cond, not, ◌&&◌, List, [], ◌∷◌, length, take, drop, eqb, leb}
use Rattle.store.specs.Numbers.{put}
use Rattle.store.specs.Refusals.{DONE, SIZE, LIST}
use Rattle.store.specs.Segment.{Result, insert_step, size_ok, inv_ok}

-- the answer's number, "how many rows went in", their ids, and every byte of segment and inventory
pub record Rows : Type 0 where
  pub answer : ℕ
  pub inserted : ℕ
  pub ids : List ℕ
  pub seg : List ℕ
  pub inv : List ℕ

-- no row goes in
abbrev pub no_row : ℕ → List ℕ → List ℕ → Rows
no_row a s v = record { answer = a; inserted = 0; ids = []; seg = s; inv = v }

-- a row has gone in under the id i, and then those of r
abbrev pub and_row : ℕ → Rows → Rows
and_row i r = record { answer = r.answer; inserted = r.inserted + 1; ids = i ∷ r.ids; seg = r.seg; inv = r.inv }

-- "inserting them one at a time in that order"; "At the first refusal it stops .., and those rows stay"
unfoldable pub insert_all : List ℕ → List ℕ → List (List ℕ) → Rows
insert_all s v [] = no_row DONE s v
insert_all s v (b ∷ bs) =
    let t : Result = insert_step s v b in
    cond (eqb t.answer DONE) (and_row t.id (insert_all t.seg t.inv bs)) (no_row t.answer s v)

-- "the rows' bytes end to end, their lengths"
abbrev pub rows_of : List ℕ → List ℕ → List (List ℕ)
rows_of bs [] = []
rows_of bs (l ∷ ls) = take l bs ∷ rows_of (drop l bs) ls

abbrev pub total : List ℕ → ℕ
total [] = 0
total (l ∷ ls) = l + total ls

-- 10 "when the lengths don't sum to the bytes or the id places are fewer than the rows"
abbrev pub list_ok : List ℕ → List ℕ → List ℕ → Bool
list_ok bs ls is = eqb (total ls) (length bs) && leb (length ls) (length is)

-- "id places past them are not written": the places is, with the ids of r in front
abbrev pub placed : List ℕ → Rows → Rows
placed is r = record { answer = r.answer; inserted = r.inserted; ids = put is 0 r.ids; seg = r.seg; inv = r.inv }

-- "Refusals: 1, then 10 LIST .., both before any insert; then each row's own."
unfoldable pub insert_rows_step : List ℕ → List ℕ → List ℕ → List ℕ → List ℕ → Rows
insert_rows_step s v bs ls is =
    placed is
    (cond (not (size_ok s && inv_ok v)) (no_row SIZE s v)
    (cond (not (list_ok bs ls is)) (no_row LIST s v)
    (insert_all s v (rows_of bs ls))))
