-- The calls that write, each with its data, and any sequence of them.
use Rattle.std.specs.Prelude.{ℕ, ◌≡◌, List, [], ◌∷◌}
use Rattle.store.specs.Segment.{Result, insert_step, allocate_step, write_step, resize_step, erase_step}

pub data Call : Type 0 where
  insert : List ℕ → Call
  allocate : ℕ → Call
  write : ℕ → List ℕ → Call
  resize : ℕ → ℕ → Call
  erase : ℕ → Call

abbrev pub called : Call → List ℕ → List ℕ → Result
called (insert bs) s v = insert_step s v bs
called (allocate n) s v = allocate_step s v n
called (write i bs) s v = write_step s v i bs
called (resize i n) s v = resize_step s v i n
called (erase i) s v = erase_step s v i

-- what each call of the sequence answers and leaves
abbrev pub results : List Call → List ℕ → List ℕ → List Result
results [] s v = []
results (c ∷ cs) s v = called c s v ∷ results cs (called c s v).seg (called c s v).inv

-- each of them is so
abbrev pub Each : (Result → Type 0) → List Result → Type 0
Each P [] = Unit {0}
Each P (r ∷ rs) = P r × Each P rs

-- ---- which calls

-- one that makes a record
abbrev pub Makes : Call → Type 0
Makes (insert bs) = Unit {0}
Makes (allocate n) = Unit {0}
Makes (write i bs) = ⊥
Makes (resize i n) = ⊥
Makes (erase i) = ⊥

-- a write, resize or erase of the record of id i; and a sequence without one
abbrev pub OfId : ℕ → Call → Type 0
OfId i (insert bs) = ⊥
OfId i (allocate n) = ⊥
OfId i (write j bs) = j ≡ i
OfId i (resize j n) = j ≡ i
OfId i (erase j) = j ≡ i

abbrev pub NoneOfId : ℕ → List Call → Type 0
NoneOfId i [] = Unit {0}
NoneOfId i (c ∷ cs) = (OfId i c → ⊥) × NoneOfId i cs
