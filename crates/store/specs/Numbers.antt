-- Document 01, module 1: numbers of src/storage/page.rs and src/types.rs.
--
-- A page, a segment and an inventory are lists of bytes. Everything that is read is `cut` out of such a list, and everything that
-- is written is `put` into one.
use Rattle.std.specs.Prelude.{ℕ, zero, suc, ◌+◌, ◌-◌, ◌*◌, ◌/◌, ◌%◌, ◌^◌, ◌<◌, ◌≡◌}
use Rattle.std.specs.Prelude.{Bool, true, false, cond, ◌&&◌, List, [], ◌∷◌, ◌++◌, reverse, ◌⊎◌, length}
use Rattle.std.specs.Prelude.{take, drop, replicate, eqb}

-- ---- bytes at a place

-- n bytes from index i
abbrev pub cut : List ℕ → ℕ → ℕ → List ℕ
cut p i n = take n (drop i p)

-- p with vs written from index i; what would lie past p's end is left out, so p's length stays
abbrev pub put : List ℕ → ℕ → List ℕ → List ℕ
put [] i vs = []
put (x ∷ p) (suc i) vs = x ∷ put p i vs
put (x ∷ p) zero [] = x ∷ p
put (x ∷ p) zero (v ∷ vs) = v ∷ put p zero vs

abbrev pub zeros : ℕ → List ℕ
zeros n = replicate n 0

-- a record's bytes at another size: cut off, or filled up with zeros
abbrev pub fit : ℕ → List ℕ → List ℕ
fit n bs = take n bs ++ zeros (n - length bs)

-- byte by byte the same
abbrev pub same_bytes : List ℕ → List ℕ → Bool
same_bytes [] [] = true
same_bytes [] (y ∷ ys) = false
same_bytes (x ∷ xs) [] = false
same_bytes (x ∷ xs) (y ∷ ys) = eqb x y && same_bytes xs ys

-- each is a byte
abbrev pub Bytes : List ℕ → Type 0
Bytes [] = Unit {0}
Bytes (x ∷ xs) = (x < 256) × Bytes xs

-- ---- "header numbers are big-endian"; "a little-endian u64"

-- the number that bytes are, the first the highest, and the k bytes of v, the highest first
abbrev pub be : List ℕ → ℕ
be [] = 0
be (x ∷ xs) = x * 256 ^ length xs + be xs

abbrev pub to_be : ℕ → ℕ → List ℕ
to_be zero v = []
to_be (suc k) v = v / 256 ^ k % 256 ∷ to_be k v

-- the same with the lowest first
abbrev pub le : List ℕ → ℕ
le bs = be (reverse bs)

abbrev pub to_le : ℕ → ℕ → List ℕ
to_le k v = reverse (to_be k v)

-- ---- "Here an id is page × 65,536 + slot."

abbrev pub id_of : ℕ → ℕ → ℕ
id_of p k = p * 65536 + k

abbrev pub page_no : ℕ → ℕ
page_no i = i / 65536

abbrev pub slot_no : ℕ → ℕ
slot_no i = i % 65536

-- ---- maps from numbers

-- f, but x at k
abbrev pub upd {ℓ} : {A : Type ℓ} → (ℕ → A) → ℕ → A → ℕ → A
upd f k x j = cond (eqb j k) x (f j)

-- the test passes at each number below n; the sum of f below n
abbrev pub all : ℕ → (ℕ → Bool) → Bool
all zero f = true
all (suc n) f = f n && all n f

abbrev pub sum : ℕ → (ℕ → ℕ) → ℕ
sum zero f = 0
sum (suc n) f = f n + sum n f

-- ---- of lists and tests

-- x is one of a list
abbrev pub In : {A : Type 0} → A → List A → Type 0
In x [] = ⊥
In x (y ∷ ys) = (x ≡ y) ⊎ In x ys

-- 1 where a test passes
abbrev pub one : Bool → ℕ
one b = cond b 1 0
