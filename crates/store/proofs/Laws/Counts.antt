-- Two lists without a repeated id, each the list of a book: they have the same entries, each as often, but for the ids where the books differ.
use Rattle.std.specs.Prelude.{ℕ, ◌+◌, ◌≤◌, ◌≡◌, refl, Bool, true, false, not, ◌&&◌, List, [], ◌∷◌, ◌≢◌, eqb}
use Rattle.std.proofs.Common.{sym, ap, ◌∙◌, subst, inl, inr, ⊎_elim, arith, eq-eqb, eqb-true}
use Rattle.std.proofs.lemmas.Bool.{eqb-false, not-true}
use Rattle.store.specs.Numbers.{same_bytes, In, one}
use Rattle.store.specs.Records.{Entry, rows_in, OnceEach, count_if, times}
use Rattle.store.specs.Book.{Row, absent, row, Book, Lists, count_row, times_row}
use Rattle.store.proofs.Laws.SoundPage.{and_both}
use Rattle.store.proofs.Laws.Book.{row_one, row_not}

-- ---- a list without one of its entries

pub less : {A : Type 0} (x : A) (m : List A) → In x m → List A
less x [] h = []
less x (y ∷ m) (inl e) = m
less x (y ∷ m) (inr h) = y ∷ less x m h

pub less_count : {A : Type 0} (f : A → Bool) (x : A) (m : List A) (h : In x m) → count_if f m ≡ one (f x) + count_if f (less x m h)
unfolding less
less_count f x [] h = absurd h
less_count f x (y ∷ m) (inl e) = ap (λ z. one (f z) + count_if f m) (sym e)
less_count f x (y ∷ m) (inr h) = omega (arith, less_count f x m h)

less_in : (x y : Entry) (m : List Entry) (h : In x m) → In y m → y.id ≢ x.id → In y (less x m h)
unfolding less
less_in x y [] h k n = absurd h
less_in x y (z ∷ m) (inl e) (inl g) n = absurd (n (ap (λ (t : Entry). t.id) (g ∙ sym e)))
less_in x y (z ∷ m) (inl e) (inr k) n = k
less_in x y (z ∷ m) (inr h) (inl g) n = inl g
less_in x y (z ∷ m) (inr h) (inr k) n = inr (less_in x y m h k n)

-- what passes the test in the first is in the second
count_le : (f : Entry → Bool) (l m : List Entry) → OnceEach l → ((x : Entry) → In x l → f x ≡ true → In x m) → count_if f l ≤ count_if f m
count_le f [] m r g = omega arith
count_le f (x ∷ l) m r g = go (f x) refl (λ n h. count_le f l n r.1 h)
  where
    go : (b : Bool) → f x ≡ b → ((n : List Entry) → ((y : Entry) → In y l → f y ≡ true → In y n) → count_if f l ≤ count_if f n)
        → one b + count_if f l ≤ count_if f m
    go true e ih =
        let i : In x m = g x (inl refl) e in
        omega (arith, less_count f x m i, ap one e, ih (less x m i) (λ y h q. less_in x y m i (g y (inr h) q) (r.0 y h)))
    go false e ih = omega (arith, ih m (λ y h q. g y (inr h) q))

-- ---- by a book

-- the entries under i, and the others
abbrev at_id : ℕ → (Entry → Bool) → Entry → Bool
at_id i f x = eqb x.id i && f x

abbrev off_id : ℕ → (Entry → Bool) → Entry → Bool
off_id i f x = not (eqb x.id i) && f x

split : (i : ℕ) (f : Entry → Bool) (l : List Entry) → count_if f l ≡ count_if (at_id i f) l + count_if (off_id i f) l
split i f [] = refl
split i f (x ∷ l) = omega (arith, either (eqb x.id i) (f x), split i f l)
  where
    either : (a b : Bool) → one b ≡ one (a && b) + one (not a && b)
    either true true = refl
    either true false = refl
    either false true = refl
    either false false = refl

module _ (f : Entry → Bool) (b : Book) (l : List Entry) (h : Lists b l) (i : ℕ) where
  at_row : count_if (at_id i f) l ≡ count_row f i (b i)
  at_row = go (b i) refl
    where
      under : (x : Entry) → at_id i f x ≡ true → x.id ≡ i
      under x q = eqb-true x.id i (and_both (eqb x.id i) (f x) q).0

      go : (r : Row) → b i ≡ r → count_if (at_id i f) l ≡ count_row f i r
      go absent e =
          let z = count_le (at_id i f) l [] h.once (λ x k q. absurd (row_not x.bytes (sym e ∙ ap b (sym (under x q)) ∙ h.of x k))) in
          omega arith
      go (row bs) e =
          let y : Entry = record { id = i; bytes = bs } in
          let w : count_if (at_id i f) (y ∷ []) ≡ one (f y) = rw (eq-eqb i i refl) (omega arith) in
          let p = count_le (at_id i f) l (y ∷ []) h.once
          (λ x k q.
          let d : x.id ≡ i = under x q in
          let c : x.bytes ≡ bs = row_one x.bytes bs (sym (h.of x k) ∙ ap b d ∙ e) in
          inl (λ n. record { id = d n; bytes = c n })) in
          let q = count_le (at_id i f) (y ∷ []) l ((λ x k. absurd k), tt)
          (λ x k q. ⊎_elim (λ z. subst (λ (t : Entry). In t l) (sym z) (h.all i bs e)) (λ z. absurd z) k) in
          omega arith

off_in : (f : Entry → Bool) (b c : Book) (l m : List Entry) → Lists b l → Lists c m → (i : ℕ) → ((j : ℕ) → j ≢ i → c j ≡ b j)
    → (x : Entry) → In x l → off_id i f x ≡ true → In x m
off_in f b c l m h k i same x p q =
    let d = and_both (not (eqb x.id i)) (f x) q in
    k.all x.id x.bytes (same x.id (eqb-false x.id i (not-true (eqb x.id i) d.0)) ∙ h.of x p)

-- two books that differ at i at most
pub counts_by : (f : Entry → Bool) (b c : Book) (l m : List Entry) → Lists b l → Lists c m → (i : ℕ) → ((j : ℕ) → j ≢ i → c j ≡ b j)
    → count_if f m + count_row f i (b i) ≡ count_if f l + count_row f i (c i)
counts_by f b c l m h k i same =
    let p = count_le (off_id i f) l m h.once (off_in f b c l m h k i same) in
    let q = count_le (off_id i f) m l k.once (off_in f c b m l k h i (λ j n. sym (same j n))) in
    omega (arith, split i f l, split i f m, at_row f b l h i, at_row f c m k i)

-- ---- the rows without their ids

-- the entries with these bytes
abbrev pub holding : List ℕ → Entry → Bool
holding x e = same_bytes x e.bytes

pub times_count : (x : List ℕ) (es : List Entry) → times x (rows_in es) ≡ count_if (holding x) es
times_count x [] = refl
times_count x (e ∷ es) = ap (λ (n : ℕ). one (same_bytes x e.bytes) + n) (times_count x es)

pub row_count : (x : List ℕ) (i : ℕ) (r : Row) → count_row (holding x) i r ≡ times_row x r
row_count x i absent = refl
row_count x i (row bs) = refl
