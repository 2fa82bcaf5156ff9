-- Laws of `put` and `cut`, and of numbers as bytes. All that is known of a page after a write follows from these. And: what is one of a list.
use Rattle.std.specs.Prelude.{ℕ, zero, suc, ◌+◌, ◌-◌, ◌*◌, ◌/◌, ◌%◌, ◌^◌, ◌≤◌, ◌<◌}
use Rattle.std.specs.Prelude.{◌≡◌, refl, List, [], ◌∷◌, ◌++◌, length, take, drop, set, get_or, ◌⊎◌}
use Rattle.std.proofs.Common.{sym, ap, ◌∙◌, not-suc-le-zero, zero-add, suc-add, add-mul, mul_assoc, mul_comm, pow-suc, arith, length-drop, drop-drop}
use Rattle.std.proofs.Common.{take-add, take_all, take-take, drop-cons, length-take-le, inl, inr, ⊎_elim}
use Rattle.std.proofs.lemmas.List.{reverse-reverse, length-reverse, take-append-le, drop-append-le}
use Rattle.std.proofs.Math.Nat.{div-div-eq-div-mul, div-eq_of_lt}
use Rattle.std.proofs.Math.Arith.{digits_lt, digits_div, digits_mod}
use borrow.Rule.Slice.PartMut.{put_mid, put_same}
use Rattle.store.specs.Numbers.{cut, put, Bytes, be, to_be, le, to_le, In}

pub length_put : (p : List ℕ) (i : ℕ) (vs : List ℕ) → length (put p i vs) ≡ length p
length_put [] i vs = refl
length_put (x ∷ p) (suc i) vs = ap suc (length_put p i vs)
length_put (x ∷ p) zero [] = refl
length_put (x ∷ p) zero (v ∷ vs) = ap suc (length_put p zero vs)

-- below what is written
pub take_put : (p : List ℕ) (i : ℕ) (vs : List ℕ) (m : ℕ) → m ≤ i → take m (put p i vs) ≡ take m p
take_put p i vs zero h = refl
take_put [] i vs (suc m) h = refl
take_put (x ∷ p) zero vs (suc m) h = absurd (not-suc-le-zero h)
take_put (x ∷ p) (suc i) vs (suc m) h = ap {B = List ℕ} (λ r. x ∷ r) (take_put p i vs m (omega arith))

pub cut_before : (p : List ℕ) (i : ℕ) (vs : List ℕ) (j m : ℕ) → j + m ≤ i → cut (put p i vs) j m ≡ cut p j m
cut_before p i vs zero m h = take_put p i vs m (omega arith)
cut_before [] i vs (suc j) m h = refl
cut_before (x ∷ p) zero vs (suc j) m h = absurd (omega arith)
cut_before (x ∷ p) (suc i) vs (suc j) m h = cut_before p i vs j m (omega arith)

-- above what is written
pub drop_put : (p : List ℕ) (i : ℕ) (vs : List ℕ) (j : ℕ) → i + length vs ≤ j → drop j (put p i vs) ≡ drop j p
drop_put [] i vs j h = refl
drop_put (x ∷ p) (suc i) vs zero h = absurd (omega arith)
drop_put (x ∷ p) (suc i) vs (suc j) h = drop_put p i vs j (omega arith)
drop_put (x ∷ p) zero [] j h = refl
drop_put (x ∷ p) zero (v ∷ vs) zero h = absurd (omega arith)
drop_put (x ∷ p) zero (v ∷ vs) (suc j) h = drop_put p zero vs j (omega arith)

pub cut_after : (p : List ℕ) (i : ℕ) (vs : List ℕ) (j m : ℕ) → i + length vs ≤ j → cut (put p i vs) j m ≡ cut p j m
cut_after p i vs j m h = ap (take m) (drop_put p i vs j h)

-- what is written
put_zero : (p vs : List ℕ) → length vs ≤ length p → put p zero vs ≡ vs ++ drop (length vs) p
put_zero [] [] h = refl
put_zero [] (v ∷ vs) h = absurd (not-suc-le-zero h)
put_zero (x ∷ p) [] h = refl
put_zero (x ∷ p) (v ∷ vs) h = ap {B = List ℕ} (λ r. v ∷ r) (put_zero p vs (omega arith))

drop_at_put : (p : List ℕ) (i : ℕ) (vs : List ℕ) → drop i (put p i vs) ≡ put (drop i p) zero vs
drop_at_put p zero vs = refl
drop_at_put [] (suc i) vs = refl
drop_at_put (x ∷ p) (suc i) vs = drop_at_put p i vs

pub cut_in : (p : List ℕ) (i : ℕ) (vs : List ℕ) (j m : ℕ) → j + m ≤ length vs → i + length vs ≤ length p → cut (put p i vs) (i + j) m ≡ cut vs j m
cut_in p i vs j m h f =
    let g : length vs ≤ length (drop i p) = simp length-drop (omega arith) in
    let a : j ≤ length vs = omega arith in
    let b : m ≤ length (drop j vs) = simp length-drop (omega arith) in
    ap (take m) (sym (drop-drop j i (put p i vs)) ∙ ap (drop j) (drop_at_put p i vs ∙ put_zero (drop i p) vs g)
    ∙ drop-append-le j vs (drop (length vs) (drop i p)) a)
    ∙ take-append-le m (drop j vs) (drop (length vs) (drop i p)) b

-- ---- a part of a part

pub cut_take : (p : List ℕ) (n j m : ℕ) → j + m ≤ n → cut (take n p) j m ≡ cut p j m
cut_take p n zero m h = take-take m n p (omega arith)
cut_take [] zero (suc j) m h = absurd (omega arith)
cut_take [] (suc n) (suc j) m h = refl
cut_take (x ∷ p) zero (suc j) m h = absurd (omega arith)
cut_take (x ∷ p) (suc n) (suc j) m h = cut_take p n j m (omega arith)

pub cut_cut : (p : List ℕ) (i n j m : ℕ) → j + m ≤ n → cut (cut p i n) j m ≡ cut p (i + j) m
cut_cut p i n j m h = cut_take (drop i p) n j m h ∙ ap (take m) (drop-drop j i p)

pub cut_add : (p : List ℕ) (i n m : ℕ) → cut p i (n + m) ≡ cut p i n ++ cut p (i + n) m
cut_add p i n m = take-add n m (drop i p) ∙ ap (λ (q : List ℕ). cut p i n ++ take m q) (drop-drop n i p)

take-nil : (n : ℕ) → ◌≡◌ {A = List ℕ} (take n []) []
take-nil zero = refl
take-nil (suc n) = refl

drop_take : (k m : ℕ) (l : List ℕ) → drop k (take m l) ≡ take (m - k) (drop k l)
drop_take zero m l = let e : m - 0 ≡ m = omega arith in rw e
drop_take (suc k) zero l = let e : 0 - suc k ≡ 0 = omega arith in rw e
drop_take (suc k) (suc m) [] = sym (take-nil (suc m - suc k))
drop_take (suc k) (suc m) (x ∷ l) = let e : suc m - suc k ≡ m - k = omega arith in rw e (drop_take k m l)

pub cut_drop : (p : List ℕ) (i n k : ℕ) → drop k (cut p i n) ≡ cut p (i + k) (n - k)
cut_drop p i n k = drop_take k n (drop i p) ∙ ap (take (n - k)) (drop-drop k i p)

-- ---- numbers as bytes, at every width

pub length_to_be : (k v : ℕ) → length (to_be k v) ≡ k
length_to_be zero v = refl
length_to_be (suc k) v = ap suc (length_to_be k v)

parts : (k v : ℕ) → be (to_be k v) + v / 256 ^ k * 256 ^ k ≡ v
parts zero v = omega arith
parts (suc k) v =
    let b : ℕ = 256 ^ k in
    let q : ℕ = v / b in
    let e : v / 256 ^ suc k * 256 ^ suc k ≡ q / 256 * 256 * b =
    rw (pow-suc, ← div-div-eq-div-mul) (ap (λ (x : ℕ). q / 256 * x) (mul_comm b 256) ∙ sym (mul_assoc (q / 256) 256 b)) in
    let s : q % 256 + q / 256 * 256 ≡ q = omega arith in
    let f : q % 256 * b + q / 256 * 256 * b ≡ q * b = sym (add-mul (q % 256) (q / 256 * 256) b) ∙ ap (λ (x : ℕ). x * b) s in
    rw (length_to_be k v) (omega (arith, parts k v))

pub be_to_be : (k : ℕ) {v : ℕ} → v < 256 ^ k → be (to_be k v) ≡ v
be_to_be k {v} h = omega (arith, rw (div-eq_of_lt h) at (parts k v))

pub length_to_le : (k v : ℕ) → length (to_le k v) ≡ k
length_to_le k v = length-reverse (to_be k v) ∙ length_to_be k v

pub le_to_le : (k : ℕ) {v : ℕ} → v < 256 ^ k → le (to_le k v) ≡ v
le_to_le k {v} h = ap be (reverse-reverse (to_be k v)) ∙ be_to_be k h

-- ---- equally many bytes with one number are the same

pub bytes_all : (p : List ℕ) → ((i : ℕ) → get_or p i 0 < 256) → Bytes p
bytes_all [] f = tt
bytes_all (x ∷ p) f = (f 0, bytes_all p (λ i. f (suc i)))

pub bytes_take : (n : ℕ) (p : List ℕ) → Bytes p → Bytes (take n p)
bytes_take zero p b = tt
bytes_take (suc n) [] b = tt
bytes_take (suc n) (x ∷ p) b = (b.0, bytes_take n p b.1)

pub bytes_drop : (n : ℕ) (p : List ℕ) → Bytes p → Bytes (drop n p)
bytes_drop zero p b = b
bytes_drop (suc n) [] b = tt
bytes_drop (suc n) (x ∷ p) b = bytes_drop n p b.1

pub bytes_cut : (p : List ℕ) (i n : ℕ) → Bytes p → Bytes (cut p i n)
bytes_cut p i n b = bytes_take n (drop i p) (bytes_drop i p b)

pub bytes_to_be : (k v : ℕ) → Bytes (to_be k v)
bytes_to_be zero v = tt
bytes_to_be (suc k) v = (omega arith, bytes_to_be k v)

pub be_less : (xs : List ℕ) → Bytes xs → be xs < 256 ^ length xs
be_less [] b = omega arith
be_less (x ∷ xs) b = rw (pow-suc, mul_comm (256 ^ length xs) 256) (digits_lt b.0 (be_less xs b.1))

pub be_same : (xs ys : List ℕ) → length xs ≡ length ys → Bytes xs → Bytes ys → be xs ≡ be ys → xs ≡ ys
be_same [] [] l a b e = refl
be_same [] (y ∷ ys) l a b e = absurd (omega arith)
be_same (x ∷ xs) [] l a b e = absurd (omega arith)
be_same (x ∷ xs) (y ∷ ys) l a b e =
    let n : length ys ≡ length xs = omega arith in
    let m : ℕ = 256 ^ length xs in
    let f : x * m + be xs ≡ y * m + be ys = e ∙ ap (λ (k : ℕ). y * 256 ^ k + be ys) n in
    let r : be xs < m = be_less xs a.1 in
    let s : be ys < m = rw n at (be_less ys b.1) in
    let g : x ≡ y = sym (digits_div x r) ∙ ap (λ (k : ℕ). k / m) f ∙ digits_div y s in
    let h : be xs ≡ be ys = sym (digits_mod x r) ∙ ap (λ (k : ℕ). k % m) f ∙ digits_mod y s in
    λ i. g i ∷ be_same xs ys (sym n) a.1 b.1 h i

-- ---- what a write leaves as it was, and what it leaves

pub put_nil : (p : List ℕ) (i : ℕ) → put p i [] ≡ p
put_nil [] i = refl
put_nil (x ∷ p) zero = refl
put_nil (x ∷ p) (suc i) = ap {B = List ℕ} (λ r. x ∷ r) (put_nil p i)

pub cut_apart : (p : List ℕ) (i : ℕ) (vs : List ℕ) (j m : ℕ) → (0 < length vs → 0 < m → (j + m ≤ i) ⊎ (i + length vs ≤ j)) → cut (put p i vs) j m ≡ cut p j m
cut_apart p i vs j zero h = refl
cut_apart p i [] j (suc m) h = ap (λ (q : List ℕ). cut q j (suc m)) (put_nil p i)
cut_apart p i (v ∷ vs) j (suc m) h = go (h (omega arith) (omega arith))
  where
    go : (j + suc m ≤ i) ⊎ (i + length (v ∷ vs) ≤ j) → cut (put p i (v ∷ vs)) j (suc m) ≡ cut p j (suc m)
    go (inl a) = cut_before p i (v ∷ vs) j (suc m) a
    go (inr b) = cut_after p i (v ∷ vs) j (suc m) b

pub cut_same : (p : List ℕ) (i : ℕ) (vs : List ℕ) (n : ℕ) → length vs ≡ n → i + n ≤ length p → cut (put p i vs) i n ≡ vs
cut_same p i vs n e f =
    let a : i + 0 ≡ i = omega arith in
    let b : 0 + n ≤ length vs = omega arith in
    let c : i + length vs ≤ length p = omega arith in
    ap (λ (k : ℕ). cut (put p i vs) k n) (sym a) ∙ cut_in p i vs 0 n b c ∙ take_all n vs (omega arith)

-- one byte of what a write does not reach
pub get_d_put : (p : List ℕ) (i : ℕ) (vs : List ℕ) (j : ℕ) → (j < i) ⊎ (i + length vs ≤ j) → get_or (put p i vs) j 0 ≡ get_or p j 0
get_d_put [] i vs j h = refl
get_d_put (x ∷ p) (suc i) vs zero h = refl
get_d_put (x ∷ p) (suc i) vs (suc j) (inl h) = get_d_put p i vs j (inl (omega arith))
get_d_put (x ∷ p) (suc i) vs (suc j) (inr h) = get_d_put p i vs j (inr (omega arith))
get_d_put (x ∷ p) zero [] j h = refl
get_d_put (x ∷ p) zero (v ∷ vs) zero (inl h) = absurd (omega arith)
get_d_put (x ∷ p) zero (v ∷ vs) zero (inr h) = absurd (omega arith)
get_d_put (x ∷ p) zero (v ∷ vs) (suc j) (inl h) = absurd (omega arith)
get_d_put (x ∷ p) zero (v ∷ vs) (suc j) (inr h) = get_d_put p zero vs j (inr (omega arith))

-- ---- against the code's single stores and loads

pub put_set : (p : List ℕ) (i v : ℕ) (vs : List ℕ) → put p i (v ∷ vs) ≡ put (set p i v) (suc i) vs
put_set [] i v vs = refl
put_set (x ∷ p) zero v vs = refl
put_set (x ∷ p) (suc i) v vs = ap {B = List ℕ} (λ r. x ∷ r) (put_set p i v vs)

pub set_put : (p : List ℕ) (i v : ℕ) → set p i v ≡ put p i (v ∷ [])
set_put p i v = sym (put_set p i v [] ∙ put_nil (set p i v) (suc i))

pub cut_cons : (p : List ℕ) (i n : ℕ) → i < length p → cut p i (suc n) ≡ get_or p i 0 ∷ cut p (suc i) n
cut_cons p i n h = ap (take (suc n)) (drop-cons p i 0 h)

-- a part lent and given back: what the caller finds around it
pub put_parts : (p : List ℕ) (i : ℕ) (vs : List ℕ) → i + length vs ≤ length p → put p i vs ≡ take i p ++ (vs ++ drop (i + length vs) p)
put_parts p zero vs h = rw zero-add (put_zero p vs (omega arith))
put_parts [] (suc i) vs h = absurd (omega arith)
put_parts (x ∷ p) (suc i) vs h = rw suc-add (ap {B = List ℕ} (λ r. x ∷ r) (put_parts p i vs (omega arith)))

-- the same, as the borrow checker says it
pub lent : (p : List ℕ) (a e : ℕ) (vs : List ℕ) → a ≤ e → e ≤ length p → length vs ≡ e - a → put_mid a (e - a) p vs ≡ put p a vs
lent p a e vs h g n =
    let k : a + (e - a) ≡ a + length vs = omega arith in
    ap (λ (z : List ℕ). take a p ++ (vs ++ z)) (drop-drop (e - a) a p ∙ ap (λ (m : ℕ). drop m p) k) ∙ sym (put_parts p a vs (omega arith))

-- what stands there, written again
pub put_own : (p : List ℕ) (i n : ℕ) → i + n ≤ length p → put p i (cut p i n) ≡ p
put_own p i n h =
    let k : i + n - i ≡ n = omega arith in
    let l : length (cut p i n) ≡ i + n - i = length-take-le n (drop i p) (rw length-drop (omega arith)) ∙ sym k in
    sym (lent p i (i + n) (cut p i n) (omega arith) h l) ∙ ap (λ (m : ℕ). put_mid i m p (cut p i n)) k ∙ put_same i n p

-- ---- two writes

-- the second covers the first
pub put_over : (p : List ℕ) (i : ℕ) (a b : List ℕ) → length a ≤ length b → put (put p i a) i b ≡ put p i b
put_over [] i a b h = refl
put_over (x ∷ p) (suc i) a b h = ap {B = List ℕ} (λ r. x ∷ r) (put_over p i a b h)
put_over (x ∷ p) zero [] b h = refl
put_over (x ∷ p) zero (y ∷ a) [] h = absurd (omega arith)
put_over (x ∷ p) zero (y ∷ a) (z ∷ b) h = ap {B = List ℕ} (λ r. z ∷ r) (put_over p zero a b (omega arith))

-- one lies below the other: in either order
pub put_swap : (p : List ℕ) (i j : ℕ) (a b : List ℕ) → i + length a ≤ j → put (put p j b) i a ≡ put (put p i a) j b
put_swap [] i j a b h = refl
put_swap (x ∷ p) (suc i) zero a b h = absurd (omega arith)
put_swap (x ∷ p) (suc i) (suc j) a b h = ap {B = List ℕ} (λ r. x ∷ r) (put_swap p i j a b (omega arith))
put_swap (x ∷ p) zero j [] b h = put_nil (put (x ∷ p) j b) 0
put_swap (x ∷ p) zero zero (y ∷ a) b h = absurd (omega arith)
put_swap (x ∷ p) zero (suc j) (y ∷ a) b h = ap {B = List ℕ} (λ r. y ∷ r) (put_swap p zero j a b (omega arith))

-- ---- one of two lists end to end

module _ {A : Type 0} (x : A) where
  pub in_either : (l m : List A) → In x (l ++ m) → In x l ⊎ In x m
  in_either [] m h = inr h
  in_either (y ∷ l) m (inl e) = inl (inl e)
  in_either (y ∷ l) m (inr h) = ⊎_elim (λ a. inl (inr a)) (λ b. inr b) (in_either l m h)

  pub in_left : (l m : List A) → In x l → In x (l ++ m)
  in_left [] m h = absurd h
  in_left (y ∷ l) m (inl e) = inl e
  in_left (y ∷ l) m (inr h) = inr (in_left l m h)

  pub in_right : (l m : List A) → In x m → In x (l ++ m)
  in_right [] m h = h
  in_right (y ∷ l) m h = inr (in_right l m h)
