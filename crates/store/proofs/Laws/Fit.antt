-- A record at another size: its bytes as far as both sizes go, and zeros behind.
use Rattle.std.specs.Prelude.{ℕ, zero, suc, ◌+◌, ◌-◌, ◌≤◌, ◌<◌, ◌≡◌, refl, List, [], ◌∷◌, ◌++◌, length, take, drop, get_or}
use Rattle.std.proofs.Common.{ap, ◌∙◌, append_assoc, append-nil, arith, length-append, length-take, length-drop, drop_of_length-le, take_all, take-add}
use Rattle.std.proofs.Math.Decide.{dec_lt}
use Rattle.std.proofs.lemmas.List.{length-replicate, replicate-append-replicate}
use Rattle.store.specs.Numbers.{zeros, fit}

pub length_fit : (n : ℕ) (bs : List ℕ) → length (fit n bs) ≡ n
length_fit n bs = simp (length-append, length-take, length-replicate) (omega arith)

-- ---- shorter, longer, of no bytes, and as it is

pub fit_cut : (n : ℕ) (bs : List ℕ) → n ≤ length bs → fit n bs ≡ take n bs
fit_cut n bs h = let e : n - length bs ≡ 0 = omega arith in rw e (append-nil (take n bs))

pub fit_filled : (n : ℕ) (bs : List ℕ) → length bs ≤ n → fit n bs ≡ bs ++ zeros (n - length bs)
fit_filled n bs h = ap (λ (l : List ℕ). l ++ zeros (n - length bs)) (take_all n bs h)

pub fit_none : (n : ℕ) → fit n [] ≡ zeros n
fit_none n = let e : n - 0 ≡ n = omega arith in fit_filled n [] (omega arith) ∙ ap zeros e

pub fit_all : (bs : List ℕ) → fit (length bs) bs ≡ bs
fit_all bs = fit_cut (length bs) bs (omega arith) ∙ take_all (length bs) bs (omega arith)

-- at a size of a + b: the first a bytes, and then the rest at size b
pub fit_add : (a b : ℕ) (bs : List ℕ) → fit (a + b) bs ≡ fit a bs ++ fit b (drop a bs)
fit_add a b bs = go (dec_lt (length bs) a)
  where
    go : Dec (length bs < a) → fit (a + b) bs ≡ fit a bs ++ fit b (drop a bs)
    go (yes h) =
        let e : a + b - length bs ≡ (a - length bs) + b = omega arith in
        fit_filled (a + b) bs (omega arith)
        ∙ rw (
          e,
          ← replicate-append-replicate {A = ℕ} (a - length bs) b 0,
          fit_filled a bs (omega arith),
          drop_of_length-le bs {i = a} (omega arith),
          fit_none b,
          append_assoc,
        )
    go (no h) =
        let e : b - (length bs - a) ≡ a + b - length bs = omega arith in
        rw (take-add a b bs, fit_cut a bs (omega arith), append_assoc, length-drop, e)

-- ---- byte by byte

get_zeros : (m k : ℕ) → get_or (zeros m) k 0 ≡ 0
get_zeros zero k = refl
get_zeros (suc m) zero = refl
get_zeros (suc m) (suc k) = get_zeros m k

fit_suc : (n b : ℕ) (bs : List ℕ) → fit (suc n) (b ∷ bs) ≡ b ∷ fit n bs
fit_suc n b bs = let e : suc n - suc (length bs) ≡ n - length bs = omega arith in rw e

pub fit_kept : (n : ℕ) (bs : List ℕ) (k : ℕ) → k < n → k < length bs → get_or (fit n bs) k 0 ≡ get_or bs k 0
fit_kept zero bs k h l = absurd (omega arith)
fit_kept (suc n) [] k h l = absurd (omega arith)
fit_kept (suc n) (b ∷ bs) zero h l = refl
fit_kept (suc n) (b ∷ bs) (suc k) h l = ap (λ (r : List ℕ). get_or r (suc k) 0) (fit_suc n b bs) ∙ fit_kept n bs k (omega arith) (omega arith)

pub fit_added : (n : ℕ) (bs : List ℕ) (k : ℕ) → length bs ≤ k → get_or (fit n bs) k 0 ≡ 0
fit_added zero bs k h = get_zeros (0 - length bs) k
fit_added (suc n) [] k h = get_zeros (suc n - 0) k
fit_added (suc n) (b ∷ bs) zero h = absurd (omega arith)
fit_added (suc n) (b ∷ bs) (suc k) h = ap (λ (r : List ℕ). get_or r (suc k) 0) (fit_suc n b bs) ∙ fit_added n bs k (omega arith)
