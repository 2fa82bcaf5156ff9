-- Words of 64 tests: which bits are set, and how many. And the bits of a power, of a word's other bits, and of two words that are one.
use Rattle.std.specs.Prelude.{ℕ, zero, suc, ◌+◌, ◌-◌, ◌*◌, ◌/◌, ◌%◌, ◌^◌, ◌<◌, ◌≡◌, refl, Bool, true, false, ◌⊎◌, eqb}
use Rattle.std.proofs.Common.{ap₂, ◌∙◌, inl, inr, arith}
use Rattle.std.specs.Int.Bits.{block_half, block_odd}
use Rattle.std.specs.Int.Count.{ones, ones-ones}
use Rattle.std.proofs.lemmas.Nat.{ones_cat}
use Rattle.std.proofs.Math.Dec.{eqb-zero-suc, eqb-suc-zero, eqb-suc-suc}
use Rattle.store.specs.Numbers.{sum, one}
use Rattle.store.proofs.Laws.Cases.{eq_or_ne}
use Rattle.page_check.specs.Map.{bit}
use Rattle.page_check.specs.Bits.{bit_zero}
use Rattle.polishing.specs.Polishing.{word}

-- ---- n tests as one number

abbrev packed : ℕ → (ℕ → Bool) → ℕ
packed n f = sum n (λ j. one (f j) * 2 ^ j)

ones_one : (b : Bool) → ones (one b) ≡ one b
ones_one true = ones-ones 1
ones_one false = ones-ones 0

odd : (b : Bool) → one b % 2 ≡ one b
odd true = refl
odd false = refl

packed_lt : (n : ℕ) (f : ℕ → Bool) → packed n f < 2 ^ n
packed_lt zero f = omega arith
packed_lt (suc n) f = go (f n) (packed_lt n f)
  where
    go : (b : Bool) → packed n f < 2 ^ n → one b * 2 ^ n + packed n f < 2 ^ suc n
    go true h = omega arith
    go false h = omega arith

ones_packed : (n : ℕ) (f : ℕ → Bool) → ones (packed n f) ≡ sum n (λ j. one (f j))
ones_packed zero f = ones-ones 0
ones_packed (suc n) f = ones_cat n (one (f n)) (packed n f) (packed_lt n f) ∙ ap₂ (λ (x y : ℕ). x + y) (ones_one (f n)) (ones_packed n f)

-- bits below k, and bit k, of a number of which r is the k low bits
bit_low : (k a r j : ℕ) → j < k → bit j (a * 2 ^ k + r) ≡ bit j r
unfolding bit
bit_low zero a r j h = absurd (omega arith)
bit_low (suc k) a r zero h = block_odd a k r
bit_low (suc k) a r (suc j) h = rw (block_half a k r) (bit_low k a (r / 2) j (omega arith))

bit_top : (k a r : ℕ) → r < 2 ^ k → bit k (a * 2 ^ k + r) ≡ a % 2
unfolding bit
bit_top zero a r h = omega arith
bit_top (suc k) a r h = rw (block_half a k r) (bit_top k a (r / 2) (omega arith))

bit_packed : (n : ℕ) (f : ℕ → Bool) (j : ℕ) → j < n → bit j (packed n f) ≡ one (f j)
bit_packed zero f j h = absurd (omega arith)
bit_packed (suc n) f j h = go (bit_packed n f j) (eq_or_ne j n)
  where
    go : (j < n → bit j (packed n f) ≡ one (f j)) → (j ≡ n) ⊎ (j ≡ n → ⊥) → bit j (packed (suc n) f) ≡ one (f j)
    go ih (inl e) = rw e (bit_top n (one (f n)) (packed n f) (packed_lt n f) ∙ odd (f n))
    go ih (inr q) = bit_low n (one (f n)) (packed n f) j (omega arith) ∙ ih (omega arith)

-- ---- the word of a window: its bits, and how many of the window are in w

module _ (w : ℕ → Bool) (i : ℕ) where
  pub word_lt : word w i < 2 ^ 64
  word_lt = packed_lt 64 (λ j. w (64 * i + j))

  pub bit_word : (j : ℕ) → j < 64 → bit j (word w i) ≡ one (w (64 * i + j))
  bit_word = bit_packed 64 (λ j. w (64 * i + j))

  pub ones_word : ones (word w i) ≡ sum 64 (λ j. one (w (64 * i + j)))
  ones_word = ones_packed 64 (λ j. w (64 * i + j))

-- ---- bits of a power, and of all others

pub bit_pow : (j k : ℕ) → bit j (2 ^ k) ≡ one (eqb j k)
unfolding bit
bit_pow zero zero = refl
bit_pow zero (suc k) = rw (eqb-zero-suc k) (omega arith)
bit_pow (suc j) zero = rw (eqb-suc-zero j) (bit_zero j)
bit_pow (suc j) (suc k) = let e : 2 ^ suc k / 2 ≡ 2 ^ k = omega arith in rw (eqb-suc-suc j k, e) (bit_pow j k)

bit_rest : (n j x : ℕ) → j < n → x < 2 ^ n → bit j (2 ^ n - 1 - x) ≡ 1 - bit j x
unfolding bit
bit_rest zero j x h l = absurd (omega arith)
bit_rest (suc n) zero x h l = omega arith
bit_rest (suc n) (suc j) x h l =
    let e : (2 ^ suc n - 1 - x) / 2 ≡ 2 ^ n - 1 - x / 2 = omega arith in
    rw e (bit_rest n j (x / 2) (omega arith) (omega arith))

-- every bit but those of x
abbrev pub others : ℕ → ℕ
others x = 2 ^ 64 - 1 - x

pub bit_others : (j x : ℕ) → j < 64 → x < 2 ^ 64 → bit j (others x) ≡ 1 - bit j x
bit_others = bit_rest 64

-- ---- two numbers of n bits with the same bits

pub same_bits : (n x y : ℕ) → x < 2 ^ n → y < 2 ^ n → ((j : ℕ) → j < n → bit j x ≡ bit j y) → x ≡ y
unfolding bit
same_bits zero x y h l f = omega arith
same_bits (suc n) x y h l f =
    let q : x / 2 ≡ y / 2 = same_bits n (x / 2) (y / 2) (omega arith) (omega arith) (λ j g. f (suc j) (omega arith)) in
    let r : x % 2 ≡ y % 2 = f 0 (omega arith) in
    omega arith
