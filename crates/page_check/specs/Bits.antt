-- Bits of a word: of none, of two words' common ones, and of those of either.
use Rattle.std.specs.Prelude.{ℕ, zero, suc, ◌/◌, ◌%◌, ◌≤◌, min, max, ◌≡◌, refl}
use Rattle.std.proofs.Common.{arith}
use Rattle.std.proofs.Math.Nat.{min-le_left, max-le}
use Rattle.std.specs.Int.Bits.{bit_and, bit_or, and_step, or_step}
use Rattle.page_check.specs.Map.{bit}

pub bit_zero : (j : ℕ) → bit j 0 ≡ 0
unfolding bit
bit_zero zero = refl
bit_zero (suc j) = bit_zero j

pub bit_one : (j x : ℕ) → bit j x ≤ 1
unfolding bit
bit_one zero x = omega arith
bit_one (suc j) x = bit_one j (x / 2)

-- a number of which no bit is set
pub no_bits : (n x : ℕ) → x ≤ n → ((j : ℕ) → bit j x ≡ 0) → x ≡ 0
unfolding bit
no_bits zero x h f = omega arith
no_bits (suc n) x h f = let q : x / 2 ≡ 0 = no_bits n (x / 2) (omega arith) (λ j. f (suc j)) in omega (arith, f 0)

pub bit_and_lem : (j x y : ℕ) → bit j (bit_and x y) ≡ min (bit j x) (bit j y)
unfolding bit
bit_and_lem zero x y = omega (arith, and_step x y, min-le_left (x % 2) (y % 2))
bit_and_lem (suc j) x y =
    let e : bit_and x y / 2 ≡ bit_and (x / 2) (y / 2) = omega (arith, and_step x y, min-le_left (x % 2) (y % 2)) in
    rw e (bit_and_lem j (x / 2) (y / 2))

pub bit_or_lem : (j x y : ℕ) → bit j (bit_or x y) ≡ max (bit j x) (bit j y)
unfolding bit
bit_or_lem zero x y =
    let m : max (x % 2) (y % 2) ≤ 1 = max-le (omega arith) (omega arith) in
    omega (arith, or_step x y, m)
bit_or_lem (suc j) x y =
    let m : max (x % 2) (y % 2) ≤ 1 = max-le (omega arith) (omega arith) in
    let e : bit_or x y / 2 ≡ bit_or (x / 2) (y / 2) = omega (arith, or_step x y, m) in
    rw e (bit_or_lem j (x / 2) (y / 2))
