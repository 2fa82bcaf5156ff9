-- The leaves' numbers against `be` and `to_be`.
use mathlib.Core.Path.{◌≡◌, refl, sym, ap, ◌∙◌}
use mathlib.Core.List.{List, [], ◌∷◌, ◌++◌, append-nil}
use Prim.Native.Nat.{ℕ, zero, suc, ◌+◌, ◌-◌, ◌*◌, ◌/◌, ◌%◌, ◌^◌, ◌≤◌}
use native.Mathlib.Nat.{div-one, mul_assoc, add-mul, zero-add, suc-add}
use native.Mathlib.Omega.{arith}
use native.Mathlib.Numerals.{towards_suc}
use lib.ListN.{length, take, drop, get_or, length-append, drop_of_length-le}
use lib.Pow.{pow-add}
use lib.Seq.{take_all}
use borrow.Rule.Slice.PartMut.{put_mid}
use Rattle.std.specs.Int.{w64, byte_at, bytes_high_first, to_be_bytes, from_be_bytes}
use Rattle.store.specs.Numbers.{cut, put, zeros, be, to_be}
use Rattle.store.proofs.Laws.Numbers.{cut_cons, cut_add, length_put, length_to_be, lent, put_parts}
use Rattle.store.proofs.Laws.Writes.{length_cut}

pub num4 : (at : ℕ) (p : List ℕ) → at + 4 ≤ length p
    → be (cut p at 4) ≡ ((get_or p at 0 * 256 + get_or p (at + 1) 0) * 256 + get_or p (at + 2) 0) * 256 + get_or p (at + 3) 0
num4 at p h =
    rw (
      cut_cons p at 3 (omega arith),
      cut_cons p (suc at) 2 (omega arith),
      cut_cons p (suc (suc at)) 1 (omega arith),
      cut_cons p (suc (suc (suc at))) 0 (omega arith),
    )
    (simp towards_suc (omega arith))

-- eight bytes are four and four
be_append : (a b : List ℕ) → be (a ++ b) ≡ be a * 256 ^ length b + be b
be_append [] b = omega arith
be_append (x ∷ a) b =
    let e : 256 ^ length (a ++ b) ≡ 256 ^ length a * 256 ^ length b = ap (λ (n : ℕ). 256 ^ n) (length-append a b) ∙ pow-add 256 (length a) (length b) in
    let f : x * (256 ^ length a * 256 ^ length b) ≡ x * 256 ^ length a * 256 ^ length b = sym (mul_assoc x (256 ^ length a) (256 ^ length b)) in
    let g : (x * 256 ^ length a + be a) * 256 ^ length b ≡ x * 256 ^ length a * 256 ^ length b + be a * 256 ^ length b =
    add-mul (x * 256 ^ length a) (be a) (256 ^ length b) in
    rw e (omega (arith, be_append a b))

pub num8 : (at : ℕ) (p : List ℕ) → at + 8 ≤ length p → be (cut p at 8) ≡ be (cut p at 4) * 4294967296 + be (cut p (at + 4) 4)
num8 at p h =
    let e : cut p at 8 ≡ cut p at 4 ++ cut p (at + 4) 4 = cut_add p at 4 4 in
    ap be e ∙ be_append (cut p at 4) (cut p (at + 4) 4)
    ∙ ap (λ (n : ℕ). be (cut p at 4) * 256 ^ n + be (cut p (at + 4) 4)) (length_cut p (at + 4) 4 (omega arith))

-- ---- as the library reads them: a number's eight bytes, zeros before the n that were copied

be_zeros : (m k : ℕ) → be (take k (zeros m)) ≡ 0
be_zeros m zero = refl
be_zeros zero (suc k) = refl
be_zeros (suc m) (suc k) = omega (arith, be_zeros m k)

from_be_8 : (bs : List ℕ) → length bs ≡ 8 → from_be_bytes w64 bs ≡ be bs
from_be_8 bs e =
    let whole : be (cut bs 0 8) ≡ be bs = ap be (take_all 8 bs (omega arith)) in
    omega (arith, whole, num8 0 bs (omega arith), num4 0 bs (omega arith), num4 4 bs (omega arith))

pub from_be : (n : ℕ) (bs : List ℕ) → n ≤ 8 → length bs ≡ n → from_be_bytes w64 (put_mid (8 - n) (8 - (8 - n)) (zeros 8) bs) ≡ be bs
from_be n bs h e =
    let q : List ℕ = put (zeros 8) (8 - n) bs in
    let front : List ℕ = take (8 - n) (zeros 8) in
    let behind : drop (8 - n + length bs) (zeros 8) ≡ [] = drop_of_length-le (zeros 8) (omega arith) in
    let parts : q ≡ front ++ bs =
    put_parts (zeros 8) (8 - n) bs (omega arith) ∙ ap (λ (r : List ℕ). front ++ (bs ++ r)) behind ∙ ap (λ (r : List ℕ). front ++ r) (append-nil bs) in
    ap (from_be_bytes w64) (lent (zeros 8) (8 - n) 8 bs (omega arith) (omega arith) (omega arith))
    ∙ from_be_8 q (length_put (zeros 8) (8 - n) bs) ∙ ap be parts ∙ be_append front bs
    ∙ rw (be_zeros 8 (8 - n)) (omega arith)

-- ---- and as it writes them

byte : (k v : ℕ) → byte_at k v ≡ v / 256 ^ k % 256
byte zero v = simp div-one
byte (suc k) v = refl

lib_to_be : (k v : ℕ) → bytes_high_first k v ≡ to_be k v
lib_to_be zero v = refl
lib_to_be (suc k) v = rw (byte k v, lib_to_be k v) refl

lowest : (d n v : ℕ) → drop d (to_be (d + n) v) ≡ to_be n v
lowest zero n v = rw zero-add refl
lowest (suc d) n v = rw suc-add (lowest d n v)

-- the lowest n of a number's eight bytes
pub to_be_lowest : (n v : ℕ) → n ≤ 8 → cut (to_be_bytes w64 v) (8 - n) (8 - (8 - n)) ≡ to_be n v
to_be_lowest n v h =
    let e : 8 ≡ 8 - n + n = omega arith in
    let low : drop (8 - n) (to_be_bytes w64 v) ≡ to_be n v = ap (drop (8 - n)) (lib_to_be 8 v ∙ ap (λ (k : ℕ). to_be k v) e) ∙ lowest (8 - n) n v in
    rw low (take_all (8 - (8 - n)) (to_be n v) (omega (arith, length_to_be n v)))
