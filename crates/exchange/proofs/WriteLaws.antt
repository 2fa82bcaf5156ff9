-- Writing: what is written so far and what is left to be written give the whole; and the four stores of a reading.
use Prim.Native.Nat.{ℕ, suc, ◌+◌, ◌-◌, ◌≤◌}
use mathlib.Core.Path.{◌≡◌, refl, sym, ap, ◌∙◌}
use mathlib.Core.List.{List, [], ◌∷◌, ◌++◌}
use native.Mathlib.Omega.{arith}
use lib.ListN.{length, drop, set, length-append}
use lib.Seq.{take-take}
use Rattle.store.specs.Numbers.{cut, put, to_be}
use Rattle.store.proofs.Laws.Numbers.{length_put, length_to_be, put_nil, put_set, cut_drop}
use Rattle.store.proofs.Laws.Writes.{write_append, length_cut}
use Rattle.exchange.specs.Exchange.{file_record}

-- ---- what is left

-- from the place f₀, where w is to be written at `at₀`: the place is f now, and r is left to be written at `at`
pub record Left (f₀ : List ℕ) (at₀ : ℕ) (w f : List ℕ) (at : ℕ) (r : List ℕ) : Type 0 where
  pub long : length f ≡ length f₀
  pub room : at + length r ≡ at₀ + length w
  pub gives : put f at r ≡ put f₀ at₀ w

module _ (f₀ : List ℕ) (at₀ : ℕ) (w : List ℕ) where
  pub left_all : (r : List ℕ) → w ≡ r → Left f₀ at₀ w f₀ at₀ r
  left_all r e = record { long = refl; room = omega (arith, ap length e); gives = ap (put f₀ at₀) (sym e) }

  module _ (f : List ℕ) (at : ℕ) (r : List ℕ) (h : Left f₀ at₀ w f at r) where
    -- the next is written
    pub left_next : (a t : List ℕ) → r ≡ a ++ t → (n : ℕ) → length a ≡ n → (g : List ℕ) → g ≡ put f at a → (to : ℕ) → to ≡ at + n → Left f₀ at₀ w g to t
    left_next a t e n l g i to j =
        let k : to ≡ at + length a = omega arith in
        record {
          long = ap length i ∙ length_put f at a ∙ h.long;
          room = omega (arith, ap length e, length-append a t, h.room);
          gives = (λ x. put (i x) (k x) t) ∙ sym (write_append at a t f) ∙ ap (put f at) (sym e) ∙ h.gives;
        }

    -- nothing is left
    pub left_none : r ≡ [] → (f ≡ put f₀ at₀ w) × (at ≡ at₀ + length w)
    left_none e = (sym (put_nil f at) ∙ ap (put f at) (sym e) ∙ h.gives, omega (arith, ap length e, h.room))

-- ---- a reading

-- mark, head, length and data, one after the other
module _ (p : List ℕ) (o n : ℕ) (headed : 8 ≤ n) (within : o + n ≤ length p) where
  reading_is : file_record (cut p o n) ≡ 82 ∷ 84 ∷ (cut p o 8 ++ (to_be 2 (n - 8) ++ cut p (o + 8) (n - 8)))
  reading_is =
      let l = length_cut p o n within in
      λ i. 82 ∷ 84 ∷ (take-take 8 n (drop o p) headed i ++ (to_be 2 (l i - 8) ++ cut_drop p o n 8 i))

  pub reading_written : (f : List ℕ) (at : ℕ) (head tail : List ℕ) → head ≡ cut p o 8 → tail ≡ cut p (o + 8) (n - 8)
      → put (put (put (set (set f at 82) (at + 1) 84) (at + 2) head) (at + 10) (to_be 2 (n - 8))) (at + 12) tail ≡ put f at (file_record (cut p o n))
  reading_written f at head tail e d =
      let size = to_be 2 (n - 8) in
      let g = set (set f at 82) (at + 1) 84 in
      let i : at + 1 ≡ suc at = omega arith in
      let j : at + 2 ≡ suc (suc at) = omega arith in
      let lh : length head ≡ 8 = ap length e ∙ length_cut p o 8 (omega arith) in
      let a : at + 2 + length head ≡ at + 10 = omega arith in
      let b : at + 10 + length size ≡ at + 12 = omega (arith, length_to_be 2 (n - 8)) in
      sym (
      ap (put f at) reading_is
      ∙ put_set f at 82 (84 ∷ (cut p o 8 ++ (size ++ cut p (o + 8) (n - 8))))
      ∙ put_set (set f at 82) (suc at) 84 (cut p o 8 ++ (size ++ cut p (o + 8) (n - 8)))
      ∙ (λ x. put (set (set f at 82) (sym i x) 84) (sym j x) (sym e x ++ (size ++ sym d x)))
      ∙ write_append (at + 2) head (size ++ tail) g
      ∙ ap (λ (k : ℕ). put (put g (at + 2) head) k (size ++ tail)) a
      ∙ write_append (at + 10) size tail (put g (at + 2) head)
      ∙ ap (λ (k : ℕ). put (put (put g (at + 2) head) (at + 10) size) k tail) b
      )
