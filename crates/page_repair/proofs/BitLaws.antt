-- One bit of a word, and whether a run of bits is clear.
use Prim.Native.Nat.{ℕ, zero, suc, ◌+◌, ◌*◌, ◌/◌, ◌%◌, ◌^◌, ◌≤◌, ◌<◌}
use mathlib.Core.Path.{◌≡◌, sym, ap, subst, ◌∙◌}
use mathlib.Core.List.{List}
use native.Mathlib.Omega.{arith}
use native.Mathlib.Nat.{pow-suc, pow-succ', div-div-eq-div-mul}
use native.Mathlib.Numerals.{add-one}
use native.Mathlib.Decide.{dec_lt}
use lib.Bits.{bit_and, bit_or}
use lib.ListN.{length, get_or, set}
use lib.Dec.{eqb}
use borrow.Author.Tests.{eq-eqb, eqb-true}
use Rattle.page_check.specs.Fit.{Tells}
use Rattle.page_check.specs.Map.{bit, Mask, mark, Clear, Claimed}
use Rattle.page_check.proofs.MapLaws.{mask_of, word_clear, claimed_word}

-- bit j by a shift
bit_shr : (j x : ℕ) → bit j x ≡ x / 2 ^ j % 2
unfolding bit
bit_shr zero x = omega arith
bit_shr (suc j) x = bit_shr j (x / 2) ∙ ap (λ (y : ℕ). y % 2) (div-div-eq-div-mul x 2 (2 ^ j) ∙ ap (λ (y : ℕ). x / y) (sym (pow-succ' 2 j)))

pub marked_is : (u : List ℕ) (i : ℕ) → Tells (eqb (get_or u (i / 64) 0 / 2 ^ (i % 64) % 2) 1) (mark u i ≡ 1)
unfolding mark
marked_is u i =
    let e = bit_shr (i % 64) (get_or u (i / 64) 0) in
    record { yes = λ q. e ∙ eqb-true _ 1 q; back = λ q. eq-eqb _ 1 (sym e ∙ q) }

-- one bit set
pub mark_set : (u : List ℕ) (i m : ℕ) → i / 64 < length u → m ≡ 2 ^ (i % 64) → Clear u i (i + 1)
    → Claimed u (set u (i / 64) (bit_or (get_or u (i / 64) 0) m)) i (i + 1)
mark_set u i m h e c =
    let mask = mask_of m (i % 64) (i % 64 + 1) (e ∙ omega (arith, ap (λ (x : ℕ). 2 ^ x) (add-one (i % 64)), pow-suc 2 (i % 64))) in
    let p : 64 * (i / 64) + i % 64 ≡ i = omega arith in
    let q : 64 * (i / 64) + (i % 64 + 1) ≡ i + 1 = omega arith in
    let z = word_clear u (i / 64) (i % 64) (i % 64 + 1) m mask (omega arith) h (λ x f g. c x (omega arith) (omega arith)) in
    let w = claimed_word u (i / 64) (i % 64) (i % 64 + 1) m mask (omega arith) h z in
    rw (p, q) at w

-- ---- a run, word by word

module _ (u : List ℕ) (o i a b m : ℕ) (mask : Mask m a b) (top : b ≤ 64) (inside : i < length u) where
  pub clear_more : a ≤ b → Clear u o (64 * i + a) → bit_and (get_or u i 0) m ≡ 0 → Clear u o (64 * i + b)
  clear_more p c e x f g = go (dec_lt x (64 * i + a))
    where
      go : Dec (x < 64 * i + a) → mark u x ≡ 0
      go (yes l) = c x f l
      go (no l) = (claimed_word u i a b m mask top inside e).clear x (omega arith) g

  pub not_clear : o ≤ 64 * i + a → (end : ℕ) → 64 * i + b ≤ end → (bit_and (get_or u i 0) m ≡ 0 → ⊥) → Clear u o end → ⊥
  not_clear p end q n c = n (word_clear u i a b m mask top inside (λ x f g. c x (omega arith) (omega arith)))

  -- the last word
  pub clear_word : (end : ℕ) → o ≤ 64 * i + a → a ≤ b → 64 * i + b ≡ end → Clear u o (64 * i + a) → Tells (eqb (bit_and (get_or u i 0) m) 0) (Clear u o end)
  clear_word end p q e c = record {
    yes = λ x. subst (Clear u o) e (clear_more q c (eqb-true (bit_and (get_or u i 0) m) 0 x));
    back = λ h. eq-eqb (bit_and (get_or u i 0) m) 0 (word_clear u i a b m mask top inside (λ x f g. h x (omega arith) (omega arith)));
  }
