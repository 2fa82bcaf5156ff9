-- Masks of a word, and the marks of a run of bytes.
use Prim.Native.Nat.{ℕ, zero, suc, ◌+◌, ◌-◌, ◌*◌, ◌/◌, ◌%◌, ◌^◌, ◌<◌, ◌≤◌, min, max}
use mathlib.Core.Path.{◌≡◌, refl, sym, ap, subst, ◌∙◌}
use mathlib.Core.Bool.{Bool, true}
use mathlib.Core.List.{List}
use native.Mathlib.Omega.{arith}
use native.Mathlib.Nat.{pow-suc, one-mul, min-zero, min-eq_left, zero-min, max-zero, max-eq_right}
use native.Mathlib.Decide.{dec_lt, dec_le, ℕ_discrete}
use lib.Bits.{bit_and, bit_or}
use lib.Pow.{pow_pos, high, shl_exact, high_ones, pow_mono}
use lib.ListN.{length, get_or, set, replicate, length-replicate, get_or-replicate, get_or-eq_default}
use lib.Seq.{get_or-set_same, get_or-set_other}
use Rattle.page_check.specs.Bits.{bit_zero, bit_one, no_bits, bit_and_lem, bit_or_lem}
use Rattle.page_check.specs.Fit.{Tells}
use Rattle.page_check.specs.Map.{bit, Mask, mark, Blank, Clear, Claimed, Claims}

-- ---- masks

mask_within : (a b j : ℕ) → a ≤ j → j < b → bit j (2 ^ b - 2 ^ a) ≡ 1
unfolding bit
mask_within a zero j h l = absurd (omega arith)
mask_within zero (suc b) zero h l = rw pow-suc (omega (arith, pow_pos b))
mask_within zero (suc b) (suc j) h l =
    let e : (2 ^ b * 2 - 1) / 2 ≡ 2 ^ b - 1 = omega (arith, pow_pos b) in
    rw (pow-suc, e) (mask_within zero b j (omega arith) (omega arith))
mask_within (suc a) (suc b) zero h l = absurd (omega arith)
mask_within (suc a) (suc b) (suc j) h l =
    let e : (2 ^ b * 2 - 2 ^ a * 2) / 2 ≡ 2 ^ b - 2 ^ a = omega arith in
    rw (pow-suc 2 b, pow-suc 2 a, e) (mask_within a b j (omega arith) (omega arith))

mask_outside : (a b j : ℕ) → (a ≤ j → j < b → ⊥) → bit j (2 ^ b - 2 ^ a) ≡ 0
unfolding bit
mask_outside a zero j f = let e : 2 ^ 0 - 2 ^ a ≡ 0 = omega (arith, pow_pos a) in ap (bit j) e ∙ bit_zero j
mask_outside zero (suc b) zero f = absurd (f (omega arith) (omega arith))
mask_outside zero (suc b) (suc j) f =
    let e : (2 ^ b * 2 - 1) / 2 ≡ 2 ^ b - 1 = omega (arith, pow_pos b) in
    rw (pow-suc, e) (mask_outside zero b j (λ h l. f (omega arith) (omega arith)))
mask_outside (suc a) (suc b) zero f = rw (pow-suc 2 b, pow-suc 2 a) (omega arith)
mask_outside (suc a) (suc b) (suc j) f =
    let e : (2 ^ b * 2 - 2 ^ a * 2) / 2 ≡ 2 ^ b - 2 ^ a = omega arith in
    rw (pow-suc 2 b, pow-suc 2 a, e) (mask_outside a b j (λ h l. f (omega arith) (omega arith)))

pub mask_of : (m a b : ℕ) → m ≡ 2 ^ b - 2 ^ a → Mask m a b
mask_of m a b e = rw e (record { within = mask_within a b; outside = mask_outside a b })

pub mask_and : (m k a b c : ℕ) → Mask m a b → Mask k 0 c → c ≤ b → Mask (bit_and m k) a c
mask_and m k a b c x y h = record {
  within = λ j f g. rw (bit_and_lem j m k, x.within j f (omega arith), y.within j (omega arith) g);
  outside = λ j f. bit_and_lem j m k ∙ go j f (dec_le a j);
}
  where
    go : (j : ℕ) → (a ≤ j → j < c → ⊥) → Dec (a ≤ j) → min (bit j m) (bit j k) ≡ 0
    go j f (yes g) = ap (min (bit j m)) (y.outside j (λ _ l. f g l)) ∙ min-zero (bit j m)
    go j f (no g) = ap (λ (z : ℕ). min z (bit j k)) (x.outside j (λ l _. g l)) ∙ zero-min (bit j k)

-- the masks as the code makes them
pub ones_shr : (b : ℕ) → b ≤ 64 → (2 ^ 64 - 1) / 2 ^ (64 - b) ≡ 2 ^ b - 1
ones_shr b h = go (64 - b) (omega arith)
  where
    go : (k : ℕ) → b + k ≡ 64 → (2 ^ 64 - 1) / 2 ^ k ≡ 2 ^ b - 1
    go k e =
        let f : 2 ^ 64 - 1 ≡ (2 ^ b - 1) * 2 ^ k + (2 ^ k - 1) =
        subst (λ (x : ℕ). 2 ^ x - 1 ≡ (2 ^ b - 1) * 2 ^ k + (2 ^ k - 1)) e
        (omega (arith, high_ones b k, pow_pos k, pow_mono {i = k} {j = b + k} (omega arith))) in
        rw f (high (2 ^ b - 1) k (omega (arith, pow_pos k)))

pub one_shl : (a : ℕ) → a < 64 → (1 * 2 ^ a) % 2 ^ 64 ≡ 2 ^ a
one_shl a h = shl_exact {a = 1} 1 a 64 (omega arith) (omega arith) ∙ one-mul (2 ^ a)

-- ---- one word

module _ (u : List ℕ) (i a b m : ℕ) (mask : Mask m a b) (top : b ≤ 64) (inside : i < length u) where
  pub word_clear : Clear u (64 * i + a) (64 * i + b) → bit_and (get_or u i 0) m ≡ 0
  unfolding mark
  word_clear h = no_bits (bit_and (get_or u i 0) m) (bit_and (get_or u i 0) m) (omega arith)
      (λ j. bit_and_lem j (get_or u i 0) m ∙ go j (dec_le a j) (dec_lt j b))
    where
      go : (j : ℕ) → Dec (a ≤ j) → Dec (j < b) → min (bit j (get_or u i 0)) (bit j m) ≡ 0
      go j (yes f) (yes g) =
          let e : (64 * i + j) / 64 ≡ i = omega arith in
          let q : (64 * i + j) % 64 ≡ j = omega arith in
          let z : bit j (get_or u i 0) ≡ 0 = rw (e, q) at (h (64 * i + j) (omega arith) (omega arith)) in
          rw z (zero-min (bit j m))
      go j (yes f) (no g) = ap (min (bit j (get_or u i 0))) (mask.outside j (λ _ l. g l)) ∙ min-zero (bit j (get_or u i 0))
      go j (no f) g = ap (min (bit j (get_or u i 0))) (mask.outside j (λ l _. f l)) ∙ min-zero (bit j (get_or u i 0))

  pub claimed_word : bit_and (get_or u i 0) m ≡ 0 → Claimed u (set u i (bit_or (get_or u i 0) m)) (64 * i + a) (64 * i + b)
  unfolding mark
  claimed_word h = record { clear = clear; taken = taken; keeps = λ x f. keeps x f (ℕ_discrete (x / 64) i) }
    where
      within : (x : ℕ) → 64 * i + a ≤ x → x < 64 * i + b → bit (x % 64) m ≡ 1
      within x f g = mask.within (x % 64) (omega arith) (omega arith)

      new : (x : ℕ) → x / 64 ≡ i → get_or (set u i (bit_or (get_or u i 0) m)) (x / 64) 0 ≡ bit_or (get_or u i 0) m
      new x e = rw e (get_or-set_same u i (bit_or (get_or u i 0) m) 0 inside)

      clear : (x : ℕ) → 64 * i + a ≤ x → x < 64 * i + b → bit (x % 64) (get_or u (x / 64) 0) ≡ 0
      clear x f g =
          let e : x / 64 ≡ i = omega arith in
          let z : min (bit (x % 64) (get_or u i 0)) 1 ≡ 0 =
          rw (← within x f g) (sym (bit_and_lem (x % 64) (get_or u i 0) m) ∙ ap (bit (x % 64)) h ∙ bit_zero (x % 64)) in
          rw e (sym (min-eq_left (bit_one (x % 64) (get_or u i 0))) ∙ z)

      taken : (x : ℕ) → 64 * i + a ≤ x → x < 64 * i + b → bit (x % 64) (get_or (set u i (bit_or (get_or u i 0) m)) (x / 64) 0) ≡ 1
      taken x f g =
          let e : x / 64 ≡ i = omega arith in
          rw (new x e, bit_or_lem (x % 64) (get_or u i 0) m, within x f g) (max-eq_right (bit_one (x % 64) (get_or u i 0)))

      keeps : (x : ℕ) → (64 * i + a ≤ x → x < 64 * i + b → ⊥) → Dec (x / 64 ≡ i)
          → bit (x % 64) (get_or (set u i (bit_or (get_or u i 0) m)) (x / 64) 0) ≡ bit (x % 64) (get_or u (x / 64) 0)
      keeps x f (yes e) =
          let z : bit (x % 64) m ≡ 0 = mask.outside (x % 64) (λ p q. f (omega arith) (omega arith)) in
          ap (bit (x % 64)) (new x e) ∙ bit_or_lem (x % 64) (get_or u i 0) m ∙ ap (max (bit (x % 64) (get_or u i 0))) z ∙ max-zero (bit (x % 64) (get_or u i 0))
          ∙ ap (λ (y : ℕ). bit (x % 64) (get_or u y 0)) (sym e)
      keeps x f (no e) = ap (bit (x % 64)) (get_or-set_other u i (x / 64) (bit_or (get_or u i 0) m) 0 e)

-- ---- a run of bytes

pub claimed_none : (u : List ℕ) (o e : ℕ) → e ≤ o → Claimed u u o e
claimed_none u o e h = record { clear = λ i f g. absurd (omega arith); taken = λ i f g. absurd (omega arith); keeps = λ i f. refl }

claimed_join : (u v w : List ℕ) (o m e : ℕ) → o ≤ m → m ≤ e → Claimed u v o m → Claimed v w m e → Claimed u w o e
claimed_join u v w o m e p q s t = record {
  clear = λ i f g. clear i f g (dec_lt i m);
  taken = λ i f g. taken i f g (dec_lt i m);
  keeps = λ i f. t.keeps i (λ a b. f (omega arith) b) ∙ s.keeps i (λ a b. f a (omega arith));
}
  where
    clear : (i : ℕ) → o ≤ i → i < e → Dec (i < m) → mark u i ≡ 0
    clear i f g (yes l) = s.clear i f l
    clear i f g (no l) = sym (s.keeps i (λ a b. l b)) ∙ t.clear i (omega arith) g

    taken : (i : ℕ) → o ≤ i → i < e → Dec (i < m) → mark w i ≡ 1
    taken i f g (yes l) = t.keeps i (λ a b. omega arith) ∙ s.taken i f l
    taken i f g (no l) = t.taken i (omega arith) g

-- the bytes from o on that are claimed so far, and those of one word more
pub claim_more : (u v w : List ℕ) (o e i a b m : ℕ) (r : Bool) → Mask m a b → b ≤ 64 → i < length v → o ≤ 64 * i + a → a ≤ b → 64 * i + b ≡ e
    → Claimed u v o (64 * i + a)
    → Tells r (bit_and (get_or v i 0) m ≡ 0) × (r ≡ true → w ≡ set v i (bit_or (get_or v i 0) m)) → Claims r (Clear u o e) u w o e
claim_more u v w o e i a b m r mask top inside p q at s t = record {
  tells = record {
    yes = λ x. (claimed x).clear;
    back = λ h. t.0.back (word_clear v i a b m mask top inside
        (λ x f g. s.keeps x (λ c d. omega arith) ∙ h x (omega arith) (omega arith)));
  };
  claimed = claimed;
}
  where
    claimed : r ≡ true → Claimed u w o e
    claimed x = rw (t.1 x, ← at) (claimed_join u v (set v i (bit_or (get_or v i 0) m)) o (64 * i + a) (64 * i + b) p (omega arith) s
        (claimed_word v i a b m mask top inside (t.0.yes x)))

-- words of zeros have no mark
pub blank_words : (n : ℕ) → Blank (replicate n 0)
unfolding mark
blank_words n i = go (dec_lt (i / 64) n)
  where
    go : Dec (i / 64 < n) → bit (i % 64) (get_or (replicate {A = ℕ} n 0) (i / 64) 0) ≡ 0
    go (yes h) = ap (bit (i % 64)) (get_or-replicate {A = ℕ} n (i / 64) 0 0 h) ∙ bit_zero (i % 64)
    go (no h) = ap (bit (i % 64)) (get_or-eq_default (replicate {A = ℕ} n 0) 0 {n = i / 64} (omega (arith, length-replicate {A = ℕ} n 0)))
        ∙ bit_zero (i % 64)

pub blank : Blank (replicate 256 0)
blank = blank_words 256
