-- Records on the map: what is marked is just the bytes of some of them.
use Prim.Native.Nat.{ℕ, ◌+◌, ◌≤◌, ◌<◌}
use mathlib.Core.Path.{◌≡◌, ◌∙◌}
use mathlib.Core.List.{List}
use mathlib.Core.Logic.{◌⊎◌, inl, inr}
use native.Mathlib.Omega.{arith}
use native.Mathlib.Decide.{dec_lt, dec_le}
use Rattle.store.specs.Slots.{off, len}
use Rattle.store.specs.Page.{View}
use Rattle.store.specs.Laws.Edits.{Apart}
use Rattle.store.specs.declared.Slot.{Slot}
use Rattle.page_check.specs.Fit.{Runs}
use Rattle.page_check.specs.Map.{mark, Blank, Clear, Claimed, Covers, Marked}

pub marked_none : (v : View) (P : ℕ → Type 0) (u : List ℕ) → Blank u → ((j : ℕ) → P j → ⊥) → Marked v P u
marked_none v P u b f = record { taken = λ i j h. absurd (f j h); idle = λ i g. b i }

-- a slot below the next one is below this one or is it
pub below_next : (j k : ℕ) → j < k + 1 → (j < k) ⊎ (j ≡ k)
below_next j k h = go (dec_lt j k)
  where
    go : Dec (j < k) → (j < k) ⊎ (j ≡ k)
    go (yes l) = inl l
    go (no l) = inr (omega arith)

-- two records have a byte in common just if they are not apart
common : (s t : Slot) (i : ℕ) → Apart s t → Covers s i → Covers t i → ⊥
common s t i a c d = go (a (omega arith) (omega arith))
  where
    go : (off s + len s ≤ off t) ⊎ (off t + len t ≤ off s) → ⊥
    go (inl h) = omega arith
    go (inr h) = omega arith

no_common : (s t : Slot) → ((i : ℕ) → Covers s i → Covers t i → ⊥) → Apart s t
no_common s t f p q = go (dec_le (off s + len s) (off t)) (dec_le (off t + len t) (off s)) (dec_le (off s) (off t))
  where
    go : Dec (off s + len s ≤ off t) → Dec (off t + len t ≤ off s) → Dec (off s ≤ off t) → (off s + len s ≤ off t) ⊎ (off t + len t ≤ off s)
    go (yes a) b c = inl a
    go (no a) (yes b) c = inr b
    go (no a) (no b) (yes c) = absurd (f (off t) (c, omega arith) (omega arith, omega arith))
    go (no a) (no b) (no c) = absurd (f (off s) (omega arith, omega arith) (omega arith, omega arith))

module _ (v : View) (P : ℕ → Type 0) (k low o l : ℕ) (u : List ℕ) (m : Marked v P u) (run : Runs (v.at k) low o l) where
  covered : (i : ℕ) → o ≤ i → i < o + l → Covers (v.at k) i
  covered i f g = let e = run.start (omega arith) in (omega arith, omega (arith, run.size))

  covering : (i : ℕ) → Covers (v.at k) i → (o ≤ i) × (i < o + l)
  covering i c = let e = run.start (omega (arith, run.size)) in (omega arith, omega (arith, run.size))

  -- Q are those in P and k
  pub marked_more : (Q : ℕ → Type 0) → ((j : ℕ) → Q j → P j ⊎ (j ≡ k)) → ((j : ℕ) → P j → Q j) → Q k → (w : List ℕ) → Claimed u w o (o + l) → Marked v Q w
  marked_more Q out old new w c = record {
    taken = λ i j h x. taken i j x (out j h);
    idle = λ i f. c.keeps i (λ a b. f k new (covered i a b)) ∙ m.idle i (λ j h. f j (old j h));
  }
    where
      kept : (i : ℕ) → mark u i ≡ 1 → Dec (o ≤ i) → Dec (i < o + l) → mark w i ≡ 1
      kept i e (yes a) (yes b) = c.taken i a b
      kept i e (yes a) (no b) = c.keeps i (λ _ y. b y) ∙ e
      kept i e (no a) b = c.keeps i (λ x _. a x) ∙ e

      taken : (i j : ℕ) → Covers (v.at j) i → P j ⊎ (j ≡ k) → mark w i ≡ 1
      taken i j x (inl h) = kept i (m.taken i j h x) (dec_le o i) (dec_lt i (o + l))
      taken i j x (inr e) = let y = covering i (rw e at x) in c.taken i y.0 y.1

  -- a run that was clear is apart from the records before, and one apart from them is clear
  pub apart_before : Clear u o (o + l) → (j : ℕ) → P j → Apart (v.at j) (v.at k)
  apart_before c j h = no_common (v.at j) (v.at k) (λ i x y. let z = covering i y in omega (arith, m.taken i j h x, c i z.0 z.1))

  pub clear_apart : ((j : ℕ) → P j → Apart (v.at j) (v.at k)) → Clear u o (o + l)
  clear_apart a i f g = m.idle i (λ j h x. common (v.at j) (v.at k) i (a j h) x (covered i f g))
