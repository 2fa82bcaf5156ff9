-- Two inventories that say the same have the same bytes.
use Prim.Native.Nat.{ℕ, ◌+◌, ◌-◌, ◌*◌, ◌/◌, ◌%◌, ◌≤◌, ◌<◌}
use mathlib.Core.Path.{◌≡◌, refl, sym, ap, ◌∙◌, subst}
use mathlib.Core.Bool.{Bool, true, false}
use mathlib.Core.List.{List, [], ◌∷◌, reverse, reverse_aux, reverse-reverse}
use native.Mathlib.Omega.{arith}
use lib.ListN.{length, take, drop, get_or, length-drop, length-reverse}
use lib.Seq.{get_or-take, get_or-drop, drop-drop, ext_get_or, length-take-le}
use lib.Dec.{eqb}
use borrow.Author.Tests.{eq-eqb, eqb-true}
use Rattle.std.proofs.Common.{nat_eq}
use Rattle.std.specs.Cmp.Lexicographic.{pointwise, same_text, other_text}
use Rattle.store.specs.Numbers.{cut, same_bytes, Bytes, le, all}
use Rattle.store.specs.Inventory.{entry_at}
use Rattle.store.specs.Repair.{same_inv}
use Rattle.store.proofs.Laws.Cases.{lt_or_le}
use Rattle.store.proofs.Laws.SoundPage.{and_both, and_in, all_at, all_in}
use Rattle.store.proofs.Laws.Numbers.{bytes_take, bytes_drop, be_same}
use Rattle.store.proofs.Laws.RepairInventory.{same_is, same_own}
use mathlib.Core.Logic.{◌⊎◌, inl, inr}

-- ---- turned round

bytes_turned : (l r : List ℕ) → Bytes l → Bytes r → Bytes (reverse_aux l r)
bytes_turned [] r a b = b
bytes_turned (x ∷ l) r a b = bytes_turned l (x ∷ r) a.1 (a.0, b)

le_same : (xs ys : List ℕ) → length xs ≡ length ys → Bytes xs → Bytes ys → le xs ≡ le ys → xs ≡ ys
le_same xs ys l a b e =
    let r = be_same (reverse xs) (reverse ys) (length-reverse xs ∙ l ∙ sym (length-reverse ys)) (bytes_turned xs [] a tt) (bytes_turned ys [] b tt) e in
    sym (reverse-reverse xs) ∙ ap reverse r ∙ reverse-reverse ys

-- ---- eight bytes as a number

abbrev pub word : List ℕ → ℕ → ℕ
word v k = le (cut v (8 * k) 8)

module _ (v w : List ℕ) (lv : length v ≡ 16384) (lw : length w ≡ 16384) where
  cut_words : Bytes v → Bytes w → (k : ℕ) → k < 2048 → word v k ≡ word w k → cut v (8 * k) 8 ≡ cut w (8 * k) 8
  cut_words a b k m e =
      le_same (cut v (8 * k) 8) (cut w (8 * k) 8)
      (length-take-le 8 (drop (8 * k) v) (rw length-drop (omega arith)) ∙ sym (length-take-le 8 (drop (8 * k) w) (rw length-drop (omega arith))))
      (bytes_take 8 (drop (8 * k) v) (bytes_drop (8 * k) v a)) (bytes_take 8 (drop (8 * k) w) (bytes_drop (8 * k) w b)) e

  byte_in : (u : List ℕ) (x : ℕ) → get_or u x 0 ≡ get_or (cut u (8 * (x / 8)) 8) (x % 8) 0
  byte_in u x =
      let e : 8 * (x / 8) + x % 8 ≡ x = omega arith in
      sym (get_or-take 8 (drop (8 * (x / 8)) u) (x % 8) 0 (omega arith) ∙ get_or-drop (8 * (x / 8)) u (x % 8) 0 ∙ ap (λ (i : ℕ). get_or u i 0) e)

  all_words : Bytes v → Bytes w → ((k : ℕ) → k < 2048 → word v k ≡ word w k) → v ≡ w
  all_words a b f = ext_get_or 0 v w (lv ∙ sym lw) each
    where
      each : (x : ℕ) → x < length v → get_or v x 0 ≡ get_or w x 0
      each x l = byte_in v x ∙ ap (λ (q : List ℕ). get_or q (x % 8) 0) (cut_words a b (x / 8) (omega arith) (f (x / 8) (omega arith))) ∙ sym (byte_in w x)

  same_self : same_inv v v ≡ true
  unfolding same_inv
  same_self =
      and_in (all 15 (λ c. eqb (entry_at v c) (entry_at v c))) (same_bytes (drop 120 v) (drop 120 v))
      (all_in 15 (λ c. eqb (entry_at v c) (entry_at v c)) (λ c m. eq-eqb (entry_at v c) (entry_at v c) refl)) (same_own (drop 120 v))

  -- each number is equal: it is an entry, or it lies behind the entries
  one_word : same_inv v w ≡ true → (k : ℕ) → word v k ≡ word w k
  unfolding same_inv entry_at
  one_word e k =
      let b = and_both (all 15 (λ c. eqb (entry_at v c) (entry_at w c))) (same_bytes (drop 120 v) (drop 120 w)) e in
      go b.0 (same_is (drop 120 v) (drop 120 w) b.1) (lt_or_le k 15)
    where
      behind : (u : List ℕ) → 15 ≤ k → drop (8 * k) u ≡ drop (8 * k - 120) (drop 120 u)
      behind u l = let e : 120 + (8 * k - 120) ≡ 8 * k = omega arith in sym (drop-drop (8 * k - 120) 120 u ∙ ap (λ (i : ℕ). drop i u) e)

      go : all 15 (λ c. eqb (entry_at v c) (entry_at w c)) ≡ true → drop 120 v ≡ drop 120 w → (k < 15) ⊎ (15 ≤ k) → word v k ≡ word w k
      go a d (inl l) = eqb-true (entry_at v k) (entry_at w k) (all_at 15 (λ c. eqb (entry_at v c) (entry_at w c)) a k l)
      go a d (inr l) = ap (λ (q : List ℕ). le (take 8 q)) (behind v l ∙ ap (drop (8 * k - 120)) d ∙ sym (behind w l))

  -- the bytes as they stand say it
  pub same_by : Bytes v → Bytes w → (b : Bool) → b ≡ pointwise nat_eq v w → b ≡ same_inv v w
  same_by a b true e = sym (subst (λ (u : List ℕ). same_inv v u ≡ true) (same_text v w e) same_self)
  same_by a b false e = go (same_inv v w) refl
    where
      go : (c : Bool) → same_inv v w ≡ c → false ≡ c
      go true f = absurd (other_text v w e (all_words a b (λ k m. one_word f k)))
      go false f = refl
