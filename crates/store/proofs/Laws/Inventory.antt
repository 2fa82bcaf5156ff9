-- Laws of the inventory's bytes: what is read after a write, there and elsewhere.
use Prim.Native.Nat.{ℕ, ◌+◌, ◌*◌, ◌/◌, ◌%◌, ◌^◌, ◌≤◌, ◌<◌}
use Rattle.std.specs.Prelude.{◌≡◌, length, get_or, set}
use Rattle.std.proofs.Common.{◌∙◌, sym, arith, get_or-set_other, eq-eqb, ne_eqb}
use Rattle.std.proofs.Math.Path.{ap}
use mathlib.Core.List.{List, [], ◌∷◌}
use Rattle.std.proofs.Math.Logic.{inl, inr, ⊎_elim}
use Rattle.std.proofs.Math.ListN.{length-set}
use Rattle.std.proofs.Math.Seq.{get_or-set_same}
use Rattle.store.specs.Numbers.{cut, le, to_le}
use Rattle.store.proofs.Laws.Numbers.{length_put, length_to_le, le_to_le, cut_same, cut_apart, get_d_put, set_put}
use Rattle.store.proofs.Laws.Cases.{lt_or_le, eq_or_ne}
use Rattle.store.specs.Inventory.{half_of, with_half, nibble_at, set_nibble, entry_at, set_entry}

-- ---- entries

module _ (s : List ℕ) (c v : ℕ) where
  written : length (to_le 8 v) ≡ 8
  written = length_to_le 8 v

  pub length_set_entry : length (set_entry s c v) ≡ length s
  unfolding set_entry
  length_set_entry = length_put s (8 * c) (to_le 8 v)

  pub entry_same : 8 * c + 8 ≤ length s → v < 2 ^ 64 → entry_at (set_entry s c v) c ≡ v
  unfolding set_entry entry_at
  entry_same h l = ap le (cut_same s (8 * c) (to_le 8 v) 8 written h) ∙ le_to_le 8 l

  pub entry_other : (d : ℕ) → (d ≡ c → ⊥) → entry_at (set_entry s c v) d ≡ entry_at s d
  unfolding set_entry entry_at
  entry_other d ne =
      ap le (cut_apart s (8 * c) (to_le 8 v) (8 * d) 8
      (λ a b. ⊎_elim (λ l. inl (omega arith)) (λ g. inr (omega (arith, written))) (lt_or_le d c)))

  -- a nibble behind the entries
  pub nibble_entry : (j : ℕ) → 8 * c + 8 ≤ j / 2 → nibble_at (set_entry s c v) j ≡ nibble_at s j
  unfolding set_entry nibble_at
  nibble_entry j h = ap (λ (b : ℕ). half_of b (j % 2)) (get_d_put s (8 * c) (to_le 8 v) (j / 2) (inr (omega (arith, written))))

-- ---- nibbles

half_same : (b h v : ℕ) → v < 16 → half_of (with_half b h v) h ≡ v
half_same b h v l = ⊎_elim (λ z. rw (eq-eqb h 0 z) (omega arith)) (λ n. rw (ne_eqb h 0 n) (omega arith)) (eq_or_ne h 0)

half_other : (b h i v : ℕ) → v < 16 → h < 2 → i < 2 → (i ≡ h → ⊥) → half_of (with_half b h v) i ≡ half_of b i
half_other b h i v l p q ne = ⊎_elim low high (eq_or_ne h 0)
  where
    low : h ≡ 0 → half_of (with_half b h v) i ≡ half_of b i
    low z = rw (eq-eqb h 0 z, ne_eqb i 0 (λ e. ne (e ∙ sym z))) (omega arith)

    high : (h ≡ 0 → ⊥) → half_of (with_half b h v) i ≡ half_of b i
    high n = rw (ne_eqb h 0 n, eq-eqb i 0 (omega arith)) (omega arith)

module _ (s : List ℕ) (j v : ℕ) where
  pub length_set_nibble : length (set_nibble s j v) ≡ length s
  unfolding set_nibble
  length_set_nibble = simp length-set

  pub nibble_same : j / 2 < length s → v < 16 → nibble_at (set_nibble s j v) j ≡ v
  unfolding set_nibble nibble_at
  nibble_same h l = rw get_or-set_same (half_same (get_or s (j / 2) 0) (j % 2) v l)

  pub nibble_other : j / 2 < length s → v < 16 → (k : ℕ) → (k ≡ j → ⊥) → nibble_at (set_nibble s j v) k ≡ nibble_at s k
  unfolding set_nibble nibble_at
  nibble_other h l k ne = ⊎_elim same (λ n. rw (get_or-set_other s (j / 2) (k / 2) byte 0 n)) (eq_or_ne (k / 2) (j / 2))
    where
      byte : ℕ
      byte = with_half (get_or s (j / 2) 0) (j % 2) v

      same : k / 2 ≡ j / 2 → half_of (get_or (set s (j / 2) byte) (k / 2) 0) (k % 2) ≡ half_of (get_or s (k / 2) 0) (k % 2)
      same e =
          rw (e, get_or-set_same s (j / 2) byte 0 h)
          (half_other (get_or s (j / 2) 0) (j % 2) (k % 2) v l (omega arith) (omega arith) (omega arith))

  -- an entry before the nibble
  pub entry_nibble : (c : ℕ) → 8 * c + 8 ≤ j / 2 → entry_at (set_nibble s j v) c ≡ entry_at s c
  unfolding set_nibble entry_at
  entry_nibble c h =
      let b : ℕ = with_half (get_or s (j / 2) 0) (j % 2) v in
      ap (λ (p : List ℕ). le (cut p (8 * c) 8)) (set_put s (j / 2) b) ∙ ap le (cut_apart s (j / 2) (b ∷ []) (8 * c) 8 (λ x y. inl h))
