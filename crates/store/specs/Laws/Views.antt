-- What contracts cite of proofs/Laws/Views.antt.
use Rattle.std.specs.Prelude.{ℕ, ◌+◌, ◌*◌, ◌≤◌, ◌<◌, ◌≡◌, true, false, ◌⊎◌, ◌≢◌, length}
use Rattle.store.specs.Numbers.{sum}
use Rattle.store.specs.Slots.{off, len, is_free, is_target}
use Rattle.store.specs.Page.{View}
use Rattle.store.specs.Laws.Slots.{Codable}
use Rattle.store.specs.Laws.Edits.{Apart}
use Rattle.store.specs.declared.Slot.TheVariants.{Free}

pub record Sound (v : View) : Type 0 where
  pub few : v.slot_count ≤ 2046
  pub first≤ : v.first_free ≤ v.slot_count
  pub first_is_free : v.at v.first_free ≡ Free
  pub lower : (j : ℕ) → j < v.first_free → is_free (v.at j) ≡ false
  pub dir : 12 + 8 * v.slot_count ≤ v.data_start
  pub start≤ : v.data_start ≤ 16384
  pub low : (j : ℕ) → 0 < len (v.at j) → v.data_start ≤ off (v.at j)
  pub high : (j : ℕ) → off (v.at j) + len (v.at j) ≤ 16384
  pub apart : (i j : ℕ) → i ≢ j → Apart (v.at i) (v.at j)
  pub targets : (j : ℕ) → is_target (v.at j) ≡ true → 8 ≤ len (v.at j)
  pub sums : v.free_space + 8 * v.slot_count + sum v.slot_count (λ j. len (v.at j)) ≡ 16372
  pub codable : (j : ℕ) → Codable (v.at j)
  pub past : (j : ℕ) → v.slot_count ≤ j → v.at j ≡ Free
  pub lens : (j : ℕ) → length (v.bytes j) ≡ len (v.at j)
  pub in_use : (0 < v.slot_count) ⊎ (v.data_start ≡ 16384)
