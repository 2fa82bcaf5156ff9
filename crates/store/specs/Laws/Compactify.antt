-- What contracts cite of proofs/Laws/Compactify.antt.
use Rattle.std.specs.Prelude.{ℕ, ◌+◌, ◌≤◌, ◌<◌, ◌≡◌, true, List, [], ◌∷◌, ◌≢◌}
use Rattle.store.specs.Numbers.{sum}
use Rattle.store.specs.Slots.{off, len, is_record}
use Rattle.store.specs.Page.{View}
use Rattle.store.specs.Laws.Views.{Sound}

abbrev pub All : (ℕ → Type 0) → List ℕ → Type 0
All P [] = Unit {0}
All P (k ∷ ks) = P k × All P ks

abbrev pub Desc : View → List ℕ → Type 0
Desc v [] = Unit {0}
Desc v (k ∷ ks) = All (λ j. (j ≢ k) × (off (v.at j) ≤ off (v.at k))) ks × Desc v ks

abbrev pub lens_of : View → List ℕ → ℕ
lens_of v [] = 0
lens_of v (k ∷ ks) = len (v.at k) + lens_of v ks

pub record Packing (ks : List ℕ) (d : ℕ) (v : View) : Type 0 where
  pub sound : Sound v
  pub recs : All (λ k. is_record (v.at k) ≡ true) ks
  pub desc : Desc v ks
  pub under : All (λ k. off (v.at k) + len (v.at k) ≤ d) ks
  pub above : (j : ℕ) → All (λ k. j ≢ k) ks → 0 < len (v.at j) → d ≤ off (v.at j)
  pub top : d ≤ 16384
  pub sums : d + sum v.slot_count (λ j. len (v.at j)) ≡ 16384 + lens_of v ks
