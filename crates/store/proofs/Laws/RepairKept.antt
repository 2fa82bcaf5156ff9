-- Repair on one page, slot by slot: whether a record is kept is settled in its own turn, by the records kept before it.
use Rattle.std.specs.Prelude.{ℕ, zero, suc, ◌<◌, ◌≡◌, refl, Bool, true, false, cond, ◌&&◌, ◌||◌, List, ◌∷◌, eqb}
use Rattle.std.proofs.Common.{sym, ap, ◌∙◌, arith, not-suc-le-zero, eq-eqb, ne_eqb}
use Rattle.std.proofs.Math.Decide.{ℕ_discrete}
use Rattle.store.specs.Slots.{is_record}
use Rattle.store.specs.Page.{View}
use Rattle.store.specs.Repair.{lies, clear, kept_below, is_in, keeps}
use Rattle.store.proofs.Laws.Cases.{by_test, or_in}
use Rattle.store.specs.Laws.Edits.{Apart}
use Rattle.store.proofs.Laws.SoundPage.{and_both, and_in, two_apart, apart_test}
use Rattle.store.proofs.Laws.RepairPage.{good, one_more, in_good, clear_at, clear_in}

module _ (v : View) (k : ℕ) where
  -- one slot more
  pub kept_more : good v k ≡ true → kept_below v (suc k) ≡ k ∷ kept_below v k
  kept_more g = one_more v k ∙ ap (λ (b : Bool). cond b (k ∷ kept_below v k) (kept_below v k)) g

  pub kept_same : good v k ≡ false → kept_below v (suc k) ≡ kept_below v k
  kept_same g = one_more v k ∙ ap (λ (b : Bool). cond b (k ∷ kept_below v k) (kept_below v k)) g

  not_yet : (b : Bool) → is_in k (kept_below v k) ≡ b → is_in k (kept_below v k) ≡ false
  not_yet true e = absurd (omega (arith, (in_good v k k e).0))
  not_yet false e = e

  own_turn : (b : Bool) → good v k ≡ b → is_in k (kept_below v (suc k)) ≡ good v k
  own_turn true g = ap (is_in k) (kept_more g) ∙ or_in (eqb k k) (is_in k (kept_below v k)) (eq-eqb k k refl) ∙ sym g
  own_turn false g = ap (is_in k) (kept_same g) ∙ not_yet (is_in k (kept_below v k)) refl ∙ sym g

  -- what later turns don't change
  later : (n : ℕ) → k < n → is_in k (kept_below v n) ≡ good v k
  later zero h = absurd (not-suc-le-zero h)
  later (suc n) h = go (later n) (ℕ_discrete k n)
    where
      go : (k < n → is_in k (kept_below v n) ≡ good v k) → Dec (k ≡ n) → is_in k (kept_below v (suc n)) ≡ good v k
      go ih (yes e) = ap (λ (m : ℕ). is_in k (kept_below v (suc m))) (sym e) ∙ own_turn (good v k) refl
      go ih (no e) =
          ap (is_in k) (one_more v n)
          ∙ by_test (λ (js : List ℕ). is_in k js ≡ good v k) (good v n) (n ∷ kept_below v n) (kept_below v n)
          (λ g. ap (λ (b : Bool). b || is_in k (kept_below v n)) (ne_eqb k n e) ∙ ih (omega arith))
          (λ g. ih (omega arith))

  pub keeps_good : k < v.slot_count → keeps v k ≡ good v k
  unfolding keeps
  keeps_good h = later v.slot_count h

  -- ---- "overlaps a record already kept"

  pub clear_is : clear v k (kept_below v k) ≡ true → (j : ℕ) → is_in j (kept_below v k) ≡ true → Apart (v.at j) (v.at k)
  clear_is c j e = two_apart v j k (λ q. omega (arith, (in_good v k j e).0)) (clear_at v k (kept_below v k) c j e)

  pub clear_by : ((j : ℕ) → is_in j (kept_below v k) ≡ true → Apart (v.at j) (v.at k)) → clear v k (kept_below v k) ≡ true
  clear_by f = clear_in v k (kept_below v k) (λ j e. apart_test v j k (λ _. f j e))

  -- ---- one turn by its three tests

  pub good_in : is_record (v.at k) ≡ true → lies v k ≡ true → clear v k (kept_below v k) ≡ true → good v k ≡ true
  good_in r l c = and_in (is_record (v.at k)) (lies v k && clear v k (kept_below v k)) r (and_in (lies v k) (clear v k (kept_below v k)) l c)

  pub good_is : good v k ≡ true → (is_record (v.at k) ≡ true) × (lies v k ≡ true) × (clear v k (kept_below v k) ≡ true)
  good_is g =
      let a = and_both (is_record (v.at k)) (lies v k && clear v k (kept_below v k)) g in
      let b = and_both (lies v k) (clear v k (kept_below v k)) a.1 in
      (a.0, b.0, b.1)
