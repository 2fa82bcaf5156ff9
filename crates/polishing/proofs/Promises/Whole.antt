-- When a reading is whole: "each row below the named number of rows is there exactly once, with no other row". For all records, mirrors and numbers.
use Rattle.std.specs.Prelude.{ℕ, ◌≤◌, ◌<◌, ◌≡◌, refl, Bool, true, false, ◌&&◌, List, [], ◌∷◌, ◌↔◌, eqb, leb}
use Rattle.std.proofs.Common.{ap, arith, leb-true, eqb-true, le-leb, eq-eqb}
use Rattle.store.specs.Numbers.{one}
use Rattle.store.proofs.Laws.SoundPage.{and_in}
use Rattle.polishing.specs.Polishing.{row_of, is_of, row_times, other_rows, whole}
use Rattle.polishing.proofs.Laws.Whole.{whole_parts}

module _ (m rows r : ℕ) where
  -- no row from `rows` on is there
  others_none : (bs : List (List ℕ)) → other_rows bs m rows r ≡ 0 → (k : ℕ) → rows ≤ k → row_times bs m r k ≡ 0
  others_none [] z k l = refl
  others_none (b ∷ bs) z k l = let ih = others_none bs (omega arith) k l in omega (arith, by (is_of m r b) (eqb (row_of b) k) refl)
    where
      by : (x y : Bool) → eqb (row_of b) k ≡ y → one (x && y) ≤ one (x && leb rows (row_of b))
      by false y e = omega arith
      by true false e = omega arith
      by true true e = rw (le-leb rows (row_of b) (omega (arith, eqb-true (row_of b) k e))) (omega arith)

  none_others : (bs : List (List ℕ)) → ((k : ℕ) → rows ≤ k → row_times bs m r k ≡ 0) → other_rows bs m rows r ≡ 0
  none_others [] h = refl
  none_others (b ∷ bs) h = let ih = none_others bs (λ k l. omega (arith, h k l)) in omega (arith, by (is_of m r b) (leb rows (row_of b)) refl refl)
    where
      by : (x y : Bool) → is_of m r b ≡ x → leb rows (row_of b) ≡ y → one (x && y) ≡ 0
      by false y d e = refl
      by true false d e = refl
      by true true d e =
          let t = and_in (is_of m r b) (eqb (row_of b) (row_of b)) d (eq-eqb (row_of b) (row_of b) refl) in
          omega (arith, h (row_of b) (leb-true rows (row_of b) e), ap one t)

  pub whole_exactly : (bs : List (List ℕ)) → (whole bs m rows r ≡ true)
      ↔ (((k : ℕ) → k < rows → row_times bs m r k ≡ 1) × ((k : ℕ) → rows ≤ k → row_times bs m r k ≡ 0))
  whole_exactly bs = (
    λ e. let b = (whole_parts bs m rows r).0 e in (b.0, others_none bs b.1),
    λ x. (whole_parts bs m rows r).1 (x.0, none_others bs x.1),
  )
