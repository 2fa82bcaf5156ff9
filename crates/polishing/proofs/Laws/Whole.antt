-- The rows that may be named; and when a reading is whole, by its counts: each row below `rows` is there once, and none from `rows` on.
use Rattle.std.specs.Prelude.{ℕ, ◌≤◌, ◌<◌, ◌≡◌, true, ◌&&◌, List, ◌↔◌, length, leb}
use Rattle.std.proofs.Math.Dec.{eqb}
use borrow.Author.Tests.{leb-true, eqb-true, eq-eqb}
use Rattle.store.specs.Numbers.{all}
use Rattle.store.proofs.Laws.SoundPage.{and_both, and_in, all_at, all_in}
use Rattle.polishing.specs.Polishing.{row_times, other_rows, whole, editions, rows_named, named}

-- ---- "rows outside 1 to 2,048"

pub rows_within : (rows : ℕ) → rows_named rows ≡ true → (1 ≤ rows) × (rows ≤ 2048)
rows_within rows n = let t = and_both (leb 1 rows) (leb rows 2048) n in (leb-true 1 rows t.0, leb-true rows 2048 t.1)

-- the rows are named where both numbers are
pub rows_named_lem : (rows e : ℕ) → named rows e ≡ true → rows_named rows ≡ true
rows_named_lem rows e h = (and_both (leb 1 e && leb e (length editions)) (rows_named rows) h).1

-- ---- a whole reading

module _ (bs : List (List ℕ)) (m rows r : ℕ) where
  pub whole_parts : (whole bs m rows r ≡ true) ↔ (((k : ℕ) → k < rows → row_times bs m r k ≡ 1) × (other_rows bs m rows r ≡ 0))
  unfolding whole
  whole_parts = (
    λ e.
        let b = and_both (all rows (λ k. eqb (row_times bs m r k) 1)) (eqb (other_rows bs m rows r) 0) e in (
          λ k l. eqb-true (row_times bs m r k) 1 (all_at rows (λ j. eqb (row_times bs m r j) 1) b.0 k l),
          eqb-true (other_rows bs m rows r) 0 b.1,
        ),
    λ x.
        and_in (all rows (λ k. eqb (row_times bs m r k) 1)) (eqb (other_rows bs m rows r) 0)
        (all_in rows (λ k. eqb (row_times bs m r k) 1) (λ k l. eq-eqb (row_times bs m r k) 1 (x.0 k l))) (eq-eqb (other_rows bs m rows r) 0 x.1),
  )

  -- its row 0 is there
  pub whole_first : whole bs m rows r ≡ true → 1 ≤ rows → row_times bs m r 0 ≡ 1
  whole_first e l = (whole_parts.0 e).0 0 l
