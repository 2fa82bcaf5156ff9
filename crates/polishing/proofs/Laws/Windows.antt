-- The first pass: a window that is not marked has no record of the mirror, so no reading of it is whole.
use Rattle.std.specs.Prelude.{ℕ, ◌+◌, ◌*◌, ◌/◌, ◌^◌, ◌<◌, ◌≡◌, refl, Option, Some, None, Bool}
use Rattle.std.specs.Prelude.{true, false, cond, ◌&&◌, List, [], ◌∷◌, length, get_or, set, replicate, eqb}
use Rattle.std.proofs.Common.{sym, ap, ◌∙◌, arith, zero-mul, length-set, get_or-set_same, get_or-set_other, ne_eqb}
use Rattle.std.proofs.lemmas.List.{length-replicate}
use Rattle.store.specs.Numbers.{one}
use Rattle.store.proofs.Laws.Cases.{never, false_by}
use Rattle.store.proofs.Laws.Views.{sum_zero}
use Rattle.polishing.specs.Polishing.{mirror_of, reading_of, row_of, row_times, whole, rows_named, word}
use Rattle.polishing.specs.Words.{head_of, with_mark, windows_over}
use Rattle.polishing.proofs.Laws.Whole.{rows_within, whole_first}
use Rattle.polishing.specs.declared.heads.Row.{Row}

-- ---- a pass keeps the length

window_length : (ws : List Bool) (h : Option Row) → length (with_mark ws h) ≡ length ws
window_length ws (Some h) = length-set ws (h.reading / 64) true
window_length ws None = refl

module _ (m : ℕ) where
  windows_length : (bs : List (List ℕ)) (ws : List Bool) → length (windows_over m ws bs) ≡ length ws
  windows_length [] ws = refl
  windows_length (b ∷ bs) ws = windows_length bs (with_mark ws (head_of m b)) ∙ window_length ws (head_of m b)

  -- ---- window i is not marked

  module _ (i r k : ℕ) (in_it : r / 64 ≡ i) where
    -- one record: if it leaves no mark, it is not of reading r
    unmarked_one : (ws : List Bool) → i < length ws → (b : List ℕ) → get_or (with_mark ws (head_of m b)) i false ≡ false
        → (get_or ws i false ≡ false) × (row_times (b ∷ []) m r k ≡ 0)
    unmarked_one ws l b = go (eqb (mirror_of b) m)
      where
        go : (t : Bool) → get_or (with_mark ws (cond t (Some (record { reading = reading_of b; row = row_of b })) None)) i false ≡ false
            → (get_or ws i false ≡ false) × (one ((t && eqb (reading_of b) r) && eqb (row_of b) k) + 0 ≡ 0)
        go false e = (e, refl)
        go true e =
            let w = reading_of b / 64 in
            let other : i ≡ w → ⊥ = λ q. never (get_or-set_same ws w true false (omega arith)) (ap (λ (x : ℕ). get_or (set ws w true) x false) (sym q) ∙ e) in
            (sym (get_or-set_other ws w i true false other) ∙ e, rw (ne_eqb (reading_of b) r (λ q. other (sym in_it ∙ ap (λ (x : ℕ). x / 64) (sym q)))) refl)

    -- all of them: the window had no mark before, and row k of reading r is not there
    unmarked : (bs : List (List ℕ)) (ws : List Bool) → i < length ws → get_or (windows_over m ws bs) i false ≡ false
        → (get_or ws i false ≡ false) × (row_times bs m r k ≡ 0)
    unmarked [] ws l e = (e, refl)
    unmarked (b ∷ bs) ws l e =
        let ih = unmarked bs (with_mark ws (head_of m b)) (omega (arith, window_length ws (head_of m b))) e in
        let x = unmarked_one ws l b ih.0 in
        (x.0, omega arith)

  -- row 0 is not there
  whole_none : (bs : List (List ℕ)) (ws : List Bool) (i : ℕ) → i < length ws → get_or (windows_over m ws bs) i false ≡ false
      → (rows r : ℕ) → rows_named rows ≡ true → r / 64 ≡ i → whole bs m rows r ≡ false
  whole_none bs ws i l e rows r n h =
      let none = (unmarked i r 0 h bs ws l e).1 in
      false_by (whole bs m rows r) (λ t. omega (arith, whole_first bs m rows r t (rows_within rows n).0))

  module _ (bs : List (List ℕ)) where
    pub marks_length : length (windows_over m (replicate 1024 false) bs) ≡ 1024
    marks_length = windows_length bs (replicate 1024 false) ∙ length-replicate {A = Bool} 1024 false

    -- no reading of it is whole
    pub word_none : (i : ℕ) → i < 1024 → get_or (windows_over m (replicate 1024 false) bs) i false ≡ false → (rows : ℕ) → rows_named rows ≡ true
        → word (whole bs m rows) i ≡ 0
    word_none i l e rows n =
        sum_zero 64 (λ j. one (whole bs m rows (64 * i + j)) * 2 ^ j) λ j h.
        ap (λ (b : Bool). one b * 2 ^ j)
        (whole_none bs (replicate 1024 false) i (omega (arith, length-replicate {A = Bool} 1024 false)) e rows (64 * i + j) n (omega arith)) ∙ zero-mul (2 ^ j)
