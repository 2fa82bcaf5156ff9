-- The readings that records name decide alone: how many of 65,536 are whole is how many of these are. So the rule can be computed from a list of records.
use Prim.Native.Nat.{ℕ, zero, suc, ◌+◌, ◌≤◌, ◌<◌}
use Rattle.std.specs.Prelude.{◌≡◌, Bool, cond, ◌&&◌, List, [], ◌∷◌, ◌⊎◌, ltb, leb}
use Rattle.std.proofs.Math.Path.{refl, sym, ap}
use Rattle.std.proofs.Common.{◌∙◌, inl, inr, ltb-true, ltb-false, eqb-true, eq-eqb, le-leb, lt-ltb, le-ltb}
use Rattle.std.proofs.Math.Bool.{true, false, and-false}
use native.Mathlib.Omega.{arith}
use Rattle.std.proofs.Math.Dec.{eqb}
use Rattle.std.proofs.lemmas.Bool.{eqb-false}
use Rattle.store.specs.Numbers.{one}
use Rattle.store.specs.Records.{count_if}
use Rattle.store.proofs.Laws.Cases.{lt_or_le, by_test, false_by, tests}
use Rattle.store.proofs.Laws.SoundPage.{and_both}
use Rattle.polishing.specs.Polishing.{mirror_of, reading_of, row_of, is_of, whole, Demand, counted, met}
use Rattle.polishing.proofs.Laws.Whole.{whole_first}

-- ---- counts over a list

count_none : {A : Type 0} (f : A → Bool) (xs : List A) → ((x : A) → f x ≡ false) → count_if f xs ≡ 0
count_none f [] h = refl
count_none f (x ∷ xs) h = omega (arith, ap one (h x), count_none f xs h)

count_ext : {A : Type 0} (f g : A → Bool) (xs : List A) → ((x : A) → f x ≡ g x) → count_if f xs ≡ count_if g xs
count_ext f g [] h = refl
count_ext f g (x ∷ xs) h = λ i. one (h x i) + count_ext f g xs h i

count_add : {A : Type 0} (f g k : A → Bool) (xs : List A) → ((x : A) → one (f x) ≡ one (g x) + one (k x)) → count_if f xs ≡ count_if g xs + count_if k xs
count_add f g k [] h = refl
count_add f g k (x ∷ xs) h = omega (arith, h x, count_add f g k xs h)

-- ---- which numbers

-- of the n numbers from a on
abbrev pub within : ℕ → ℕ → ℕ → Bool
within a n r = leb a r && ltb r (a + n)

within_none : (a r : ℕ) → within a 0 r ≡ false
within_none a r = false_by (within a 0 r) (λ e. let b = and_both (leb a r) (ltb r (a + 0)) e in omega (tests, b.0, b.1))

-- one number more: the last one, or one of those before
within_more : (a n r : ℕ) → one (within a (suc n) r) ≡ one (eqb (a + n) r) + one (within a n r)
within_more a n r = go (eqb (a + n) r) refl
  where
    by : (a + n ≡ r → ⊥) → (r < a + n) ⊎ (a + n ≤ r) → ltb r (a + suc n) ≡ ltb r (a + n)
    by d (inl l) = lt-ltb r (a + suc n) (omega arith) ∙ sym (lt-ltb r (a + n) l)
    by d (inr l) = le-ltb r (a + suc n) (omega arith) ∙ sym (le-ltb r (a + n) l)

    go : (t : Bool) → eqb (a + n) r ≡ t → one (within a (suc n) r) ≡ one t + one (within a n r)
    go true e = rw (le-leb a r (omega tests), lt-ltb r (a + suc n) (omega tests), le-ltb r (a + n) (omega tests)) (omega arith)
    go false e = omega (arith, ap (λ (t : Bool). one (leb a r && t)) (by (eqb-false (a + n) r e) (lt_or_le r (a + n))))

-- ---- a list that has each number of w once

-- the demands, by the list
abbrev pub found_met : (ℕ → Bool) → List ℕ → List Demand → Bool
found_met w rs [] = true
found_met w rs (d ∷ ds) = leb d.least (count_if (λ r. w r && within d.first d.span r) rs) && found_met w rs ds

module _ (w : ℕ → Bool) (rs : List ℕ) (once : (r : ℕ) → w r ≡ true → count_if (eqb r) rs ≡ 1) where
  here : (r : ℕ) → count_if (λ x. w x && eqb r x) rs ≡ one (w r)
  here r = count_ext (λ x. w x && eqb r x) (λ x. w r && eqb r x) rs (λ x. each x (eqb r x) refl) ∙ go (w r) refl
    where
      each : (x : ℕ) (t : Bool) → eqb r x ≡ t → (w x && t) ≡ (w r && t)
      each x true e = ap (λ (y : ℕ). w y && true) (sym (eqb-true r x e))
      each x false e = and-false (w x) ∙ sym (and-false (w r))

      go : (b : Bool) → w r ≡ b → count_if (λ x. b && eqb r x) rs ≡ one b
      go true e = once r e
      go false e = count_none (λ x. false) rs (λ x. refl)

  -- how many of n numbers are in w: so many of the list
  counted_found : (a n : ℕ) → counted w a n ≡ count_if (λ r. w r && within a n r) rs
  unfolding counted
  counted_found a zero = sym (count_none (λ r. w r && within a 0 r) rs (λ r. ap (λ (b : Bool). w r && b) (within_none a r) ∙ and-false (w r)))
  counted_found a (suc n) =
      omega (
        arith,
        here (a + n),
        counted_found a n,
        count_add (λ r. w r && within a (suc n) r) (λ r. w r && eqb (a + n) r) (λ r. w r && within a n r) rs (λ r. each r (w r)),
      )
    where
      each : (r : ℕ) (b : Bool) → one (b && within a (suc n) r) ≡ one (b && eqb (a + n) r) + one (b && within a n r)
      each r true = within_more a n r
      each r false = refl

  -- so the demands are met by the list
  met_found : (ds : List Demand) → met w ds ≡ found_met w rs ds
  met_found [] = refl
  met_found (d ∷ ds) = λ i. leb d.least (counted_found d.first d.span i) && met_found ds i

-- ---- the reading numbers of records, each once

-- one more where it is not there yet
abbrev with_number : ℕ → List ℕ → List ℕ
with_number r rs = cond (ltb 0 (count_if (eqb r) rs)) rs (r ∷ rs)

abbrev pub numbers : List (List ℕ) → List ℕ
numbers [] = []
numbers (b ∷ bs) = let rs = numbers bs in with_number (reading_of b) rs

numbers_few : (r : ℕ) (bs : List (List ℕ)) → count_if (eqb r) (numbers bs) ≤ 1
numbers_few r [] = omega arith
numbers_few r (b ∷ bs) = go (numbers bs) (numbers_few r bs)
  where
    go : (rs : List ℕ) → count_if (eqb r) rs ≤ 1 → count_if (eqb r) (with_number (reading_of b) rs) ≤ 1
    go rs l =
        by_test (λ (ts : List ℕ). count_if (eqb r) ts ≤ 1) (ltb 0 (count_if (eqb (reading_of b)) rs)) rs (reading_of b ∷ rs) (λ e. l)
        (λ e. with_new (eqb r (reading_of b)) refl (ltb-false 0 (count_if (eqb (reading_of b)) rs) e))
      where
        with_new : (t : Bool) → eqb r (reading_of b) ≡ t → count_if (eqb (reading_of b)) rs ≤ 0 → one t + count_if (eqb r) rs ≤ 1
        with_new true d z = rw (eqb-true r (reading_of b) d) (omega arith)
        with_new false d z = omega arith

-- what a test finds among the records of one reading is numbered
numbers_has : (r : ℕ) (f : List ℕ → Bool) → ((b : List ℕ) → f b ≡ true → reading_of b ≡ r) → (bs : List (List ℕ)) → 0 < count_if f bs
    → 0 < count_if (eqb r) (numbers bs)
numbers_has r f h [] l = absurd (omega arith)
numbers_has r f h (b ∷ bs) l = go (numbers bs) (numbers_has r f h bs) (f b) refl
  where
    go : (rs : List ℕ) → (0 < count_if f bs → 0 < count_if (eqb r) rs) → (t : Bool) → f b ≡ t → 0 < count_if (eqb r) (with_number (reading_of b) rs)
    go rs ih true e =
        let q = h b e in
        by_test (λ (ts : List ℕ). 0 < count_if (eqb r) ts) (ltb 0 (count_if (eqb (reading_of b)) rs)) rs (reading_of b ∷ rs)
        (λ d. rw q at (ltb-true 0 (count_if (eqb (reading_of b)) rs) d)) (λ d. omega (arith, ap one (eq-eqb r (reading_of b) (sym q))))
    go rs ih false e =
        let k = ih (omega (arith, ap one e)) in
        by_test (λ (ts : List ℕ). 0 < count_if (eqb r) ts) (ltb 0 (count_if (eqb (reading_of b)) rs)) rs (reading_of b ∷ rs) (λ d. k) (λ d. omega arith)

-- ---- whole readings

module _ (bs : List (List ℕ)) (m rows : ℕ) (some : 1 ≤ rows) where
  -- a reading without records is not whole: its row 0 is not there
  whole_once : (r : ℕ) → whole bs m rows r ≡ true → count_if (eqb r) (numbers bs) ≡ 1
  whole_once r e =
      let there = whole_first bs m rows r e some in
      omega (
        arith,
        numbers_few r bs,
        numbers_has r (λ b. is_of m r b && eqb (row_of b) 0)
            (λ b t.
            eqb-true (reading_of b) r
            (and_both (eqb (mirror_of b) m) (eqb (reading_of b) r) (and_both (is_of m r b) (eqb (row_of b) 0) t).0).1) bs (omega arith),
      )

  -- the rule, by the readings that the records name
  pub rule_found : (ds : List Demand) → met (whole bs m rows) ds ≡ found_met (whole bs m rows) (numbers bs) ds
  rule_found = met_found (whole bs m rows) (numbers bs) whole_once
