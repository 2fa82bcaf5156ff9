-- Two lists of records in which each record is as often: they agree on every count, so the same readings are whole in both.
use Rattle.std.specs.Prelude.{ℕ, ◌≤◌, ◌<◌, ◌≡◌, refl, Bool, true, false, ◌&&◌, List, [], ◌∷◌, length, eqb, leb}
use Rattle.std.proofs.Common.{sym, ap, ◌∙◌, inl, inr, ⊎_elim, arith}
use Rattle.store.specs.Numbers.{same_bytes, In, all, one}
use Rattle.store.specs.Records.{count_if, times}
use Rattle.store.proofs.Laws.Cases.{lt_or_le}
use Rattle.store.proofs.Laws.Counts.{less, less_count}
use Rattle.store.proofs.Laws.RepairInventory.{same_is, same_own}
use Rattle.exchange.specs.Exchange.{readings}
use Rattle.exchange.proofs.Laws.Readings.{readings_times, short_none}
use Rattle.polishing.specs.Polishing.{row_of, is_of, whole}

-- ---- every count

-- what is counted is in the list
counted_in : (x : List ℕ) (bs : List (List ℕ)) → 0 < times x bs → In x bs
counted_in x [] l = absurd (omega arith)
counted_in x (b ∷ bs) l = go (same_bytes x b) refl (counted_in x bs)
  where
    go : (t : Bool) → same_bytes x b ≡ t → (0 < times x bs → In x bs) → In x (b ∷ bs)
    go true e ih = inl (same_is x b e)
    go false e ih = inr (ih (omega (arith, ap one e)))

-- and what is in it is counted
there : (x : List ℕ) (bs : List (List ℕ)) → 0 < times x (x ∷ bs)
there x bs = omega (arith, ap one (same_own x))

counts_same : (bs cs : List (List ℕ)) → ((x : List ℕ) → times x bs ≡ times x cs) → (f : List ℕ → Bool) → count_if f bs ≡ count_if f cs
counts_same [] [] h f = refl
counts_same [] (c ∷ cs) h f = absurd (omega (arith, h c, there c cs))
counts_same (b ∷ bs) cs h f =
    let i = counted_in b cs (omega (arith, h b, there b bs)) in
    omega (arith, less_count f b cs i, counts_same bs (less b cs i) (λ x. omega (arith, h x, less_count (same_bytes x) b cs i)) f)

-- ---- of readings

pub readings_same : (bs cs : List (List ℕ)) → ((x : List ℕ) → 8 ≤ length x → times x bs ≡ times x cs)
    → (f : List ℕ → Bool) → count_if f (readings bs) ≡ count_if f (readings cs)
readings_same bs cs h =
    counts_same (readings bs) (readings cs)
    (λ x.
    ⊎_elim (λ (l : length x < 8). short_none x l bs ∙ sym (short_none x l cs))
    (λ (l : 8 ≤ length x). readings_times x l bs ∙ h x l ∙ sym (readings_times x l cs)) (lt_or_le (length x) 8))

-- ---- whole

pub whole_same : (bs cs : List (List ℕ)) → ((f : List ℕ → Bool) → count_if f bs ≡ count_if f cs) → (m rows : ℕ) → whole bs m rows ≡ whole cs m rows
unfolding whole
whole_same bs cs h m rows =
    λ i r. all rows (λ k. eqb (h (λ b. is_of m r b && eqb (row_of b) k) i) 1) && eqb (h (λ b. is_of m r b && leb rows (row_of b)) i) 0
