-- The rule sheet: its editions one by one. And over any set of readings: more of them never turn a yes into a no, and edition 2's yes implies edition 1's.
use Rattle.std.specs.Prelude.{ℕ, zero, suc, ◌+◌, ◌-◌, ◌≤◌, ◌≡◌, refl, Bool, true, false, List, [], ◌∷◌, ◌≢◌, get_or, leb}
use Rattle.std.proofs.Common.{arith, leb-true, le-leb}
use Rattle.store.specs.Numbers.{one}
use Rattle.store.proofs.Laws.SoundPage.{and_both, and_in}
use Rattle.store.proofs.Laws.Views.{sum_within}
use Rattle.polishing.specs.Polishing.{Demand, edition1, edition2, editions, demands_of, counted, met}

-- a property of what is demanded, from each edition's line
pub by_edition : (P : List Demand → Type 0) (e : ℕ) → (e ≢ 2 → P edition1) → (e ≡ 2 → P edition2) → P (demands_of e)
by_edition P e a b = go (e - 1) refl
  where
    go : (k : ℕ) → e - 1 ≡ k → P (get_or editions k edition1)
    go zero h = a (λ q. omega arith)
    go (suc zero) h = b (omega arith)
    go (suc (suc k)) h = a (λ q. omega arith)

one_le : (a b : Bool) → (a ≡ true → b ≡ true) → one a ≤ one b
one_le true b h = rw (h refl) (omega arith)
one_le false b h = omega arith

module _ (w x : ℕ → Bool) (h : (r : ℕ) → w r ≡ true → x r ≡ true) where
  counted_more : (a n : ℕ) → counted w a n ≤ counted x a n
  unfolding counted
  counted_more a n =
      sum_within n n (λ j. one (w (a + j))) (λ j. one (x (a + j))) (omega arith) (λ j l. one_le (w (a + j)) (x (a + j)) (h (a + j)))

  -- "more whole readings never turn a yes into a no", once over every list of demands
  pub more : (ds : List Demand) → met w ds ≡ true → met x ds ≡ true
  more [] e = refl
  more (d ∷ ds) e =
      let b = and_both (leb d.least (counted w d.first d.span)) (met w ds) e in
      let l = leb-true d.least (counted w d.first d.span) b.0 in
      and_in (leb d.least (counted x d.first d.span)) (met x ds)
      (le-leb d.least (counted x d.first d.span) (omega (arith, counted_more d.first d.span))) (more ds b.1)

-- "Edition 2's yes implies edition 1's."
pub second_first : (w : ℕ → Bool) → met w edition2 ≡ true → met w edition1 ≡ true
second_first w e =
    let n : ℕ = counted w 0 65536 in
    let l = leb-true 3 n (and_both _ _ e).0 in
    and_in (leb 2 n) true (le-leb 2 n (omega arith)) refl
