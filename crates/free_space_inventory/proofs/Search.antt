-- The search for the next pages: what holds at the head of the loop over pages and of the loop over entries, and how a turn keeps it.
use Prim.Native.Nat.{ℕ, zero, suc, ◌+◌, ◌-◌, ◌≤◌, ◌<◌}
use mathlib.Core.Path.{◌≡◌, refl, ◌∙◌, sym, ap}
use mathlib.Core.List.{List}
use mathlib.Core.Logic.{◌⊎◌, ⊎_elim}
use native.Mathlib.Omega.{arith}
use lib.ListN.{length}
use Rattle.store.specs.Inventory.{set_entry, nibble, first_from, next_page, set_from}
use Rattle.store.proofs.Laws.Inventory.{length_set_entry, nibble_entry}
use Rattle.free_space_inventory.proofs.Turns.{first_here, first_next, first_none, down_turn, down_done}

-- what is written depends on f at the entries written alone
pub down_agree : (f g : ℕ → ℕ) (old d : ℕ) (s : List ℕ) → ((c : ℕ) → old ≤ c → c < old + d → f c ≡ g c) → set_from f old d s ≡ set_from g old d s
unfolding set_from
down_agree f g old zero s h = refl
down_agree f g old (suc d) s h =
    ap (λ v. set_from f old d (set_entry s (old + d) v)) (h (old + d) (omega arith) (omega arith))
    ∙ down_agree f g old d _ (λ c l m. h c l (omega arith))

-- the loop over entries, at page p of class v: it began with the bytes s₁ and the entries below u₁, and stands at s and u
pub record Placed (s₁ : List ℕ) (p v old u₁ : ℕ) (s : List ℕ) (u : ℕ) : Type 0 where
  pub len : length s ≡ length s₁
  pub lo : old ≤ u
  pub hi : u ≤ u₁
  pub same : (k : ℕ) → nibble s k ≡ nibble s₁ k
  pub rest : (g : ℕ → ℕ) → ((c : ℕ) → v ≤ c → c < u₁ → g c ≡ p) → set_from g old (u - old) s ≡ set_from g old (u₁ - old) s₁

pub placed_none : (s : List ℕ) (p v old u : ℕ) → old ≤ u → Placed s p v old u s u
placed_none s p v old u h = record { len = refl; lo = h; hi = omega arith; same = λ k. refl; rest = λ g e. refl }

pub placed_more : {s₁ : List ℕ} {p v old u₁ : ℕ} {s : List ℕ} {u : ℕ} (t : List ℕ) → t ≡ set_entry s (u - 1) p → Placed s₁ p v old u₁ s u
    → old < u → v < u → u ≤ 15 → Placed s₁ p v old u₁ t (u - 1)
placed_more {s₁} {p} {v} {old} {u₁} {s} {u} t e h l m top = rw e record {
  len = length_set_entry s (u - 1) p ∙ h.len;
  lo = omega arith;
  hi = omega (arith, h.hi);
  same = λ k. nibble_entry s (u - 1) p (k + 240) (omega arith) ∙ h.same k;
  rest = λ g q.
      ap (λ x. set_from g old (u - 1 - old) (set_entry s (u - 1) x)) (sym (q (u - 1) (omega arith) (omega (arith, h.hi))))
      ∙ sym (down_turn g old u s l) ∙ h.rest g q;
}

-- the loop over pages: it began with the bytes s₀ and the entries below end, and stands at s and u, before page p
pub record Searched (s₀ : List ℕ) (n page old end : ℕ) (s : List ℕ) (u p : ℕ) : Type 0 where
  pub len : length s ≡ length s₀
  pub lo : old ≤ u
  pub hi : u ≤ end
  pub from : page < p
  pub upto : p ≤ n
  pub same : (k : ℕ) → nibble s k ≡ nibble s₀ k
  pub rest : set_from (next_page s₀ n page) old (u - old) s ≡ set_from (next_page s₀ n page) old (end - old) s₀
  pub ahead : (c : ℕ) → c < u → next_page s₀ n page c ≡ first_from (nibble s₀) c p (n - p)

pub searched_none : (s : List ℕ) (n page old end p : ℕ) → p ≡ page + 1 → old ≤ end → page < n → Searched s n page old end s end p
unfolding next_page
searched_none s n page old end p e h l = rw e record {
  len = refl;
  lo = h;
  hi = omega arith;
  from = omega arith;
  upto = omega arith;
  same = λ k. refl;
  rest = refl;
  ahead = λ c m. refl;
}

-- where the search has ended, the entries below u get n
pub record Left (s₀ : List ℕ) (n page old end : ℕ) (s : List ℕ) (u : ℕ) : Type 0 where
  pub len : length s ≡ length s₀
  pub hi : u ≤ end
  pub all : set_from (λ _. n) old (u - old) s ≡ set_from (next_page s₀ n page) old (end - old) s₀

pub left_none : (s : List ℕ) (n page old end : ℕ) → end ≤ old → Left s n page old end s end
left_none s n page old end h = record
    { len = refl; hi = omega arith; all = down_done (λ _. n) old end s h ∙ sym (down_done (next_page s n page) old end s h) }

module _ {s₀ : List ℕ} {n page old end : ℕ} {s₁ : List ℕ} {u₁ p : ℕ} where
  -- the entries that page p takes
  pub searched_here : {v : ℕ} {s : List ℕ} {u : ℕ} → Searched s₀ n page old end s₁ u₁ p → p < n → v ≡ nibble s₁ p → Placed s₁ p v old u₁ s u
      → Searched s₀ n page old end s u p
  searched_here {v} {s} {u} h l e t = record {
    len = t.len ∙ h.len;
    lo = t.lo;
    hi = omega (arith, t.hi, h.hi);
    from = h.from;
    upto = h.upto;
    same = λ k. t.same k ∙ h.same k;
    rest =
        t.rest (next_page s₀ n page) (λ c ge lt. h.ahead c lt ∙ first_here (nibble s₀) c p n l (omega (arith, e, h.same p)))
        ∙ h.rest;
    ahead = λ c m. h.ahead c (omega (arith, t.hi));
  }

  -- the next page
  pub searched_next : Searched s₀ n page old end s₁ u₁ p → p < n → u₁ ≤ nibble s₁ p → Searched s₀ n page old end s₁ u₁ (p + 1)
  searched_next h l m = record {
    len = h.len;
    lo = h.lo;
    hi = h.hi;
    from = omega (arith, h.from);
    upto = omega arith;
    same = h.same;
    rest = h.rest;
    ahead = λ c lt. h.ahead c lt ∙ first_next (nibble s₀) c p n l (omega (arith, h.same p));
  }

  -- what is left goes to n
  pub left_over : Searched s₀ n page old end s₁ u₁ p → (n ≤ p) ⊎ (u₁ ≡ old) → Left s₀ n page old end s₁ u₁
  left_over h o = record { len = h.len; hi = h.hi; all = ⊎_elim last placed o }
    where
      last : n ≤ p → set_from (λ _. n) old (u₁ - old) s₁ ≡ set_from (next_page s₀ n page) old (end - old) s₀
      last l =
          down_agree (λ _. n) (next_page s₀ n page) old (u₁ - old) s₁
          (λ c ge lt. let q = h.ahead c (omega (arith, h.lo)) ∙ first_none (nibble s₀) c p n l in omega (arith, q, h.upto))
          ∙ h.rest

      placed : u₁ ≡ old → set_from (λ _. n) old (u₁ - old) s₁ ≡ set_from (next_page s₀ n page) old (end - old) s₀
      placed e =
          down_done (λ _. n) old u₁ s₁ (omega arith) ∙ sym (down_done (next_page s₀ n page) old u₁ s₁ (omega arith)) ∙ h.rest
