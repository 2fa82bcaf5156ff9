-- An update keeps the inventory true; and the lowest page that suits is one, and is what a search from page 0 finds.
use Rattle.std.specs.Prelude.{ℕ, zero, suc, ◌+◌, ◌-◌, ◌*◌, ◌^◌, ◌≤◌, ◌<◌, ◌≡◌, refl, Bool, true, false, cond, List, ◌⊎◌, eqb, length}
use Rattle.std.proofs.Common.{◌∙◌, ap, subst, arith, eq-eqb, ne_eqb}
use Rattle.std.proofs.Math.Path.{sym}
use Rattle.std.proofs.Math.Logic.{inl, inr, ⊎_elim}
use Rattle.store.specs.Numbers.{upd}
use Rattle.store.specs.Inventory.{set_nibble, entry_at, set_entry, Room, nibble, suits, first_from, next_page, names, run_end, set_from, names_no_later}
use Rattle.store.specs.Inventory.{pulled_back, moved_on, updated, Lowest, Truth}
use Rattle.store.proofs.Laws.Cases.{lt_or_le, eq_or_ne, by_test, tests}
use Rattle.store.proofs.Laws.Inventory.{length_set_entry, entry_same, entry_other, nibble_entry, length_set_nibble, nibble_same, nibble_other, entry_nibble}

-- ---- the search: the first of k pages from q on that suits

pub record First (f : ℕ → ℕ) (c q k e : ℕ) : Type 0 where
  pub low : q ≤ e
  pub high : e ≤ q + k
  pub before : (j : ℕ) → q ≤ j → j < e → c < f j
  pub here : e < q + k → f e ≤ c

pub first_is : (f : ℕ → ℕ) (c q k : ℕ) → First f c q k (first_from f c q k)
unfolding first_from
first_is f c q zero = record { low = omega arith; high = omega arith; before = λ j l m. omega arith; here = λ l. omega arith }
first_is f c q (suc k) =
    let h = first_is f c (suc q) k in
    by_test (First f c q (suc k)) (suits f c q) q (first_from f c (suc q) k)
    (λ e. record { low = omega arith; high = omega arith; before = λ j l m. omega arith; here = λ l. omega tests })
    (λ e.
    let over : c < f q = omega tests in
    record {
      low = omega (arith, h.low);
      high = omega (arith, h.high);
      before = λ j l m. ⊎_elim (λ x. rw x over) (λ x. h.before j (omega arith) m) (eq_or_ne j q);
      here = λ l. h.here (omega arith);
    })

-- the next page after p and below n that suits, n if there is none
record Next (f : ℕ → ℕ) (n p c e : ℕ) : Type 0 where
  within : e ≤ n
  before : (j : ℕ) → p < j → j < e → c < f j
  here : e < n → f e ≤ c

first_agree : (f g : ℕ → ℕ) (c q k e : ℕ) → ((j : ℕ) → q ≤ j → j < q + k → f j ≡ g j) → First f c q k e → First g c q k e
first_agree f g c q k e a h = record {
  low = h.low;
  high = h.high;
  before = λ j l m. omega (arith, a j l (omega (arith, h.high)), h.before j l m);
  here = λ l. omega (arith, a e h.low l, h.here l);
}

-- ---- the lowest page falls as the class rises

module _ (f : ℕ → ℕ) (n : ℕ) where
  pub lowest_falls : (a b d e : ℕ) → a ≤ b → Lowest f n a d → Lowest f n b e → e ≤ d
  lowest_falls a b d e l p q =
      ⊎_elim (λ lt. omega (arith, p.here (omega (arith, q.within)), q.before d lt)) (λ le. le) (lt_or_le d e)

-- ---- what the steps of an update do to each entry and nibble

down_length : (g : ℕ → ℕ) (old d : ℕ) (s : List ℕ) → length (set_from g old d s) ≡ length s
unfolding set_from
down_length g old zero s = refl
down_length g old (suc d) s = down_length g old d (set_entry s (old + d) (g (old + d))) ∙ length_set_entry s (old + d) (g (old + d))

down_nibble : (g : ℕ → ℕ) (old d : ℕ) (s : List ℕ) (k : ℕ) → old + d ≤ 15 → nibble (set_from g old d s) k ≡ nibble s k
unfolding set_from
down_nibble g old zero s k h = refl
down_nibble g old (suc d) s k h =
    down_nibble g old d (set_entry s (old + d) (g (old + d))) k (omega arith)
    ∙ nibble_entry s (old + d) (g (old + d)) (k + 240) (omega arith)

down_out : (g : ℕ → ℕ) (old d : ℕ) (s : List ℕ) (c : ℕ) → (c < old) ⊎ (old + d ≤ c) → entry_at (set_from g old d s) c ≡ entry_at s c
unfolding set_from
down_out g old zero s c o = refl
down_out g old (suc d) s c o =
    down_out g old d (set_entry s (old + d) (g (old + d))) c (⊎_elim (λ l. inl l) (λ l. inr (omega arith)) o)
    ∙ entry_other s (old + d) (g (old + d)) c (⊎_elim (λ l. omega arith) (λ l. omega arith) o)

down_in : (g : ℕ → ℕ) (old d : ℕ) (s : List ℕ) (c : ℕ) → 120 ≤ length s → old + d ≤ 15 → g c < 2 ^ 64 → old ≤ c → c < old + d
    → entry_at (set_from g old d s) c ≡ g c
unfolding set_from
down_in g old zero s c r h b l m = omega arith
down_in g old (suc d) s c r h b l m =
    ⊎_elim
    (λ e. rw e
    (down_out g old d (set_entry s (old + d) (g (old + d))) (old + d) (inr (omega arith))
    ∙ entry_same s (old + d) (g (old + d)) (omega arith) (rw (← e) b)))
    (λ n. down_in g old d (set_entry s (old + d) (g (old + d))) c (rw length_set_entry r) (omega arith) b l (omega arith))
    (eq_or_ne c (old + d))

-- the entries that name p
record Run (s : List ℕ) (p c k r : ℕ) : Type 0 where
  low : c ≤ r
  high : r ≤ c + k
  all : (j : ℕ) → c ≤ j → j < r → entry_at s j ≡ p
  stop : r < c + k → entry_at s r ≡ p → ⊥

run_is : (s : List ℕ) (p c k : ℕ) → Run s p c k (run_end s p c k)
unfolding run_end
run_is s p c zero = record { low = omega arith; high = omega arith; all = λ j l m. omega arith; stop = λ l. omega arith }
run_is s p c (suc k) =
    let h = run_is s p (suc c) k in
    by_test (Run s p c (suc k)) (names s p c) (run_end s p (suc c) k) c
    (λ e.
    let here : entry_at s c ≡ p = omega tests in
    record {
      low = omega (arith, h.low);
      high = omega (arith, h.high);
      all = λ j l m. ⊎_elim (λ x. rw x here) (λ x. h.all j (omega arith) m) (eq_or_ne j c);
      stop = λ l. h.stop (omega arith);
    })
    (λ e. record { low = omega arith; high = omega arith; all = λ j l m. omega arith; stop = λ l q. omega tests })

-- where the entries fall, each of those from c on that names a page after p comes to p, and no other changes
record Pulled (s : List ℕ) (p c k : ℕ) (t : List ℕ) : Type 0 where
  len : length t ≡ length s
  nibs : (j : ℕ) → nibble t j ≡ nibble s j
  out : (j : ℕ) → j < c → entry_at t j ≡ entry_at s j
  later : (j : ℕ) → c ≤ j → j < c + k → p < entry_at s j → entry_at t j ≡ p
  other : (j : ℕ) → c ≤ j → j < c + k → entry_at s j ≤ p → entry_at t j ≡ entry_at s j

pulled : (s : List ℕ) (p c k : ℕ) → 120 ≤ length s → c + k ≤ 15 → p < 2 ^ 64
    → ((i j : ℕ) → c ≤ i → i ≤ j → j < c + k → entry_at s j ≤ entry_at s i) → Pulled s p c k (pulled_back p c k s)
unfolding pulled_back
pulled s p c zero r h b falls = record
    { len = refl; nibs = λ j. refl; out = λ j l. refl; later = λ j l m. omega arith; other = λ j l m. omega arith }
pulled s p c (suc k) r h b falls =
    let kept : (j : ℕ) → (j ≡ c → ⊥) → entry_at (set_entry s c p) j ≡ entry_at s j = entry_other s c p in
    let q = pulled (set_entry s c p) p (suc c) k (rw length_set_entry r) (omega arith) b
    (λ i j l m q. omega (arith, kept i (omega arith), kept j (omega arith), falls i j (omega arith) m (omega arith))) in
    by_test (Pulled s p c (suc k)) (names_no_later s p c) s (pulled_back p (suc c) k (set_entry s c p))
    (λ e.
    let stop : entry_at s c ≤ p = omega tests in
    record {
      len = refl;
      nibs = λ j. refl;
      out = λ j l. refl;
      later = λ j l m x. omega (arith, stop, falls c j (omega arith) l m);
      other = λ j l m x. refl;
    })
    (λ e.
    let goes : p < entry_at s c = omega tests in
    record {
      len = q.len ∙ length_set_entry s c p;
      nibs = λ j. q.nibs j ∙ nibble_entry s c p (j + 240) (omega arith);
      out = λ j l. q.out j (omega arith) ∙ kept j (omega arith);
      later = λ j l m x.
          ⊎_elim (λ y. rw y (q.out c (omega arith) ∙ entry_same s c p (omega arith) b))
          (λ y. q.later j (omega arith) (omega arith) (omega (arith, kept j y))) (eq_or_ne j c);
      other = λ j l m x.
          ⊎_elim (λ y. omega (arith, goes, ap (entry_at s) y))
          (λ y. q.other j (omega arith) (omega arith) (omega (arith, kept j y)) ∙ kept j y) (eq_or_ne j c);
    })

-- ---- the lowest pages after the class of page p changes

module _ (f : ℕ → ℕ) (n p v : ℕ) where
  changed_here : upd f p v p ≡ v
  changed_here = rw (eq-eqb p p refl)

  changed_other : (k : ℕ) → (k ≡ p → ⊥) → upd f p v k ≡ f k
  changed_other k ne = rw (ne_eqb k p ne)

  -- an entry that stays
  keeps : (c e : ℕ) → Lowest f n c e → (p < e → c < v) → (e ≡ p → v ≤ c) → Lowest (upd f p v) n c e
  keeps c e h a b = record {
    within = h.within;
    before = λ k l.
        ⊎_elim (λ x. omega (arith, changed_here, ap (upd f p v) x, a (omega arith))) (λ x. omega (arith, changed_other k x, h.before k l)) (eq_or_ne k p);
    here = λ l.
        ⊎_elim (λ x. omega (arith, changed_here, ap (upd f p v) x, b x)) (λ x. omega (arith, changed_other e x, h.here l)) (eq_or_ne e p);
  }

  -- an entry that comes to p
  comes : (c e : ℕ) → Lowest f n c e → p < e → v ≤ c → Lowest (upd f p v) n c p
  comes c e h l m = record {
    within = omega (arith, h.within);
    before = λ k q. omega (arith, changed_other k (omega arith), h.before k (omega arith));
    here = λ q. omega (arith, changed_here);
  }

  -- an entry that leaves p
  leaves : (c e : ℕ) → Lowest f n c p → c < v → p < n → Next (upd f p v) n p c e → Lowest (upd f p v) n c e
  leaves c e h l m q = record {
    within = q.within;
    before = λ k x.
        ⊎_elim (λ y. omega (arith, changed_other k (omega arith), h.before k y))
        (λ y. ⊎_elim (λ z. omega (arith, changed_here, ap (upd f p v) z)) (λ z. q.before k (omega arith) x) (eq_or_ne k p)) (lt_or_le k p);
    here = q.here;
  }

-- ---- an update keeps the inventory true

module _ (f : ℕ → ℕ) (n p v : ℕ) (s : List ℕ) (true₀ : Truth f n s) (room : Room s n) (small : n < 2 ^ 64) (lt : p < n) (low : f p < 16) (top : v ≤ 15) where
  s₁ : List ℕ
  s₁ = set_nibble s (p + 240) v

  nibbles₁ : (k : ℕ) → k + 240 < 2 * length s → nibble s₁ k ≡ upd f p v k
  unfolding s₁
  nibbles₁ k l =
      ⊎_elim
      (λ x. rw x (nibble_same s (p + 240) v (omega (arith, room.pages)) (omega arith) ∙ sym (changed_here f n p v)))
      (λ x. nibble_other s (p + 240) v (omega (arith, room.pages)) (omega arith) (k + 240) (omega arith) ∙ true₀.nibbles k l
      ∙ sym (changed_other f n p v k x))
      (eq_or_ne k p)

  entries₁ : (c : ℕ) → c < 15 → entry_at s₁ c ≡ entry_at s c
  unfolding s₁
  entries₁ c l = entry_nibble s (p + 240) v c (omega arith)

  old : ℕ
  old = nibble s p

  old_is : old ≡ f p
  unfolding old
  old_is = true₀.nibbles p (omega (arith, room.pages))

  r : ℕ
  r = run_end s₁ p old (v - old)

  run : Run s₁ p old (v - old) r
  unfolding r
  run = run_is s₁ p old (v - old)

  s₂ : List ℕ
  s₂ = set_from (next_page s₁ n p) old (r - old) s₁

  length₁ : length s₁ ≡ length s
  unfolding s₁
  length₁ = length_set_nibble s (p + 240) v

  next : (c : ℕ) → Next (upd f p v) n p c (next_page s₁ n p c)
  unfolding next_page
  next c =
      let h : First (upd f p v) c _ _ (next_page s₁ n p c) =
      first_agree (nibble s₁) (upd f p v) c _ _ _ (λ j l m. nibbles₁ j (omega (arith, room.pages))) (first_is (nibble s₁) c _ _) in
      record { within = omega (arith, h.high); before = λ j l m. h.before j (omega arith) m; here = λ l. h.here (omega arith) }

  -- an entry below the new class is right once those that name p have movedOn
  moves : (c : ℕ) → c < 15 → c < v → Lowest (upd f p v) n c (entry_at s₂ c)
  unfolding s₂
  moves c l m = ⊎_elim (λ a. stays (inl a)) (λ a. ⊎_elim (goes a) (λ b. stays (inr b)) (lt_or_le c r)) (lt_or_le c old)
    where
      goes : old ≤ c → c < r → Lowest (upd f p v) n c (entry_at s₂ c)
      goes a b =
          rw
          (down_in (next_page s₁ n p) old (r - old) s₁ c (omega (arith, length₁, room.entries))
          (omega (arith, run.low, run.high, old_is)) (omega (arith, (next c).within)) a (omega arith))
          (leaves f n p v c (next_page s₁ n p c) (rw (← run.all c a b, entries₁ c l) (true₀.entries c l)) m lt (next c))

      apart : (c < old) ⊎ (r ≤ c) → entry_at s c ≡ p → v ≤ c
      apart o e =
          ⊎_elim (λ a. omega (arith, old_is, rw e at ((true₀.entries c l).here (omega arith))))
          (λ a.
          let h = true₀.entries r (omega arith) in
          let stop : entry_at s r ≡ p → ⊥ = λ q. run.stop (omega (arith, run.low)) (entries₁ r (omega arith) ∙ q) in
          ⊎_elim (λ b. omega (arith, h.before p b, old_is, run.low))
          (λ b. omega (arith, stop, lowest_falls f n r c (entry_at s r) (entry_at s c) a h (true₀.entries c l)))
          (lt_or_le p (entry_at s r)))
          o

      stays : (c < old) ⊎ (r ≤ c) → Lowest (upd f p v) n c (entry_at s₂ c)
      stays o =
          rw (down_out (next_page s₁ n p) old (r - old) s₁ c (⊎_elim (λ a. inl a) (λ a. inr (omega (arith, run.low))) o), entries₁ c l)
          (keeps f n p v c (entry_at s c) (true₀.entries c l) (λ _. m) (apart o))

  -- an entry from the new class up has not movedOn
  waits : (c : ℕ) → c < 15 → v ≤ c → entry_at s₂ c ≡ entry_at s c
  unfolding s₂
  waits c l m =
      down_out (next_page s₁ n p) old (r - old) s₁ c
      (⊎_elim (λ a. inl a) (λ a. inr (omega (arith, run.low, run.high))) (lt_or_le c old))
      ∙ entries₁ c l

  length₂ : length s₂ ≡ length s
  unfolding s₂
  length₂ = down_length (next_page s₁ n p) old (r - old) s₁ ∙ length₁

  last : Pulled s₂ p v (15 - v) (pulled_back p v (15 - v) s₂)
  last =
      pulled s₂ p v (15 - v) (omega (arith, length₂, room.entries)) (omega arith) (omega arith)
      λ i j a b c.
      omega (
        arith,
        waits i (omega arith) a,
        waits j (omega arith) (omega arith),
        lowest_falls f n i j (entry_at s i) (entry_at s j) b (true₀.entries i (omega arith)) (true₀.entries j (omega arith)),
      )

  entry₃ : (c : ℕ) → c < 15 → Lowest (upd f p v) n c (entry_at (pulled_back p v (15 - v) s₂) c)
  entry₃ c l = ⊎_elim (λ a. rw (last.out c a) (moves c l a)) (λ a. ⊎_elim (pulls a) (stays a) (lt_or_le p (entry_at s c))) (lt_or_le c v)
    where
      pulls : v ≤ c → p < entry_at s c → Lowest (upd f p v) n c (entry_at (pulled_back p v (15 - v) s₂) c)
      pulls a b = rw (last.later c a (omega arith) (omega (arith, waits c l a))) (comes f n p v c (entry_at s c) (true₀.entries c l) b a)

      stays : v ≤ c → entry_at s c ≤ p → Lowest (upd f p v) n c (entry_at (pulled_back p v (15 - v) s₂) c)
      stays a b =
          rw (last.other c a (omega arith) (omega (arith, waits c l a)), waits c l a)
          (keeps f n p v c (entry_at s c) (true₀.entries c l) (λ q. omega arith) (λ q. a))

  truth₃ : Truth (upd f p v) n (pulled_back p v (15 - v) s₂)
  unfolding s₂
  truth₃ = record {
    nibbles = λ k l.
        last.nibs k ∙ down_nibble (next_page s₁ n p) old (r - old) s₁ k (omega (arith, run.low, run.high, old_is))
        ∙ nibbles₁ k (omega (arith, last.len, length₂));
    entries = entry₃;
  }

  -- where the class is the same
  truth₀ : v ≡ f p → Truth (upd f p v) n s
  truth₀ e = record {
    nibbles = λ k l.
        true₀.nibbles k l
        ∙ ⊎_elim (λ x. rw x (sym e ∙ sym (changed_here f n p v))) (λ x. sym (changed_other f n p v k x)) (eq_or_ne k p);
    entries = λ c l.
        keeps f n p v c (entry_at s c) (true₀.entries c l) (λ q. omega (arith, (true₀.entries c l).before p q))
        (λ q. omega (arith, rw q at ((true₀.entries c l).here (omega arith))));
  }

  -- an update keeps the inventory true, for the classes with page p at v
  pub updated_true : Truth (upd f p v) n (updated s n p v)
  unfolding updated moved_on old s₁ s₂ r
  updated_true =
      ⊎_elim (λ e. rw (eq-eqb (nibble s p) v e) (truth₀ (sym e ∙ old_is))) (λ e. rw (ne_eqb (nibble s p) v e) truth₃) (eq_or_ne (nibble s p) v)

-- ---- an update keeps the length

pull_length : (p c k : ℕ) (s : List ℕ) → length (pulled_back p c k s) ≡ length s
unfolding pulled_back
pull_length p c zero s = refl
pull_length p c (suc k) s =
    by_test (λ t. length t ≡ length s) (names_no_later s p c) s (pulled_back p (suc c) k (set_entry s c p)) (λ e. refl)
    (λ e. pull_length p (suc c) k (set_entry s c p) ∙ length_set_entry s c p)

pub length_updated : (s : List ℕ) (n p v : ℕ) → length (updated s n p v) ≡ length s
unfolding updated moved_on
length_updated s n p v = go (eqb (nibble s p) v)
  where
    t : List ℕ
    t = set_nibble s (p + 240) v

    d : ℕ
    d = run_end t p (nibble s p) (v - nibble s p) - nibble s p

    go : (b : Bool) → length (cond b s (pulled_back p v (15 - v) (set_from (next_page t n p) (nibble s p) d t))) ≡ length s
    go true = refl
    go false = pull_length p v (15 - v) (set_from (next_page t n p) (nibble s p) d t) ∙ down_length (next_page t n p) (nibble s p) d t
        ∙ length_set_nibble s (p + 240) v

-- the classes as another function says them
pub truth_by : (f g : ℕ → ℕ) (n : ℕ) (s : List ℕ) → f ≡ g → Truth f n s → Truth g n s
truth_by f g n s e t = subst (λ (h : ℕ → ℕ). Truth h n s) e t
