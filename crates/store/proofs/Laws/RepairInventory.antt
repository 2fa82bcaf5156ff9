-- The true inventory: the fold of updates is one, what is the same as it is one, and any two are the same.
use Rattle.std.specs.Prelude.{ℕ, zero, suc, ◌+◌, ◌-◌, ◌*◌, ◌/◌, ◌%◌, ◌≤◌, ◌<◌, ◌≡◌, refl, Bool, true, false, cond, List, [], ◌∷◌, length, get_or, drop, eqb}
use Rattle.std.specs.Prelude.{ltb}
use Rattle.std.proofs.Common.{sym, ap, ◌∙◌, subst, arith, length-drop, get_or-drop, ext_get_or, eq-eqb, eqb-true, ne_eqb, lt-ltb, le-ltb}
use Rattle.std.proofs.Math.Decide.{ℕ_discrete, dec_lt}
use Rattle.std.proofs.lemmas.List.{length-replicate}
use Rattle.store.specs.Numbers.{same_bytes, upd, all}
use Rattle.store.specs.Page.{fresh}
use Rattle.store.specs.Inventory.{class_of, half_of, nibble_at, nibble, entry_at, update, Truth}
use Rattle.store.specs.Segment.{SegView}
use Rattle.store.specs.SoundSegment.{nibble_of}
use Rattle.store.specs.Repair.{true_inv, same_inv}
use Rattle.store.proofs.Laws.Cases.{by_test}
use Rattle.store.proofs.Laws.Classes.{class_top}
use Rattle.store.proofs.Laws.Truth.{lowest_falls}
use Rattle.store.proofs.Laws.Settled.{Bounded, update_true, length_update}
use Rattle.store.proofs.Laws.SoundPage.{and_both, and_in, all_at, all_in}
use Rattle.store.proofs.Laws.Blank.{nibble_zero, entry_zero}

-- the classes where the first p pages are as seen, and those from p on fresh
abbrev pub classes_to : SegView → ℕ → ℕ → ℕ
classes_to w p q = cond (ltb q p) (nibble_of (w.page q)) 0

classes_bounded : (w : SegView) (p : ℕ) → Bounded (classes_to w p)
classes_bounded w p q =
    by_test (λ m. m < 16) (ltb q p) (nibble_of (w.page q)) 0
    (λ e. by_test (λ m. m < 16) (fresh (w.page q)) 0 (class_of (16372 - (w.page q).free_space)) (λ f. omega arith)
    (λ f. omega (arith, class_top (16372 - (w.page q).free_space))))
    (λ e. omega arith)

-- one page more
more_fresh : (w : SegView) (p : ℕ) → fresh (w.page p) ≡ true → classes_to w p ≡ classes_to w (suc p)
more_fresh w p f = λ z q. each q (ℕ_discrete q p) (dec_lt q p) z
  where
    each : (q : ℕ) → Dec (q ≡ p) → Dec (q < p) → classes_to w p q ≡ classes_to w (suc p) q
    each q (yes e) l =
        let n : nibble_of (w.page q) ≡ 0 = ap (λ (x : ℕ). nibble_of (w.page x)) e ∙ ap (λ (b : Bool). cond b 0 (class_of (16372 - (w.page p).free_space))) f in
        rw (le-ltb q p (omega arith), lt-ltb q (suc p) (omega arith)) (sym n)
    each q (no e) (yes l) = rw (lt-ltb q p l, lt-ltb q (suc p) (omega arith))
    each q (no e) (no l) = rw (le-ltb q p (omega arith), le-ltb q (suc p) (omega arith))

more_used : (w : SegView) (p : ℕ) → fresh (w.page p) ≡ false → upd (classes_to w p) p (class_of (16372 - (w.page p).free_space)) ≡ classes_to w (suc p)
more_used w p f = λ z q. each q (ℕ_discrete q p) (dec_lt q p) z
  where
    each : (q : ℕ) → Dec (q ≡ p) → Dec (q < p) → upd (classes_to w p) p (class_of (16372 - (w.page p).free_space)) q ≡ classes_to w (suc p) q
    each q (yes e) l =
        let n : nibble_of (w.page q) ≡ class_of (16372 - (w.page p).free_space) =
        ap (λ (x : ℕ). nibble_of (w.page x)) e ∙ ap (λ (b : Bool). cond b 0 (class_of (16372 - (w.page p).free_space))) f in
        rw (eq-eqb q p e, lt-ltb q (suc p) (omega arith)) (sym n)
    each q (no e) (yes l) = rw (ne_eqb q p e, lt-ltb q p l, lt-ltb q (suc p) (omega arith))
    each q (no e) (no l) = rw (ne_eqb q p e, le-ltb q p (omega arith), le-ltb q (suc p) (omega arith))

pub true_length : (w : SegView) (n p : ℕ) → length (true_inv w n p) ≡ 16384
unfolding true_inv
true_length w n zero = length-replicate {A = ℕ} 16384 0
true_length w n (suc p) =
    by_test (λ (r : List ℕ). length r ≡ 16384) (fresh (w.page p)) (true_inv w n p) (update (true_inv w n p) n p (w.page p).free_space) (λ f. true_length w n p)
    (λ f. length_update (true_inv w n p) n p (w.page p).free_space ∙ true_length w n p)

pub true_is : (w : SegView) (n : ℕ) → n ≤ 32527 → (p : ℕ) → p ≤ n → Truth (classes_to w p) n (true_inv w n p)
unfolding true_inv
true_is w n few zero l =
    record {
      nibbles = λ k m. nibble_zero k ∙ sym (none k);
      entries = λ c m. rw (entry_zero c) (record { within = omega arith; before = λ k q. absurd (omega arith); here = λ q. rw (none 0) (omega arith) });
    }
  where
    none : (q : ℕ) → classes_to w 0 q ≡ 0
    none q = rw (le-ltb q 0 (omega arith))
true_is w n few (suc p) l =
    let h = true_is w n few p (omega arith) in
    by_test (λ (r : List ℕ). Truth (classes_to w (suc p)) n r) (fresh (w.page p)) (true_inv w n p) (update (true_inv w n p) n p (w.page p).free_space)
    (λ f. subst (λ (g : ℕ → ℕ). Truth g n (true_inv w n p)) (more_fresh w p f) h)
    (λ f. subst (λ (g : ℕ → ℕ). Truth g n (update (true_inv w n p) n p (w.page p).free_space)) (more_used w p f)
    (update_true (classes_to w p) n few (true_inv w n p) (true_length w n p) (classes_bounded w p) h p (w.page p).free_space (omega arith)))

-- ---- the same inventory

pub same_is : (xs ys : List ℕ) → same_bytes xs ys ≡ true → xs ≡ ys
same_is [] [] e = refl
same_is [] (y ∷ ys) e = let z : ◌≡◌ {A = ℕ} 0 1 = cc in absurd (omega arith)
same_is (x ∷ xs) [] e = let z : ◌≡◌ {A = ℕ} 0 1 = cc in absurd (omega arith)
same_is (x ∷ xs) (y ∷ ys) e = let b = and_both (eqb x y) (same_bytes xs ys) e in λ i. eqb-true x y b.0 i ∷ same_is xs ys b.1 i

pub same_own : (xs : List ℕ) → same_bytes xs xs ≡ true
same_own [] = refl
same_own (x ∷ xs) = and_in (eqb x x) (same_bytes xs xs) (eq-eqb x x refl) (same_own xs)

-- the byte of nibbles 2x and 2x + 1
byte_of : (v : List ℕ) (x : ℕ) → (nibble v (2 * x) ≡ get_or v (120 + x) 0 % 16) × (nibble v (2 * x + 1) ≡ get_or v (120 + x) 0 / 16)
unfolding nibble_at
byte_of v x =
    let a : (2 * x + 240) / 2 ≡ 120 + x = omega arith in
    let b : (2 * x + 1 + 240) / 2 ≡ 120 + x = omega arith in
    let c : (2 * x + 240) % 2 ≡ 0 = omega arith in
    let d : (2 * x + 1 + 240) % 2 ≡ 1 = omega arith in
    (rw (a, c), rw (b, d))

nibble_drop : (v : List ℕ) (k : ℕ) → nibble v k ≡ half_of (get_or (drop 120 v) (k / 2) 0) ((k + 240) % 2)
unfolding nibble_at
nibble_drop v k =
    let a : (k + 240) / 2 ≡ 120 + k / 2 = omega arith in
    rw a (ap (λ (b : ℕ). half_of b ((k + 240) % 2)) (sym (get_or-drop 120 v (k / 2) 0)))

-- what is the same as a true inventory is true
pub same_true : (f : ℕ → ℕ) (n : ℕ) (v w : List ℕ) → length v ≡ length w → same_inv v w ≡ true → Truth f n w → Truth f n v
unfolding same_inv
same_true f n v w l e t =
    let b = and_both (all 15 (λ c. eqb (entry_at v c) (entry_at w c))) (same_bytes (drop 120 v) (drop 120 w)) e in
    let d : drop 120 v ≡ drop 120 w = same_is (drop 120 v) (drop 120 w) b.1 in
    record {
      nibbles = λ k m. nibble_drop v k ∙ ap (λ (r : List ℕ). half_of (get_or r (k / 2) 0) ((k + 240) % 2)) d ∙ sym (nibble_drop w k)
          ∙ t.nibbles k (omega arith);
      entries = λ c m. rw (eqb-true (entry_at v c) (entry_at w c) (all_at 15 (λ x. eqb (entry_at v x) (entry_at w x)) b.0 c m)) (t.entries c m);
    }

-- two true inventories are the same
pub true_same : (f : ℕ → ℕ) (n : ℕ) (v w : List ℕ) → length v ≡ 16384 → length w ≡ 16384 → Truth f n v → Truth f n w → same_inv v w ≡ true
unfolding same_inv
true_same f n v w lv lw a b =
    and_in (all 15 (λ c. eqb (entry_at v c) (entry_at w c))) (same_bytes (drop 120 v) (drop 120 w))
    (all_in 15 (λ c. eqb (entry_at v c) (entry_at w c))
    (λ c m. eq-eqb (entry_at v c) (entry_at w c) (omega (
      arith,
      lowest_falls f n c c (entry_at v c) (entry_at w c) (omega arith) (a.entries c m) (b.entries c m),
      lowest_falls f n c c (entry_at w c) (entry_at v c) (omega arith) (b.entries c m) (a.entries c m),
    ))))
    (subst (λ (r : List ℕ). same_bytes (drop 120 v) r ≡ true)
    (ext_get_or 0 (drop 120 v) (drop 120 w) (length-drop 120 v ∙ omega arith ∙ sym (length-drop 120 w)) each) (same_own (drop 120 v)))
  where
    each : (x : ℕ) → x < length (drop 120 v) → get_or (drop 120 v) x 0 ≡ get_or (drop 120 w) x 0
    each x l =
        let h = byte_of v x in
        let g = byte_of w x in
        let m : x < 16264 = omega (arith, length-drop 120 v) in
        let lo = a.nibbles (2 * x) (omega arith) ∙ sym (b.nibbles (2 * x) (omega arith)) in
        let hi = a.nibbles (2 * x + 1) (omega arith) ∙ sym (b.nibbles (2 * x + 1) (omega arith)) in
        let e : get_or v (120 + x) 0 ≡ get_or w (120 + x) 0 = omega arith in
        get_or-drop 120 v x 0 ∙ e ∙ sym (get_or-drop 120 w x 0)
