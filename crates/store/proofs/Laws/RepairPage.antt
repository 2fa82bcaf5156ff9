-- Repair on one page: what is kept, the numbers worked out, and that a page in use is sound afterwards. Numbers and slots alone: no byte of a
-- page occurs here.
use Rattle.std.specs.Prelude.{ℕ, zero, suc, ◌+◌, ◌-◌, ◌*◌, ◌≤◌, ◌<◌, min, ◌≡◌, Bool, true}
use Rattle.std.specs.Prelude.{false, cond, not, ◌&&◌, ◌||◌, List, [], ◌∷◌, ◌⊎◌, ◌≢◌, length, eqb}
use Rattle.std.specs.Prelude.{ltb, leb}
use Rattle.std.proofs.Math.Path.{refl}
use Rattle.std.proofs.Common.{sym, ap, ◌∙◌, inr, arith, not-suc-le-zero, length-drop, eq-eqb, ne_eqb, lt-ltb, le-ltb, leb-true, eqb-true, ltb-false}
use Rattle.std.proofs.Math.Logic.{inl}
use Rattle.std.proofs.Math.Decide.{ℕ_discrete, dec_lt}
use Rattle.std.proofs.lemmas.Bool.{eqb-false}
use Rattle.store.specs.Numbers.{sum, id_of}
use Rattle.store.specs.Slots.{off, len, is_record, is_target}
use Rattle.store.specs.Page.{View, fresh, apart}
use Rattle.store.specs.PageSteps.{next_free}
use Rattle.store.specs.Segment.{SegView}
use Rattle.store.specs.Repair.{lost, lies, clear, kept_below, is_in, keeps, holds, named, deed_by, deed, slot_done}
use Rattle.store.specs.Repair.{bytes_done, slot_after, bytes_after, lowest, start_after, mended, mended_by}
use Rattle.store.specs.declared.Deed.{Deed}
use Rattle.store.specs.declared.Deed.TheVariants.{Stays, RecordFreed, RedirectFreed, MadeOrdinary}
use Rattle.store.proofs.Laws.Cases.{by_test, not_in, or_in, or_out, or_true, or_false}
use Rattle.store.specs.Laws.Slots.{Codable}
use Rattle.store.specs.Laws.Edits.{Apart}
use Rattle.store.specs.Laws.Views.{Sound}
use Rattle.store.proofs.Laws.Views.{apart_flip, is_free_lem, sum_ext, sum_zero, sum_turn, next_low, next_taken, next_free_lem}
use Rattle.store.proofs.Laws.SoundPage.{and_both, and_in, or_right, two_apart}
use Rattle.store.specs.declared.Slot.{Slot}
use Rattle.store.specs.declared.Slot.TheVariants.{Ordinary, Free, Redirect, Target}

-- a page that is neither lost nor fresh is in use
pub used : (v : View) → lost v ≡ false → fresh v ≡ false → (0 < v.slot_count) × (v.slot_count ≤ 2046)
used v l f =
    let h = or_false (ltb 2046 v.slot_count) (eqb v.slot_count 0 && not (fresh v)) l in
    (some (ℕ_discrete v.slot_count 0) h.1, ltb-false 2046 v.slot_count h.0)
  where
    some : Dec (v.slot_count ≡ 0) → (eqb v.slot_count 0 && not (fresh v)) ≡ false → 0 < v.slot_count
    some (yes e) q =
        let a : not (fresh v) ≡ true = not_in (fresh v) f in
        let b = and_in (eqb v.slot_count 0) (not (fresh v)) (eq-eqb v.slot_count 0 e) a in
        let z : ◌≡◌ {A = ℕ} 0 1 = cc in absurd (omega arith)
    some (no n) q = omega arith

-- ---- the slots whose record is kept

pub in_cons : (j k : ℕ) (ks : List ℕ) → is_in j (k ∷ ks) ≡ true → (j ≡ k) ⊎ (is_in j ks ≡ true)
in_cons j k ks e = go (or_true (eqb j k) (is_in j ks) e)
  where
    go : (eqb j k ≡ true) ⊎ (is_in j ks ≡ true) → (j ≡ k) ⊎ (is_in j ks ≡ true)
    go (inl a) = inl (eqb-true j k a)
    go (inr b) = inr b

pub clear_at : (v : View) (k : ℕ) (js : List ℕ) → clear v k js ≡ true → (j : ℕ) → is_in j js ≡ true → apart v j k ≡ true
clear_at v k [] c j e = let z : ◌≡◌ {A = ℕ} 0 1 = cc in absurd (omega arith)
clear_at v k (i ∷ js) c j e = go (clear_at v k js) (and_both (apart v i k) (clear v k js) c) (in_cons j i js e)
  where
    go : (clear v k js ≡ true → (m : ℕ) → is_in m js ≡ true → apart v m k ≡ true) → (apart v i k ≡ true) × (clear v k js ≡ true) → (j ≡ i) ⊎ (is_in j js ≡ true)
        → apart v j k ≡ true
    go ih b (inl q) = ap (λ (x : ℕ). apart v x k) q ∙ b.0
    go ih b (inr q) = ih b.1 j q

pub clear_in : (v : View) (k : ℕ) (js : List ℕ) → ((j : ℕ) → is_in j js ≡ true → apart v j k ≡ true) → clear v k js ≡ true
clear_in v k [] h = refl
clear_in v k (i ∷ js) h =
    and_in (apart v i k) (clear v k js) (h i (or_in (eqb i i) (is_in i js) (eq-eqb i i refl))) (clear_in v k js (λ j e. h j (or_out (eqb j i) (is_in j js) e)))

-- what one turn tells
module _ (v : View) (k : ℕ) where
  abbrev pub good : Bool
  good = is_record (v.at k) && (lies v k && clear v k (kept_below v k))

  abbrev pub Turn : ℕ → Type 0
  Turn x = ((x ≡ k) × (is_record (v.at k) ≡ true) × (lies v k ≡ true) × (clear v k (kept_below v k) ≡ true)) ⊎ (is_in x (kept_below v k) ≡ true)

  pub one_more : kept_below v (suc k) ≡ cond good (k ∷ kept_below v k) (kept_below v k)
  unfolding kept_below
  one_more = refl

  pub turn : (j : ℕ) → is_in j (kept_below v (suc k)) ≡ true
      → Turn j
  turn j =
      rw one_more (by_test (λ (js : List ℕ). is_in j js ≡ true → Turn j)
      good (k ∷ kept_below v k) (kept_below v k)
      (λ g e.
      let a = and_both (is_record (v.at k)) (lies v k && clear v k (kept_below v k)) g in
      let b = and_both (lies v k) (clear v k (kept_below v k)) a.1 in
      go a.0 b.0 b.1 (in_cons j k (kept_below v k) e))
      (λ g e. inr e))
    where
      go : is_record (v.at k) ≡ true → lies v k ≡ true → clear v k (kept_below v k) ≡ true → (j ≡ k) ⊎ (is_in j (kept_below v k) ≡ true)
          → Turn j
      go r l c (inl q) = inl (q, r, l, c)
      go r l c (inr q) = inr q

none_in : (v : View) (j : ℕ) → is_in j (kept_below v zero) ≡ true → ⊥
unfolding kept_below
none_in v j e = let z : ◌≡◌ {A = ℕ} 0 1 = cc in omega arith

pub in_good : (v : View) (k j : ℕ) → is_in j (kept_below v k) ≡ true → (j < k) × (is_record (v.at j) ≡ true) × (lies v j ≡ true)
in_good v zero j e = absurd (none_in v j e)
in_good v (suc k) j e = go (in_good v k j) (turn v k j e)
  where
    go : (is_in j (kept_below v k) ≡ true → (j < k) × (is_record (v.at j) ≡ true) × (lies v j ≡ true))
        → Turn v k j
        → (j < suc k) × (is_record (v.at j) ≡ true) × (lies v j ≡ true)
    go ih (inl q) = (omega (arith, q.0), ap (λ (x : ℕ). is_record (v.at x)) q.0 ∙ q.1, ap (lies v) q.0 ∙ q.2)
    go ih (inr q) = let h = ih q in (omega (arith, h.0), h.1, h.2)

pub in_apart : (v : View) (k i j : ℕ) → i ≢ j → is_in i (kept_below v k) ≡ true → is_in j (kept_below v k) ≡ true → Apart (v.at i) (v.at j)
in_apart v zero i j n a b = absurd (none_in v i a)
in_apart v (suc k) i j n a b = go (in_apart v k i j n) (turn v k i a) (turn v k j b)
  where
    go : (is_in i (kept_below v k) ≡ true → is_in j (kept_below v k) ≡ true → Apart (v.at i) (v.at j)) → Turn v k i → Turn v k j → Apart (v.at i) (v.at j)
    go ih (inl x) (inl y) = absurd (n (x.0 ∙ sym y.0))
    go ih (inl x) (inr y) =
        let h = two_apart v j k (λ e. n (x.0 ∙ sym e)) (clear_at v k (kept_below v k) x.3 j y) in
        rw x.0 (apart_flip (v.at j) (v.at k) h)
    go ih (inr x) (inl y) =
        let h = two_apart v i k (λ e. n (e ∙ sym y.0)) (clear_at v k (kept_below v k) y.3 i x) in
        rw y.0 h
    go ih (inr x) (inr y) = ih x y

-- where all records lie well and apart, all are kept
pub in_all : (v : View) (k : ℕ) → ((j : ℕ) → is_record (v.at j) ≡ true → lies v j ≡ true) → ((i j : ℕ) → apart v i j ≡ true)
    → (j : ℕ) → j < k → is_record (v.at j) ≡ true → is_in j (kept_below v k) ≡ true
in_all v zero l a j h r = absurd (not-suc-le-zero h)
in_all v (suc k) l a j h r = go (in_all v k l a j) (ℕ_discrete j k)
  where
    next : (b : Bool) → good v k ≡ b → is_record (v.at k) ≡ true → is_in k (cond b (k ∷ kept_below v k) (kept_below v k)) ≡ true
    next true e q = or_in (eqb k k) (is_in k (kept_below v k)) (eq-eqb k k refl)
    next false e q =
        let g = and_in (is_record (v.at k)) (lies v k && clear v k (kept_below v k)) q
        (and_in (lies v k) (clear v k (kept_below v k)) (l k q) (clear_in v k (kept_below v k) (λ i w. a i k))) in
        let z : ◌≡◌ {A = ℕ} 0 1 = cc in absurd (omega arith)

    older : (b : Bool) → is_in j (kept_below v k) ≡ true → is_in j (cond b (k ∷ kept_below v k) (kept_below v k)) ≡ true
    older true e = or_out (eqb j k) (is_in j (kept_below v k)) e
    older false e = e

    go : (j < k → is_record (v.at j) ≡ true → is_in j (kept_below v k) ≡ true) → Dec (j ≡ k) → is_in j (kept_below v (suc k)) ≡ true
    go ih (yes e) = rw (one_more v k, e) (next (good v k) refl (ap (λ (x : ℕ). is_record (v.at x)) (sym e) ∙ r))
    go ih (no n) = rw (one_more v k) (older (good v k) (ih (omega arith) r))

-- ---- what a kept record is

pub record Keeps (v : View) (k : ℕ) : Type 0 where
  pub below : k < v.slot_count
  pub is : is_record (v.at k) ≡ true
  pub high : off (v.at k) + len (v.at k) ≤ 16384
  pub target : is_target (v.at k) ≡ true → 8 ≤ len (v.at k)
  pub low : 0 < len (v.at k) → 12 + 8 * v.slot_count ≤ off (v.at k)

pub keeps_is : (v : View) (k : ℕ) → keeps v k ≡ true → Keeps v k
unfolding keeps
keeps_is v k e =
    let h = in_good v v.slot_count k e in
    let x : Slot = v.at k in
    let a = and_both (leb (off x + len x) 16384) ((not (is_target x) || leb 8 (len x)) && (eqb (len x) 0 || leb (12 + 8 * v.slot_count) (off x))) h.2 in
    let b = and_both (not (is_target x) || leb 8 (len x)) (eqb (len x) 0 || leb (12 + 8 * v.slot_count) (off x)) a.1 in
    record {
      below = h.0;
      is = h.1;
      high = leb-true (off x + len x) 16384 a.0;
      target = λ t. leb-true 8 (len x) (or_right (not (is_target x)) (leb 8 (len x)) (ap not t) b.0);
      low =
          λ p. leb-true (12 + 8 * v.slot_count) (off x) (or_right (eqb (len x) 0) (leb (12 + 8 * v.slot_count) (off x)) (ne_eqb (len x) 0 (omega arith))
          b.1);
    }

pub keeps_apart : (v : View) (i j : ℕ) → i ≢ j → keeps v i ≡ true → keeps v j ≡ true → Apart (v.at i) (v.at j)
unfolding keeps
keeps_apart v i j n a b = in_apart v v.slot_count i j n a b

-- ---- what any page of 16,384 bytes shows, sound or not

pub record Shown (v : View) : Type 0 where
  pub codable : (j : ℕ) → Codable (v.at j)
  pub past : (j : ℕ) → v.slot_count ≤ j → v.at j ≡ Free
  pub lens : (j : ℕ) → off (v.at j) + len (v.at j) ≤ 16384 → length (v.bytes j) ≡ len (v.at j)

-- what slot k becomes
pub record After (v : View) (k : ℕ) (y : Slot) (bs : List ℕ) : Type 0 where
  pub high : off y + len y ≤ 16384
  pub within : 0 < len y → (keeps v k ≡ true) × (off (v.at k) ≤ off y) × (off y + len y ≤ off (v.at k) + len (v.at k)) × (0 < len (v.at k))
  pub target : is_target y ≡ true → 8 ≤ len y
  pub codable : Codable y
  pub past : v.slot_count ≤ k → y ≡ Free
  pub lens : length bs ≡ len y

module _ (u : SegView) (p : ℕ) (h : Shown (u.page p)) (k : ℕ) where
  v : View
  v = u.page p

  freed : (bs : List ℕ) → length bs ≡ 0 → After (u.page p) k Free bs
  freed bs e =
      record {
        high = omega arith;
        within = λ l. absurd (omega arith);
        target = λ e. let z : ◌≡◌ {A = ℕ} 0 1 = cc in absurd (omega arith);
        codable = tt;
        past = λ l. refl;
        lens = e;
      }

  not_past : keeps (u.page p) k ≡ true → (y : Slot) → (u.page p).slot_count ≤ k → y ≡ Free
  not_past e y l = absurd (omega (arith, (keeps_is (u.page p) k e).below))

  -- a kept record as it is
  own : (x : Slot) → (u.page p).at k ≡ x → keeps (u.page p) k ≡ true → After (u.page p) k x ((u.page p).bytes k)
  own x e q =
      let w = keeps_is (u.page p) k q in
      record {
        high = rw e at w.high;
        within = λ l. (q, omega (arith, ap off e), omega (arith, ap off e, ap len e), omega (arith, ap len e));
        target = λ t. omega (arith, ap len e, w.target (ap is_target e ∙ t));
        codable = rw e at (h.codable k);
        past = not_past q x;
        lens = h.lens k w.high ∙ ap len e;
      }

  after_by : (x : Slot) → (u.page p).at k ≡ x → After (u.page p) k (slot_done (deed_by u p k x) x) (bytes_done (deed_by u p k x) ((u.page p).bytes k))
  after_by (Ordinary o l) e =
      by_test (λ (d : Deed). After (u.page p) k (slot_done d (Ordinary o l)) (bytes_done d ((u.page p).bytes k))) (keeps (u.page p) k) Stays RecordFreed
      (λ q. own (Ordinary o l) e q) (λ q. freed [] refl)
  after_by Free e = freed ((u.page p).bytes k) (h.lens k (rw e (omega arith)) ∙ ap len e)
  after_by (Redirect t) e =
      by_test (λ (d : Deed). After (u.page p) k (slot_done d (Redirect t)) (bytes_done d ((u.page p).bytes k))) (holds u (id_of p k) t) Stays RedirectFreed
      (λ q. record {
        high = omega arith;
        within = λ l. absurd (omega arith);
        target = λ w. let z : ◌≡◌ {A = ℕ} 0 1 = cc in absurd (omega arith);
        codable = rw e at (h.codable k);
        past = λ l. sym e ∙ h.past k l;
        lens = h.lens k (rw e (omega arith)) ∙ ap len e;
      })
      (λ q. freed [] refl)
  after_by (Target o l) e =
      by_test (λ (d : Deed). After (u.page p) k (slot_done d (Target o l)) (bytes_done d ((u.page p).bytes k))) (keeps (u.page p) k)
      (cond (named u (id_of p k)) Stays MadeOrdinary) RecordFreed
      (λ q. by_test (λ (d : Deed). After (u.page p) k (slot_done d (Target o l)) (bytes_done d ((u.page p).bytes k))) (named u (id_of p k)) Stays MadeOrdinary
      (λ w. own (Target o l) e q)
      (λ w.
      let m = keeps_is (u.page p) k q in
      let ho : off ((u.page p).at k) ≡ o = ap off e in
      let hl : len ((u.page p).at k) ≡ l = ap len e in
      let g : 8 ≤ len ((u.page p).at k) = m.target (ap is_target e) in
      record {
        high = omega (arith, m.high);
        within = λ z. (q, omega arith, omega arith, omega arith);
        target = λ z. let z : ◌≡◌ {A = ℕ} 0 1 = cc in absurd (omega arith);
        codable = (omega (arith, m.high), omega (arith, m.high));
        past = not_past q _;
        lens = length-drop 8 ((u.page p).bytes k) ∙ omega (arith, h.lens k m.high);
      }))
      (λ q. freed [] refl)

  pub after : After (u.page p) k (slot_after u p k) (bytes_after u p k)
  unfolding deed
  after = after_by ((u.page p).at k) refl

-- ---- records of a page that lie apart have room beside each other: a count of the bytes that they cover

-- byte x is covered by a record at o of length l
abbrev covers : ℕ → ℕ → ℕ → ℕ
covers o l x = cond (ltb x o) 0 (cond (ltb x (o + l)) 1 0)

covers_not : (o l x : ℕ) → (x < o) ⊎ (o + l ≤ x) → covers o l x ≡ 0
covers_not o l x (inl a) = rw (lt-ltb x o a)
covers_not o l x (inr a) = rw (le-ltb x o (omega arith), le-ltb x (o + l) a)

covers_sum : (o l m : ℕ) → sum m (covers o l) ≡ min m (o + l) - min m o
covers_sum o l zero = omega arith
covers_sum o l (suc m) = go (covers_sum o l m) (dec_lt m o) (dec_lt m (o + l))
  where
    go : sum m (covers o l) ≡ min m (o + l) - min m o → Dec (m < o) → Dec (m < o + l) → covers o l m + sum m (covers o l) ≡ min (suc m) (o + l) - min (suc m) o
    go ih (yes a) b = rw (lt-ltb m o a) (omega arith)
    go ih (no a) (yes b) = rw (le-ltb m o (omega arith), lt-ltb m (o + l) b) (omega arith)
    go ih (no a) (no b) = rw (le-ltb m o (omega arith), le-ltb m (o + l) (omega arith)) (omega arith)

sum_ones : (m a : ℕ) (f : ℕ → ℕ) → ((x : ℕ) → x < a → f x ≡ 0) → ((x : ℕ) → f x ≤ 1) → sum m f ≤ m - a
sum_ones zero a f z o = omega arith
sum_ones (suc m) a f z o = go (sum_ones m a f z o) (dec_lt m a)
  where
    go : sum m f ≤ m - a → Dec (m < a) → f m + sum m f ≤ suc m - a
    go ih (yes l) = omega (arith, z m l)
    go ih (no l) = omega (arith, o m)

module _ (at : ℕ → Slot) (aparts : (i j : ℕ) → i ≢ j → Apart (at i) (at j)) (x : ℕ) where
  -- at most one record covers a byte
  once : (n : ℕ) → sum n (λ k. covers (off (at k)) (len (at k)) x) ≤ 1
  once zero = omega arith
  once (suc n) = go (once n) (dec_lt x (off (at n))) (dec_lt x (off (at n) + len (at n)))
    where
      other : off (at n) ≤ x → x < off (at n) + len (at n) → (j : ℕ) → j < n → Dec (0 < len (at j)) → covers (off (at j)) (len (at j)) x ≡ 0
      other a b j l (yes s) = covers_not (off (at j)) (len (at j)) x (side (aparts n j (omega arith) (omega arith) s))
        where
          side : (off (at n) + len (at n) ≤ off (at j)) ⊎ (off (at j) + len (at j) ≤ off (at n)) → (x < off (at j)) ⊎ (off (at j) + len (at j) ≤ x)
          side (inl q) = inl (omega arith)
          side (inr q) = inr (omega arith)
      other a b j l (no s) = covers_not (off (at j)) (len (at j)) x (side (dec_lt x (off (at j))))
        where
          side : Dec (x < off (at j)) → (x < off (at j)) ⊎ (off (at j) + len (at j) ≤ x)
          side (yes q) = inl q
          side (no q) = inr (omega arith)

      go : sum n (λ k. covers (off (at k)) (len (at k)) x) ≤ 1 → Dec (x < off (at n)) → Dec (x < off (at n) + len (at n))
          → covers (off (at n)) (len (at n)) x + sum n (λ k. covers (off (at k)) (len (at k)) x) ≤ 1
      go ih (yes a) b = omega (arith, covers_not (off (at n)) (len (at n)) x (inl a))
      go ih (no a) (no b) = omega (arith, covers_not (off (at n)) (len (at n)) x (inr (omega arith)))
      go ih (no a) (yes b) =
          let z = sum_zero n (λ k. covers (off (at k)) (len (at k)) x) (λ j l. other (omega arith) b j l (dec_lt 0 (len (at j)))) in
          let o : covers (off (at n)) (len (at n)) x ≡ 1 = rw (le-ltb x (off (at n)) (omega arith), lt-ltb x (off (at n) + len (at n)) b) in
          omega arith

pub room_beside : (at : ℕ → Slot) (n m a : ℕ) → ((i j : ℕ) → i ≢ j → Apart (at i) (at j)) → ((j : ℕ) → off (at j) + len (at j) ≤ m)
    → ((j : ℕ) → 0 < len (at j) → a ≤ off (at j))
    → sum n (λ k. len (at k)) ≤ m - a
room_beside at n m a aparts high low =
    let one : sum n (λ k. len (at k)) ≡ sum n (λ k. sum m (covers (off (at k)) (len (at k)))) =
    sum_ext n (λ k. len (at k)) (λ k. sum m (covers (off (at k)) (len (at k)))) (λ j l. omega (arith, covers_sum (off (at j)) (len (at j)) m, high j)) in
    let two = sum_turn n m (λ k. covers (off (at k)) (len (at k))) in
    let three = sum_ones m a (λ x. sum n (λ k. covers (off (at k)) (len (at k)) x))
    (λ x l. sum_zero n (λ k. covers (off (at k)) (len (at k)) x) (λ j q. none x l j (dec_lt 0 (len (at j))))) (λ x. once at aparts x n) in
    omega arith
  where
    none : (x : ℕ) → x < a → (j : ℕ) → Dec (0 < len (at j)) → covers (off (at j)) (len (at j)) x ≡ 0
    none x l j (yes s) = covers_not (off (at j)) (len (at j)) x (inl (omega (arith, low j s)))
    none x l j (no s) = covers_not (off (at j)) (len (at j)) x (side (dec_lt x (off (at j))))
      where
        side : Dec (x < off (at j)) → (x < off (at j)) ⊎ (off (at j) + len (at j) ≤ x)
        side (yes q) = inl q
        side (no q) = inr (omega arith)

-- ---- the lowest offset

pub lowest_top : (n : ℕ) (at : ℕ → Slot) → lowest n at ≤ 16384
lowest_top zero at = omega arith
lowest_top (suc n) at = go (lowest_top n at) (eqb (len (at n)) 0)
  where
    go : lowest n at ≤ 16384 → (b : Bool) → cond b (lowest n at) (min (off (at n)) (lowest n at)) ≤ 16384
    go ih true = ih
    go ih false = omega arith

pub lowest_each : (n : ℕ) (at : ℕ → Slot) (j : ℕ) → j < n → 0 < len (at j) → lowest n at ≤ off (at j)
lowest_each zero at j l s = absurd (not-suc-le-zero l)
lowest_each (suc n) at j l s = go (lowest_each n at j) (ℕ_discrete j n) (eqb (len (at n)) 0) refl
  where
    go : (j < n → 0 < len (at j) → lowest n at ≤ off (at j)) → Dec (j ≡ n) → (b : Bool) → eqb (len (at n)) 0 ≡ b
        → cond b (lowest n at) (min (off (at n)) (lowest n at)) ≤ off (at j)
    go ih (yes e) true q = absurd (omega (arith, eqb-true (len (at n)) 0 q, ap (λ (x : ℕ). len (at x)) e))
    go ih (yes e) false q = omega (arith, ap (λ (x : ℕ). off (at x)) e)
    go ih (no e) true q = ih (omega arith) s
    go ih (no e) false q = omega (arith, ih (omega arith) s)

pub lowest_low : (n : ℕ) (at : ℕ → Slot) (d : ℕ) → d ≤ 16384 → ((j : ℕ) → j < n → 0 < len (at j) → d ≤ off (at j)) → d ≤ lowest n at
lowest_low zero at d t h = t
lowest_low (suc n) at d t h = go (lowest_low n at d t (λ j l. h j (omega arith))) (eqb (len (at n)) 0) refl
  where
    go : d ≤ lowest n at → (b : Bool) → eqb (len (at n)) 0 ≡ b → d ≤ cond b (lowest n at) (min (off (at n)) (lowest n at))
    go ih true q = ih
    go ih false q = omega (arith, h n (omega arith) (omega (arith, eqb-false (len (at n)) 0 q)))

pub record Start (c : ℕ) (at : ℕ → Slot) (e : ℕ) : Type 0 where
  pub dir : 12 + 8 * c ≤ e
  pub under : e ≤ lowest c at

pub start_is : (c d : ℕ) (at : ℕ → Slot) → 12 + 8 * c ≤ lowest c at → Start c at (start_after c d at)
start_is c d at h =
    by_test (Start c at) (leb (12 + 8 * c) d && leb d (lowest c at)) d (lowest c at)
    (λ e. let b = and_both (leb (12 + 8 * c) d) (leb d (lowest c at)) e in
    record { dir = leb-true (12 + 8 * c) d b.0; under = leb-true d (lowest c at) b.1 })
    (λ e. record { dir = h; under = omega arith })

-- ---- a page in use is sound afterwards

module _ (u : SegView) (p : ℕ) (h : Shown (u.page p)) (some : 0 < (u.page p).slot_count) (few : (u.page p).slot_count ≤ 2046) where
  abbrev c : ℕ
  c = (u.page p).slot_count

  abbrev at' : ℕ → Slot
  at' = slot_after u p

  low' : (j : ℕ) → 0 < len (at' j) → 12 + 8 * c ≤ off (at' j)
  low' j s = let w = (after u p h j).within s in omega (arith, (keeps_is (u.page p) j w.0).low w.3)

  aparts' : (i j : ℕ) → i ≢ j → Apart (at' i) (at' j)
  aparts' i j n a b =
      let x = (after u p h i).within a in
      let y = (after u p h j).within b in
      side x y (keeps_apart (u.page p) i j n x.0 y.0 x.3 y.3)
    where
      side : (keeps (u.page p) i ≡ true) × (off ((u.page p).at i) ≤ off (at' i)) × (off (at' i) + len (at' i) ≤ off ((u.page p).at i) + len ((u.page p).at i))
          × (0 < len ((u.page p).at i))
          → (keeps (u.page p) j ≡ true) × (off ((u.page p).at j) ≤ off (at' j)) × (off (at' j) + len (at' j) ≤ off ((u.page p).at j) + len ((u.page p).at j))
          × (0 < len ((u.page p).at j))
          → (off ((u.page p).at i) + len ((u.page p).at i) ≤ off ((u.page p).at j)) ⊎ (off ((u.page p).at j) + len ((u.page p).at j) ≤ off ((u.page p).at i))
          → (off (at' i) + len (at' i) ≤ off (at' j)) ⊎ (off (at' j) + len (at' j) ≤ off (at' i))
      side x y (inl q) = inl (omega arith)
      side x y (inr q) = inr (omega arith)

  room' : sum c (λ k. len (at' k)) ≤ 16384 - (12 + 8 * c)
  room' = room_beside at' c 16384 (12 + 8 * c) aparts' (λ j. (after u p h j).high) low'

  start' : Start c at' (start_after c (u.page p).data_start at')
  start' = start_is c (u.page p).data_start at' (lowest_low c at' (12 + 8 * c) (omega arith) (λ j l s. low' j s))

  first_free' : at' (next_free c at' 0) ≡ Free
  first_free' = go (dec_lt (next_free c at' 0) c)
    where
      go : Dec (next_free c at' 0 < c) → at' (next_free c at' 0) ≡ Free
      go (yes l) = is_free_lem (at' (next_free c at' 0)) (next_free_lem c at' 0 (omega arith))
      go (no l) = (after u p h (next_free c at' 0)).past (omega arith)

  low_by : (j : ℕ) → 0 < len (at' j) → Dec (j < c) → start_after c (u.page p).data_start at' ≤ off (at' j)
  low_by j s (yes l) = omega (arith, start'.under, lowest_each c at' j l s)
  low_by j s (no l) = let z : len (at' j) ≡ 0 = ap len ((after u p h j).past (omega arith)) in absurd (omega arith)

  pub mended_sound : Sound (mended u p)
  unfolding mended_by
  mended_sound =
      record {
        few = few;
        first≤ = omega (arith, next_low c at' 0);
        first_is_free = first_free';
        lower = λ j l. next_taken c at' 0 j (omega arith) l;
        dir = start'.dir;
        start≤ = omega (arith, start'.under, lowest_top c at');
        low = λ j s. low_by j s (dec_lt j c);
        high = λ j. (after u p h j).high;
        apart = aparts';
        targets = λ j. (after u p h j).target;
        sums = omega (arith, room');
        codable = λ j. (after u p h j).codable;
        past = λ j. (after u p h j).past;
        lens = λ j. (after u p h j).lens;
        in_use = inl some;
      }
