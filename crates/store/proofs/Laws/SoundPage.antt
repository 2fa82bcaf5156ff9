-- The sound-page test, taken apart: a page that passes it shows a sound view.
use Rattle.std.specs.Prelude.{ℕ, zero, suc, ◌+◌, ◌*◌, ◌/◌, ◌%◌, ◌^◌, ◌≤◌, ◌<◌, ◌≡◌}
use Rattle.std.specs.Prelude.{refl, Bool, false, cond, ◌&&◌, ◌||◌, List, [], ◌∷◌, ◌⊎◌, ◌≢◌, length}
use Rattle.std.specs.Prelude.{drop, ltb, leb, eqb}
use Rattle.std.proofs.Math.Path.{ap}
use Rattle.std.proofs.Common.{◌∙◌, inl, inr, not-suc-le-zero}
use Rattle.std.proofs.Math.Bool.{true, not}
use native.Mathlib.Omega.{arith}
use Rattle.std.proofs.Math.Decide.{ℕ_discrete, dec_lt}
use Rattle.std.proofs.Math.ListN.{length-take, length-drop}
use borrow.Author.Tests.{le-ltb, lt-leb, le-leb, leb-true, eqb-true, eq-eqb, ne_eqb, not-true}
use Rattle.store.specs.Numbers.{cut, be, all, sum}
use Rattle.store.specs.Slots.{off, len, is_free, is_target, slot_of, of_kind}
use Rattle.store.specs.Page.{View, view, count, slot_at, header_is, fresh, past_directory, lies_well, apart, used_or_initial, sound_tests, passes, sound}
use Rattle.store.specs.PageSteps.{initialised, opened}
use Rattle.store.proofs.Laws.Cases.{never, or_in, or_out, tests}
use Rattle.store.specs.Laws.Slots.{Codable}
use Rattle.store.specs.Laws.Edits.{Apart}
use Rattle.store.specs.Laws.Views.{Sound}
use Rattle.store.proofs.Laws.Views.{is_free_lem}
use Rattle.store.specs.declared.Slot.TheVariants.{Free}

pub and_both : (a b : Bool) → (a && b) ≡ true → (a ≡ true) × (b ≡ true)
and_both true b e = (refl, e)
and_both false b e = let z : ◌≡◌ {A = ℕ} 0 1 = cc in absurd (omega arith)

pub or_right : (a b : Bool) → a ≡ false → (a || b) ≡ true → b ≡ true
or_right true b f e = let z : ◌≡◌ {A = ℕ} 0 1 = cc in absurd (omega arith)
or_right false b f e = e

pub all_at : (n : ℕ) (f : ℕ → Bool) → all n f ≡ true → (j : ℕ) → j < n → f j ≡ true
all_at zero f e j h = absurd (not-suc-le-zero h)
all_at (suc n) f e j h = go (all_at n f (and_both (f n) (all n f) e).1 j) (ℕ_discrete j n)
  where
    go : (j < n → f j ≡ true) → Dec (j ≡ n) → f j ≡ true
    go ih (yes q) = rw q (and_both (f n) (all n f) e).0
    go ih (no q) = ih (omega arith)

pub and_in : (a b : Bool) → a ≡ true → b ≡ true → (a && b) ≡ true
and_in true b p q = q
and_in false b p q = p

-- each test of a list passes
abbrev Passed : List (View → Bool) → View → Type 0
Passed [] v = Unit {0}
Passed (t ∷ ts) v = (t v ≡ true) × Passed ts v

passed : (ts : List (View → Bool)) (v : View) → passes ts v ≡ true → Passed ts v
passed [] v e = tt
passed (t ∷ ts) v e = let b = and_both (t v) (passes ts v) e in (b.0, passed ts v b.1)

pass : (ts : List (View → Bool)) (v : View) → Passed ts v → passes ts v ≡ true
pass [] v p = refl
pass (t ∷ ts) v p = and_in (t v) (passes ts v) p.0 (pass ts v p.1)

-- an entry's values fit their bits, whatever its bytes
kind_codable : (k w : ℕ) → w < 2 ^ 62 → Codable (of_kind k w)
kind_codable zero w h = (omega arith, omega arith)
kind_codable (suc zero) w h = tt
kind_codable (suc (suc zero)) w h = h
kind_codable (suc (suc (suc k))) w h = (omega arith, omega arith)

-- what one slot's test says
module _ (v : View) (k : ℕ) (g : lies_well v k ≡ true) where
  place : ((len (v.at k) ≡ 0) × (off (v.at k) ≤ 16384)) ⊎ ((v.data_start ≤ off (v.at k)) × (off (v.at k) + len (v.at k) ≤ 16384))
  place = go (ℕ_discrete (len (v.at k)) 0)
      (and_both (cond (eqb (len (v.at k)) 0) (leb (off (v.at k)) 16384)
      (leb v.data_start (off (v.at k)) && leb (off (v.at k) + len (v.at k)) 16384)) (not (is_target (v.at k)) || leb 8 (len (v.at k))) g).0
    where
      go : Dec (len (v.at k) ≡ 0) → cond (eqb (len (v.at k)) 0) (leb (off (v.at k)) 16384)
          (leb v.data_start (off (v.at k)) && leb (off (v.at k) + len (v.at k)) 16384) ≡ true
          → ((len (v.at k) ≡ 0) × (off (v.at k) ≤ 16384)) ⊎ ((v.data_start ≤ off (v.at k)) × (off (v.at k) + len (v.at k) ≤ 16384))
      go (yes e) q = inl (e, leb-true (off (v.at k)) 16384 (rw (eq-eqb (len (v.at k)) 0 e) at q))
      go (no n) q =
          let b = and_both (leb v.data_start (off (v.at k))) (leb (off (v.at k) + len (v.at k)) 16384) (rw (ne_eqb (len (v.at k)) 0 n) at q) in
          inr (leb-true v.data_start (off (v.at k)) b.0, leb-true (off (v.at k) + len (v.at k)) 16384 b.1)

  long : is_target (v.at k) ≡ true → 8 ≤ len (v.at k)
  long t =
      let q = (and_both (cond (eqb (len (v.at k)) 0) (leb (off (v.at k)) 16384)
      (leb v.data_start (off (v.at k)) && leb (off (v.at k) + len (v.at k)) 16384))
      (not (is_target (v.at k)) || leb 8 (len (v.at k))) g).1 in
      leb-true 8 (len (v.at k)) (or_right (not (is_target (v.at k))) (leb 8 (len (v.at k))) (ap not t) q)

  pub in_page : off (v.at k) + len (v.at k) ≤ 16384
  in_page = go place
    where
      go : ((len (v.at k) ≡ 0) × (off (v.at k) ≤ 16384)) ⊎ ((v.data_start ≤ off (v.at k)) × (off (v.at k) + len (v.at k) ≤ 16384))
          → off (v.at k) + len (v.at k) ≤ 16384
      go (inl h) = omega arith
      go (inr h) = h.1

  above : 0 < len (v.at k) → v.data_start ≤ off (v.at k)
  above p = go place
    where
      go : ((len (v.at k) ≡ 0) × (off (v.at k) ≤ 16384)) ⊎ ((v.data_start ≤ off (v.at k)) × (off (v.at k) + len (v.at k) ≤ 16384))
          → v.data_start ≤ off (v.at k)
      go (inl h) = absurd (omega arith)
      go (inr h) = h.0

-- what the test of two says
pub two_apart : (v : View) (i j : ℕ) → i ≢ j → apart v i j ≡ true → Apart (v.at i) (v.at j)
two_apart v i j n e a b = go (dec_lt (off (v.at j)) (off (v.at i) + len (v.at i)))
  where
    ni : len (v.at i) ≢ 0
    ni = omega arith

    nj : len (v.at j) ≢ 0
    nj = omega arith

    go : Dec (off (v.at j) < off (v.at i) + len (v.at i)) → (off (v.at i) + len (v.at i) ≤ off (v.at j)) ⊎ (off (v.at j) + len (v.at j) ≤ off (v.at i))
    go (no l) = inl (omega arith)
    go (yes l) =
        inr (leb-true (off (v.at j) + len (v.at j)) (off (v.at i))
        (rw (ne_eqb i j n, ne_eqb (len (v.at i)) 0 ni, ne_eqb (len (v.at j)) 0 nj, lt-leb (off (v.at i) + len (v.at i)) (off (v.at j)) l) at e))

-- two that lie apart pass it
pub apart_test : (v : View) (i j : ℕ) → (i ≢ j → Apart (v.at i) (v.at j)) → apart v i j ≡ true
apart_test v i j f = go (ℕ_discrete i j) (dec_lt 0 (len (v.at i))) (dec_lt 0 (len (v.at j)))
  where
    c1 : Bool
    c1 = eqb i j

    c2 : Bool
    c2 = eqb (len (v.at i)) 0

    c3 : Bool
    c3 = eqb (len (v.at j)) 0

    c4 : Bool
    c4 = leb (off (v.at i) + len (v.at i)) (off (v.at j))

    c5 : Bool
    c5 = leb (off (v.at j) + len (v.at j)) (off (v.at i))

    side : (off (v.at i) + len (v.at i) ≤ off (v.at j)) ⊎ (off (v.at j) + len (v.at j) ≤ off (v.at i)) → (c1 || c2 || c3 || c4 || c5) ≡ true
    side (inl h) = or_in (c1 || c2 || c3 || c4) c5 (or_out (c1 || c2 || c3) c4 (le-leb (off (v.at i) + len (v.at i)) (off (v.at j)) h))
    side (inr h) = or_out (c1 || c2 || c3 || c4) c5 (le-leb (off (v.at j) + len (v.at j)) (off (v.at i)) h)

    go : Dec (i ≡ j) → Dec (0 < len (v.at i)) → Dec (0 < len (v.at j)) → (c1 || c2 || c3 || c4 || c5) ≡ true
    go (yes e) a b = or_in (c1 || c2 || c3 || c4) c5 (or_in (c1 || c2 || c3) c4 (or_in (c1 || c2) c3 (or_in c1 c2 (eq-eqb i j e))))
    go (no n) (no a) b = or_in (c1 || c2 || c3 || c4) c5
        (or_in (c1 || c2 || c3) c4 (or_in (c1 || c2) c3 (or_out c1 c2 (let z : len (v.at i) ≡ 0 = omega arith in eq-eqb (len (v.at i)) 0 z))))
    go (no n) (yes a) (no b) = or_in (c1 || c2 || c3 || c4) c5
        (or_in (c1 || c2 || c3) c4 (or_out (c1 || c2) c3 (let z : len (v.at j) ≡ 0 = omega arith in eq-eqb (len (v.at j)) 0 z)))
    go (no n) (yes a) (yes b) = side (f n a b)

-- what the test of a page without slots says
used_by : (v : View) → used_or_initial v ≡ true → (0 < v.slot_count) ⊎ (v.data_start ≡ 16384)
used_by v = go (leb 1 v.slot_count) refl
  where
    go : (b : Bool) → leb 1 v.slot_count ≡ b → (b || eqb v.data_start 16384) ≡ true → (0 < v.slot_count) ⊎ (v.data_start ≡ 16384)
    go true e q = inl (leb-true 1 v.slot_count e)
    go false e q = inr (eqb-true v.data_start 16384 q)

-- ---- a page without slots: it is sound exactly if it is fresh

pub used_not_fresh : (v : View) → v.slot_count ≢ 0 → fresh v ≡ false
used_not_fresh v n = rw (ne_eqb v.slot_count 0 n)

pub fresh_none : (v : View) → fresh v ≡ true → v.slot_count ≡ 0
fresh_none v e = go (ℕ_discrete v.slot_count 0)
  where
    go : Dec (v.slot_count ≡ 0) → v.slot_count ≡ 0
    go (yes z) = z
    go (no n) = never e (used_not_fresh v n)

pub header_is_lem : (v : View) (c f d n : ℕ) → v.slot_count ≡ c → v.first_free ≡ f → v.data_start ≡ d → v.free_space ≡ n → header_is v c f d n ≡ true
header_is_lem v c f d n a b g h = rw (eq-eqb v.slot_count c a, eq-eqb v.first_free f b, eq-eqb v.data_start d g, eq-eqb v.free_space n h)

-- of no slot the tests leave one header
tests_none : (v : View) → v.slot_count ≡ 0 → passes sound_tests v ≡ true → fresh v ≡ true
tests_none v z e =
    let t = passed sound_tests v e in
    let low = (and_both (leb v.first_free v.slot_count) (is_free (v.at v.first_free) && all v.first_free (λ j. not (is_free (v.at j)))) t.1.0).0 in
    let adds = t.1.1.1.1.1.0 in
    let none : sum v.slot_count (λ k. len (v.at k)) ≡ 0 = ap (λ (n : ℕ). sum n (λ k. len (v.at k))) z in
    or_out (header_is v 0 0 0 0) (header_is v 0 0 16384 16372)
    (header_is_lem v 0 0 16384 16372 z (omega tests) (start (used_by v t.1.1.1.1.1.1.0)) (omega tests))
  where
    start : (0 < v.slot_count) ⊎ (v.data_start ≡ 16384) → v.data_start ≡ 16384
    start (inl h) = absurd (omega arith)
    start (inr e) = e

pub sound_none : (v : View) → v.slot_count ≡ 0 → sound v ≡ fresh v
unfolding sound
sound_none v z = go (fresh v) (passes sound_tests v) refl refl
  where
    go : (a b : Bool) → fresh v ≡ a → passes sound_tests v ≡ b → (a || b) ≡ a
    go true b f e = refl
    go false true f e = never (tests_none v z e) f
    go false false f e = refl

-- ---- a page

pub past_free : (p : List ℕ) (j : ℕ) → (view p).slot_count ≤ j → (view p).at j ≡ Free
unfolding view
past_free p j h = rw (le-ltb j (count p) h)

pub page_codable : (p : List ℕ) (j : ℕ) → Codable ((view p).at j)
unfolding view
page_codable p j = go (ltb j (count p))
  where
    go : (b : Bool) → Codable (cond b (slot_of (be (cut p (12 + 8 * j) 8))) Free)
    go true = kind_codable (be (cut p (12 + 8 * j) 8) / 2 ^ 62) (be (cut p (12 + 8 * j) 8) % 2 ^ 62) (omega arith)
    go false = tt

module _ (p : List ℕ) (whole : length p ≡ 16384) where
  pub sound_page : fresh (view p) ≡ false → sound (view p) ≡ true → Sound (view p)
  unfolding sound view
  sound_page f e =
      let v = view p in
      let t = passed sound_tests v (or_right (fresh v) (passes sound_tests v) f e) in
      let low = t.1.0 in
      let begin = t.1.1.0 in
      let lie = t.1.1.1.0 in
      let clear = t.1.1.1.1.0 in
      let adds = t.1.1.1.1.1.0 in
      let first = and_both (leb v.first_free v.slot_count) (is_free (v.at v.first_free) && all v.first_free (λ j. not (is_free (v.at j)))) low in
      let lowest = and_both (is_free (v.at v.first_free)) (all v.first_free (λ j. not (is_free (v.at j)))) first.1 in
      let starts = and_both (past_directory v) (leb v.data_start 16384) begin in
      let good : (j : ℕ) → j < v.slot_count → lies_well v j ≡ true = all_at v.slot_count (lies_well v) lie in
      let high : (j : ℕ) → off (v.at j) + len (v.at j) ≤ 16384 = λ j. high_by j good (dec_lt j v.slot_count) in
      record {
        few = let few = t.0 in omega tests;
        first≤ = leb-true v.first_free v.slot_count first.0;
        first_is_free = is_free_lem (v.at v.first_free) lowest.0;
        lower = λ j h. not-true (is_free (v.at j)) (all_at v.first_free (λ i. not (is_free (v.at i))) lowest.1 j h);
        dir = let below = starts.0 in omega tests;
        start≤ = leb-true v.data_start 16384 starts.1;
        low = λ j h. low_by j h good (dec_lt j v.slot_count);
        high = high;
        apart = λ i j n. apart_by i j n (all_at v.slot_count (λ i. all v.slot_count (apart v i)) clear) (dec_lt i v.slot_count) (dec_lt j v.slot_count);
        targets = λ j t. target_by j t good (dec_lt j v.slot_count);
        sums = let exactly = adds in omega tests;
        codable = page_codable p;
        past = past_free p;
        lens = λ j. length-take (len (v.at j)) (drop (off (v.at j)) p) ∙ omega (arith, length-drop (off (v.at j)) p, high j);
        in_use = used_by v t.1.1.1.1.1.1.0;
      }
    where
      high_by : (j : ℕ) → ((i : ℕ) → i < count p → lies_well (view p) i ≡ true) → Dec (j < count p) → off (slot_at p j) + len (slot_at p j) ≤ 16384
      high_by j g (yes h) = in_page (view p) j (g j h)
      high_by j g (no h) = let q : count p ≤ j = omega arith in rw (past_free p j q) (omega arith)

      low_by : (j : ℕ) → 0 < len (slot_at p j) → ((i : ℕ) → i < count p → lies_well (view p) i ≡ true) → Dec (j < count p)
          → (view p).data_start ≤ off (slot_at p j)
      low_by j l g (yes h) = above (view p) j (g j h) l
      low_by j l g (no h) = let q : len (slot_at p j) ≡ 0 = ap len (past_free p j (omega arith)) in absurd (omega arith)

      target_by : (j : ℕ) → is_target (slot_at p j) ≡ true → ((i : ℕ) → i < count p → lies_well (view p) i ≡ true) → Dec (j < count p) → 8 ≤ len (slot_at p j)
      target_by j t g (yes h) = long (view p) j (g j h) t
      target_by j t g (no h) = let q : is_target (slot_at p j) ≡ false = ap is_target (past_free p j (omega arith)) in let z : ◌≡◌ {A = ℕ} 0 1 = cc in
          absurd (omega arith)

      apart_by : (i j : ℕ) → i ≢ j → ((m : ℕ) → m < count p → all (count p) (apart (view p) m) ≡ true) → Dec (i < count p) → Dec (j < count p)
          → Apart (slot_at p i) (slot_at p j)
      apart_by i j n g (yes a) (yes b) = two_apart (view p) i j n (all_at (count p) (apart (view p) i) (g i a) j b)
      apart_by i j n g (yes a) (no b) = λ x y. let q : len (slot_at p j) ≡ 0 = ap len (past_free p j (omega arith)) in absurd (omega arith)
      apart_by i j n g (no a) b = λ x y. let q : len (slot_at p i) ≡ 0 = ap len (past_free p i (omega arith)) in absurd (omega arith)

-- a page just initialised
pub sound_init : Sound initialised
sound_init =
    record {
      few = omega arith;
      first≤ = omega arith;
      first_is_free = refl;
      lower = λ j h. absurd (omega arith);
      dir = omega arith;
      start≤ = omega arith;
      low = λ j h. omega arith;
      high = λ j. omega arith;
      apart = λ i j n h. absurd (omega arith);
      targets = λ j t. let z : ◌≡◌ {A = ℕ} 0 1 = cc in omega arith;
      sums = refl;
      codable = λ j. tt;
      past = λ j h. refl;
      lens = λ j. refl;
      in_use = inr refl;
    }

-- what is seen of any page that passes the test is sound
pub sound_opened : (p : List ℕ) → length p ≡ 16384 → sound (view p) ≡ true → Sound (opened (view p))
sound_opened p whole e = go (fresh (view p)) refl
  where
    go : (b : Bool) → fresh (view p) ≡ b → Sound (cond b initialised (view p))
    go true q = sound_init
    go false q = sound_page p whole q e

-- ---- the other way: a sound view passes the test

pub all_in : (n : ℕ) (f : ℕ → Bool) → ((j : ℕ) → j < n → f j ≡ true) → all n f ≡ true
all_in zero f h = refl
all_in (suc n) f h = and_in (f n) (all n f) (h n (omega arith)) (all_in n f (λ j l. h j (omega arith)))

module _ (v : View) (s : Sound v) where
  pub good_in : (k : ℕ) → lies_well v k ≡ true
  good_in k = and_in (cond (eqb (len (v.at k)) 0) (leb (off (v.at k)) 16384)
      (leb v.data_start (off (v.at k)) && leb (off (v.at k) + len (v.at k)) 16384)) (not (is_target (v.at k)) || leb 8 (len (v.at k)))
      (by (ℕ_discrete (len (v.at k)) 0)) (kind (is_target (v.at k)) refl)
    where
      by : Dec (len (v.at k) ≡ 0) → cond (eqb (len (v.at k)) 0) (leb (off (v.at k)) 16384)
          (leb v.data_start (off (v.at k)) && leb (off (v.at k) + len (v.at k)) 16384) ≡ true
      by (yes e) = rw (eq-eqb (len (v.at k)) 0 e) (le-leb (off (v.at k)) 16384 (omega (arith, s.high k)))
      by (no n) = rw (ne_eqb (len (v.at k)) 0 n)
          (and_in (leb v.data_start (off (v.at k))) (leb (off (v.at k) + len (v.at k)) 16384)
          (le-leb v.data_start (off (v.at k)) (s.low k (omega arith))) (le-leb (off (v.at k) + len (v.at k)) 16384 (s.high k)))

      kind : (b : Bool) → is_target (v.at k) ≡ b → (not b || leb 8 (len (v.at k))) ≡ true
      kind true e = le-leb 8 (len (v.at k)) (s.targets k e)
      kind false e = refl

  pub apart_in : (i j : ℕ) → apart v i j ≡ true
  apart_in i j = apart_test v i j (s.apart i j)

  used_in_lem : (0 < v.slot_count) ⊎ (v.data_start ≡ 16384) → used_or_initial v ≡ true
  used_in_lem (inl h) = or_in (leb 1 v.slot_count) (eqb v.data_start 16384) (le-leb 1 v.slot_count h)
  used_in_lem (inr e) = or_out (leb 1 v.slot_count) (eqb v.data_start 16384) (eq-eqb v.data_start 16384 e)

  pub sound_test : sound v ≡ true
  unfolding sound
  sound_test =
      or_out (fresh v) (passes sound_tests v)
      (pass sound_tests v (
        omega (arith, le-leb, s.few),
        (
          and_in (leb v.first_free v.slot_count) (is_free (v.at v.first_free) && all v.first_free (λ j. not (is_free (v.at j))))
              (le-leb v.first_free v.slot_count s.first≤)
              (and_in (is_free (v.at v.first_free)) (all v.first_free (λ j. not (is_free (v.at j)))) (ap is_free s.first_is_free)
              (all_in v.first_free (λ j. not (is_free (v.at j))) (λ j h. ap not (s.lower j h)))),
          (
            and_in (past_directory v) (leb v.data_start 16384) (omega (arith, le-leb, s.dir)) (le-leb v.data_start 16384 s.start≤),
            (
              all_in v.slot_count (lies_well v) (λ j h. good_in j),
              (
                all_in v.slot_count (λ i. all v.slot_count (apart v i)) (λ i h. all_in v.slot_count (apart v i) (λ j l. apart_in i j)),
                (omega (arith, eq-eqb, s.sums), (used_in_lem s.in_use, tt)),
              ),
            ),
          ),
        ),
      ))
