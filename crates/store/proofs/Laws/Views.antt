-- Laws of `upd` and `sum`, sound views, and: erase keeps a view sound. Numbers and slots alone: no byte of a page occurs here.
use Rattle.std.specs.Prelude.{ℕ, zero, suc, ◌+◌, ◌-◌, ◌*◌, ◌≤◌, ◌<◌, min, ◌≡◌, refl, Bool, true, false, cond, List, [], ◌⊎◌, ◌≢◌, length}
use Rattle.std.proofs.Common.{sym, ap, ◌∙◌, inl, inr, ⊎_elim, arith, not-suc-le-zero, add-zero, add-suc, eq-eqb, ne_eqb}
use Rattle.std.proofs.Math.Decide.{ℕ_discrete, dec_lt}
use Rattle.std.proofs.lemmas.List.{length-replicate}
use Rattle.store.specs.Numbers.{upd, sum, zeros, one}
use Rattle.store.specs.Slots.{off, len, is_free, is_target}
use Rattle.store.specs.Page.{View}
use Rattle.store.specs.PageSteps.{free_below, pruned, start_without, erased, next_free, is_new, cost, gap, allocated}
use Rattle.store.specs.Laws.Slots.{Codable}
use Rattle.store.specs.Laws.Edits.{Apart}
use Rattle.store.proofs.Laws.Edits.{Fits}
use Rattle.store.specs.declared.Slot.{Slot}
use Rattle.store.specs.declared.Slot.TheVariants.{Ordinary, Free, Redirect, Target}
use Rattle.store.specs.Laws.Views.{Sound}

-- ---- upd: what holds of the new value at k, and of the old ones elsewhere, holds everywhere

pub upd_elim {ℓ} : {A : Type ℓ} (f : ℕ → A) (k : ℕ) (x : A) (P : ℕ → A → Type 0) → P k x → ((j : ℕ) → j ≢ k → P j (f j)) → (j : ℕ) → P j (upd f k x j)
upd_elim f k x P a b j = go (ℕ_discrete j k)
  where
    go : Dec (j ≡ k) → P j (upd f k x j)
    go (yes e) = rw (eq-eqb j k e) (rw e a)
    go (no n) = rw (ne_eqb j k n) (b j n)

pub upd_same {ℓ} : {A : Type ℓ} (f : ℕ → A) (k : ℕ) (x : A) → upd f k x k ≡ x
upd_same f k x = rw (eq-eqb k k refl)

pub upd_other {ℓ} : {A : Type ℓ} (f : ℕ → A) (k : ℕ) (x : A) (j : ℕ) → j ≢ k → upd f k x j ≡ f j
upd_other f k x j n = rw (ne_eqb j k n)

-- two records are apart in either order
pub apart_flip : (c d : Slot) → Apart c d → Apart d c
apart_flip c d h p q = ⊎_elim inr inl (h q p)

-- slots one of which is new stay apart, and as long as their bytes
pub upd_apart : (f : ℕ → Slot) (k : ℕ) (x : Slot) → ((j : ℕ) → j ≢ k → Apart x (f j)) → ((i j : ℕ) → i ≢ j → Apart (f i) (f j))
    → (i j : ℕ) → i ≢ j → Apart (upd f k x i) (upd f k x j)
upd_apart f k x a b i j n = go (ℕ_discrete i k) (ℕ_discrete j k)
  where
    go : Dec (i ≡ k) → Dec (j ≡ k) → Apart (upd f k x i) (upd f k x j)
    go (yes d) (yes e) = absurd (n (d ∙ sym e))
    go (yes d) (no e) = rw (eq-eqb i k d, ne_eqb j k e) (a j e)
    go (no d) (yes e) = rw (ne_eqb i k d, eq-eqb j k e) (apart_flip x (f i) (a i d))
    go (no d) (no e) = rw (ne_eqb i k d, ne_eqb j k e) (b i j n)

pub upd_lens : (f : ℕ → Slot) (g : ℕ → List ℕ) (k : ℕ) (x : Slot) (bs : List ℕ) → length bs ≡ len x → ((j : ℕ) → length (g j) ≡ len (f j))
    → (j : ℕ) → length (upd g k bs j) ≡ len (upd f k x j)
upd_lens f g k x bs e h j = go (ℕ_discrete j k)
  where
    go : Dec (j ≡ k) → length (upd g k bs j) ≡ len (upd f k x j)
    go (yes q) = rw (eq-eqb j k q) e
    go (no q) = rw (ne_eqb j k q) (h j)

-- ---- sum

pub sum_ext : (n : ℕ) (f g : ℕ → ℕ) → ((j : ℕ) → j < n → f j ≡ g j) → sum n f ≡ sum n g
sum_ext zero f g h = refl
sum_ext (suc n) f g h = omega (arith, h n (omega arith), sum_ext n f g (λ j l. h j (omega arith)))

pub sum_zero : (n : ℕ) (f : ℕ → ℕ) → ((k : ℕ) → k < n → f k ≡ 0) → sum n f ≡ 0
sum_zero zero f h = refl
sum_zero (suc n) f h = omega (arith, h n (omega arith), sum_zero n f (λ k l. h k (omega arith)))

pub sum_add : (n : ℕ) (f g : ℕ → ℕ) → sum n (λ k. f k + g k) ≡ sum n f + sum n g
sum_add zero f g = refl
sum_add (suc n) f g = omega (arith, sum_add n f g)

-- of tests
pub one_few : (b : Bool) → one b ≤ 1
one_few true = omega arith
one_few false = omega arith

pub sum_few : (n : ℕ) (f : ℕ → Bool) → sum n (λ j. one (f j)) ≤ n
sum_few zero f = omega arith
sum_few (suc n) f = omega (arith, one_few (f n), sum_few n f)

-- fewer summands, and none larger
pub sum_within : (m n : ℕ) (f g : ℕ → ℕ) → n ≤ m → ((j : ℕ) → j < n → f j ≤ g j) → sum n f ≤ sum m g
sum_within m zero f g h le = omega arith
sum_within zero (suc n) f g h le = absurd (not-suc-le-zero h)
sum_within (suc m) (suc n) f g h le = go (λ l. sum_within m (suc n) f g l le) (sum_within m n f g (omega arith) (λ j l. le j (omega arith))) (ℕ_discrete n m)
  where
    go : (suc n ≤ m → sum (suc n) f ≤ sum m g) → sum n f ≤ sum m g → Dec (n ≡ m) → sum (suc n) f ≤ sum (suc m) g
    go longer ih (yes e) = omega (arith, le n (omega arith), ap g e)
    go longer ih (no e) = omega (arith, longer (omega arith))

pub sum_turn : (n m : ℕ) (g : ℕ → ℕ → ℕ) → sum n (λ k. sum m (g k)) ≡ sum m (λ x. sum n (λ k. g k x))
sum_turn zero m g = sym (sum_zero m (λ x. 0) (λ k l. refl))
sum_turn (suc n) m g = ap (λ (r : ℕ). sum m (g n) + r) (sum_turn n m g) ∙ sym (sum_add m (g n) (λ x. sum n (λ k. g k x)))

-- the first n of m, and those from n on
pub sum_join : (n m : ℕ) (f : ℕ → ℕ) → sum (n + m) f ≡ sum n f + sum m (λ k. f (n + k))
sum_join n zero f = rw (add-zero n) (omega arith)
sum_join n (suc m) f = rw (add-suc n m) (omega (arith, sum_join n m f))

-- two that differ at k alone
pub sum_swap : (n : ℕ) (f g : ℕ → ℕ) (k : ℕ) → k < n → ((j : ℕ) → j ≢ k → f j ≡ g j) → sum n f + g k ≡ sum n g + f k
sum_swap zero f g k h e = absurd (not-suc-le-zero h)
sum_swap (suc n) f g k h e = go (λ l. sum_swap n f g k l e) (ℕ_discrete k n)
  where
    go : (k < n → sum n f + g k ≡ sum n g + f k) → Dec (k ≡ n) → sum (suc n) f + g k ≡ sum (suc n) g + f k
    go ih (yes q) = rw q (omega (arith, sum_ext n f g (λ j l. e j (λ r. absurd (omega arith)))))
    go ih (no q) = omega (arith, ih (omega arith), e n (λ r. q (sym r)))

-- nothing from m on
pub sum_cut : (n m : ℕ) (f : ℕ → ℕ) → m ≤ n → ((j : ℕ) → m ≤ j → f j ≡ 0) → sum n f ≡ sum m f
sum_cut zero m f h z = let e : 0 ≡ m = omega arith in ap (λ (k : ℕ). sum k f) e
sum_cut (suc n) m f h z = go (λ l. sum_cut n m f l z) (ℕ_discrete m (suc n))
  where
    go : (m ≤ n → sum n f ≡ sum m f) → Dec (m ≡ suc n) → sum (suc n) f ≡ sum m f
    go ih (yes e) = ap (λ (k : ℕ). sum k f) (sym e)
    go ih (no e) = omega (arith, z n (omega arith), ih (omega arith))

-- ---- sound views, of a page in use and of one just initialised

pub sound_fits : (v : View) → Sound v → Fits v
sound_fits v s =
    record {
      few = s.few;
      first_free = omega (arith, s.few, s.first≤);
      data_start = s.start≤;
      free_space = omega (arith, s.sums);
      codable = s.codable;
      past = s.past;
      lens = s.lens;
      low = λ j h. omega (arith, s.low j h, s.dir);
      high = λ j h. s.high j;
      apart = s.apart;
    }

-- ---- erase

pub is_free_lem : (s : Slot) → is_free s ≡ true → s ≡ Free
is_free_lem (Ordinary o l) e = let z : ◌≡◌ {A = ℕ} 0 1 = cc in absurd (omega arith)
is_free_lem Free e = refl
is_free_lem (Redirect i) e = let z : ◌≡◌ {A = ℕ} 0 1 = cc in absurd (omega arith)
is_free_lem (Target o l) e = let z : ◌≡◌ {A = ℕ} 0 1 = cc in absurd (omega arith)

below≤ : (at : ℕ → Slot) (k : ℕ) → free_below at k ≤ k
below≤ at zero = omega arith
below≤ at (suc k) = go (below≤ at k) (is_free (at k))
  where
    go : free_below at k ≤ k → (b : Bool) → cond b (suc (free_below at k)) 0 ≤ suc k
    go ih true = omega arith
    go ih false = omega arith

-- the slots counted are free
below_free : (at : ℕ → Slot) (k j : ℕ) → k ≤ j + free_below at k → j < k → is_free (at j) ≡ true
below_free at zero j h l = absurd (not-suc-le-zero l)
below_free at (suc k) j h l = go (below_free at k j) (is_free (at k)) refl h
  where
    go : (k ≤ j + free_below at k → j < k → is_free (at j) ≡ true) → (b : Bool) → is_free (at k) ≡ b → suc k ≤ j + cond b (suc (free_below at k)) 0
        → is_free (at j) ≡ true
    go ih true e g = last (ℕ_discrete j k)
      where
        last : Dec (j ≡ k) → is_free (at j) ≡ true
        last (yes q) = rw q e
        last (no q) = ih (omega arith) (omega arith)
    go ih false e g = absurd (omega arith)

module _ (v : View) (s : Sound v) (k : ℕ) (inside : k < v.slot_count) (taken : is_free (v.at k) ≡ false) where
  -- what pruning does: nothing, or k is the last slot and the slots counted just below it are free
  pruning : (pruned v k ≡ 0) ⊎ ((k + 1 ≡ v.slot_count) × (pruned v k ≤ k) × ((j : ℕ) → k ≤ j + pruned v k → j < k → is_free (v.at j) ≡ true))
  pruning = go (ℕ_discrete (k + 1) v.slot_count)
    where
      go : Dec (k + 1 ≡ v.slot_count)
          → (pruned v k ≡ 0) ⊎ ((k + 1 ≡ v.slot_count) × (pruned v k ≤ k) × ((j : ℕ) → k ≤ j + pruned v k → j < k → is_free (v.at j) ≡ true))
      go (yes e) = rw (eq-eqb (k + 1) v.slot_count e) (inr (e, below≤ v.at k, below_free v.at k))
      go (no n) = rw (ne_eqb (k + 1) v.slot_count n) (inl refl)

  -- data start rises, and stays below every other record
  pub start_up : v.data_start ≤ start_without v k
  start_up = go (ℕ_discrete (off (v.at k)) v.data_start)
    where
      go : Dec (off (v.at k) ≡ v.data_start) → v.data_start ≤ start_without v k
      go (yes e) = rw (eq-eqb (off (v.at k)) v.data_start e) (omega arith)
      go (no n) = rw (ne_eqb (off (v.at k)) v.data_start n) (omega arith)

  pub start_end : start_without v k ≤ 16384
  start_end = go (ℕ_discrete (off (v.at k)) v.data_start)
    where
      go : Dec (off (v.at k) ≡ v.data_start) → start_without v k ≤ 16384
      go (yes e) = rw (eq-eqb (off (v.at k)) v.data_start e) (omega (arith, s.high k))
      go (no n) = rw (ne_eqb (off (v.at k)) v.data_start n) s.start≤

  pub start_low : (j : ℕ) → j ≢ k → 0 < len (v.at j) → start_without v k ≤ off (v.at j)
  start_low j n h = go (ℕ_discrete (off (v.at k)) v.data_start)
    where
      by : (off (v.at k) ≡ v.data_start) → Dec (0 < len (v.at k)) → v.data_start + len (v.at k) ≤ off (v.at j)
      by e (no z) = omega (arith, s.low j h)
      by e (yes z) = side (s.apart k j (λ q. n (sym q)) z h)
        where
          side : (off (v.at k) + len (v.at k) ≤ off (v.at j)) ⊎ (off (v.at j) + len (v.at j) ≤ off (v.at k))
              → v.data_start + len (v.at k) ≤ off (v.at j)
          side (inl a) = omega arith
          side (inr b) = absurd (omega (arith, s.low j h))

      go : Dec (off (v.at k) ≡ v.data_start) → start_without v k ≤ off (v.at j)
      go (yes e) = rw (eq-eqb (off (v.at k)) v.data_start e) (by e (dec_lt 0 (len (v.at k))))
      go (no q) = rw (ne_eqb (off (v.at k)) v.data_start q) (s.low j h)

  pruned≤ : pruned v k ≤ k
  pruned≤ = go pruning
    where
      go : (pruned v k ≡ 0) ⊎ ((k + 1 ≡ v.slot_count) × (pruned v k ≤ k) × ((j : ℕ) → k ≤ j + pruned v k → j < k → is_free (v.at j) ≡ true)) → pruned v k ≤ k
      go (inl z) = omega arith
      go (inr h) = h.1

  -- what is taken off the count is free
  gone : (j : ℕ) → v.slot_count - pruned v k ≤ j → upd v.at k Free j ≡ Free
  gone = upd_elim v.at k Free (λ j x. v.slot_count - pruned v k ≤ j → x ≡ Free) (λ h. refl) (λ j n h. by j n h pruning (dec_lt j v.slot_count))
    where
      by : (j : ℕ) → j ≢ k → v.slot_count - pruned v k ≤ j
          → (pruned v k ≡ 0) ⊎ ((k + 1 ≡ v.slot_count) × (pruned v k ≤ k) × ((i : ℕ) → k ≤ i + pruned v k → i < k → is_free (v.at i) ≡ true))
          → Dec (j < v.slot_count) → v.at j ≡ Free
      by j n h p (no l) = s.past j (omega arith)
      by j n h (inl z) (yes l) = s.past j (omega arith)
      by j n h (inr g) (yes l) = is_free_lem (v.at j) (g.2 j (omega arith) (omega arith))

  -- the lowest free slot is still counted
  first_counted : min v.first_free k ≤ v.slot_count - pruned v k
  first_counted = go pruning (dec_lt 0 (pruned v k)) (dec_lt (k - pruned v k) v.first_free)
    where
      go : (pruned v k ≡ 0) ⊎ ((k + 1 ≡ v.slot_count) × (pruned v k ≤ k) × ((i : ℕ) → k ≤ i + pruned v k → i < k → is_free (v.at i) ≡ true))
          → Dec (0 < pruned v k) → Dec (k - pruned v k < v.first_free) → min v.first_free k ≤ v.slot_count - pruned v k
      go (inl z) a b = omega arith
      go (inr g) (no a) b = omega arith
      go (inr g) (yes a) (no b) = omega arith
      go (inr g) (yes a) (yes b) =
          let f = g.2 (k - pruned v k) (omega arith) (omega arith) in
          let e = s.lower (k - pruned v k) b in
          let z : ◌≡◌ {A = ℕ} 0 1 = cc in
          absurd (omega arith)

  first_stays : upd v.at k Free (min v.first_free k) ≡ Free
  first_stays = go (dec_lt v.first_free k)
    where
      go : Dec (v.first_free < k) → upd v.at k Free (min v.first_free k) ≡ Free
      go (yes l) = let e : min v.first_free k ≡ v.first_free = omega arith in rw e (upd_other v.at k Free v.first_free (omega arith) ∙ s.first_is_free)
      go (no l) = let e : min v.first_free k ≡ k = omega arith in rw e (upd_same v.at k Free)

  -- the sum of lengths falls by the record's
  sum_less : sum (v.slot_count - pruned v k) (λ j. len (upd v.at k Free j)) + len (v.at k) ≡ sum v.slot_count (λ j. len (v.at j))
  sum_less =
      let e = sum_swap v.slot_count (λ j. len (upd v.at k Free j)) (λ j. len (v.at j)) k inside (λ j n. ap len (upd_other v.at k Free j n)) in
      let z : len (upd v.at k Free k) ≡ 0 = ap len (upd_same v.at k Free) in
      let c : sum v.slot_count (λ j. len (upd v.at k Free j)) ≡ sum (v.slot_count - pruned v k) (λ j. len (upd v.at k Free j)) =
      sum_cut v.slot_count (v.slot_count - pruned v k) (λ j. len (upd v.at k Free j)) (omega arith) (λ j h. ap len (gone j h)) in
      omega arith

  pub erase_sound : Sound (erased v k)
  erase_sound =
      record {
        few = omega (arith, s.few);
        first≤ = first_counted;
        first_is_free = first_stays;
        lower = λ j h. ap is_free (upd_other v.at k Free j (omega arith)) ∙ s.lower j (omega arith);
        dir = omega (arith, s.dir, start_up);
        start≤ = start_end;
        low = upd_elim v.at k Free (λ j x. 0 < len x → start_without v k ≤ off x) (λ h. absurd (omega arith)) start_low;
        high = upd_elim v.at k Free (λ j x. off x + len x ≤ 16384) (omega arith) (λ j n. s.high j);
        apart = upd_apart v.at k Free (λ j n h. absurd (omega arith)) s.apart;
        targets = upd_elim v.at k Free (λ j x. is_target x ≡ true → 8 ≤ len x) (λ e. let z : ◌≡◌ {A = ℕ} 0 1 = cc in omega arith) (λ j n. s.targets j);
        sums = omega (arith, sum_less, s.sums, pruned≤);
        codable = upd_elim v.at k Free (λ j x. Codable x) tt (λ j n. s.codable j);
        past = gone;
        lens = upd_lens v.at v.bytes k Free [] refl s.lens;
        in_use = inl (omega (arith, pruned≤));
      }

  pub erase_used : 0 < (erased v k).slot_count
  erase_used = omega (arith, pruned≤)

-- ---- allocate, where the gap is large enough

pub next_low : (n : ℕ) (at : ℕ → Slot) (j : ℕ) → (j ≤ next_free n at j) × (next_free n at j ≤ j + n)
next_low zero at j = (omega arith, omega arith)
next_low (suc n) at j = go (next_low n at (j + 1)) (is_free (at j))
  where
    go : (j + 1 ≤ next_free n at (j + 1)) × (next_free n at (j + 1) ≤ j + 1 + n) → (b : Bool)
        → (j ≤ cond b j (next_free n at (j + 1))) × (cond b j (next_free n at (j + 1)) ≤ j + suc n)
    go h true = (omega arith, omega arith)
    go h false = (omega arith, omega arith)

-- what is passed over is not free
pub next_taken : (n : ℕ) (at : ℕ → Slot) (j i : ℕ) → j ≤ i → i < next_free n at j → is_free (at i) ≡ false
next_taken zero at j i a b = absurd (omega arith)
next_taken (suc n) at j i a b = go (next_taken n at (j + 1) i) (is_free (at j)) refl b
  where
    go : (j + 1 ≤ i → i < next_free n at (j + 1) → is_free (at i) ≡ false) → (c : Bool) → is_free (at j) ≡ c → i < cond c j (next_free n at (j + 1))
        → is_free (at i) ≡ false
    go ih true e h = absurd (omega arith)
    go ih false e h = same (ℕ_discrete i j)
      where
        same : Dec (i ≡ j) → is_free (at i) ≡ false
        same (yes q) = rw q e
        same (no q) = ih (omega arith) h

-- where it stops before its bound, it stops at a free slot
pub next_free_lem : (n : ℕ) (at : ℕ → Slot) (j : ℕ) → next_free n at j < j + n → is_free (at (next_free n at j)) ≡ true
next_free_lem zero at j h = absurd (omega arith)
next_free_lem (suc n) at j h = go (next_free_lem n at (j + 1)) (is_free (at j)) refl h
  where
    go : (next_free n at (j + 1) < j + 1 + n → is_free (at (next_free n at (j + 1))) ≡ true) → (c : Bool) → is_free (at j) ≡ c
        → cond c j (next_free n at (j + 1)) < j + suc n → is_free (at (cond c j (next_free n at (j + 1)))) ≡ true
    go ih true e h = e
    go ih false e h = ih (omega arith)

module _ (v : View) (s : Sound v) (n : ℕ) (room : cost v n ≤ v.free_space) (fit : cost v n ≤ gap v) where
  -- a new slot, or a free one
  newness : ((v.first_free ≡ v.slot_count) × (is_new v ≡ true)) ⊎ ((v.first_free < v.slot_count) × (is_new v ≡ false))
  newness = go (ℕ_discrete v.first_free v.slot_count)
    where
      go : Dec (v.first_free ≡ v.slot_count) → ((v.first_free ≡ v.slot_count) × (is_new v ≡ true)) ⊎ ((v.first_free < v.slot_count) × (is_new v ≡ false))
      go (yes e) = inl (e, eq-eqb v.first_free v.slot_count e)
      go (no q) = inr (omega (arith, s.first≤), ne_eqb v.first_free v.slot_count q)

  -- what the numbers are in either case
  pub record Numbers : Type 0 where
    pub more : v.slot_count ≤ (allocated v n).slot_count
    pub most : 8 * (allocated v n).slot_count + n ≡ 8 * v.slot_count + cost v n
    pub inside : v.first_free < (allocated v n).slot_count
    pub others : (j : ℕ) → j ≢ v.first_free → j < (allocated v n).slot_count → j < v.slot_count

  pub numbers : Numbers
  numbers = go newness
    where
      go : ((v.first_free ≡ v.slot_count) × (is_new v ≡ true)) ⊎ ((v.first_free < v.slot_count) × (is_new v ≡ false)) → Numbers
      go (inl h) = record {
        more = rw h.1 (omega arith);
        most = rw h.1 (omega arith);
        inside = rw h.1 (omega arith);
        others = λ j q. rw h.1 (λ l. omega arith);
      }
      go (inr h) = record {
        more = rw h.1 (omega arith);
        most = rw h.1 (omega arith);
        inside = rw h.1 (omega arith);
        others = λ j q. rw h.1 (λ l. omega arith);
      }

  -- the next free slot
  next_place : (v.first_free + 1 ≤ (allocated v n).first_free) × ((allocated v n).first_free ≤ v.first_free + 1 + (v.slot_count - (v.first_free + 1)))
  next_place = next_low (v.slot_count - (v.first_free + 1)) v.at (v.first_free + 1)

  next_is_free : v.at (allocated v n).first_free ≡ Free
  next_is_free = go (dec_lt (allocated v n).first_free v.slot_count)
    where
      go : Dec ((allocated v n).first_free < v.slot_count) → v.at (allocated v n).first_free ≡ Free
      go (yes h) = is_free_lem (v.at (allocated v n).first_free) (next_free_lem (v.slot_count - (v.first_free + 1)) v.at (v.first_free + 1) (omega arith))
      go (no h) = s.past (allocated v n).first_free (omega arith)

  next_lower : (j : ℕ) → j ≢ v.first_free → j < (allocated v n).first_free → is_free (v.at j) ≡ false
  next_lower j q h = go (dec_lt j v.first_free)
    where
      go : Dec (j < v.first_free) → is_free (v.at j) ≡ false
      go (yes l) = s.lower j l
      go (no l) = next_taken (v.slot_count - (v.first_free + 1)) v.at (v.first_free + 1) j (omega arith) h

  sum_more : sum (allocated v n).slot_count (λ j. len ((allocated v n).at j)) ≡ sum v.slot_count (λ j. len (v.at j)) + n
  sum_more =
      let a = sum_swap (allocated v n).slot_count (λ j. len ((allocated v n).at j)) (λ j. len (v.at j)) v.first_free numbers.inside
      (λ j q. ap len (upd_other v.at v.first_free (Ordinary (v.data_start - n) n) j q)) in
      let b : len ((allocated v n).at v.first_free) ≡ n = ap len (upd_same v.at v.first_free (Ordinary (v.data_start - n) n)) in
      let c : len (v.at v.first_free) ≡ 0 = ap len s.first_is_free in
      let d = sum_cut (allocated v n).slot_count v.slot_count (λ j. len (v.at j)) numbers.more (λ j h. ap len (s.past j h)) in
      omega arith

  pub alloc_sound : Sound (allocated v n)
  alloc_sound =
      record {
        few = omega (arith, numbers, s.dir, s.start≤);
        first≤ = omega (arith, next_place, numbers.more, numbers.inside);
        first_is_free = upd_other v.at v.first_free (Ordinary (v.data_start - n) n) (allocated v n).first_free (omega (arith, next_place)) ∙ next_is_free;
        lower = upd_elim v.at v.first_free (Ordinary (v.data_start - n) n) (λ j x. j < (allocated v n).first_free → is_free x ≡ false) (λ h. refl) next_lower;
        dir = omega (arith, numbers, s.dir);
        start≤ = omega (arith, s.start≤);
        low = upd_elim v.at v.first_free (Ordinary (v.data_start - n) n) (λ j x. 0 < len x
            → v.data_start - n ≤ off x) (λ h. omega arith) (λ j q h. omega (arith, s.low j h));
        high = upd_elim v.at v.first_free (Ordinary (v.data_start - n) n) (λ j x. off x + len x ≤ 16384)
            (omega (arith, numbers, s.dir, s.start≤)) (λ j q. s.high j);
        apart = upd_apart v.at v.first_free (Ordinary (v.data_start - n) n) (λ j q a b. inl (omega (arith, numbers, s.dir, s.low j b))) s.apart;
        targets = upd_elim v.at v.first_free (Ordinary (v.data_start - n) n) (λ j x. is_target x ≡ true
            → 8 ≤ len x) (λ e. let z : ◌≡◌ {A = ℕ} 0 1 = cc in omega arith) (λ j q. s.targets j);
        sums = omega (arith, sum_more, s.sums, numbers.most);
        codable = upd_elim v.at v.first_free (Ordinary (v.data_start - n) n) (λ j x. Codable x) (
          omega (arith, s.start≤),
          omega (arith, numbers, s.dir, s.start≤),
        ) (λ j q. s.codable j);
        past = upd_elim v.at v.first_free (Ordinary (v.data_start - n) n) (λ j x. (allocated v n).slot_count ≤ j
            → x ≡ Free) (λ h. absurd (omega (arith, numbers.inside))) (λ j q h. s.past j (omega (arith, numbers.more)));
        lens = upd_lens v.at v.bytes v.first_free (Ordinary (v.data_start - n) n) (zeros n) (length-replicate n 0) s.lens;
        in_use = inl (omega (arith, numbers.inside));
      }
