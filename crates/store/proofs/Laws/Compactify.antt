-- Compactify: each move keeps the page sound, and what is seen after all of them is what the plan says.
use Rattle.std.specs.Prelude.{ℕ, zero, suc, ◌+◌, ◌-◌, ◌^◌, ◌≤◌, ◌<◌, ◌≡◌, refl, Bool, true}
use Rattle.std.specs.Prelude.{false, cond, ◌&&◌, ◌||◌, List, [], ◌∷◌, ◌⊎◌, ◌≢◌, length, ltb, eqb}
use Rattle.std.proofs.Common.{sym, ap, ◌∙◌, inl, inr, arith, ltb-false, ltb-true, eqb-true}
use Rattle.std.proofs.Math.Decide.{ℕ_discrete, dec_lt}
use Rattle.store.specs.Numbers.{cut, upd, sum}
use Rattle.store.specs.Slots.{off, len, is_free, is_target, is_record, placed}
use Rattle.store.specs.Page.{View, view}
use Rattle.store.specs.PageSteps.{before, in_order, records, packed_to, with_packed, starting_at, pack, compactify, gap, apply, move}
use Rattle.store.specs.Laws.Slots.{Codable}
use Rattle.store.proofs.Laws.Slots.{tag}
use Rattle.store.specs.Laws.Edits.{Apart}
use Rattle.store.proofs.Laws.Edits.{Clear, Only, shows_view, move_view, head_view, under_view, entry_of}
use Rattle.store.specs.Laws.Views.{Sound}
use Rattle.store.proofs.Laws.Views.{sound_fits, upd_elim, upd_other, upd_apart, upd_lens, sum_ext}
use Rattle.store.proofs.Laws.Exact.{Exact, length_apply}
use Rattle.store.specs.declared.Slot.{Slot}
use Rattle.store.specs.declared.Slot.TheVariants.{Ordinary, Free, Redirect, Target}
use Rattle.store.specs.Laws.Compactify.{All, Desc, lens_of, Packing}

-- ---- each slot of a list

pub all_map : (P Q : ℕ → Type 0) (ks : List ℕ) → ((k : ℕ) → P k → Q k) → All P ks → All Q ks
all_map P Q [] f a = tt
all_map P Q (k ∷ ks) f a = (f k a.0, all_map P Q ks f a.1)

pub all_two : (P Q R : ℕ → Type 0) (ks : List ℕ) → ((k : ℕ) → P k → Q k → R k) → All P ks → All Q ks → All R ks
all_two P Q R [] f a b = tt
all_two P Q R (k ∷ ks) f a b = (f k a.0 b.0, all_two P Q R ks f a.1 b.1)

-- j is in the list, and then P holds of it, or it is not
all_or : (P : ℕ → Type 0) (j : ℕ) (ks : List ℕ) → All P ks → P j ⊎ All (λ k. j ≢ k) ks
all_or P j [] a = inr tt
all_or P j (k ∷ ks) a = go (all_or P j ks a.1) (ℕ_discrete j k)
  where
    go : P j ⊎ All (λ i. j ≢ i) ks → Dec (j ≡ k) → P j ⊎ All (λ i. j ≢ i) (k ∷ ks)
    go h (yes e) = inl (rw e a.0)
    go (inl h) (no n) = inl h
    go (inr h) (no n) = inr (n, h)

-- ---- a record at another place

pub record Placed (s : Slot) (d n : ℕ) : Type 0 where
  pub off : off (placed s d n) ≡ d
  pub len : len (placed s d n) ≡ n
  pub free : is_free (placed s d n) ≡ false
  pub target : is_target (placed s d n) ≡ is_target s
  pub codable : d < 2 ^ 30 → n < 2 ^ 32 → Codable (placed s d n)
  pub taken : s ≡ Free → ⊥

pub placed_is : (s : Slot) (d n : ℕ) → is_record s ≡ true → Placed s d n
placed_is (Ordinary o l) d n e = record {
  off = refl;
  len = refl;
  free = refl;
  target = refl;
  codable = λ a b. (a, b);
  taken = λ q. let z : ◌≡◌ {A = ℕ} 0 1 = cc in omega arith;
}
placed_is Free d n e = let z : ◌≡◌ {A = ℕ} 0 1 = cc in absurd (omega arith)
placed_is (Redirect i) d n e = let z : ◌≡◌ {A = ℕ} 0 1 = cc in absurd (omega arith)
placed_is (Target o l) d n e = record {
  off = refl;
  len = refl;
  free = refl;
  target = refl;
  codable = λ a b. (a, b);
  taken = λ q. let z : ◌≡◌ {A = ℕ} 0 1 = cc in omega arith;
}

pub record_taken : (s : Slot) → is_record s ≡ true → is_free s ≡ false
record_taken (Ordinary o l) e = refl
record_taken Free e = sym e
record_taken (Redirect i) e = refl
record_taken (Target o l) e = refl

-- ---- the state of packing: the records of the list, in order, lie below d, and all others at or above it

-- kind and length stay
packed_tag : (s : Slot) (d : ℕ) → is_record s ≡ true → tag (packed_to d s) ≡ tag s
packed_tag (Ordinary o l) d e = refl
packed_tag Free d e = let z : ◌≡◌ {A = ℕ} 0 1 = cc in absurd (omega arith)
packed_tag (Redirect i) d e = let z : ◌≡◌ {A = ℕ} 0 1 = cc in absurd (omega arith)
packed_tag (Target o l) d e = refl

-- one move
module _ (k : ℕ) (ks : List ℕ) (d : ℕ) (v : View) (p : Packing (k ∷ ks) d v) where
  is : Placed (v.at k) (d - len (v.at k)) (len (v.at k))
  is = placed_is (v.at k) (d - len (v.at k)) (len (v.at k)) p.recs.0

  -- what is not yet moved ends where this one starts, or before
  below : (j : ℕ) → j ≢ k → off (v.at j) ≤ off (v.at k) → off (v.at j) + len (v.at j) ≤ d → off (v.at j) + len (v.at j) ≤ d - len (v.at k)
  below j n o u = go (dec_lt 0 (len (v.at j))) (dec_lt 0 (len (v.at k)))
    where
      side : 0 < len (v.at k) → (off (v.at j) + len (v.at j) ≤ off (v.at k)) ⊎ (off (v.at k) + len (v.at k) ≤ off (v.at j))
          → off (v.at j) + len (v.at j) ≤ d - len (v.at k)
      side h (inl a) = omega (arith, p.under.0)
      side h (inr b) = absurd (omega arith)

      go : Dec (0 < len (v.at j)) → Dec (0 < len (v.at k)) → off (v.at j) + len (v.at j) ≤ d - len (v.at k)
      go a (no b) = omega arith
      go (no a) (yes b) = omega (arith, p.under.0)
      go (yes a) (yes b) = side b (p.sound.apart j k n a b)

  new_apart : (j : ℕ) → j ≢ k → Apart (packed_to d (v.at k)) (v.at j)
  new_apart j n a b =
      rw (is.off, is.len)
      (go (all_or (λ i. off (v.at i) + len (v.at i) ≤ d - len (v.at k)) j ks
      (all_two (λ i. (i ≢ k) × (off (v.at i) ≤ off (v.at k))) (λ i. off (v.at i) + len (v.at i) ≤ d)
      (λ i. off (v.at i) + len (v.at i) ≤ d - len (v.at k)) ks
      (λ i h u. below i h.0 h.1 u) p.desc.0 p.under.1)))
    where
      go : (off (v.at j) + len (v.at j) ≤ d - len (v.at k)) ⊎ All (λ i. j ≢ i) ks
          → (d - len (v.at k) + len (v.at k) ≤ off (v.at j)) ⊎ (off (v.at j) + len (v.at j) ≤ d - len (v.at k))
      go (inl h) = inr h
      go (inr h) = inl (omega (arith, p.above j (n, h) b, p.under.0))

  same_lens : (j : ℕ) → len (upd v.at k (packed_to d (v.at k)) j) ≡ len (v.at j)
  same_lens = upd_elim v.at k (packed_to d (v.at k)) (λ j y. len y ≡ len (v.at j)) is.len (λ j n. refl)

  same_free : (j : ℕ) → is_free (upd v.at k (packed_to d (v.at k)) j) ≡ is_free (v.at j)
  same_free =
      upd_elim v.at k (packed_to d (v.at k)) (λ j y. is_free y ≡ is_free (v.at j))
      (is.free ∙ sym (record_taken (v.at k) p.recs.0)) (λ j n. refl)

  same_tag : (j : ℕ) → tag (upd v.at k (packed_to d (v.at k)) j) ≡ tag (v.at j)
  same_tag =
      upd_elim v.at k (packed_to d (v.at k)) (λ j y. tag y ≡ tag (v.at j))
      (packed_tag (v.at k) d p.recs.0) (λ j n. refl)

  same_sum : sum v.slot_count (λ j. len (upd v.at k (packed_to d (v.at k)) j)) ≡ sum v.slot_count (λ j. len (v.at j))
  same_sum = sum_ext v.slot_count (λ j. len (upd v.at k (packed_to d (v.at k)) j)) (λ j. len (v.at j)) (λ j h. same_lens j)

  move_sound : Sound (with_packed v k d)
  move_sound =
      let s = p.sound in
      let y : Slot = packed_to d (v.at k) in
      record {
        few = s.few;
        first≤ = s.first≤;
        first_is_free = upd_other v.at k y v.first_free (λ e. is.taken (rw e at s.first_is_free)) ∙ s.first_is_free;
        lower = upd_elim v.at k y (λ j z. j < v.first_free → is_free z ≡ false) (λ h. is.free) (λ j n. s.lower j);
        dir = s.dir;
        start≤ = s.start≤;
        low = upd_elim v.at k y (λ j z. 0 < len z
            → v.data_start ≤ off z) (λ h. rw is.off (omega (arith, p.under.0, s.low k (rw is.len at h)))) (λ j n. s.low j);
        high = upd_elim v.at k y (λ j z. off z + len z ≤ 16384) (rw (is.off, is.len) (omega (arith, p.under.0, p.top))) (λ j n. s.high j);
        apart = upd_apart v.at k y new_apart s.apart;
        targets = upd_elim v.at k y (λ j z. is_target z ≡ true → 8 ≤ len z) (λ e. rw is.len (s.targets k (sym is.target ∙ e))) (λ j n. s.targets j);
        sums = rw same_sum s.sums;
        codable = upd_elim v.at k y (λ j z. Codable z) (is.codable (omega (arith, p.top)) (omega (arith, p.under.0, p.top))) (λ j n. s.codable j);
        past = upd_elim v.at k y (λ j z. v.slot_count ≤ j → z ≡ Free) (λ h. absurd (is.taken (s.past k h))) (λ j n. s.past j);
        lens = upd_lens v.at v.bytes k y (v.bytes k) (s.lens k ∙ sym is.len) s.lens;
        in_use = s.in_use;
      }

  not_k : All (λ j. j ≢ k) ks
  not_k = all_map (λ j. (j ≢ k) × (off (v.at j) ≤ off (v.at k))) (λ j. j ≢ k) ks (λ j h. h.0) p.desc.0

  -- the slots of the list are as they were
  kept : (j : ℕ) → j ≢ k → upd v.at k (packed_to d (v.at k)) j ≡ v.at j
  kept = upd_other v.at k (packed_to d (v.at k))

  desc_kept : (js : List ℕ) → All (λ j. j ≢ k) js → Desc v js → Desc (with_packed v k d) js
  desc_kept [] a h = tt
  desc_kept (j ∷ js) a h = (
    all_two (λ i. i ≢ k) (λ i. (i ≢ j) × (off (v.at i) ≤ off (v.at j)))
        (λ i. (i ≢ j) × (off (upd v.at k (packed_to d (v.at k)) i) ≤ off (upd v.at k (packed_to d (v.at k)) j)))
        js (λ i n q. (q.0, rw (kept i n, kept j a.0) q.1)) a.1 h.0,
    desc_kept js a.1 h.1,
  )

  lens_kept : (js : List ℕ) → All (λ j. j ≢ k) js → lens_of (with_packed v k d) js ≡ lens_of v js
  lens_kept [] a = refl
  lens_kept (j ∷ js) a = omega (arith, same_lens j, lens_kept js a.1)

  packing_next : Packing ks (d - len (v.at k)) (with_packed v k d)
  packing_next =
      record {
        sound = move_sound;
        recs = all_two (λ j. j ≢ k) (λ j. is_record (v.at j) ≡ true) (λ j. is_record (upd v.at k (packed_to d (v.at k)) j) ≡ true) ks
            (λ j n h. ap is_record (kept j n) ∙ h) not_k p.recs.1;
        desc = desc_kept ks not_k p.desc.1;
        under =
            all_two (λ j. (j ≢ k) × (off (v.at j) ≤ off (v.at k))) (λ j. off (v.at j) + len (v.at j) ≤ d)
            (λ j. off (upd v.at k (packed_to d (v.at k)) j) + len (upd v.at k (packed_to d (v.at k)) j) ≤ d - len (v.at k))
            ks (λ j h u. rw (kept j h.0) (below j h.0 h.1 u)) p.desc.0 p.under.1;
        above =
            upd_elim v.at k (packed_to d (v.at k)) (λ j z. All (λ i. j ≢ i) ks → 0 < len z → d - len (v.at k) ≤ off z)
            (λ a h. rw is.off (omega arith)) (λ j n a h. omega (arith, p.above j (n, a) h));
        top = omega (arith, p.top);
        sums = rw (same_sum, lens_kept ks not_k) (omega (arith, p.sums, p.under.0));
      }

  counted : k < v.slot_count
  counted = go (dec_lt k v.slot_count)
    where
      go : Dec (k < v.slot_count) → k < v.slot_count
      go (yes h) = h
      go (no h) = absurd (is.taken (p.sound.past k (omega arith)))

-- one move on a page that shows the view: what the code's turn needs, and what it leaves
pub record Move (k : ℕ) (ks : List ℕ) (d : ℕ) (v : View) (p : List ℕ) : Type 0 where
  pub holds_record : is_record (v.at k) ≡ true
  pub counted : k < v.slot_count
  pub under : off (v.at k) + len (v.at k) ≤ d
  pub top : d ≤ 16384
  pub others : All (λ j. j ≢ k) ks
  pub seen : view (apply (move k (with_packed v k d)) p) ≡ with_packed v k d
  pub next : Packing ks (d - len (v.at k)) (with_packed v k d)

pub one_move : (k : ℕ) (ks : List ℕ) (d : ℕ) (v : View) → Packing (k ∷ ks) d v → (p : List ℕ) → length p ≡ 16384 → view p ≡ v → Move k ks d v p
one_move k ks d v q p whole e =
    let w : View = with_packed v k d in
    let t = move_sound k ks d v q in
    let only : Only v k w = record { at = kept k ks d v q; bytes = upd_other v.bytes k (v.bytes k); below = λ j n h. h } in
    let clear : Clear k w = λ j h. omega (arith, t.low j h, t.dir, counted k ks d v q) in
    record {
      holds_record = q.recs.0;
      counted = counted k ks d v q;
      under = q.under.0;
      top = q.top;
      others = not_k k ks d v q;
      seen = move_view p k w (sound_fits w t) (under_view p v k w whole e only refl refl refl refl) clear;
      next = packing_next k ks d v q;
    }

-- ---- all moves

end_sound : (d : ℕ) (v : View) → Packing [] d v → Sound (starting_at d v)
end_sound d v k =
    let s = k.sound in
    record {
      few = s.few;
      first≤ = s.first≤;
      first_is_free = s.first_is_free;
      lower = s.lower;
      dir = omega (arith, k.sums, s.sums);
      start≤ = omega (arith, k.top, s.start≤);
      low = λ j h. omega (arith, k.above j tt h, s.low j h);
      high = s.high;
      apart = s.apart;
      targets = s.targets;
      sums = s.sums;
      codable = s.codable;
      past = s.past;
      lens = s.lens;
      in_use = go (ℕ_discrete v.slot_count 0);
    }
  where
    go : Dec (v.slot_count ≡ 0) → (0 < v.slot_count) ⊎ (d ≡ 16384)
    go (yes e) = let t : d + sum 0 (λ j. len (v.at j)) ≡ 16384 + 0 = rw e at k.sums in inr (omega arith)
    go (no n) = inl (omega arith)

packed : (ks : List ℕ) (d : ℕ) (v : View) → Packing ks d v → (p : List ℕ) → length p ≡ 16384 → view p ≡ v → Exact p (pack ks d v)
packed [] d v k p whole e =
    let w : View = starting_at d v in
    let t = end_sound d v k in
    let shows = shows_view p v whole e in
    let only : Only v v.slot_count w = record { at = λ j n. refl; bytes = λ j n. refl; below = λ j n h. h } in
    record {
      seen = head_view p w whole (sound_fits w t) (λ j h. entry_of p v v.slot_count w shows only j (omega arith) h)
          (λ j. ap (λ (s : Slot). cut p (off s) (len s)) (shows.at j) ∙ sym (shows.bytes j));
      sound = t;
    }
packed (k ∷ ks) d v q p whole e =
    let w : View = with_packed v k d in
    let m = one_move k ks d v q p whole e in
    let r = packed ks (d - len (v.at k)) w m.next (apply (move k w) p) (length_apply (move k w) p ∙ whole) m.seen in
    record { seen = r.seen; sound = r.sound }

-- ---- the order

before_true : (v : View) (i j : ℕ) → before v i j ≡ true → off (v.at j) ≤ off (v.at i)
before_true v i j e = go (ltb (off (v.at j)) (off (v.at i))) refl (eqb (off (v.at j)) (off (v.at i))) refl e
  where
    go : (a : Bool) → ltb (off (v.at j)) (off (v.at i)) ≡ a → (b : Bool) → eqb (off (v.at j)) (off (v.at i)) ≡ b
        → (a || b && (ltb (len (v.at j)) (len (v.at i)) || eqb (len (v.at j)) (len (v.at i)) && ltb j i)) ≡ true → off (v.at j) ≤ off (v.at i)
    go true p b q h = omega (arith, ltb-true (off (v.at j)) (off (v.at i)) p)
    go false p true q h = omega (arith, eqb-true (off (v.at j)) (off (v.at i)) q)
    go false p false q h = let z : ◌≡◌ {A = ℕ} 0 1 = cc in absurd (omega arith)

before_false : (v : View) (i j : ℕ) → before v i j ≡ false → off (v.at i) ≤ off (v.at j)
before_false v i j e = go (ltb (off (v.at j)) (off (v.at i))) refl e
  where
    go : (a : Bool) → ltb (off (v.at j)) (off (v.at i)) ≡ a
        → (a || eqb (off (v.at j)) (off (v.at i)) && (ltb (len (v.at j)) (len (v.at i)) || eqb (len (v.at j)) (len (v.at i)) && ltb j i))
        ≡ false → off (v.at i) ≤ off (v.at j)
    go true p h = let z : ◌≡◌ {A = ℕ} 0 1 = cc in absurd (omega arith)
    go false p h = ltb-false (off (v.at j)) (off (v.at i)) p

module _ (v : View) (k : ℕ) where
  order_all : (P : ℕ → Type 0) (js : List ℕ) → P k → All P js → All P (in_order v k js)
  order_all P [] a h = (a, tt)
  order_all P (j ∷ js) a h = go (order_all P js a h.1) (before v k j)
    where
      go : All P (in_order v k js) → (b : Bool) → All P (cond b (k ∷ j ∷ js) (j ∷ in_order v k js))
      go ih true = (a, h)
      go ih false = (h.0, ih)

  order_not : (i : ℕ) (js : List ℕ) → All (λ j. i ≢ j) (in_order v k js) → (i ≢ k) × All (λ j. i ≢ j) js
  order_not i [] h = h
  order_not i (j ∷ js) h = go (order_not i js) (before v k j) h
    where
      go : (All (λ m. i ≢ m) (in_order v k js) → (i ≢ k) × All (λ m. i ≢ m) js) → (b : Bool)
          → All (λ m. i ≢ m) (cond b (k ∷ j ∷ js) (j ∷ in_order v k js)) → (i ≢ k) × All (λ m. i ≢ m) (j ∷ js)
      go ih true h = (h.0, h.1)
      go ih false h = ((ih h.1).0, (h.0, (ih h.1).1))

  order_lens : (js : List ℕ) → lens_of v (in_order v k js) ≡ len (v.at k) + lens_of v js
  order_lens [] = refl
  order_lens (j ∷ js) = go (order_lens js) (before v k j)
    where
      go : lens_of v (in_order v k js) ≡ len (v.at k) + lens_of v js → (b : Bool)
          → lens_of v (cond b (k ∷ j ∷ js) (j ∷ in_order v k js)) ≡ len (v.at k) + (len (v.at j) + lens_of v js)
      go ih true = refl
      go ih false = omega arith

  order_desc : (js : List ℕ) → All (λ j. k ≢ j) js → Desc v js → Desc v (in_order v k js)
  order_desc [] n h = (tt, tt)
  order_desc (j ∷ js) n h = go (order_desc js n.1 h.1) (before v k j) refl
    where
      go : Desc v (in_order v k js) → (b : Bool) → before v k j ≡ b → Desc v (cond b (k ∷ j ∷ js) (j ∷ in_order v k js))
      go ih true e =
          let o = before_true v k j e in (
            (
              (λ q. n.0 (sym q), o),
              all_two (λ i. k ≢ i) (λ i. (i ≢ j) × (off (v.at i) ≤ off (v.at j))) (λ i. (i ≢ k) × (off (v.at i) ≤ off (v.at k))) js
                  (λ i a b. (λ q. a (sym q), omega arith)) n.1 h.0,
            ),
            h,
          )
      go ih false e = (order_all (λ i. (i ≢ j) × (off (v.at i) ≤ off (v.at j))) js (n.0, before_false v k j e) h.0, ih)

-- a list of the records below n, in order
record Listing (v : View) (n : ℕ) (ks : List ℕ) : Type 0 where
  recs : All (λ k. (is_record (v.at k) ≡ true) × (k < n)) ks
  desc : Desc v ks
  lens : lens_of v ks ≡ sum n (λ j. len (v.at j))
  none : (j : ℕ) → All (λ k. j ≢ k) ks → j < n → len (v.at j) ≡ 0

no_record : (s : Slot) → is_record s ≡ false → len s ≡ 0
no_record (Ordinary o l) e = let z : ◌≡◌ {A = ℕ} 0 1 = cc in absurd (omega arith)
no_record Free e = refl
no_record (Redirect i) e = refl
no_record (Target o l) e = let z : ◌≡◌ {A = ℕ} 0 1 = cc in absurd (omega arith)

listing : (v : View) (n : ℕ) → Listing v n (records v n)
listing v zero = record { recs = tt; desc = tt; lens = refl; none = λ j a h. absurd (omega arith) }
listing v (suc n) = go (listing v n) (is_record (v.at n)) refl
  where
    later : Listing v n (records v n) → All (λ k. (is_record (v.at k) ≡ true) × (k < suc n)) (records v n)
    later h = all_map (λ k. (is_record (v.at k) ≡ true) × (k < n)) (λ k. (is_record (v.at k) ≡ true) × (k < suc n)) (records v n)
        (λ k q. (q.0, omega arith)) h.recs

    others : Listing v n (records v n) → (j : ℕ) → All (λ k. j ≢ k) (records v n) → j < suc n → j ≢ n → len (v.at j) ≡ 0
    others h j a l q = h.none j a (omega arith)

    go : Listing v n (records v n) → (b : Bool) → is_record (v.at n) ≡ b → Listing v (suc n) (cond b (in_order v n (records v n)) (records v n))
    go h true e =
        record {
          recs = order_all v n (λ k. (is_record (v.at k) ≡ true) × (k < suc n)) (records v n) (e, omega arith) (later h);
          desc = order_desc v n (records v n)
              (all_map (λ k. (is_record (v.at k) ≡ true) × (k < n)) (λ k. n ≢ k) (records v n) (λ k q. omega arith) h.recs) h.desc;
          lens = omega (arith, order_lens v n (records v n), h.lens);
          none = λ j a l. let o = order_not v n j (records v n) a in others h j o.1 l o.0;
        }
    go h false e =
        record {
          recs = later h;
          desc = h.desc;
          lens = omega (arith, h.lens, no_record (v.at n) e);
          none = λ j a l. by j a l (ℕ_discrete j n);
        }
      where
        by : (j : ℕ) → All (λ k. j ≢ k) (records v n) → j < suc n → Dec (j ≡ n) → len (v.at j) ≡ 0
        by j a l (yes q) = rw q (no_record (v.at n) e)
        by j a l (no q) = others h j a l q

pub start_packing : (v : View) → Sound v → Packing (records v v.slot_count) 16384 v
start_packing v s =
    let h = listing v v.slot_count in
    record {
      sound = s;
      recs = all_map (λ k. (is_record (v.at k) ≡ true) × (k < v.slot_count)) (λ k. is_record (v.at k) ≡ true) (records v v.slot_count)
          (λ k q. q.0) h.recs;
      desc = h.desc;
      under = all_map (λ k. (is_record (v.at k) ≡ true) × (k < v.slot_count)) (λ k. off (v.at k) + len (v.at k) ≤ 16384) (records v v.slot_count)
          (λ k q. s.high k) h.recs;
      above = λ j a l. by j a l (dec_lt j v.slot_count);
      top = omega arith;
      sums = omega (arith, h.lens);
    }
  where
    by : (j : ℕ) → All (λ k. j ≢ k) (records v v.slot_count) → 0 < len (v.at j) → Dec (j < v.slot_count) → 16384 ≤ off (v.at j)
    by j a l (yes q) = absurd (omega (arith, (listing v v.slot_count).none j a q))
    by j a l (no q) = let z : len (v.at j) ≡ 0 = ap len (s.past j (omega arith)) in absurd (omega arith)

-- ---- what packing keeps

pub record Kept (v w : View) : Type 0 where
  pub slot_count : w.slot_count ≡ v.slot_count
  pub first_free : w.first_free ≡ v.first_free
  pub free_space : w.free_space ≡ v.free_space
  pub bytes : (j : ℕ) → w.bytes j ≡ v.bytes j
  pub lens : (j : ℕ) → len (w.at j) ≡ len (v.at j)
  pub kinds : (j : ℕ) → is_free (w.at j) ≡ is_free (v.at j)
  pub tags : (j : ℕ) → tag (w.at j) ≡ tag (v.at j)

pack_keeps : (ks : List ℕ) (d : ℕ) (v : View) → Packing ks d v → Kept v (pack ks d v).after
pack_keeps [] d v p = record {
  slot_count = refl;
  first_free = refl;
  free_space = refl;
  bytes = λ j. refl;
  lens = λ j. refl;
  kinds = λ j. refl;
  tags = λ j. refl;
}
pack_keeps (k ∷ ks) d v p =
    let h = pack_keeps ks (d - len (v.at k)) (with_packed v k d) (packing_next k ks d v p) in
    record {
      slot_count = h.slot_count;
      first_free = h.first_free;
      free_space = h.free_space;
      bytes = λ j. h.bytes j ∙ upd_elim v.bytes k (v.bytes k) (λ i b. b ≡ v.bytes i) refl (λ i n. refl) j;
      lens = λ j. h.lens j ∙ same_lens k ks d v p j;
      kinds = λ j. h.kinds j ∙ same_free k ks d v p j;
      tags = λ j. h.tags j ∙ same_tag k ks d v p j;
    }

-- the gap is all of the free space
pack_start : (ks : List ℕ) (d : ℕ) (v : View) → Packing ks d v → (pack ks d v).after.data_start + sum v.slot_count (λ j. len (v.at j)) ≡ 16384
pack_start [] d v p = omega (arith, p.sums)
pack_start (k ∷ ks) d v p =
    omega (arith, same_sum k ks d v p, pack_start ks (d - len (v.at k)) (with_packed v k d) (packing_next k ks d v p))

-- ---- compactify

module _ (p : List ℕ) (v : View) (whole : length p ≡ 16384) (seen : view p ≡ v) (s : Sound v) where
  pub compact_exact : Exact p (compactify v)
  unfolding compactify
  compact_exact = packed (records v v.slot_count) 16384 v (start_packing v s) p whole seen

pub compact_keeps : (v : View) → Sound v → Kept v (compactify v).after
unfolding compactify
compact_keeps v s = pack_keeps (records v v.slot_count) 16384 v (start_packing v s)

pub compact_gap : (v : View) → Sound v → gap (compactify v).after ≡ v.free_space
unfolding compactify
compact_gap v s =
    let k = pack_keeps (records v v.slot_count) 16384 v (start_packing v s) in
    let h = pack_start (records v v.slot_count) 16384 v (start_packing v s) in
    omega (arith, k.slot_count, s.sums)
