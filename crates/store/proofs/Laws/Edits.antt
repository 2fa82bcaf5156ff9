-- One page: what is seen after an edit is the view that the edit names. Every page step is a list of edits.
use Rattle.std.specs.Prelude.{ℕ, ◌+◌, ◌*◌, ◌≤◌, ◌<◌, ◌≡◌, cond, ◌⊎◌, ◌≢◌, length, ltb}
use Rattle.std.proofs.Math.Path.{refl, ap}
use Rattle.std.proofs.Common.{sym, ◌∙◌, inl, inr, arith, lt-ltb, le-ltb}
use mathlib.Core.List.{List, [], ◌∷◌}
use Rattle.std.proofs.Math.Decide.{ℕ_discrete, dec_lt}
use Rattle.store.specs.Numbers.{cut, put, be}
use Rattle.store.specs.Slots.{slot_bytes, slot_of, off, len}
use Rattle.store.specs.Page.{View, view, count, slot_at, bytes_at}
use Rattle.store.specs.PageSteps.{head_bytes, put_head, put_slot, put_bytes, apply, head, move, commit, fill}
use Rattle.store.proofs.Laws.Numbers.{length_put, cut_apart, cut_same, cut_in, be_to_be}
use Rattle.store.specs.Laws.Slots.{Codable}
use Rattle.store.proofs.Laws.Slots.{slot_read_back}
use Rattle.store.specs.declared.Slot.{Slot}
use Rattle.store.specs.declared.Slot.TheVariants.{Free}
use Rattle.store.specs.Laws.Edits.{Apart}

-- a view that a page can have: numbers and entries fit their bytes, and records lie in the page, outside the directory, apart
pub record Fits (v : View) : Type 0 where
  pub few : v.slot_count ≤ 2046
  pub first_free : v.first_free ≤ 2046
  pub data_start : v.data_start ≤ 16384
  pub free_space : v.free_space ≤ 16372
  pub codable : (j : ℕ) → Codable (v.at j)
  pub past : (j : ℕ) → v.slot_count ≤ j → v.at j ≡ Free
  pub lens : (j : ℕ) → length (v.bytes j) ≡ len (v.at j)
  pub low : (j : ℕ) → 0 < len (v.at j) → 12 + 8 * v.slot_count ≤ off (v.at j)
  pub high : (j : ℕ) → 0 < len (v.at j) → off (v.at j) + len (v.at j) ≤ 16384
  pub apart : (i j : ℕ) → i ≢ j → Apart (v.at i) (v.at j)

-- slot k's entry, which may lie past the count, reaches into no record
abbrev pub Clear : ℕ → View → Type 0
Clear k v = (j : ℕ) → 0 < len (v.at j) → 12 + 8 * k + 8 ≤ off (v.at j)

-- the page's numbers, the entries below the count and the records are the view's, but perhaps for slot k's
pub record Under (q : List ℕ) (k : ℕ) (v : View) : Type 0 where
  pub whole : length q ≡ 16384
  pub slot_count : count q ≡ v.slot_count
  pub first_free : be (cut q 2 2) ≡ v.first_free
  pub data_start : be (cut q 4 4) ≡ v.data_start
  pub free_space : be (cut q 8 4) ≡ v.free_space
  pub at : (j : ℕ) → j ≢ k → j < v.slot_count → slot_of (be (cut q (12 + 8 * j) 8)) ≡ v.at j
  pub bytes : (j : ℕ) → j ≢ k → cut q (off (v.at j)) (len (v.at j)) ≡ v.bytes j

-- with slot k's too, the view is what is seen
module _ (q : List ℕ) (k : ℕ) (v : View) (fits : Fits v) (under : Under q k v) (same : k < v.slot_count → slot_of (be (cut q (12 + 8 * k) 8)) ≡ v.at k)
    (own : cut q (off (v.at k)) (len (v.at k)) ≡ v.bytes k) where
  slots : (j : ℕ) → slot_at q j ≡ v.at j
  slots j = rw under.slot_count (by_count (dec_lt j v.slot_count))
    where
      by_slot : j < v.slot_count → Dec (j ≡ k) → slot_of (be (cut q (12 + 8 * j) 8)) ≡ v.at j
      by_slot h (yes e) = rw e (same (omega arith))
      by_slot h (no n) = under.at j n h

      by_count : Dec (j < v.slot_count) → cond (ltb j v.slot_count) (slot_of (be (cut q (12 + 8 * j) 8))) Free ≡ v.at j
      by_count (yes h) = simp (lt-ltb j v.slot_count h) (by_slot h (ℕ_discrete j k))
      by_count (no h) = let g : v.slot_count ≤ j = omega arith in simp (le-ltb j v.slot_count g) (sym (fits.past j g))

  records : (j : ℕ) → bytes_at q j ≡ v.bytes j
  records j = ap (λ (s : Slot). cut q (off s) (len s)) (slots j) ∙ by_slot (ℕ_discrete j k)
    where
      by_slot : Dec (j ≡ k) → cut q (off (v.at j)) (len (v.at j)) ≡ v.bytes j
      by_slot (yes e) = rw e own
      by_slot (no n) = under.bytes j n

  pub seen : view q ≡ v
  unfolding view
  seen = λ i. record {
    slot_count = under.slot_count i;
    first_free = under.first_free i;
    data_start = under.data_start i;
    free_space = under.free_space i;
    at = λ j. slots j i;
    bytes = λ j. records j i;
  }

-- the record's bytes, and the entry's, are apart from the rest
module _ (q : List ℕ) (k : ℕ) (v : View) (fits : Fits v) where
  record_frame : (j m : ℕ) → (0 < len (v.at k) → j + m ≤ off (v.at k)) → cut (put_bytes k v q) j m ≡ cut q j m
  record_frame j m h = cut_apart q (off (v.at k)) (v.bytes k) j m (λ a b. inl (h (omega (arith, fits.lens k))))

  record_other : (j : ℕ) → j ≢ k → cut (put_bytes k v q) (off (v.at j)) (len (v.at j)) ≡ cut q (off (v.at j)) (len (v.at j))
  record_other j n =
      cut_apart q (off (v.at k)) (v.bytes k) (off (v.at j)) (len (v.at j)) (λ a b. rw (fits.lens k) (fits.apart j k n b (rw (fits.lens k) at a)))

  record_own : length q ≡ 16384 → cut (put_bytes k v q) (off (v.at k)) (len (v.at k)) ≡ v.bytes k
  record_own whole = go (v.bytes k) (fits.lens k)
    where
      go : (bs : List ℕ) → length bs ≡ len (v.at k) → cut (put q (off (v.at k)) bs) (off (v.at k)) (len (v.at k)) ≡ bs
      go [] e = rw (← e)
      go (b ∷ bs) e = cut_same q (off (v.at k)) (b ∷ bs) (len (v.at k)) e (omega (arith, fits.high k (omega arith)))

  slot_frame : (j m : ℕ) → (j + m ≤ 12 + 8 * k) ⊎ (12 + 8 * k + 8 ≤ j) → cut (put_slot k v q) j m ≡ cut q j m
  slot_frame j m h = cut_apart q (12 + 8 * k) (slot_bytes (v.at k)) j m (λ a b. h)

  slot_other : (j : ℕ) → j ≢ k → cut (put_slot k v q) (12 + 8 * j) 8 ≡ cut q (12 + 8 * j) 8
  slot_other j n = slot_frame (12 + 8 * j) 8 (side (dec_lt j k))
    where
      side : Dec (j < k) → (12 + 8 * j + 8 ≤ 12 + 8 * k) ⊎ (12 + 8 * k + 8 ≤ 12 + 8 * j)
      side (yes l) = inl (omega arith)
      side (no l) = inr (omega arith)

  -- a part that neither reaches
  frame : (j m : ℕ) → j + m ≤ 12 → cut (put_bytes k v q) j m ≡ cut q j m
  frame j m h = record_frame j m (λ a. omega (arith, fits.low k a))

-- ---- the record alone

module _ (q : List ℕ) (k : ℕ) (v : View) (fits : Fits v) (under : Under q k v) where
  under_record : Under (put_bytes k v q) k v
  under_record =
      record {
        whole = length_put q (off (v.at k)) (v.bytes k) ∙ under.whole;
        slot_count = ap be (frame q k v fits 0 2 (omega arith)) ∙ under.slot_count;
        first_free = ap be (frame q k v fits 2 2 (omega arith)) ∙ under.first_free;
        data_start = ap be (frame q k v fits 4 4 (omega arith)) ∙ under.data_start;
        free_space = ap be (frame q k v fits 8 4 (omega arith)) ∙ under.free_space;
        at = λ j n h. ap (λ (l : List ℕ). slot_of (be l)) (record_frame q k v fits (12 + 8 * j) 8 (λ a. omega (arith, fits.low k a))) ∙ under.at j n h;
        bytes = λ j n. record_other q k v fits j n ∙ under.bytes j n;
      }

  pub fill_view : (k < v.slot_count → slot_of (be (cut q (12 + 8 * k) 8)) ≡ v.at k) → view (apply (fill k v) q) ≡ v
  unfolding apply
  fill_view same =
      seen (put_bytes k v q) k v fits under_record
      (λ h. ap (λ (l : List ℕ). slot_of (be l)) (record_frame q k v fits (12 + 8 * k) 8 (λ a. omega (arith, fits.low k a))) ∙ same h)
      (record_own q k v fits under.whole)

-- ---- the entry and the record

module _ (q : List ℕ) (k : ℕ) (v : View) (fits : Fits v) (under : Under q k v) (clear : Clear k v) where
  under_slot : Under (put_slot k v q) k v
  under_slot =
      record {
        whole = length_put q (12 + 8 * k) (slot_bytes (v.at k)) ∙ under.whole;
        slot_count = ap be (slot_frame q k v fits 0 2 (inl (omega arith))) ∙ under.slot_count;
        first_free = ap be (slot_frame q k v fits 2 2 (inl (omega arith))) ∙ under.first_free;
        data_start = ap be (slot_frame q k v fits 4 4 (inl (omega arith))) ∙ under.data_start;
        free_space = ap be (slot_frame q k v fits 8 4 (inl (omega arith))) ∙ under.free_space;
        at = λ j n h. ap (λ (l : List ℕ). slot_of (be l)) (slot_other q k v fits j n) ∙ under.at j n h;
        bytes = λ j n. slot_bytes_lem j (dec_lt 0 (len (v.at j))) ∙ under.bytes j n;
      }
    where
      slot_bytes_lem : (j : ℕ) → Dec (0 < len (v.at j)) → cut (put_slot k v q) (off (v.at j)) (len (v.at j)) ≡ cut q (off (v.at j)) (len (v.at j))
      slot_bytes_lem j (yes h) = slot_frame q k v fits (off (v.at j)) (len (v.at j)) (inr (clear j h))
      slot_bytes_lem j (no h) = let e : len (v.at j) ≡ 0 = omega arith in rw e

  pub move_view : view (apply (move k v) q) ≡ v
  unfolding apply
  move_view =
      seen (put_bytes k v (put_slot k v q)) k v fits (under_record (put_slot k v q) k v fits under_slot)
      (λ h. ap (λ (l : List ℕ). slot_of (be l)) (record_frame (put_slot k v q) k v fits (12 + 8 * k) 8 (clear k)
      ∙ cut_same q (12 + 8 * k) (slot_bytes (v.at k)) 8 refl (omega (arith, fits.few, under.whole))) ∙ slot_read_back (v.at k) (fits.codable k))
      (record_own (put_slot k v q) k v fits under_slot.whole)

-- ---- the header

module _ (p : List ℕ) (v : View) (whole : length p ≡ 16384) (fits : Fits v) where
  head_in : (j m : ℕ) → j + m ≤ 12 → cut (put_head v p) (0 + j) m ≡ cut (head_bytes v) j m
  head_in j m h = cut_in p 0 (head_bytes v) j m h (omega arith)

  head_past : (j m : ℕ) → 12 ≤ j → cut (put_head v p) j m ≡ cut p j m
  head_past j m h = cut_apart p 0 (head_bytes v) j m (λ a b. inr (omega arith))

  pub under_head : (k : ℕ) → ((j : ℕ) → j ≢ k → j < v.slot_count → slot_of (be (cut p (12 + 8 * j) 8)) ≡ v.at j)
      → ((j : ℕ) → j ≢ k → cut p (off (v.at j)) (len (v.at j)) ≡ v.bytes j) → Under (put_head v p) k v
  under_head k at bytes =
      record {
        whole = length_put p 0 (head_bytes v) ∙ whole;
        slot_count = ap be (head_in 0 2 (omega arith)) ∙ be_to_be 2 (omega (arith, fits.few));
        first_free = ap be (head_in 2 2 (omega arith)) ∙ be_to_be 2 (omega (arith, fits.first_free));
        data_start = ap be (head_in 4 4 (omega arith)) ∙ be_to_be 4 (omega (arith, fits.data_start));
        free_space = ap be (head_in 8 4 (omega arith)) ∙ be_to_be 4 (omega (arith, fits.free_space));
        at = λ j n h. ap (λ (l : List ℕ). slot_of (be l)) (head_past (12 + 8 * j) 8 (omega arith)) ∙ at j n h;
        bytes = λ j n. by j (dec_lt 0 (len (v.at j))) ∙ bytes j n;
      }
    where
      by : (j : ℕ) → Dec (0 < len (v.at j)) → cut (put_head v p) (off (v.at j)) (len (v.at j)) ≡ cut p (off (v.at j)) (len (v.at j))
      by j (yes h) = head_past (off (v.at j)) (len (v.at j)) (omega (arith, fits.low j h))
      by j (no h) = let e : len (v.at j) ≡ 0 = omega arith in rw e

nil : (bs : List ℕ) → length bs ≡ 0 → bs ≡ []
nil [] e = refl
nil (b ∷ bs) e = absurd (omega arith)

-- the header alone, where the slots and records are those of the page already
pub head_view : (p : List ℕ) (v : View) → length p ≡ 16384 → Fits v → ((j : ℕ) → j < v.slot_count → slot_of (be (cut p (12 + 8 * j) 8)) ≡ v.at j)
    → ((j : ℕ) → cut p (off (v.at j)) (len (v.at j)) ≡ v.bytes j) → view (apply (head v) p) ≡ v
unfolding apply
head_view p v whole fits at bytes =
    seen (put_head v p) v.slot_count v fits (under_head p v whole fits v.slot_count (λ j n. at j) (λ j n. bytes j)) (λ h. absurd (omega arith))
    (let e : v.at v.slot_count ≡ Free = fits.past v.slot_count (omega arith) in
    let z : length (v.bytes v.slot_count) ≡ 0 = fits.lens v.slot_count ∙ ap len e in
    rw e (sym (nil (v.bytes v.slot_count) z)))

-- ---- a page shows a view's slots and records; the header's other numbers may differ, as where it is initialised

pub record Shows (p : List ℕ) (u : View) : Type 0 where
  pub whole : length p ≡ 16384
  pub slot_count : u.slot_count ≡ count p
  pub at : (j : ℕ) → u.at j ≡ slot_at p j
  pub bytes : (j : ℕ) → u.bytes j ≡ bytes_at p j

pub shows_view : (p : List ℕ) (u : View) → length p ≡ 16384 → view p ≡ u → Shows p u
unfolding view
shows_view p u h e = record {
  whole = h;
  slot_count = ap (λ (v : View). v.slot_count) (sym e);
  at = λ j. ap (λ (v : View). v.at j) (sym e);
  bytes = λ j. ap (λ (v : View). v.bytes j) (sym e);
}

-- a view that differs from what is shown in slot k and the header alone
pub record Only (u : View) (k : ℕ) (v : View) : Type 0 where
  pub at : (j : ℕ) → j ≢ k → v.at j ≡ u.at j
  pub bytes : (j : ℕ) → j ≢ k → v.bytes j ≡ u.bytes j
  pub below : (j : ℕ) → j ≢ k → j < v.slot_count → j < u.slot_count

module _ (p : List ℕ) (u : View) (k : ℕ) (v : View) (shows : Shows p u) (only : Only u k v) where
  pub entry_of : (j : ℕ) → j ≢ k → j < v.slot_count → slot_of (be (cut p (12 + 8 * j) 8)) ≡ v.at j
  entry_of j n h =
      let b : j < count p = omega (arith, only.below j n h, shows.slot_count) in
      sym (only.at j n ∙ shows.at j ∙ simp (lt-ltb j (count p) b))

  pub bytes_of : (j : ℕ) → j ≢ k → cut p (off (v.at j)) (len (v.at j)) ≡ v.bytes j
  bytes_of j n = ap (λ (s : Slot). cut p (off s) (len s)) (only.at j n ∙ shows.at j) ∙ sym (only.bytes j n ∙ shows.bytes j)

module _ (p : List ℕ) (u : View) (k : ℕ) (v : View) (shows : Shows p u) (fits : Fits v) (clear : Clear k v) (only : Only u k v) where
  pub commit_view : view (apply (commit k v) p) ≡ v
  unfolding apply
  commit_view =
      let e : view (apply (move k v) (put_head v p)) ≡ v =
      move_view (put_head v p) k v fits (under_head p v shows.whole fits k (entry_of p u k v shows only) (bytes_of p u k v shows only)) clear in
      e

-- where all of view u is seen, and v differs in slot k alone
pub under_view : (p : List ℕ) (u : View) (k : ℕ) (v : View) → length p ≡ 16384 → view p ≡ u → Only u k v
    → v.slot_count ≡ u.slot_count → v.first_free ≡ u.first_free → v.data_start ≡ u.data_start → v.free_space ≡ u.free_space → Under p k v
unfolding view
under_view p u k v whole e only a b c d =
    let shows = shows_view p u whole e in
    record {
      whole = whole;
      slot_count = ap (λ (x : View). x.slot_count) e ∙ sym a;
      first_free = ap (λ (x : View). x.first_free) e ∙ sym b;
      data_start = ap (λ (x : View). x.data_start) e ∙ sym c;
      free_space = ap (λ (x : View). x.free_space) e ∙ sym d;
      at = entry_of p u k v shows only;
      bytes = bytes_of p u k v shows only;
    }
