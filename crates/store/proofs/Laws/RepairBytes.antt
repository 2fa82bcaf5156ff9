-- Repair's bytes: which it can change, and that what is seen of the segment afterwards is what was planned.
use Prim.Native.Nat.{ℕ, zero, suc, ◌+◌, ◌*◌, ◌/◌, ◌%◌, ◌≤◌, ◌<◌}
use Rattle.std.specs.Prelude.{◌≡◌, Bool, ◌&&◌, ◌⊎◌, take, drop}
use Rattle.std.proofs.Math.Path.{refl, ap}
use Rattle.std.proofs.Common.{sym, ◌∙◌, subst, inl, inr, not-suc-le-zero, length-take, length-drop}
use Rattle.std.proofs.Math.Bool.{true, false, cond}
use mathlib.Core.List.{List}
use native.Mathlib.Omega.{arith}
use Rattle.std.proofs.Math.Decide.{ℕ_discrete, dec_lt}
use Rattle.std.proofs.Math.ListN.{length}
use Rattle.std.proofs.Math.Dec.{eqb}
use borrow.Author.Tests.{lt-ltb, eqb-true}
use Rattle.store.specs.Numbers.{cut, put, zeros, be}
use Rattle.store.specs.Slots.{slot_bytes, slot_of, off, len}
use Rattle.store.specs.Page.{View, view, count, slot_at, fresh}
use Rattle.store.specs.PageSteps.{head_bytes, put_head}
use Rattle.store.specs.Segment.{SegView, page_of}
use Rattle.store.specs.Repair.{standing, lost, deed, changes, slot_done, bytes_done, slot_after, bytes_after, slot_by, mended}
use Rattle.store.specs.Repair.{emptied, page_after, same_head, put_slots, put_mended, page_bytes, seg_bytes, mended_by}
use Rattle.store.specs.RepairTold.{directory}
use Rattle.store.specs.declared.Deed.TheVariants.{Stays, RecordFreed, RedirectFreed, MadeOrdinary}
use Rattle.store.proofs.Laws.Cases.{by_test}
use Rattle.store.proofs.Laws.Numbers.{length_put, cut_apart, cut_same, cut_in, cut_cut, cut_drop}
use Rattle.store.proofs.Laws.Slots.{slot_read_back}
use Rattle.store.proofs.Laws.Edits.{Fits, Under, seen, under_head}
use Rattle.store.proofs.Laws.Views.{sound_fits}
use Rattle.store.proofs.Laws.SoundPage.{and_both, past_free, page_codable}
use Rattle.store.proofs.Laws.Segments.{length_page, page_same, page_other}
use Rattle.store.proofs.Laws.RepairPage.{used, Shown, after, mended_sound, keeps_is}
use Rattle.store.specs.declared.Deed.{Deed}
use Rattle.store.specs.declared.Slot.{Slot}
use Rattle.store.specs.declared.Slot.TheVariants.{Free}

-- ---- the slots that are written

module _ (d : ℕ → Deed) (v : View) where
  pub slots_length : (n : ℕ) (q : List ℕ) → length (put_slots d v n q) ≡ length q
  slots_length zero q = refl
  slots_length (suc n) q =
      by_test (λ (r : List ℕ). length r ≡ length q) (changes (d n)) (put (put_slots d v n q) (12 + 8 * n) (slot_bytes (slot_by d v n))) (put_slots d v n q)
      (λ e. length_put (put_slots d v n q) (12 + 8 * n) (slot_bytes (slot_by d v n)) ∙ slots_length n q) (λ e. slots_length n q)

  -- a part that no slot below n reaches
  pub slots_frame : (n : ℕ) (q : List ℕ) (j m : ℕ) → (j + m ≤ 12) ⊎ (12 + 8 * n ≤ j) → cut (put_slots d v n q) j m ≡ cut q j m
  slots_frame zero q j m h = refl
  slots_frame (suc n) q j m h =
      by_test (λ (r : List ℕ). cut r j m ≡ cut q j m) (changes (d n)) (put (put_slots d v n q) (12 + 8 * n) (slot_bytes (slot_by d v n))) (put_slots d v n q)
      (λ e. cut_apart (put_slots d v n q) (12 + 8 * n) (slot_bytes (slot_by d v n)) j m (λ a b. wide h) ∙ slots_frame n q j m (less h))
      (λ e. slots_frame n q j m (less h))
    where
      wide : (j + m ≤ 12) ⊎ (12 + 8 * suc n ≤ j) → (j + m ≤ 12 + 8 * n) ⊎ (12 + 8 * n + 8 ≤ j)
      wide (inl a) = inl (omega arith)
      wide (inr a) = inr (omega arith)

      less : (j + m ≤ 12) ⊎ (12 + 8 * suc n ≤ j) → (j + m ≤ 12) ⊎ (12 + 8 * n ≤ j)
      less (inl a) = inl a
      less (inr a) = inr (omega arith)

  -- slot k, below n
  slots_other : (n : ℕ) (q : List ℕ) (k : ℕ) → k < n → cut (put_slots d v (suc n) q) (12 + 8 * k) 8 ≡ cut (put_slots d v n q) (12 + 8 * k) 8
  slots_other n q k l =
      by_test (λ (r : List ℕ). cut r (12 + 8 * k) 8 ≡ cut (put_slots d v n q) (12 + 8 * k) 8) (changes (d n))
      (put (put_slots d v n q) (12 + 8 * n) (slot_bytes (slot_by d v n))) (put_slots d v n q)
      (λ e. cut_apart (put_slots d v n q) (12 + 8 * n) (slot_bytes (slot_by d v n)) (12 + 8 * k) 8 (λ a b. inl (omega arith))) (λ e. refl)

  pub slots_same : (n : ℕ) (q : List ℕ) (k : ℕ) → k < n → changes (d k) ≡ false → cut (put_slots d v n q) (12 + 8 * k) 8 ≡ cut q (12 + 8 * k) 8
  slots_same zero q k l e = absurd (not-suc-le-zero l)
  slots_same (suc n) q k l e = go (slots_same n q k) (ℕ_discrete k n)
    where
      own : (b : Bool) → b ≡ false
          → cut (cond b (put (put_slots d v n q) (12 + 8 * n) (slot_bytes (slot_by d v n))) (put_slots d v n q)) (12 + 8 * n) 8 ≡ cut q (12 + 8 * n) 8
      own true f = let z : ◌≡◌ {A = ℕ} 0 1 = cc in absurd (omega arith)
      own false f = slots_frame n q (12 + 8 * n) 8 (inr (omega arith))

      go : (k < n → changes (d k) ≡ false → cut (put_slots d v n q) (12 + 8 * k) 8 ≡ cut q (12 + 8 * k) 8) → Dec (k ≡ n)
          → cut (put_slots d v (suc n) q) (12 + 8 * k) 8 ≡ cut q (12 + 8 * k) 8
      go ih (yes x) = rw x (own (changes (d n)) (ap (λ (y : ℕ). changes (d y)) (sym x) ∙ e))
      go ih (no x) = slots_other n q k (omega arith) ∙ ih (omega arith) e

  pub slots_new : (n : ℕ) (q : List ℕ) (k : ℕ) → k < n → 12 + 8 * n ≤ length q → changes (d k) ≡ true
      → cut (put_slots d v n q) (12 + 8 * k) 8 ≡ slot_bytes (slot_by d v k)
  slots_new zero q k l w e = absurd (not-suc-le-zero l)
  slots_new (suc n) q k l w e = go (slots_new n q k) (ℕ_discrete k n)
    where
      own : (b : Bool) → b ≡ true
          → cut (cond b (put (put_slots d v n q) (12 + 8 * n) (slot_bytes (slot_by d v n))) (put_slots d v n q)) (12 + 8 * n) 8 ≡ slot_bytes (slot_by d v n)
      own true f = cut_same (put_slots d v n q) (12 + 8 * n) (slot_bytes (slot_by d v n)) 8 refl (omega (arith, slots_length n q))
      own false f = let z : ◌≡◌ {A = ℕ} 0 1 = cc in absurd (omega arith)

      go : (k < n → 12 + 8 * n ≤ length q → changes (d k) ≡ true → cut (put_slots d v n q) (12 + 8 * k) 8 ≡ slot_bytes (slot_by d v k)) → Dec (k ≡ n)
          → cut (put_slots d v (suc n) q) (12 + 8 * k) 8 ≡ slot_bytes (slot_by d v k)
      go ih (yes x) = rw x (own (changes (d n)) (ap (λ (y : ℕ). changes (d y)) (sym x) ∙ e))
      go ih (no x) = slots_other n q k (omega arith) ∙ ih (omega arith) (omega arith) e

module _ (u : SegView) (p : ℕ) where
  -- ---- the header on top: behind it nothing is written by it

  pub mended_length : (q : List ℕ) → length (put_mended (deed u p) (u.page p) q) ≡ length q
  mended_length q =
      let r : List ℕ = put_slots (deed u p) (u.page p) (u.page p).slot_count q in
      by_test (λ (x : List ℕ). length x ≡ length q) (same_head (u.page p) (mended u p)) r (put_head (mended u p) r)
      (λ e. slots_length (deed u p) (u.page p) (u.page p).slot_count q)
      (λ e. length_put r 0 (head_bytes (mended u p)) ∙ slots_length (deed u p) (u.page p) (u.page p).slot_count q)

  pub mended_past : (q : List ℕ) (j m : ℕ) → 12 ≤ j
      → cut (put_mended (deed u p) (u.page p) q) j m ≡ cut (put_slots (deed u p) (u.page p) (u.page p).slot_count q) j m
  mended_past q j m h =
      let r : List ℕ = put_slots (deed u p) (u.page p) (u.page p).slot_count q in
      by_test (λ (x : List ℕ). cut x j m ≡ cut r j m) (same_head (u.page p) (mended u p)) r (put_head (mended u p) r) (λ e. refl)
      (λ e. cut_apart r 0 (head_bytes (mended u p)) j m (λ a b. inr h))

  pub page_length : (q : List ℕ) → length (page_bytes u p q) ≡ length q
  unfolding page_bytes
  page_length q =
      by_test (λ (x : List ℕ). length x ≡ length q) (lost (u.page p)) (put q 0 (zeros 12)) (cond (fresh (u.page p)) q (put_mended (deed u p) (u.page p) q))
      (λ e. length_put q 0 (zeros 12))
      (λ e. by_test (λ (x : List ℕ). length x ≡ length q) (fresh (u.page p)) q (put_mended (deed u p) (u.page p) q) (λ f. refl) (λ f. mended_length q))

-- ---- "No byte outside headers and directories changes": of one page

pub page_past_directory : (u : SegView) (p : ℕ) (q : List ℕ) (j m : ℕ) → directory (u.page p) ≤ j → cut (page_bytes u p q) j m ≡ cut q j m
unfolding page_bytes
page_past_directory u p q j m = go (lost (u.page p))
  where
    go : (b : Bool) → cond b 12 (12 + 8 * (u.page p).slot_count) ≤ j
        → cut (cond b (put q 0 (zeros 12)) (cond (fresh (u.page p)) q (put_mended (deed u p) (u.page p) q))) j m ≡ cut q j m
    go true h = cut_apart q 0 (zeros 12) j m (λ a b. inr h)
    go false h =
        by_test (λ (x : List ℕ). cut x j m ≡ cut q j m) (fresh (u.page p)) q (put_mended (deed u p) (u.page p) q) (λ f. refl)
        (λ f. mended_past u p q j m (omega arith) ∙ slots_frame (deed u p) (u.page p) (u.page p).slot_count q j m (inr h))

-- a slot to which nothing is done keeps its 8 bytes, on a page that is not lost
pub page_slot_same : (u : SegView) (p : ℕ) (q : List ℕ) (k : ℕ) → lost (u.page p) ≡ false → k < (u.page p).slot_count → changes (deed u p k) ≡ false
    → cut (page_bytes u p q) (12 + 8 * k) 8 ≡ cut q (12 + 8 * k) 8
unfolding page_bytes
page_slot_same u p q k g l e =
    by_test (λ (x : List ℕ). cut x (12 + 8 * k) 8 ≡ cut q (12 + 8 * k) 8) (lost (u.page p)) (put q 0 (zeros 12))
    (cond (fresh (u.page p)) q (put_mended (deed u p) (u.page p) q))
    (λ f. let z : ◌≡◌ {A = ℕ} 0 1 = cc in absurd (omega arith))
    (λ _. by_test (λ (x : List ℕ). cut x (12 + 8 * k) 8 ≡ cut q (12 + 8 * k) 8) (fresh (u.page p)) q (put_mended (deed u p) (u.page p) q) (λ f. refl)
    (λ f. mended_past u p q (12 + 8 * k) 8 (omega arith) ∙ slots_same (deed u p) (u.page p) (u.page p).slot_count q k l e))

-- ---- what is seen of a page afterwards

pub shown_page : (q : List ℕ) → length q ≡ 16384 → Shown (view q)
unfolding view
shown_page q whole =
    record {
      codable = page_codable q;
      past = past_free q;
      lens = λ j h. length-take (len (slot_at q j)) (drop (off (slot_at q j)) q) ∙ omega (arith, length-drop (off (slot_at q j)) q);
    }

pub same_slot : (d : Deed) (x : Slot) → changes d ≡ false → slot_done d x ≡ x
same_slot Stays x e = refl
same_slot RecordFreed x e = let z : ◌≡◌ {A = ℕ} 0 1 = cc in absurd (omega arith)
same_slot RedirectFreed x e = let z : ◌≡◌ {A = ℕ} 0 1 = cc in absurd (omega arith)
same_slot MadeOrdinary x e = let z : ◌≡◌ {A = ℕ} 0 1 = cc in absurd (omega arith)

-- the bytes stand where the new slot says, in the old page
done_bytes : (q : List ℕ) (d : Deed) (x : Slot) → cut q (off (slot_done d x)) (len (slot_done d x)) ≡ bytes_done d (cut q (off x) (len x))
done_bytes q Stays x = refl
done_bytes q RecordFreed x = refl
done_bytes q RedirectFreed x = refl
done_bytes q MadeOrdinary x = sym (cut_drop q (off x) (len x) 8)

module _ (u : SegView) (p : ℕ) (q : List ℕ) (is : view q ≡ u.page p) (whole : length q ≡ 16384) where
  shown : Shown (u.page p)
  shown = subst Shown is (shown_page q whole)

  slot_is : (j : ℕ) → slot_at q j ≡ (u.page p).at j
  unfolding view
  slot_is j = ap (λ (v : View). v.at j) is

  bytes_is : (j : ℕ) → cut q (off ((u.page p).at j)) (len ((u.page p).at j)) ≡ (u.page p).bytes j
  unfolding view
  bytes_is j = ap (λ (x : Slot). cut q (off x) (len x)) (sym (slot_is j)) ∙ ap (λ (v : View). v.bytes j) is

  count_is : count q ≡ (u.page p).slot_count
  unfolding view
  count_is = ap (λ (v : View). v.slot_count) is

  first_is : be (cut q 2 2) ≡ (u.page p).first_free
  unfolding view
  first_is = ap (λ (v : View). v.first_free) is

  start_is : be (cut q 4 4) ≡ (u.page p).data_start
  unfolding view
  start_is = ap (λ (v : View). v.data_start) is

  space_is : be (cut q 8 4) ≡ (u.page p).free_space
  unfolding view
  space_is = ap (λ (v : View). v.free_space) is

  module _ (some : 0 < (u.page p).slot_count) (few : (u.page p).slot_count ≤ 2046) where
    abbrev c : ℕ
    c = (u.page p).slot_count

    abbrev r : List ℕ
    r = put_slots (deed u p) (u.page p) c q

    long : length r ≡ 16384
    long = slots_length (deed u p) (u.page p) c q ∙ whole

    fits : Fits (mended u p)
    fits = sound_fits (mended u p) (mended_sound u p shown some few)

    entries_are : (j : ℕ) → j < c → slot_of (be (cut r (12 + 8 * j) 8)) ≡ slot_after u p j
    entries_are j l = go (changes (deed u p j)) refl
      where
        go : (b : Bool) → changes (deed u p j) ≡ b → slot_of (be (cut r (12 + 8 * j) 8)) ≡ slot_after u p j
        go true e =
            ap (λ (x : List ℕ). slot_of (be x)) (slots_new (deed u p) (u.page p) c q j l (omega arith) e)
            ∙ slot_read_back (slot_after u p j) (after u p shown j).codable
        go false e =
            let h : slot_at q j ≡ slot_of (be (cut q (12 + 8 * j) 8)) = simp (lt-ltb j (count q) (omega (arith, count_is))) in
            ap (λ (x : List ℕ). slot_of (be x)) (slots_same (deed u p) (u.page p) c q j l e) ∙ sym h ∙ slot_is j
            ∙ sym (same_slot (deed u p j) ((u.page p).at j) e)

    records_are : (j : ℕ) → cut r (off (slot_after u p j)) (len (slot_after u p j)) ≡ bytes_after u p j
    records_are j =
        go (dec_lt 0 (len (slot_after u p j)))
        ∙ done_bytes q (deed u p j) ((u.page p).at j) ∙ ap (bytes_done (deed u p j)) (bytes_is j)
      where
        go : Dec (0 < len (slot_after u p j)) → cut r (off (slot_after u p j)) (len (slot_after u p j)) ≡ cut q (off (slot_after u p j))
            (len (slot_after u p j))
        go (yes l) =
            let w = (after u p shown j).within l in
            slots_frame (deed u p) (u.page p) c q (off (slot_after u p j)) (len (slot_after u p j))
            (inr (omega (arith, (keeps_is (u.page p) j w.0).low w.3)))
        go (no l) = let e : len (slot_after u p j) ≡ 0 = omega arith in rw e

    -- where the header stays
    under_same : same_head (u.page p) (mended u p) ≡ true → Under r c (mended u p)
    unfolding mended_by
    under_same e =
        let a = and_both (eqb (u.page p).first_free (mended u p).first_free)
        (eqb (u.page p).data_start (mended u p).data_start && eqb (u.page p).free_space (mended u p).free_space) e in
        let b = and_both (eqb (u.page p).data_start (mended u p).data_start) (eqb (u.page p).free_space (mended u p).free_space) a.1 in
        record {
          whole = long;
          slot_count = ap be (slots_frame (deed u p) (u.page p) c q 0 2 (inl (omega arith))) ∙ count_is;
          first_free =
              ap be (slots_frame (deed u p) (u.page p) c q 2 2 (inl (omega arith))) ∙ first_is
              ∙ eqb-true (u.page p).first_free (mended u p).first_free a.0;
          data_start =
              ap be (slots_frame (deed u p) (u.page p) c q 4 4 (inl (omega arith))) ∙ start_is
              ∙ eqb-true (u.page p).data_start (mended u p).data_start b.0;
          free_space =
              ap be (slots_frame (deed u p) (u.page p) c q 8 4 (inl (omega arith))) ∙ space_is
              ∙ eqb-true (u.page p).free_space (mended u p).free_space b.1;
          at = λ j n l. entries_are j l;
          bytes = λ j n. records_are j;
        }

    under_new : Under (put_head (mended u p) r) c (mended u p)
    unfolding mended_by
    under_new = under_head r (mended u p) long fits c (λ j n l. entries_are j l) (λ j n. records_are j)

    under_either : Under (put_mended (deed u p) (u.page p) q) c (mended u p)
    under_either = by_test (λ (x : List ℕ). Under x c (mended u p)) (same_head (u.page p) (mended u p)) r (put_head (mended u p) r) under_same (λ e. under_new)

    own_either : cut (put_mended (deed u p) (u.page p) q) (off (slot_after u p c)) (len (slot_after u p c)) ≡ bytes_after u p c
    own_either =
        let e : slot_after u p c ≡ Free = (after u p shown c).past (omega arith) in
        let z : len (slot_after u p c) ≡ 0 = ap len e in
        ap (λ (m : ℕ). take m (drop (off (slot_after u p c)) (put_mended (deed u p) (u.page p) q))) z
        ∙ sym (ap (λ (m : ℕ). take m (drop (off (slot_after u p c)) r)) z) ∙ records_are c

    pub mended_seen : view (put_mended (deed u p) (u.page p) q) ≡ mended u p
    unfolding mended_by
    mended_seen = seen (put_mended (deed u p) (u.page p) q) c (mended u p) fits under_either (λ l. absurd (omega arith)) own_either

  emptied_seen : view (put q 0 (zeros 12)) ≡ emptied
  unfolding view
  emptied_seen =
      let q' : List ℕ = put q 0 (zeros 12) in
      let part : (j m : ℕ) → j + m ≤ 12 → cut (put q 0 (zeros 12)) j m ≡ cut (zeros 12) j m =
      λ j m h. rw (sym (plus j)) at (cut_in q 0 (zeros 12) j m h (omega arith)) in
      let none : count (put q 0 (zeros 12)) ≡ 0 = ap be (part 0 2 (omega arith)) in
      let free : (j : ℕ) → slot_at (put q 0 (zeros 12)) j ≡ Free = λ j. past_free (put q 0 (zeros 12)) j (omega arith) in
      λ i. record {
        slot_count = none i;
        first_free = ap be (part 2 2 (omega arith)) i;
        data_start = ap be (part 4 4 (omega arith)) i;
        free_space = ap be (part 8 4 (omega arith)) i;
        at = λ j. free j i;
        bytes = λ j. ap (λ (s : Slot). cut (put q 0 (zeros 12)) (off s) (len s)) (free j) i;
      }
    where
      plus : (j : ℕ) → j ≡ 0 + j
      plus j = omega arith

  pub page_seen : view (page_bytes u p q) ≡ page_after u p
  unfolding page_bytes page_after
  page_seen = go (lost (u.page p)) refl (fresh (u.page p)) refl
    where
      go : (a : Bool) → lost (u.page p) ≡ a → (b : Bool) → fresh (u.page p) ≡ b
          → view (cond a (put q 0 (zeros 12)) (cond b q (put_mended (deed u p) (u.page p) q))) ≡ cond a emptied (cond b (u.page p) (mended u p))
      go true l b f = emptied_seen
      go false l true f = is
      go false l false f = let h = used (u.page p) l f in mended_seen h.0 h.1

-- ---- all pages

pub seg_length : (u : SegView) (n : ℕ) (s : List ℕ) → length (seg_bytes u n s) ≡ length s
unfolding seg_bytes
seg_length u zero s = refl
seg_length u (suc n) s = length_put (seg_bytes u n s) (n * 16384) (page_bytes u n (page_of s n)) ∙ seg_length u n s

pub page_of_lem : (u : SegView) (n : ℕ) (s : List ℕ) → n * 16384 ≤ length s → (p : ℕ) → p < n → page_of (seg_bytes u n s) p ≡ page_bytes u p (page_of s p)
unfolding seg_bytes
page_of_lem u zero s h p l = absurd (not-suc-le-zero l)
page_of_lem u (suc n) s h p l = go (page_of_lem u n s (omega arith) p) (ℕ_discrete p n)
  where
    long : length (page_bytes u n (page_of s n)) ≡ 16384
    long = page_length u n (page_of s n) ∙ length_page s n (omega arith)

    go : (p < n → page_of (seg_bytes u n s) p ≡ page_bytes u p (page_of s p)) → Dec (p ≡ n)
        → page_of (put (seg_bytes u n s) (n * 16384) (page_bytes u n (page_of s n))) p ≡ page_bytes u p (page_of s p)
    go ih (yes e) = rw e (page_same (seg_bytes u n s) n (page_bytes u n (page_of s n)) long (omega (arith, seg_length u n s)))
    go ih (no d) = page_other (seg_bytes u n s) n (page_bytes u n (page_of s n)) long p d ∙ ih (omega arith)

-- ---- the segment

module _ (s : List ℕ) (whole : length s % 16384 ≡ 0) where
  abbrev pub repaired_seg : List ℕ
  repaired_seg = seg_bytes (standing s) (length s / 16384) s

  pub repaired_length : length repaired_seg ≡ length s
  repaired_length = seg_length (standing s) (length s / 16384) s

  pub repaired_page : (p : ℕ) → p < length s / 16384 → page_of repaired_seg p ≡ page_bytes (standing s) p (page_of s p)
  repaired_page p l = page_of_lem (standing s) (length s / 16384) s (omega arith) p l

  standing_page : (p : ℕ) → view (page_of s p) ≡ (standing s).page p
  unfolding standing
  standing_page p = refl

  pub repaired_view : (p : ℕ) → p < length s / 16384 → view (page_of repaired_seg p) ≡ page_after (standing s) p
  repaired_view p l = ap view (repaired_page p l) ∙ page_seen (standing s) p (page_of s p) (standing_page p) (length_page s p (omega arith))

  -- law 4: every changed byte lies in a header or in the directory
  pub untouched : (p j m : ℕ) → p < length s / 16384 → directory ((standing s).page p) ≤ j → j + m ≤ 16384
      → cut repaired_seg (p * 16384 + j) m ≡ cut s (p * 16384 + j) m
  untouched p j m l h k =
      sym (cut_cut repaired_seg (p * 16384) 16384 j m k)
      ∙ ap (λ (q : List ℕ). cut q j m) (repaired_page p l) ∙ page_past_directory (standing s) p (page_of s p) j m h
      ∙ cut_cut s (p * 16384) 16384 j m k

  -- and a slot to which nothing is done keeps its 8 bytes
  pub slot_untouched : (p k : ℕ) → p < length s / 16384 → lost ((standing s).page p) ≡ false → k < ((standing s).page p).slot_count
      → changes (deed (standing s) p k) ≡ false
      → cut (page_of repaired_seg p) (12 + 8 * k) 8 ≡ cut (page_of s p) (12 + 8 * k) 8
  slot_untouched p k l g h e = ap (λ (q : List ℕ). cut q (12 + 8 * k) 8) (repaired_page p l) ∙ page_slot_same (standing s) p (page_of s p) k g h e
