-- What each page step does to entries and records: one slot changes; the others keep kind, length, id and bytes. And which entries and
-- headers a step writes. Views and edits alone: no byte of a page occurs here.
use Rattle.std.specs.Prelude.{ℕ, ◌+◌, ◌-◌, ◌≤◌, ◌<◌, true, false, cond, ◌⊎◌, ◌≢◌, take, ltb, eqb}
use Rattle.std.proofs.Math.Path.{◌≡◌, refl, ap, subst}
use Rattle.std.proofs.Common.{sym, ◌∙◌, arith}
use mathlib.Core.List.{List, [], ◌∷◌, ◌++◌}
use Rattle.std.proofs.Math.Logic.{inl, inr, ⊎_elim}
use Rattle.std.proofs.Math.Decide.{dec_lt}
use borrow.Author.Tests.{ltb-true, eqb-true, eqb-false}
use Rattle.store.specs.Numbers.{zeros, fit}
use Rattle.store.proofs.Laws.Slots.{tag}
use Rattle.store.specs.Slots.{off, len, is_free, is_record, placed}
use Rattle.store.specs.Page.{View}
use Rattle.store.specs.PageSteps.{Edit, head, move, commit, fill, Plan, stay, and_then, with_slot, with_head, compactify, gap, make_room, is_new}
use Rattle.store.specs.PageSteps.{cost, allocated, room_for, allocating, Alloc, no_room, got, erased, redirected, erase_for_redirect, Relocated}
use Rattle.store.specs.PageSteps.{refused, moved, move_under, shrunk, parked, resized, relocate_by, relocate, filled, plan, allocate, erase}
use Rattle.store.specs.Laws.Views.{Sound}
use Rattle.store.proofs.Laws.Views.{upd_same, upd_other, erase_used}
use Rattle.store.proofs.Laws.Compactify.{Kept, compact_keeps}
use Rattle.store.proofs.Laws.OneSlot.{park_suits, slot_sound}
use Rattle.store.proofs.Laws.Cases.{by_test, tests}
use Rattle.store.specs.declared.Slot.{Slot}
use Rattle.store.specs.declared.Slot.TheVariants.{Ordinary, Free, Redirect, Target}

-- ---- slot j's entry, or the header, is among what the edits write

abbrev pub Writes : ℕ → List Edit → Type 0
Writes j [] = ⊥
Writes j (head v ∷ es) = Writes j es
Writes j (move k v ∷ es) = (j ≡ k) ⊎ Writes j es
Writes j (commit k v ∷ es) = (j ≡ k) ⊎ Writes j es
Writes j (fill k v ∷ es) = Writes j es

abbrev pub Headed : List Edit → Type 0
Headed [] = ⊥
Headed (head v ∷ es) = Unit {0}
Headed (move k v ∷ es) = Headed es
Headed (commit k v ∷ es) = Unit {0}
Headed (fill k v ∷ es) = Headed es

writes_right : (j : ℕ) (es fs : List Edit) → Writes j fs → Writes j (es ++ fs)
writes_right j [] fs w = w
writes_right j (head v ∷ es) fs w = writes_right j es fs w
writes_right j (move k v ∷ es) fs w = inr (writes_right j es fs w)
writes_right j (commit k v ∷ es) fs w = inr (writes_right j es fs w)
writes_right j (fill k v ∷ es) fs w = writes_right j es fs w

writes_left : (j : ℕ) (es fs : List Edit) → Writes j es → Writes j (es ++ fs)
writes_left j [] fs w = absurd w
writes_left j (head v ∷ es) fs w = writes_left j es fs w
writes_left j (move k v ∷ es) fs (inl e) = inl e
writes_left j (move k v ∷ es) fs (inr w) = inr (writes_left j es fs w)
writes_left j (commit k v ∷ es) fs (inl e) = inl e
writes_left j (commit k v ∷ es) fs (inr w) = inr (writes_left j es fs w)
writes_left j (fill k v ∷ es) fs w = writes_left j es fs w

headed_right : (es fs : List Edit) → Headed fs → Headed (es ++ fs)
headed_right [] fs w = w
headed_right (head v ∷ es) fs w = tt
headed_right (move k v ∷ es) fs w = headed_right es fs w
headed_right (commit k v ∷ es) fs w = tt
headed_right (fill k v ∷ es) fs w = headed_right es fs w

headed_left : (es fs : List Edit) → Headed es → Headed (es ++ fs)
headed_left [] fs w = absurd w
headed_left (head v ∷ es) fs w = tt
headed_left (move k v ∷ es) fs w = headed_left es fs w
headed_left (commit k v ∷ es) fs w = tt
headed_left (fill k v ∷ es) fs w = headed_left es fs w

-- ---- the plan changes slot k of view v to entry x (offset aside) and bytes bs, and no other slot; entries and header that it leaves
-- in use and did not find in use are written

pub record Changes (v : View) (k : ℕ) (x : Slot) (bs : List ℕ) (a : Plan) : Type 0 where
  pub small : k < 65536
  pub used : 0 < a.after.slot_count
  pub own : tag (a.after.at k) ≡ x
  pub holds : a.after.bytes k ≡ bs
  pub tags : (j : ℕ) → j ≢ k → tag (a.after.at j) ≡ tag (v.at j)
  pub bytes : (j : ℕ) → j ≢ k → a.after.bytes j ≡ v.bytes j
  pub writes : (j : ℕ) → j < a.after.slot_count → (j < v.slot_count) ⊎ Writes j a.edits
  pub header : (0 < v.slot_count) ⊎ Headed a.edits

-- nothing, on a page in use
pub stay_changes : (v : View) (k : ℕ) → k < 65536 → 0 < v.slot_count → Changes v k (tag (v.at k)) (v.bytes k) (stay v)
stay_changes v k small used =
    record { small = small; used = used; own = refl; holds = refl; tags = λ j n. refl; bytes = λ j n. refl; writes = λ j h. inl h; header = inl used }

-- then slot k once more
pub retag : (v : View) (k : ℕ) (x : Slot) (b : List ℕ) (a : Plan) → Changes v k x b a → (y : Slot) (bs : List ℕ) (e : Edit)
    → Changes v k (tag y) bs (and_then a (λ w. plan (e ∷ []) (with_slot w k y bs)))
retag v k x b a c y bs e =
    record {
      small = c.small;
      used = c.used;
      own = ap tag (upd_same a.after.at k y);
      holds = upd_same a.after.bytes k bs;
      tags = λ j n. ap tag (upd_other a.after.at k y j n) ∙ c.tags j n;
      bytes = λ j n. upd_other a.after.bytes k bs j n ∙ c.bytes j n;
      writes = λ j h. ⊎_elim (λ l. inl l) (λ w. inr (writes_left j a.edits (e ∷ []) w)) (c.writes j h);
      header = ⊎_elim (λ l. inl l) (λ w. inr (headed_left a.edits (e ∷ []) w)) c.header;
    }

pub fill_changes : (v : View) (k : ℕ) (x : Slot) (b : List ℕ) (a : Plan) → Changes v k x b a → (bs : List ℕ) → Changes v k x bs (filled a k bs)
fill_changes v k x b a c bs =
    subst (λ (t : Slot). Changes v k t bs (filled a k bs)) c.own (retag v k x b a c (a.after.at k) bs (fill k (with_slot a.after k (a.after.at k) bs)))

pub changes_then : (v : View) (k : ℕ) (x : Slot) (b : List ℕ) (a : Plan) → Changes v k x b a → (y : Slot) (bs : List ℕ) (d : Plan) → Changes a.after k y bs d
    → Changes v k y bs (and_then a (λ w. d))
changes_then v k x b a c y bs d g =
    record {
      small = c.small;
      used = g.used;
      own = g.own;
      holds = g.holds;
      tags = λ j n. g.tags j n ∙ c.tags j n;
      bytes = λ j n. g.bytes j n ∙ c.bytes j n;
      writes = λ j h.
          ⊎_elim (λ l. ⊎_elim (λ m. inl m) (λ w. inr (writes_left j a.edits d.edits w)) (c.writes j l))
          (λ w. inr (writes_right j a.edits d.edits w))
          (g.writes j h);
      header = ⊎_elim (λ l. inl l) (λ w. inr (headed_left a.edits d.edits w)) c.header;
    }

-- one commit, after a step that keeps all
module _ (v : View) (k : ℕ) (small : k < 65536) (a : Plan) (kept : Kept v a.after) (c f d r : ℕ) (y : Slot) (bs : List ℕ) (used : 0 < c)
    (inside : (j : ℕ) → j < c → (j < v.slot_count) ⊎ (j ≡ k)) where
  pub committed : Changes v k (tag y) bs
      (and_then a (λ w. plan (commit k (with_slot (with_head w c f d r) k y bs) ∷ []) (with_slot (with_head w c f d r) k y bs)))
  committed =
      let e : List Edit = commit k (with_slot (with_head a.after c f d r) k y bs) ∷ [] in
      record {
        small = small;
        used = used;
        own = ap tag (upd_same a.after.at k y);
        holds = upd_same a.after.bytes k bs;
        tags = λ j n. ap tag (upd_other a.after.at k y j n) ∙ kept.tags j;
        bytes = λ j n. upd_other a.after.bytes k bs j n ∙ kept.bytes j;
        writes = λ j h. ⊎_elim (λ l. inl l) (λ q. inr (writes_right j a.edits e (inl q))) (inside j h);
        header = inr (headed_right a.edits e tt);
      }

self_kept : (v : View) → Kept v v
self_kept v = record { slot_count = refl; first_free = refl; free_space = refl; bytes = λ j. refl; lens = λ j. refl; kinds = λ j. refl; tags = λ j. refl }

pub roomy_kept : (v : View) (need : ℕ) → Sound v → Kept v (make_room v need).after
roomy_kept v need s = by_test (λ a. Kept v a.after) (ltb (gap v) need) (compactify v) (stay v) (λ e. compact_keeps v s) (λ e. self_kept v)

-- ---- allocate

module _ (v : View) (s : Sound v) (n : ℕ) where
  abbrev pub AllocChanges : Alloc → Type 0
  AllocChanges no_room = v.free_space < cost v n
  AllocChanges (got k a) = (v.at k ≡ Free) × Changes v k (Ordinary 0 n) (zeros n) a × (len (a.after.at k) ≡ n)

  new_inside : (w : View) → w.first_free ≤ w.slot_count → (j : ℕ) → j < cond (is_new w) (w.slot_count + 1) w.slot_count
      → (j < w.slot_count) ⊎ (j ≡ w.first_free)
  new_inside w l j =
      by_test (λ c. j < c → (j < w.slot_count) ⊎ (j ≡ w.first_free)) (is_new w) (w.slot_count + 1) w.slot_count
      (λ e h. ⊎-elim' e h (dec_lt j w.slot_count)) (λ e h. inl h)
    where
      ⊎-elim' : is_new w ≡ true → j < w.slot_count + 1 → Dec (j < w.slot_count) → (j < w.slot_count) ⊎ (j ≡ w.first_free)
      ⊎-elim' e h (yes q) = inl q
      ⊎-elim' e h (no q) = inr (omega (arith, eqb-true w.first_free w.slot_count e))

  new_used : (w : View) → w.first_free ≤ w.slot_count → 0 < cond (is_new w) (w.slot_count + 1) w.slot_count
  new_used w l = by_test (λ c. 0 < c) (is_new w) (w.slot_count + 1) w.slot_count (λ e. omega arith)
      (λ e. omega (arith, eqb-false w.first_free w.slot_count e))

  pub alloc_changes : AllocChanges (allocate v n)
  unfolding allocate
  alloc_changes =
      by_test AllocChanges (ltb v.free_space (cost v n)) no_room (got v.first_free (allocating v n)) (λ e. omega tests)
      (λ e.
      let w : View = (room_for v n).after in
      let k : Kept v w = roomy_kept v _ s in
      let low : w.first_free ≤ w.slot_count = omega (arith, k.first_free, k.slot_count, s.first≤) in
      let c : Changes v w.first_free (Ordinary 0 n) (zeros n) (allocating v n) =
      committed v w.first_free (omega (arith, low, k.slot_count, s.few)) (room_for v n) k (allocated w n).slot_count (allocated w n).first_free
      (allocated w n).data_start (allocated w n).free_space
      (Ordinary (w.data_start - n) n) (zeros n) (new_used w low)
      (λ j h. ⊎_elim (λ l. inl (omega (arith, k.slot_count))) (λ q. inr q) (new_inside w low j h)) in (
        s.first_is_free,
        subst (λ (i : ℕ). Changes v i (Ordinary 0 n) (zeros n) (allocating v n)) k.first_free c,
        subst (λ (i : ℕ). len ((allocated w n).at i) ≡ n) k.first_free (ap len (upd_same w.at w.first_free (Ordinary (w.data_start - n) n))),
      ))

-- ---- erase, and erase for a redirect

module _ (v : View) (s : Sound v) (k : ℕ) (inside : k < v.slot_count) (taken : is_free (v.at k) ≡ false) where
  few_slots : k < 65536
  few_slots = omega (arith, s.few)

  pub erase_changes : Changes v k Free [] (erase v k)
  unfolding erase
  erase_changes =
      committed v k few_slots (stay v) (self_kept v) (erased v k).slot_count (erased v k).first_free (erased v k).data_start (erased v k).free_space Free []
      (erase_used v s k inside taken) (λ j h. inl (omega arith))

  pub redirect_changes : (id : ℕ) → Changes v k (Redirect id) [] (erase_for_redirect v k id)
  unfolding erase_for_redirect
  redirect_changes id =
      committed v k few_slots (stay v) (self_kept v) (redirected v k id).slot_count (redirected v k id).first_free (redirected v k id).data_start
      (redirected v k id).free_space (Redirect id) [] (omega arith) (λ j h. inl h)

  -- the entry alone
  pub entry_changes : (y : Slot) (bs : List ℕ) (e : Edit) → Changes v k (tag y) bs (plan (e ∷ []) (with_slot v k y bs))
  entry_changes y bs e = retag v k (tag (v.at k)) (v.bytes k) (stay v) (stay_changes v k few_slots (omega arith)) y bs e

  -- ---- relocate: refused only where the free space is less than the size

  abbrev pub Relocates : ℕ → Relocated → Type 0
  Relocates n refused = v.free_space < n
  Relocates n (moved a) = (bs : List ℕ) → Changes v k (placed (v.at k) 0 n) bs (filled a k bs)

  placed_zero : (x : Slot) (d n : ℕ) → tag (placed x d n) ≡ placed x 0 n
  placed_zero (Ordinary o l) d n = refl
  placed_zero Free d n = refl
  placed_zero (Redirect i) d n = refl
  placed_zero (Target o l) d n = refl

  same_placed : (x : Slot) (n : ℕ) → is_record x ≡ true → n ≡ len x → tag x ≡ placed x 0 n
  same_placed (Ordinary o l) n r e = ap (λ (m : ℕ). Ordinary 0 m) (sym e)
  same_placed Free n r e = refl
  same_placed (Redirect i) n r e = let z : ◌≡◌ {A = ℕ} 0 1 = cc in absurd (omega arith)
  same_placed (Target o l) n r e = ap (λ (m : ℕ). Target 0 m) (sym e)

  under_changes : (u : View) → Sound u → u.slot_count ≡ v.slot_count → (x : Slot) (n : ℕ) (b : List ℕ) → Changes u k (placed x 0 n) b (move_under u k x n b)
  under_changes u t e x n b =
      let a : Plan = make_room u n in
      let w : View = a.after in
      let q = roomy_kept u n t in
      subst (λ (y : Slot). Changes u k y b (move_under u k x n b)) (placed_zero x (w.data_start - n) n)
      (committed u k few_slots a q w.slot_count w.first_free (w.data_start - n) (w.free_space - n) (placed x (w.data_start - n) n) b
      (omega (arith, q.slot_count)) (λ j h. inl (omega (arith, q.slot_count))))

  resized_changes : (n : ℕ) → is_record (v.at k) ≡ true → Relocates n (resized v k n)
  resized_changes n r =
      by_test (Relocates n) (eqb n (len (v.at k))) (moved (stay v))
      (cond (ltb n (len (v.at k))) (moved (plan (commit k (shrunk v k n) ∷ []) (shrunk v k n))) grow)
      (λ e bs.
      fill_changes v k (placed (v.at k) 0 n) (v.bytes k) (stay v)
      (subst (λ (y : Slot). Changes v k y (v.bytes k) (stay v)) (same_placed (v.at k) n r (eqb-true n (len (v.at k)) e))
      (stay_changes v k few_slots (omega arith))) bs)
      (λ e. by_test (Relocates n) (ltb n (len (v.at k))) (moved (plan (commit k (shrunk v k n) ∷ []) (shrunk v k n))) grow
      (λ l bs.
      fill_changes v k (placed (v.at k) 0 n) (take n (v.bytes k)) (plan (commit k (shrunk v k n) ∷ []) (shrunk v k n))
      (subst (λ (y : Slot). Changes v k y (take n (v.bytes k)) (plan (commit k (shrunk v k n) ∷ []) (shrunk v k n))) (placed_zero (v.at k) (off (v.at k)) n)
      (committed v k few_slots (stay v) (self_kept v) (shrunk v k n).slot_count (shrunk v k n).first_free (shrunk v k n).data_start
      (shrunk v k n).free_space (placed (v.at k) (off (v.at k)) n) (take n (v.bytes k)) (omega arith) (λ j h. inl h))) bs)
      (λ l. by_test (Relocates n) (ltb v.free_space (n - len (v.at k))) refused (moved growing)
      (λ f. omega (arith, ltb-true v.free_space (n - len (v.at k)) f))
      (λ f bs. fill_changes v k (placed (v.at k) 0 n) (fit n (v.bytes k)) growing grown bs)))
    where
      p0 : Plan
      p0 = plan (commit k (parked v k) ∷ []) (parked v k)

      growing : Plan
      growing = and_then p0 (λ w. move_under w k (v.at k) n (fit n (v.bytes k)))

      grow : Relocated
      grow = cond (ltb v.free_space (n - len (v.at k))) refused (moved growing)

      grown : Changes v k (placed (v.at k) 0 n) (fit n (v.bytes k)) growing
      grown =
          changes_then v k (Redirect 0) [] p0
          (committed v k few_slots (stay v) (self_kept v) (parked v k).slot_count (parked v k).first_free (parked v k).data_start
          (parked v k).free_space (Redirect 0) [] (omega arith) (λ j h. inl h))
          (placed (v.at k) 0 n) (fit n (v.bytes k)) (move_under (parked v k) k (v.at k) n (fit n (v.bytes k)))
          (under_changes (parked v k) (slot_sound v s k (Redirect 0) (parked v k).data_start (parked v k).free_space
          (park_suits v s k inside taken) [] refl) refl (v.at k) n (fit n (v.bytes k)))

  pub relocate_changes : (n : ℕ) → Relocates n (relocate v k n)
  unfolding relocate
  relocate_changes n = go (v.at k) refl
    where
      go : (x : Slot) → v.at k ≡ x → Relocates n (relocate_by x v k n)
      go (Ordinary o l) e = resized_changes n (ap is_record e)
      go Free e = let f = ap is_free e in let z : ◌≡◌ {A = ℕ} 0 1 = cc in absurd (omega arith)
      go (Redirect i) e =
          by_test (Relocates n) (ltb v.free_space n) refused (moved (move_under v k (Ordinary 0 0) n (zeros n))) (λ f. ltb-true v.free_space n f)
          (λ f bs.
          subst (λ (y : Slot). Changes v k y bs (filled (move_under v k (Ordinary 0 0) n (zeros n)) k bs)) (ap (λ (y : Slot). placed y 0 n) (sym e))
          (fill_changes v k (Ordinary 0 n) (zeros n) (move_under v k (Ordinary 0 0) n (zeros n)) (under_changes v s refl (Ordinary 0 0) n (zeros n)) bs))
      go (Target o l) e = resized_changes n (ap is_record e)
