-- One page step of a call: the entries and records of all ids after it, the classes, and a true inventory after its update.
use Rattle.std.specs.Prelude.{ℕ, ◌-◌, ◌≤◌, ◌<◌, ◌≡◌, cond, List, ◌≢◌, length, eqb, ltb}
use Rattle.std.proofs.Common.{sym, ap, ◌∙◌, eq-eqb, ne_eqb, lt-ltb}
use native.Mathlib.Omega.{arith}
use Rattle.std.proofs.Math.Decide.{ℕ_discrete}
use Rattle.store.specs.Numbers.{upd, id_of, page_no, slot_no}
use Rattle.store.proofs.Laws.Slots.{tag}
use Rattle.store.specs.Page.{View, fresh}
use Rattle.store.specs.PageSteps.{opened, Plan}
use Rattle.store.specs.Inventory.{class_of, Truth, update}
use Rattle.store.specs.Segment.{SegView, on}
use Rattle.store.proofs.Laws.Classes.{class_top}
use Rattle.store.proofs.Laws.Truth.{updated_true, length_updated}
use Rattle.store.proofs.Laws.Segments.{settled_on}
use Rattle.store.proofs.Laws.Calls.{by_test}
use Rattle.store.proofs.Laws.Changes.{Changes}
use Rattle.store.specs.SoundSegment.{bytes_on, nibble_of, classes}
use Rattle.store.proofs.Laws.Pairs.{tag_on}
use Rattle.store.specs.declared.Slot.{Slot}

-- ---- the pages after one step

module _ (u : SegView) (p : ℕ) (a : Plan) (used : 0 < a.after.slot_count) where
  pub opened_used : opened a.after ≡ a.after
  opened_used = rw (ne_eqb a.after.slot_count 0 (omega arith))

  pub page_here : (q : ℕ) → q ≡ p → (settled_on (on p a) u).page q ≡ a.after
  page_here q e = rw (eq-eqb q p e) opened_used

  pub page_else : (q : ℕ) → q ≢ p → (settled_on (on p a) u).page q ≡ u.page q
  page_else q n = rw (ne_eqb q p n)

  -- a map over ids that is read from the pages
  module _ {A : Type 0} (F : View → ℕ → A) (k : ℕ) (small : k < 65536) (i : ℕ) (is : id_of p k ≡ i) (y : A) (own : F a.after k ≡ y)
      (rest : (j : ℕ) → j ≢ k → F a.after j ≡ F (u.page p) j) where
    step_map : (λ (j : ℕ). F ((settled_on (on p a) u).page (page_no j)) (slot_no j)) ≡ upd (λ (j : ℕ). F (u.page (page_no j)) (slot_no j)) i y
    step_map = λ z j. each j (ℕ_discrete (page_no j) p) (ℕ_discrete (slot_no j) k) z
      where
        each : (j : ℕ) → Dec (page_no j ≡ p) → Dec (slot_no j ≡ k)
            → F ((settled_on (on p a) u).page (page_no j)) (slot_no j) ≡ upd (λ (m : ℕ). F (u.page (page_no m)) (slot_no m)) i y j
        each j (yes e) (yes f) =
            let w : j ≡ i = omega arith in
            rw (eq-eqb j i w) (ap (λ (v : View). F v (slot_no j)) (page_here (page_no j) e) ∙ ap (F a.after) f ∙ own)
        each j (yes e) (no f) =
            let w : j ≢ i = λ q. f (omega arith) in
            rw (ne_eqb j i w) (ap (λ (v : View). F v (slot_no j)) (page_here (page_no j) e) ∙ rest (slot_no j) f
            ∙ ap (λ (q : ℕ). F (u.page q) (slot_no j)) (sym e))
        each j (no e) f =
            let w : j ≢ i = λ q. e (omega arith) in
            rw (ne_eqb j i w) (ap (λ (v : View). F v (slot_no j)) (page_else (page_no j) e))

module _ (u : SegView) (p k : ℕ) (x : Slot) (bs : List ℕ) (a : Plan) (c : Changes (u.page p) k x bs a) (i : ℕ) (is : id_of p k ≡ i) where
  pub tags_step : tag_on (settled_on (on p a) u) ≡ upd (tag_on u) i x
  tags_step = step_map u p a c.used (λ v j. tag (v.at j)) k c.small i is x c.own c.tags

  pub bytes_step : bytes_on (settled_on (on p a) u) ≡ upd (bytes_on u) i bs
  bytes_step = step_map u p a c.used (λ v j. v.bytes j) k c.small i is bs c.holds c.bytes

-- ---- the classes after one step

pub classes_step : (u : SegView) (p : ℕ) (a : Plan) → p < u.pages → 0 < a.after.slot_count
    → classes (settled_on (on p a) u) ≡ upd (classes u) p (class_of (16372 - a.after.free_space))
classes_step u p a below used = λ z q. each q (ℕ_discrete q p) z
  where
    each : (q : ℕ) → Dec (q ≡ p) → classes (settled_on (on p a) u) q ≡ upd (classes u) p (class_of (16372 - a.after.free_space)) q
    each q (yes e) =
        let l : q < u.pages = omega arith in
        rw (lt-ltb q u.pages l)
        (ap nibble_of (page_here u p a used q e) ∙ rw (ne_eqb a.after.slot_count 0 (omega arith), eq-eqb q p e))
    each q (no n) = rw (ne_eqb q p n)

-- a page in use whose free space stays keeps its class
pub classes_same : (u : SegView) (p : ℕ) (a : Plan) → 0 < (u.page p).slot_count → 0 < a.after.slot_count → a.after.free_space ≡ (u.page p).free_space
    → classes (settled_on (on p a) u) ≡ classes u
classes_same u p a was used same = λ z q. each q (ℕ_discrete q p) z
  where
    each : (q : ℕ) → Dec (q ≡ p) → classes (settled_on (on p a) u) q ≡ classes u q
    each q (yes e) =
        ap (λ (m : ℕ). cond (ltb q u.pages) m 0)
        (ap nibble_of (page_here u p a used q e) ∙ rw (
          ne_eqb a.after.slot_count 0 (omega arith),
          same,
        ) (sym (ap (λ (r : ℕ). nibble_of (u.page r)) e ∙ rw (ne_eqb (u.page p).slot_count 0 (omega arith)))))
    each q (no n) = ap (λ (v : View). cond (ltb q u.pages) (nibble_of v) 0) (page_else u p a used q n)

-- ---- the inventory

abbrev pub Bounded : (ℕ → ℕ) → Type 0
Bounded f = (k : ℕ) → f k < 16

pub classes_bounded : (u : SegView) → Bounded (classes u)
classes_bounded u p =
    by_test (λ m. m < 16) (ltb p u.pages) (nibble_of (u.page p)) 0
    (λ e. by_test (λ m. m < 16) (fresh (u.page p)) 0 (class_of (16372 - (u.page p).free_space)) (λ f. omega arith)
    (λ f. omega (arith, class_top (16372 - (u.page p).free_space))))
    (λ e. omega arith)

pub changed_bounded : (f : ℕ → ℕ) (p x : ℕ) → Bounded f → Bounded (upd f p (class_of x))
changed_bounded f p x b k = by_test (λ m. m < 16) (eqb k p) (class_of x) (f k) (λ e. omega (arith, class_top x)) (λ e. b k)

pub changed_swap : (f : ℕ → ℕ) (p q x y : ℕ) → q ≢ p → upd (upd f p x) q y ≡ upd (upd f q y) p x
changed_swap f p q x y n = λ z k. each k (ℕ_discrete k p) (ℕ_discrete k q) z
  where
    each : (k : ℕ) → Dec (k ≡ p) → Dec (k ≡ q) → upd (upd f p x) q y k ≡ upd (upd f q y) p x k
    each k (yes e) (yes g) = absurd (n (sym g ∙ e))
    each k (yes e) (no g) = rw (eq-eqb k p e, ne_eqb k q g)
    each k (no e) (yes g) = rw (ne_eqb k p e, eq-eqb k q g)
    each k (no e) (no g) = rw (ne_eqb k p e, ne_eqb k q g)

module _ (f : ℕ → ℕ) (n : ℕ) (few : n ≤ 32527) (v : List ℕ) (one : length v ≡ 16384) (bounded : Bounded f) (truth : Truth f n v) (p r : ℕ) (below : p < n) where
  pub update_true : Truth (upd f p (class_of (16372 - r))) n (update v n p r)
  unfolding update
  update_true =
      updated_true f n p (class_of (16372 - r)) v truth (record { entries = omega arith; pages = omega arith }) (omega arith) below (bounded p)
      (class_top (16372 - r))

pub length_update : (v : List ℕ) (n p r : ℕ) → length (update v n p r) ≡ length v
unfolding update
length_update v n p r = length_updated v n p (class_of (16372 - r))
