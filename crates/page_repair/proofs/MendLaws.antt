-- A page in use as it is mended: what is done to a slot, what is gathered with one slot more, and the slots written so far.
use Prim.Native.Nat.{ℕ, zero, suc, ◌+◌, ◌-◌, ◌*◌, ◌^◌, ◌≤◌, ◌<◌, min}
use mathlib.Core.Path.{◌≡◌, refl, sym, ap, ◌∙◌, subst}
use mathlib.Core.Bool.{Bool, true, false, cond, not, ◌&&◌}
use mathlib.Core.List.{List, [], ◌∷◌, ◌++◌}
use mathlib.Core.Logic.{inl, inr}
use native.Mathlib.Numerals.{add-one}
use native.Mathlib.Omega.{arith}
use lib.ListN.{length, length-append}
use lib.Dec.{eqb, leb}
use borrow.Author.Tests.{eq-eqb, ne_eqb}
use Rattle.store.specs.Numbers.{put, be}
use Rattle.store.specs.Slots.{slot_bytes, off, len, is_free}
use Rattle.store.specs.Page.{View, view}
use Rattle.store.specs.PageSteps.{head_bytes, put_head, next_free}
use Rattle.store.specs.Repair.{Entry, changes, slot_done, slot_by, slot_entries, mended_by, same_head, put_slots, put_mended}
use Rattle.store.proofs.Laws.Cases.{by_test}
use Rattle.store.specs.Laws.Slots.{Codable}
use Rattle.store.proofs.Laws.RepairBytes.{slots_frame}
use denote.Enum.Bare.{sameb}
use Rattle.store.specs.contracts.Deed.{the_type}
use Rattle.store.specs.declared.Deed.{Deed}
use Rattle.store.specs.declared.Deed.TheVariants.{Stays, RecordFreed, RedirectFreed, MadeOrdinary}
use Rattle.store.specs.declared.Slot.{Slot}
use Rattle.store.specs.declared.Slot.TheVariants.{Ordinary, Free, Redirect, Target}
use Rattle.layout.specs.Run.{head_of}
use Rattle.layout.specs.Head.{Heads}
use Rattle.layout.specs.declared.header.Header.{Header}
use Rattle.page_repair.specs.Mended.{Gathered, gathered, head_after, head_of_view}
use Rattle.page_repair.specs.declared.mend.Numbers.{Numbers}

-- ---- what is done to a slot

-- whether it changes, as the code asks
pub differs : (d : Deed) {b : Bool} → b ≡ not (sameb the_type d Stays) → changes d ≡ b
differs Stays e = sym e
differs RecordFreed e = sym e
differs RedirectFreed e = sym e
differs MadeOrdinary e = sym e

-- what can be coded is small
len_small : (x : Slot) → Codable x → len x < 2 ^ 32
len_small (Ordinary o l) c = c.1
len_small Free c = omega arith
len_small (Redirect i) c = omega arith
len_small (Target o l) c = c.1

-- the slot afterwards, read and done
pub slot_by_lem : (d : ℕ → Deed) (v : View) (k : ℕ) {s x : Slot} → x ≡ v.at k → s ≡ slot_done (d k) x → s ≡ slot_by d v k
slot_by_lem d v k f g = g ∙ ap (slot_done (d k)) f

-- ---- what is gathered of the slots, with one slot more

next_last : (n : ℕ) (at : ℕ → Slot) (j q : ℕ) → j + n ≡ q
    → next_free (suc n) at j ≡ cond (eqb (next_free n at j) q && not (is_free (at q))) (q + 1) (next_free n at j)
next_last zero at j q e = let f : q ≡ j = omega arith in rw (f, eq-eqb j j refl) (own (is_free (at j)))
  where
    own : (b : Bool) → cond b j (j + 1) ≡ cond (not b) (j + 1) j
    own true = refl
    own false = refl
next_last (suc n) at j q e = go (next_last n at (j + 1) q (omega arith)) (is_free (at j))
  where
    go : next_free (suc n) at (j + 1) ≡ cond (eqb (next_free n at (j + 1)) q && not (is_free (at q))) (q + 1) (next_free n at (j + 1)) → (b : Bool)
        → cond b j (next_free (suc n) at (j + 1))
        ≡ cond (eqb (cond b j (next_free n at (j + 1))) q && not (is_free (at q))) (q + 1) (cond b j (next_free n at (j + 1)))
    go ih true = rw (ne_eqb j q (λ x. omega arith))
    go ih false = ih

more_entries : (b : Bool) (es : List Entry) (e : Entry) {a : ℕ} → a ≡ length es → cond b (a + 1) a ≡ length (es ++ cond b (e ∷ []) [])
more_entries true es e h = rw length-append (omega arith)
more_entries false es e h = rw length-append (omega arith)

-- so far, and how large the numbers can be
pub record Told (d : ℕ → Deed) (v : View) (k : ℕ) (r : Numbers) : Type 0 where
  pub is : Gathered d v k r
  pub few : r.changes ≤ k
  pub small : r.total ≤ k * 2 ^ 32

module _ (d : ℕ → Deed) (v : View) where
  pub told_none : Told d v 0 (record { changes = 0; first = 0; low = 16384; total = 0 })
  told_none = record { is = record { changes = λ p. refl; first = refl; low = refl; total = refl }; few = omega arith; small = omega arith }

  gathered_more : (k : ℕ) (r : Numbers) → Gathered d v k r → Gathered d v (suc k) (gathered r k (d k) (slot_by d v k))
  gathered_more k r g =
      record {
        changes = λ p. more_entries (changes (d k)) (slot_entries d p k) _ (g.changes p);
        first =
            ap (λ (f : ℕ). cond (eqb f k && not (is_free (slot_by d v k))) (k + 1) f) g.first
            ∙ sym (next_last k (slot_by d v) 0 k (omega arith));
        low = ap (λ (m : ℕ). cond (eqb (len (slot_by d v k)) 0) m (min (off (slot_by d v k)) m)) g.low;
        total = omega (arith, g.total);
      }

  told_with : (k : ℕ) (r : Numbers) → Codable (slot_by d v k) → Told d v k r → Told d v (k + 1) (gathered r k (d k) (slot_by d v k))
  told_with k r c t =
      record {
        is = subst (λ (j : ℕ). Gathered d v j (gathered r k (d k) (slot_by d v k))) (sym (add-one k)) (gathered_more k r t.is);
        few = by_test (λ (a : ℕ). a ≤ k + 1) (changes (d k)) (r.changes + 1) r.changes (λ _. omega (arith, t.few)) (λ _. omega (arith, t.few));
        small = omega (arith, t.small, len_small (slot_by d v k) c);
      }

  pub told_more : (k : ℕ) (r : Numbers) {s : Slot} {t : Numbers} → Codable (slot_by d v k) → s ≡ slot_by d v k → t ≡ gathered r k (d k) s
      → Told d v k r → Told d v (k + 1) t
  told_more k r c f g t = rw (g, f) (told_with k r c t)

  pub len_by : (k : ℕ) {s : Slot} → Codable (slot_by d v k) → s ≡ slot_by d v k → len s < 2 ^ 32
  len_by k c e = rw e (len_small (slot_by d v k) c)

  -- ---- the slots below k are written: one slot more

  put_same : (k : ℕ) (q : List ℕ) → changes (d k) ≡ false → put_slots d v k q ≡ put_slots d v (k + 1) q
  put_same k q f = rw (add-one, f)

  put_new : (k : ℕ) (q : List ℕ) → changes (d k) ≡ true
      → put (put_slots d v k q) (12 + 8 * k) (slot_bytes (slot_by d v k)) ≡ put_slots d v (k + 1) q
  put_new k q f = rw (add-one, f)

-- what the next turn reads: the count and slot k still stand there
module _ (d : ℕ → Deed) (v : View) (k : ℕ) (p : List ℕ) {q : List ℕ} (so_far : q ≡ put_slots d v k p) where
  pub still_count : (view q).slot_count ≡ (view p).slot_count
  unfolding view
  still_count = rw so_far (ap be (slots_frame d v k p 0 2 (inl (omega arith))))

  pub still_slot : (view q).at k ≡ (view p).at k
  unfolding view
  still_slot = rw so_far (rw (slots_frame d v k p 0 2 (inl (omega arith)), slots_frame d v k p (12 + 8 * k) 8 (inr (omega arith))))

  pub wrote : {s : Slot} {r : List ℕ} → changes (d k) ≡ true → s ≡ slot_by d v k
      → r ≡ put q (12 + 8 * k) (slot_bytes s) → r ≡ put_slots d v (k + 1) p
  wrote e f g = rw (g, so_far, f) (put_new d v k p e)

  pub left_so : changes (d k) ≡ false → q ≡ put_slots d v (k + 1) p
  left_so e = so_far ∙ put_same d v k p e

-- ---- the page mended: the header is that of what was gathered, of all slots

-- its numbers from what is gathered of all slots
module _ (d : ℕ → Deed) (v : View) (r : Numbers) (g : Gathered d v v.slot_count r) where
  pub first_after : (head_after v r).first ≡ (mended_by d v).first_free
  unfolding mended_by
  first_after = g.first

  pub start_after_lem : (head_after v r).start ≡ (mended_by d v).data_start
  unfolding mended_by
  start_after_lem = ap (λ (m : ℕ). cond (leb (12 + 8 * v.slot_count) v.data_start && leb v.data_start m) v.data_start m) g.low

  pub space_after_lem : (head_after v r).space ≡ (mended_by d v).free_space
  unfolding mended_by
  space_after_lem = ap (λ (m : ℕ). 16372 - (8 * v.slot_count + m)) g.total

  pub head_mended : head_after v r ≡ head_of_view (mended_by d v)
  unfolding mended_by
  head_mended = λ i. record { count = v.slot_count; first = first_after i; start = start_after_lem i; space = space_after_lem i }

-- whether the header stays
abbrev pub says_head : Header → Header → Bool
says_head g h = eqb g.count h.count && (eqb g.first h.first && (eqb g.start h.start && eqb g.space h.space))

pub says_view : (d : ℕ → Deed) (v : View) → says_head (head_of_view v) (head_of_view (mended_by d v)) ≡ same_head v (mended_by d v)
unfolding mended_by
says_view d v = ap (λ (b : Bool). b && same_head v (mended_by d v)) (eq-eqb v.slot_count v.slot_count refl)

-- as it is read
pub read_head : {g : Header} {v : View} → Heads g v → g ≡ head_of_view v
read_head e = λ i. record { count = e.count i; first = e.first i; start = e.start i; space = e.space i }

module _ (d : ℕ → Deed) (v : View) (p : List ℕ) {n : ℕ} {r : Numbers} {g h : Header} {q : List ℕ} {b : Bool} (count : n ≡ v.slot_count)
    (all : Gathered d v n r) (before : Heads g v) (is : h ≡ head_after v r) (says : b ≡ says_head g h) (slots : q ≡ put_slots d v n p) where
  header_mended : h ≡ head_of_view (mended_by d v)
  header_mended = is ∙ head_mended d v r (subst (λ (m : ℕ). Gathered d v m r) count all)

  says_mended : b ≡ same_head v (mended_by d v)
  says_mended = says ∙ (λ i. says_head (read_head before i) (header_mended i)) ∙ says_view d v

  all_slots : q ≡ put_slots d v v.slot_count p
  all_slots = slots ∙ ap (λ (m : ℕ). put_slots d v m p) count

  pub mended_same : b ≡ true → (q ≡ put_mended d v p) × (false ≡ not (same_head v (mended_by d v)))
  mended_same e =
      let f : same_head v (mended_by d v) ≡ true = sym says_mended ∙ e in
      (all_slots ∙ ap (λ (t : Bool). cond t (put_slots d v v.slot_count p) (put_head (mended_by d v) (put_slots d v v.slot_count p))) (sym f), ap not (sym f))

  head_bytes_lem : head_of h.count h.first h.start h.space ≡ head_bytes (mended_by d v)
  unfolding head_of mended_by
  head_bytes_lem =
      let e = header_mended in
      λ i. head_of (e i).count (e i).first (e i).start (e i).space

  pub mended_new : {s : List ℕ} → b ≡ false → s ≡ put q 0 (head_of h.count h.first h.start h.space)
      → (s ≡ put_mended d v p) × (true ≡ not (same_head v (mended_by d v)))
  mended_new {s} e g =
      let f : same_head v (mended_by d v) ≡ false = sym says_mended ∙ e in (
        g ∙ (λ i. put (all_slots i) 0 (head_bytes_lem i))
            ∙ ap (λ (t : Bool). cond t (put_slots d v v.slot_count p) (put_head (mended_by d v) (put_slots d v v.slot_count p))) (sym f),
        ap not (sym f),
      )
