-- Allocate against the store's plan.
use mathlib.Core.Path.{◌≡◌, refl, sym, ap, ◌∙◌}
use mathlib.Core.Bool.{Bool, true, false, cond}
use mathlib.Core.List.{List, [], ◌∷◌, ◌++◌}
use Prim.Native.Nat.{ℕ, zero, suc, ◌+◌, ◌-◌, ◌*◌, ◌/◌, ◌≤◌, ◌<◌}
use native.Mathlib.Omega.{arith}
use lib.Dec.{ltb, eqb}
use borrow.Author.Tests.{lt-ltb, le-ltb}
use Rattle.store.specs.Numbers.{put, zeros, upd}
use Rattle.store.specs.Slots.{slot_bytes, off, is_free}
use Rattle.store.specs.Page.{View}
use Rattle.store.specs.Answers.{given_place, allotted}
use Rattle.store.specs.PageSteps.{Edit, commit, run, with_head, make_room, next_free, is_new, cost, allocated, allocate}
use Rattle.store.proofs.Laws.Changes.{roomy_kept}
use Rattle.store.specs.Laws.Views.{Sound}
use Rattle.store.proofs.Laws.Views.{upd_same}
use Rattle.store.proofs.Laws.Compactify.{Kept}
use Rattle.store.specs.declared.Slot.{Slot}
use Rattle.store.specs.declared.Slot.TheVariants.{Ordinary}
use Rattle.layout.specs.Run.{head_of}
use Rattle.page_places.specs.Words.{unfilled, page_bare, place_at}
use Rattle.std.specs.Prelude.{None}
use Rattle.page_places.proofs.BareLaws.{run_bare}

-- ---- the next free slot

module _ (at : ℕ → Slot) (c i : ℕ) (h : i < c) where
  suc_sub : c - i ≡ suc (c - (i + 1))
  suc_sub = omega arith

  pub next_past : false ≡ is_free (at i) → next_free (c - i) at i ≡ next_free (c - (i + 1)) at (i + 1)
  next_past e = rw (suc_sub, ← e)

next_same : (n : ℕ) (at bt : ℕ → Slot) (j : ℕ) → ((i : ℕ) → is_free (bt i) ≡ is_free (at i)) → next_free n bt j ≡ next_free n at j
next_same zero at bt j h = refl
next_same (suc n) at bt j h = rw (h j, next_same n at bt (j + 1) h)

-- ---- allocate

new_count : (b : Bool) (c : ℕ) → cond b (c + 1) c ≡ c + cond b 8 0 / 8
new_count true c = omega arith
new_count false c = omega arith

new_cost : (b : Bool) (n : ℕ) → cond b (n + 8) n ≡ n + cond b 8 0
new_cost true n = refl
new_cost false n = omega arith

-- the header that allocate leaves
abbrev pub head_after : View → ℕ → View
head_after w n =
    with_head w (cond (is_new w) (w.slot_count + 1) w.slot_count) (next_free (w.slot_count - (w.first_free + 1)) w.at (w.first_free + 1))
    (w.data_start - n) (w.free_space - cost w n)

module _ (v : View) (size c f n m : ℕ) (ec : c ≡ v.slot_count) (ef : f ≡ v.first_free) (en : n ≡ v.free_space) (em : m ≡ cond (eqb f c) 8 0) where
  cost_is : cost v size ≡ size + m
  cost_is = rw (em, ec, ef) (new_cost (is_new v) size)

  pub reserve_none : (p : List ℕ) → n < size + m → (p ≡ page_bare (allocate v size) p) × (given_place None ≡ allotted (allocate v size))
  unfolding allocate
  reserve_none p h =
      let t : ltb v.free_space (cost v size) ≡ true = lt-ltb v.free_space (cost v size) (omega (arith, cost_is)) in
      rw t (refl, refl)

  -- the header and the entry, on a page that shows w, which keeps v's numbers
  entry_done : (w : View) → Kept v w → (es : List Edit) (r next : ℕ) (p q₁ q₂ q₃ : List ℕ) → r ≡ w.data_start → next ≡ next_free (c - (f + 1)) v.at (f + 1)
      → q₁ ≡ run es p
      → q₂ ≡ put q₁ 0 (head_of (c + m / 8) next (r - size) (n - (size + m)))
      → q₃ ≡ put q₂ (12 + 8 * f) (slot_bytes (Ordinary (r - size) size))
      → q₃ ≡ run (unfilled (es ++ commit w.first_free (allocated w size) ∷ [])) p
  entry_done w k es r next p q₁ q₂ q₃ er ex e₁ e₂ e₃ =
      let a : w.first_free ≡ f = k.first_free ∙ sym ef in
      let b : w.slot_count ≡ c = k.slot_count ∙ sym ec in
      let y : w.free_space ≡ n = k.free_space ∙ sym en in
      let g : cond (is_new w) (w.slot_count + 1) w.slot_count ≡ c + m / 8 = rw (a, b, em) (new_count (eqb f c) c) in
      let h : cost w size ≡ size + m = rw (a, b, em) (new_cost (eqb f c) size) in
      let x : next_free (w.slot_count - (w.first_free + 1)) w.at (w.first_free + 1) ≡ next =
      rw (a, b) (next_same (c - (f + 1)) v.at w.at (f + 1) k.kinds ∙ sym ex) in
      sym (run_bare es (head_after w size) w.first_free (Ordinary (w.data_start - size) size) (zeros size) p ∙ rw (g, x, h, a, y, ← er, ← e₁, ← e₂) (sym e₃))

  pub reserve_done : Sound v → (r next : ℕ) (p q₁ q₂ q₃ : List ℕ) → size + m ≤ n
      → next ≡ next_free (c - (f + 1)) v.at (f + 1)
      → q₁ ≡ run (make_room v (size + m)).edits p → r ≡ (make_room v (size + m)).after.data_start
      → q₂ ≡ put q₁ 0 (head_of (c + m / 8) next (r - size) (n - (size + m)))
      → q₃ ≡ put q₂ (12 + 8 * f) (slot_bytes (Ordinary (r - size) size))
      → (q₃ ≡ page_bare (allocate v size) p) × (given_place (place_at f (r - size)) ≡ allotted (allocate v size))
  unfolding allocate
  reserve_done s r next p q₁ q₂ q₃ h ex e₁ er e₂ e₃ =
      let t : ltb v.free_space (cost v size) ≡ false = le-ltb v.free_space (cost v size) (omega (arith, cost_is)) in
      let w : View = (make_room v (size + m)).after in
      let k : Kept v w = roomy_kept v (size + m) s in
      let j : off (upd w.at w.first_free (Ordinary (w.data_start - size) size) v.first_free) ≡ r - size =
      rw k.first_free (ap off (upd_same w.at v.first_free (Ordinary (w.data_start - size) size)) ∙ rw er) in
      rw (t, cost_is) (entry_done w k (make_room v (size + m)).edits r next p q₁ q₂ q₃ er ex e₁ e₂ e₃, λ i. given_place (place_at (ef i) (sym j i)))
