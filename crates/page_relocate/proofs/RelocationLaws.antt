-- Relocate but for the record's bytes, against the store's plans.
use mathlib.Core.Path.{◌≡◌, refl, sym, ap, ◌∙◌}
use mathlib.Core.Bool.{true, false}
use mathlib.Core.List.{List, [], ◌∷◌, ◌++◌}
use mathlib.Core.Logic.{◌≢◌}
use Prim.Native.Nat.{ℕ, ◌+◌, ◌-◌, ◌*◌, ◌≤◌, ◌<◌}
use native.Mathlib.Omega.{arith}
use lib.ListN.{length, take}
use lib.Dec.{ltb}
use borrow.Author.Tests.{le-ltb, ne_eqb}
use Rattle.store.specs.Numbers.{put, zeros, fit}
use Rattle.store.specs.Slots.{slot_bytes, off, len, is_free, is_record, placed}
use Rattle.store.specs.Page.{View, view}
use Rattle.store.specs.Answers.{given_place, allotted}
use Rattle.store.specs.PageSteps.{Edit, apply, commit, run, with_head, make_room, move_under, moved_under, parked, resized, relocate_by, relocate, refused}
use Rattle.store.proofs.Laws.Changes.{roomy_kept}
use Rattle.store.proofs.Laws.Numbers.{put_nil}
use Rattle.store.specs.Laws.Views.{Sound}
use Rattle.store.proofs.Laws.Views.{upd_same}
use Rattle.store.specs.Laws.Lent.{UsedSlot}
use Rattle.store.proofs.Laws.Exact.{run_append, length_apply}
use Rattle.store.proofs.Laws.Compactify.{placed_is, record_taken}
use Rattle.store.proofs.Laws.Relocate.{park_exact}
use Rattle.store.specs.declared.Slot.{Slot}
use Rattle.store.specs.declared.Slot.TheVariants.{Ordinary, Free, Redirect, Target}
use Rattle.layout.specs.Run.{head_of}
use Rattle.page_compactify.specs.Room.{Roomed}
use Rattle.page_places.specs.Words.{unfilled, page_bare, place_at}
use Rattle.page_relocate.specs.Words.{under_page, shrink_plan, grow_plan, home_of, alloc_of}
use Rattle.page_places.proofs.BareLaws.{commit_writes, run_bare}

-- ---- under data start

pub under_made : (p : List ℕ) (k n c f m r : ℕ) (s t : Slot) (q₁ q₂ : List ℕ) → Sound (view p)
    → c ≡ (view p).slot_count → f ≡ (view p).first_free → m ≡ (view p).free_space → Roomed n p q₁ r → t ≡ placed s (r - n) n
    → q₂ ≡ put (put q₁ 0 (head_of c f (r - n) (m - n))) (12 + 8 * k) (slot_bytes t)
    → q₂ ≡ under_page (view p) k s n p
unfolding under_page
under_made p k n c f m r s t q₁ q₂ h ec ef em rm et e =
    let w : View = (make_room (view p) n).after in
    let x = roomy_kept (view p) n h in
    e ∙ rw (et, rm.is, rm.begins, ec ∙ sym x.slot_count, ef ∙ sym x.first_free, em ∙ sym x.free_space)

under_bare : (v : View) (k n : ℕ) (s : Slot) (es : List Edit) (bs p₀ p q : List ℕ) → p ≡ run es p₀ → q ≡ under_page v k s n p
    → q ≡ run (unfilled ((es ++ (make_room v n).edits) ++ commit k (moved_under (make_room v n).after k s n bs) ∷ [])) p₀
unfolding under_page
under_bare v k n s es bs p₀ p q e₀ e =
    let w : View = (make_room v n).after in
    let u : View = with_head w w.slot_count w.first_free (w.data_start - n) (w.free_space - n) in
    e ∙ rw e₀ (sym (run_bare (es ++ (make_room v n).edits) u k (placed s (w.data_start - n) n) bs p₀ ∙ rw run_append))

-- ---- home

pub home_done : (v : View) (k n m : ℕ) (p : List ℕ) → m ≡ v.free_space
    → (r : ℕ) (q : List ℕ) → n ≤ m → q ≡ under_page v k (Ordinary 0 0) n p → r ≡ (make_room v n).after.data_start - n
    → (q ≡ page_bare (alloc_of k (home_of v k n)) p) × (given_place (place_at k r) ≡ allotted (alloc_of k (home_of v k n)))
home_done v k n m p em r q h e er =
    let t : ltb v.free_space n ≡ false = le-ltb v.free_space n (omega arith) in
    let w : View = (make_room v n).after in
    let there : r ≡ off ((move_under v k (Ordinary 0 0) n (zeros n)).after.at k) = er ∙ sym (ap off (upd_same w.at k (Ordinary (w.data_start - n) n))) in
    rw t (under_bare v k n (Ordinary 0 0) [] (zeros n) p p q refl e, ap (λ (x : ℕ). given_place (place_at k x)) there)

-- ---- smaller

pub shrink_done : (v : View) (k n c f d m l o : ℕ) (s t : Slot) (p q : List ℕ)
    → s ≡ v.at k → c ≡ v.slot_count → f ≡ v.first_free → d ≡ v.data_start → m ≡ v.free_space → l ≡ len s → o ≡ off s → t ≡ placed s o n
    → q ≡ put (put p 0 (head_of c f d (m + (l - n)))) (12 + 8 * k) (slot_bytes t)
    → q ≡ run (unfilled (shrink_plan v k n).edits) p
shrink_done v k n c f d m l o s t p q es ec ef ed em el eo et e =
    let u : View = with_head v v.slot_count v.first_free v.data_start (v.free_space + (len (v.at k) - n)) in
    e ∙ rw (et, eo, el, em, ed, ef, ec, es) (sym (run_bare [] u k (placed (v.at k) (off (v.at k)) n) (take n (v.bytes k)) p))

-- ---- larger

pub record Parked (p : List ℕ) (k : ℕ) (q : List ℕ) : Type 0 where
  pub is : q ≡ apply (commit k (parked (view p) k)) p
  pub seen : view q ≡ parked (view p) k
  pub used : UsedSlot q k

module _ (p : List ℕ) (k l : ℕ) (s : Slot) (q : List ℕ) (used : UsedSlot p k)
    (es : s ≡ (view p).at k) (rec : is_record s ≡ true) (el : l ≡ len s) where
  rec_at : is_record ((view p).at k) ≡ true
  rec_at = ap is_record (sym es) ∙ rec

  pub parked_by : q ≡ put (put p 0 (head_of (view p).slot_count (view p).first_free (view p).data_start ((view p).free_space + l))) (12 + 8 * k)
      (slot_bytes (Redirect 0)) → Parked p k q
  parked_by e =
      let v = view p in
      let u : View = with_head v v.slot_count v.first_free v.data_start (v.free_space + len (v.at k)) in
      let x = park_exact p v used.whole refl used.sound k used.counted (record_taken (v.at k) rec_at) in
      let i : q ≡ apply (commit k (parked v k)) p = e ∙ rw (el, es) (sym (commit_writes u k (Redirect 0) [] p ∙ put_nil _ 0)) in
      let seen : view q ≡ parked v k = ap view i ∙ x.seen in
      record {
        is = i;
        seen = seen;
        used = record {
          whole = ap length i ∙ length_apply (commit k (parked v k)) p ∙ used.whole;
          sound = rw seen x.sound;
          counted = rw seen used.counted;
        };
      }

  pub grow_done : (n : ℕ) (q₂ : List ℕ)
      → q ≡ put (put p 0 (head_of (view p).slot_count (view p).first_free (view p).data_start ((view p).free_space + l))) (12 + 8 * k) (slot_bytes (Redirect 0))
      → q₂ ≡ under_page (view q) k s n q
      → q₂ ≡ run (unfilled (grow_plan (view p) k n).edits) p
  grow_done n q₂ e e₂ =
      let v = view p in
      let x = parked_by e in
      under_bare (parked v k) k n (v.at k) (commit k (parked v k) ∷ []) (fit n (v.bytes k)) p q q₂ x.is (e₂ ∙ rw (x.seen, es))

-- ---- resized, and all of relocate

pub resize_more : (v : View) (k n l : ℕ) (p q : List ℕ) → l ≡ len (v.at k) → is_record (v.at k) ≡ true
    → (m r : ℕ) → m ≡ v.free_space → l < n → n - l ≤ m → q ≡ run (unfilled (grow_plan v k n).edits) p
    → r ≡ (make_room (parked v k) n).after.data_start - n
    → (q ≡ page_bare (alloc_of k (resized v k n)) p) × (given_place (place_at k r) ≡ allotted (alloc_of k (resized v k n)))
resize_more v k n l p q el rec m r em h g e er =
    let a : n ≢ len (v.at k) = omega arith in
    let b : len (v.at k) ≤ n = omega arith in
    let d : n - len (v.at k) ≤ v.free_space = omega arith in
    let w : View = (make_room (parked v k) n).after in
    let y : Slot = placed (v.at k) (w.data_start - n) n in
    rw (ne_eqb n (len (v.at k)) a, le-ltb n (len (v.at k)) b, le-ltb v.free_space (n - len (v.at k)) d)
    (e, ap (λ (x : ℕ). given_place (place_at k x)) (er ∙ sym (ap off (upd_same w.at k y) ∙ (placed_is (v.at k) (w.data_start - n) n rec).off)))

free_by : (x : Slot) (v : View) (k n : ℕ) → is_free x ≡ true → relocate_by x v k n ≡ refused
free_by (Ordinary o l) v k n e = let z : ◌≡◌ {A = ℕ} 0 1 = cc in absurd (omega arith)
free_by Free v k n e = refl
free_by (Redirect i) v k n e = let z : ◌≡◌ {A = ℕ} 0 1 = cc in absurd (omega arith)
free_by (Target o l) v k n e = let z : ◌≡◌ {A = ℕ} 0 1 = cc in absurd (omega arith)

record_by : (x : Slot) (v : View) (k n : ℕ) → is_record x ≡ true → relocate_by x v k n ≡ resized v k n
record_by (Ordinary o l) v k n e = refl
record_by Free v k n e = let z : ◌≡◌ {A = ℕ} 0 1 = cc in absurd (omega arith)
record_by (Redirect i) v k n e = let z : ◌≡◌ {A = ℕ} 0 1 = cc in absurd (omega arith)
record_by (Target o l) v k n e = refl

home_by_lem : (x : Slot) (v : View) (k n : ℕ) → is_free x ≡ false → is_record x ≡ false → relocate_by x v k n ≡ home_of v k n
home_by_lem (Ordinary o l) v k n e f = let z : ◌≡◌ {A = ℕ} 0 1 = cc in absurd (omega arith)
home_by_lem Free v k n e f = let z : ◌≡◌ {A = ℕ} 0 1 = cc in absurd (omega arith)
home_by_lem (Redirect i) v k n e f = refl
home_by_lem (Target o l) v k n e f = let z : ◌≡◌ {A = ℕ} 0 1 = cc in absurd (omega arith)

module _ (v : View) (k n : ℕ) (s : Slot) (es : s ≡ v.at k) where
  pub is_free_slot : true ≡ is_free s → relocate v k n ≡ refused
  unfolding relocate
  is_free_slot e = free_by (v.at k) v k n (ap is_free (sym es) ∙ sym e)

  pub is_record_slot : true ≡ is_record s → relocate v k n ≡ resized v k n
  unfolding relocate
  is_record_slot e = record_by (v.at k) v k n (ap is_record (sym es) ∙ sym e)

  pub is_redirect_slot : false ≡ is_free s → false ≡ is_record s → relocate v k n ≡ home_of v k n
  unfolding relocate
  is_redirect_slot e f = home_by_lem (v.at k) v k n (ap is_free (sym es) ∙ sym e) (ap is_record (sym es) ∙ sym f)
