-- A plan but for its record's bytes, and those bytes written afterwards.
use mathlib.Core.Path.{◌≡◌, refl, sym, ap, ◌∙◌}
use mathlib.Core.List.{List, [], ◌∷◌, ◌++◌}
use Prim.Native.Nat.{ℕ, ◌+◌, ◌*◌, ◌≤◌}
use native.Mathlib.Omega.{arith}
use borrow.Author.Tests.{eq-eqb}
use lib.ListN.{length}
use Rattle.store.specs.Numbers.{put}
use Rattle.store.specs.Slots.{off, len, slot_bytes}
use Rattle.store.specs.Page.{View}
use Rattle.store.specs.PageSteps.{Edit, apply, commit, fill, move, run, with_slot, Alloc, no_room, got}
use Rattle.store.proofs.Laws.Numbers.{put_over, put_swap}
use Rattle.store.proofs.Laws.Views.{upd_same}
use Rattle.store.proofs.Laws.Exact.{run_append}
use Rattle.store.specs.declared.Slot.{Slot}
use Rattle.store.specs.declared.Slot.TheVariants.{Target}
use Rattle.std.specs.Prelude.{None}
use Rattle.page_places.specs.Words.{unfilled, page_bare, place_at, place_of}
use Rattle.slotted_page.specs.Words.{page_after, filled_at, target_at}
use Rattle.page_places.proofs.BareLaws.{commit_writes, run_bare}
pub use Rattle.page_places.proofs.PlaceLaws.{given_is, same_slot, same_offset}

-- ---- the bytes written afterwards

fill_writes : (v : View) (k : ℕ) (bs q : List ℕ) → apply (fill k (with_slot v k (v.at k) bs)) q ≡ put q (off (v.at k)) bs
unfolding apply
fill_writes v k bs q = rw (eq-eqb k k refl)

pub move_writes : (v : View) (k : ℕ) (s : Slot) (bs q : List ℕ) → apply (move k (with_slot v k s bs)) q ≡ put (put q (12 + 8 * k) (slot_bytes s)) (off s) bs
unfolding apply
move_writes v k s bs q = rw (eq-eqb k k refl)

-- the plan of these edits, which leaves v, writes `own` at slot k's record in the end; other bytes in their place make the plan with these
pub record Ends (p : List ℕ) (k : ℕ) (own : List ℕ) (es : List Edit) (v : View) : Type 0 where
  pub written : run es p ≡ put (run (unfilled es) p) (off (v.at k)) own
  pub fills : (bs : List ℕ) → length bs ≡ length own → run (es ++ fill k (with_slot v k (v.at k) bs) ∷ []) p ≡ put (run (unfilled es) p) (off (v.at k)) bs

abbrev pub Ended : List ℕ → List ℕ → Alloc → Type 0
Ended p own no_room = Unit {0}
Ended p own (got k a) = Ends p k own a.edits a.after

-- the record has n bytes
abbrev pub Sized : ℕ → Alloc → Type 0
Sized n no_room = Unit {0}
Sized n (got k a) = len (a.after.at k) ≡ n

pub ends_by : (p : List ℕ) (k : ℕ) (own : List ℕ) (es : List Edit) (v : View) → run es p ≡ put (run (unfilled es) p) (off (v.at k)) own → Ends p k own es v
ends_by p k own es v w =
    record {
      written = w;
      fills = λ bs e.
          run_append es (fill k (with_slot v k (v.at k) bs) ∷ []) p ∙ fill_writes v k bs (run es p)
          ∙ rw w (put_over (run (unfilled es) p) (off (v.at k)) own bs (omega arith));
    }

pub commit_ends : (p : List ℕ) (es : List Edit) (w : View) (k : ℕ) (s : Slot) (own : List ℕ)
    → Ends p k own (es ++ commit k (with_slot w k s own) ∷ []) (with_slot w k s own)
commit_ends p es w k s own =
    let fs : List Edit = es ++ commit k (with_slot w k s own) ∷ [] in
    ends_by p k own fs (with_slot w k s own)
    (run_append es (commit k (with_slot w k s own) ∷ []) p ∙ commit_writes w k s own (run es p)
    ∙ ap (λ (q : List ℕ). put q (off s) own) (sym (run_bare es w k s own p))
    ∙ ap (λ (x : Slot). put (run (unfilled fs) p) (off x) own) (sym (upd_same w.at k s)))

-- ---- what the code finds: the place, and the page without the bytes

module _ (k o : ℕ) (own p q₁ q₂ : List ℕ) where
  pub written_done : (a : Alloc) → Ended p own a → place_at k o ≡ place_of a → q₁ ≡ page_bare a p → q₂ ≡ put q₁ o own → q₂ ≡ page_after a p
  written_done no_room f e e₁ e₂ = let z : ◌≡◌ {A = ℕ} 0 1 = cc in absurd (omega arith)
  written_done (got j a) f e e₁ e₂ = let x : o ≡ off (a.after.at j) = same_offset e in e₂ ∙ rw (e₁, x) (sym f.written)

  pub fill_done : (a : Alloc) (bs : List ℕ) → Ended p own a → length bs ≡ length own → place_at k o ≡ place_of a → q₁ ≡ page_bare a p → q₂ ≡ put q₁ o bs
      → q₂ ≡ page_after (filled_at a bs) p
  fill_done no_room bs f l e e₁ e₂ = let z : ◌≡◌ {A = ℕ} 0 1 = cc in absurd (omega arith)
  fill_done (got j a) bs f l e e₁ e₂ = let x : o ≡ off (a.after.at j) = same_offset e in e₂ ∙ rw (e₁, x) (sym (f.fills bs l))

  -- its entry a target's, of the same place and length
  pub target_done : (a : Alloc) (n : ℕ) (bs q₃ : List ℕ) → Ended p own a → Sized n a → length bs ≡ length own → 20 + 8 * k ≤ o → place_at k o ≡ place_of a
      → q₁ ≡ page_bare a p
      → q₂ ≡ put q₁ (12 + 8 * k) (slot_bytes (Target o n)) → q₃ ≡ put q₂ o bs → q₃ ≡ page_after (target_at a bs) p
  target_done no_room n bs q₃ f s l h e e₁ e₂ e₃ = let z : ◌≡◌ {A = ℕ} 0 1 = cc in absurd (omega arith)
  target_done (got j a) n bs q₃ f s l h e e₁ e₂ e₃ =
      let v : View = a.after in
      let es : k ≡ j = same_slot e in
      let eo : o ≡ off (v.at j) = same_offset e in
      let i : 12 + 8 * k + 8 ≤ o = omega arith in
      let x : Slot = Target o n in
      let w : run a.edits p ≡ put q₁ o own = f.written ∙ rw (e₁, eo) in
      let g : put (put (put q₁ o own) (12 + 8 * k) (slot_bytes x)) o bs ≡ q₃ =
      ap (λ (q : List ℕ). put q o bs) (put_swap q₁ (12 + 8 * k) o (slot_bytes x) own i)
      ∙ put_over (put q₁ (12 + 8 * k) (slot_bytes x)) o own bs (omega arith) ∙ sym (rw (e₃, e₂)) in
      sym (run_append a.edits (move j (with_slot v j (Target (off (v.at j)) (len (v.at j))) bs) ∷ []) p
      ∙ move_writes v j (Target (off (v.at j)) (len (v.at j))) bs (run a.edits p) ∙ rw (s, w, ← eo, ← es) g)

-- ---- a refusal leaves the page

module _ (p q : List ℕ) where
  pub none_done : (a : Alloc) → None ≡ place_of a → q ≡ page_bare a p
      → (q ≡ page_after a p) × ((bs : List ℕ) → (q ≡ page_after (filled_at a bs) p) × (q ≡ page_after (target_at a bs) p))
  none_done no_room e e₁ = (e₁, λ bs. (e₁, e₁))
  none_done (got j a) e e₁ = let z : ◌≡◌ {A = ℕ} 0 1 = cc in absurd (omega arith)
