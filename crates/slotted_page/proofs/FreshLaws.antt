-- Allocate on a fresh page: initialised first, and then as any other.
use mathlib.Core.Path.{◌≡◌, refl, sym, ap, ◌∙◌}
use mathlib.Core.Bool.{true, false}
use mathlib.Core.Logic.{◌≢◌}
use mathlib.Core.List.{List, [], ◌++◌}
use Prim.Native.Nat.{ℕ, ◌+◌, ◌-◌, ◌≤◌}
use native.Mathlib.Omega.{arith}
use lib.ListN.{length}
use lib.Dec.{ltb}
use borrow.Author.Tests.{le-ltb}
use Rattle.store.specs.Numbers.{put, zeros, to_be}
use Rattle.store.specs.Slots.{slot_bytes}
use Rattle.store.specs.Page.{View, view, fresh, sound}
use Rattle.store.specs.Answers.{given_place, allotted}
use Rattle.store.specs.PageSteps.{opened, initialised, apply, put_head, head_bytes, with_head, allocate}
use Rattle.store.proofs.Laws.Numbers.{length_put, put_over}
use Rattle.store.proofs.Laws.Edits.{head_view}
use Rattle.store.proofs.Laws.Views.{sound_fits}
use Rattle.store.specs.Laws.Lent.{UsedPage}
use Rattle.store.proofs.Laws.SoundPage.{used_not_fresh, sound_none, sound_init, sound_page}
use Rattle.store.specs.declared.Slot.{Slot}
use Rattle.store.specs.declared.Slot.TheVariants.{Ordinary}
use Rattle.store.specs.declared.Place.{Place}
use Rattle.std.specs.Prelude.{Option}
use Rattle.layout.specs.Run.{head_of}
use Rattle.page_places.specs.Words.{page_bare}
use Rattle.page_places.proofs.BareLaws.{run_bare}

pub head_init : (p : List ℕ) → put p 0 (head_of 0 0 16384 16372) ≡ put_head initialised p
unfolding head_of
head_init p = refl

init_view : (p : List ℕ) → length p ≡ 16384 → view (put_head initialised p) ≡ initialised
unfolding apply
init_view p whole = head_view p initialised whole (sound_fits initialised sound_init) (λ j h. absurd (omega arith)) (λ j. refl)

head_over : (p : List ℕ) (c f d n : ℕ) → put (put_head initialised p) 0 (head_of c f d n) ≡ put p 0 (head_of c f d n)
unfolding head_of
head_over p c f d n = put_over p 0 (head_bytes initialised) (to_be 2 c ++ (to_be 2 f ++ (to_be 4 d ++ to_be 4 n))) (omega arith)

-- the plan writes the whole header: it does not see the one before
init_reserve : (p : List ℕ) (n : ℕ) → n ≤ 16364 → page_bare (allocate initialised n) (put_head initialised p) ≡ page_bare (allocate initialised n) p
unfolding allocate
init_reserve p n h =
    let t : ltb 16372 (n + 8) ≡ false = le-ltb 16372 (n + 8) (omega arith) in
    let u : View = with_head initialised 1 1 (16384 - n) (16372 - (n + 8)) in
    let s : Slot = Ordinary (16384 - n) n in
    rw t (run_bare [] u 0 s (zeros n) (put_head initialised p)
    ∙ ap (λ (q : List ℕ). put q 12 (slot_bytes s)) (head_over p 1 1 (16384 - n) (16372 - (n + 8))) ∙ sym (run_bare [] u 0 s (zeros n) p))

module _ (p : List ℕ) (n : ℕ) where
  -- on a sound page without slots
  pub fresh_done : (q₁ q₂ : List ℕ) (r : Option Place) → (view p).slot_count ≡ 0 → sound (view p) ≡ true → length p ≡ 16384 → n ≤ 16364
      → q₁ ≡ put_head initialised p
      → (q₂ ≡ page_bare (allocate (view q₁) n) q₁) × (given_place r ≡ allotted (allocate (view q₁) n))
      → (q₂ ≡ page_bare (allocate (opened (view p)) n) p) × (given_place r ≡ allotted (allocate (opened (view p)) n))
  fresh_done q₁ q₂ r z t whole h e₁ e₂ =
      let f : fresh (view p) ≡ true = sym (sound_none (view p) z) ∙ t in
      let s : view q₁ ≡ initialised = ap view e₁ ∙ init_view p whole in
      rw f (e₂.0 ∙ rw (s, e₁) (init_reserve p n h), e₂.1 ∙ rw s)

  pub used_done : (q : List ℕ) (r : Option Place) → (view p).slot_count ≢ 0
      → (q ≡ page_bare (allocate (view p) n) p) × (given_place r ≡ allotted (allocate (view p) n))
      → (q ≡ page_bare (allocate (opened (view p)) n) p) × (given_place r ≡ allotted (allocate (opened (view p)) n))
  used_done q r some e = rw (used_not_fresh (view p) some) e

pub used_sound : (p : List ℕ) → (view p).slot_count ≢ 0 → length p ≡ 16384 → sound (view p) ≡ true → UsedPage p
used_sound p some whole e = record { whole = whole; sound = sound_page p whole (used_not_fresh (view p) some) e }

pub init_sound : (p q : List ℕ) → length p ≡ 16384 → q ≡ put_head initialised p → UsedPage q
init_sound p q whole e = record { whole = rw e (length_put p 0 (head_bytes initialised) ∙ whole); sound = rw (e, init_view p whole) sound_init }
