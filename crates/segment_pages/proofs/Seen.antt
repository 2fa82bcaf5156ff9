-- What is seen of a page of the segment, against what stands on it.
use Prim.Native.Nat.{ℕ, ◌+◌, ◌*◌, ◌≤◌}
use mathlib.Core.Path.{◌≡◌, refl, sym, ap, subst, ◌∙◌}
use mathlib.Core.Bool.{true, false}
use mathlib.Core.List.{List}
use lib.ListN.{length, take, drop}
use lib.Seq.{take-take}
use borrow.Author.Tests.{le-ltb}
use Rattle.store.specs.Numbers.{cut}
use Rattle.store.specs.Slots.{off, len, is_target}
use Rattle.store.specs.Page.{view, count, sound}
use Rattle.store.specs.Segment.{seg_view, page_of}
use Rattle.store.specs.Laws.Views.{Sound}
use Rattle.store.proofs.Laws.Segments.{length_page}
use Rattle.store.proofs.Laws.Calls.{shows_opened, sound_seen}
use Rattle.store.proofs.Laws.SoundSegment.{open_sound, seen_page}
use Rattle.store.proofs.Laws.Parts.{seen_bytes}
use Rattle.store.specs.declared.Slot.{Slot}
use Rattle.store.specs.declared.Slot.TheVariants.{Ordinary, Free, Redirect, Target}

-- a slot at or past the count is free
pub at_past : (p : List ℕ) (k : ℕ) → (view p).slot_count ≤ k → Free ≡ (view p).at k
unfolding view
at_past p k h = rw (le-ltb k (count p) h)

-- an entry that is told to be of another kind
pub not_target : (x : Slot) → ((o l : ℕ) → x ≡ Target o l → ⊥) → is_target x ≡ false
not_target (Ordinary o l) h = refl
not_target Free h = refl
not_target (Redirect t) h = refl
not_target (Target o l) h = absurd (h o l refl)

module _ (s : List ℕ) (p : ℕ) where
  pub seen_sound : sound ((seg_view s).page p) ≡ sound (view (page_of s p))
  seen_sound = ap sound (seen_page s p) ∙ open_sound (view (page_of s p))

  -- the bytes of a slot that lies in its page, and the first 8 of a target's
  pub slot_bytes_lem : (k : ℕ) (x : Slot) → ((seg_view s).page p).at k ≡ x → off x + len x ≤ 16384
      → cut s (p * 16384 + off x) (len x) ≡ ((seg_view s).page p).bytes k
  slot_bytes_lem k x e = subst (λ (y : Slot). off y + len y ≤ 16384 → cut s (p * 16384 + off y) (len y) ≡ ((seg_view s).page p).bytes k) e (seen_bytes s p k)

  pub target_head : (k o l : ℕ) → ((seg_view s).page p).at k ≡ Target o l → 8 ≤ l → o + l ≤ 16384
      → take 8 (((seg_view s).page p).bytes k) ≡ cut s (p * 16384 + o) 8
  target_head k o l e low high = ap (take 8) (sym (slot_bytes_lem k (Target o l) e high)) ∙ take-take 8 l (drop (p * 16384 + o) s) low

  module _ (fits : p * 16384 + 16384 ≤ length s) where
    pub seen_count : ((seg_view s).page p).slot_count ≡ (view (page_of s p)).slot_count
    unfolding seg_view view
    seen_count = (shows_opened (page_of s p) (length_page s p fits)).slot_count

    pub seen_at : (k : ℕ) → ((seg_view s).page p).at k ≡ (view (page_of s p)).at k
    unfolding seg_view view
    seen_at = (shows_opened (page_of s p) (length_page s p fits)).at

    -- what the test of the page says, of the page and of a slot
    module _ (ok : sound ((seg_view s).page p) ≡ true) where
      pub page_right : Sound ((seg_view s).page p)
      unfolding seg_view
      page_right = sound_seen (page_of s p) (length_page s p fits) ok

      pub slot_high : (k : ℕ) (x : Slot) → ((seg_view s).page p).at k ≡ x → off x + len x ≤ 16384
      slot_high k x e = subst (λ (y : Slot). off y + len y ≤ 16384) e (page_right.high k)

      pub target_long : (k : ℕ) (x : Slot) → ((seg_view s).page p).at k ≡ x → is_target x ≡ true → 8 ≤ len x
      target_long k x e = subst (λ (y : Slot). is_target y ≡ true → 8 ≤ len y) e (page_right.targets k)

      pub few_slots : ((seg_view s).page p).slot_count ≤ 2046
      few_slots = page_right.few
