-- The leaves against the store's codec and header.
use mathlib.Core.Path.{◌≡◌, sym, ◌∙◌}
use mathlib.Core.List.{List, ◌++◌}
use Prim.Native.Nat.{ℕ, ◌+◌, ◌*◌, ◌/◌, ◌%◌, ◌^◌, ◌≤◌, ◌<◌}
use native.Mathlib.Omega.{arith}
use lib.ListN.{length}
use borrow.Author.Tests.{lt-ltb}
use Rattle.store.specs.Numbers.{cut, put, be, to_be}
use Rattle.store.specs.Slots.{of_kind, slot_of}
use Rattle.store.specs.Page.{view, count}
use Rattle.store.specs.declared.Slot.TheVariants.{Ordinary, Free}
use Rattle.layout.specs.Run.{head_of}
use Rattle.store.proofs.Laws.Writes.{write_append}
use Rattle.layout.proofs.Numbers.{num8}

-- an entry in its two halves, h and l: the kind k is in the high one, above the offset o
module _ (h l o : ℕ) (small : l < 2 ^ 32) (low : o < 2 ^ 30) where
  of_kind_lem : (k : ℕ) → h ≡ k * 2 ^ 30 + o → slot_of (h * 2 ^ 32 + l) ≡ of_kind k (o * 2 ^ 32 + l)
  of_kind_lem k e =
      let a : (h * 2 ^ 32 + l) / 2 ^ 62 ≡ k = omega arith in
      let b : (h * 2 ^ 32 + l) % 2 ^ 62 ≡ o * 2 ^ 32 + l = omega arith in
      rw (a, b)

  offset : (o * 2 ^ 32 + l) / 2 ^ 32 ≡ o
  offset = omega arith

  len : (o * 2 ^ 32 + l) % 2 ^ 32 ≡ l
  len = omega arith

  pub of_ordinary : h ≡ o → slot_of (h * 2 ^ 32 + l) ≡ Ordinary o l
  of_ordinary e = of_kind_lem 0 (omega arith) ∙ rw (offset, len)

  pub of_free : h ≡ 2 ^ 30 + o → slot_of (h * 2 ^ 32 + l) ≡ Free
  of_free e = of_kind_lem 1 (omega arith)

-- a slot that is counted
pub counted_slot : (p : List ℕ) (k h l : ℕ) → 12 + 8 * k + 8 ≤ length p → k < (view p).slot_count → h ≡ be (cut p (12 + 8 * k) 4)
    → l ≡ be (cut p (12 + 8 * k + 4) 4)
    → slot_of (h * 2 ^ 32 + l) ≡ (view p).at k
unfolding view
counted_slot p k h l f i eh el = sym (rw (lt-ltb k (count p) i, num8 (12 + 8 * k) p f, eh, el))

-- the four numbers of the header
pub header_put : (c f d n : ℕ) (p q₁ q₂ q₃ q₄ : List ℕ)
    → q₁ ≡ put p 0 (to_be 2 c) → q₂ ≡ put q₁ 2 (to_be 2 f) → q₃ ≡ put q₂ 4 (to_be 4 d) → q₄ ≡ put q₃ 8 (to_be 4 n)
    → q₄ ≡ put p 0 (head_of c f d n)
unfolding head_of
header_put c f d n p q₁ q₂ q₃ q₄ e₁ e₂ e₃ e₄ =
    sym (write_append 0 (to_be 2 c) (to_be 2 f ++ (to_be 4 d ++ to_be 4 n)) p
    ∙ write_append 2 (to_be 2 f) (to_be 4 d ++ to_be 4 n) (put p 0 (to_be 2 c))
    ∙ write_append 4 (to_be 4 d) (to_be 4 n) (put (put p 0 (to_be 2 c)) 2 (to_be 2 f))
    ∙ sym (rw (e₄, e₃, e₂, e₁)))
