-- The list of entries: three words an entry, one entry behind the other.
use Prim.Native.Nat.{ℕ, zero, suc, ◌+◌, ◌*◌, ◌≤◌, ◌<◌}
use mathlib.Core.Path.{◌≡◌, refl, sym, ap, ◌∙◌}
use mathlib.Core.Bool.{true, false}
use mathlib.Core.List.{List, [], ◌∷◌, ◌++◌, append-nil}
use native.Mathlib.Numerals.{towards_suc, add-one}
use native.Mathlib.Omega.{arith}
use lib.ListN.{length, set, length-append}
use mathlib.Core.Logic.{⊎_elim}
use Rattle.store.proofs.Laws.Cases.{lt_or_le}
use Rattle.store.specs.Numbers.{put}
use Rattle.store.specs.Repair.{Entry, words, entry, slot_entries, changes, deed_no}
use Rattle.store.proofs.Laws.Numbers.{put_set, put_nil}
use Rattle.store.proofs.Laws.Writes.{write_append}
use Rattle.store.proofs.Promises.RepairKept.{words_length}
use Rattle.store.specs.declared.Deed.{Deed}

-- three stores
pub put3 : (i a b c : ℕ) (l : List ℕ) → set (set (set l i a) (i + 1) b) (i + 2) c ≡ put l i (a ∷ b ∷ c ∷ [])
put3 i a b c l = simp (towards_suc, put_set, put_nil)

pub words_append : (xs ys : List Entry) → words (xs ++ ys) ≡ words xs ++ words ys
words_append [] ys = refl
words_append (e ∷ xs) ys = ap (λ (r : List ℕ). e.page ∷ e.place ∷ e.what ∷ r) (words_append xs ys)

-- entries behind others
pub put_more : (l : List ℕ) (at : ℕ) (xs ys : List Entry)
    → put (put l (3 * at) (words xs)) (3 * (at + length xs)) (words ys) ≡ put l (3 * at) (words (xs ++ ys))
put_more l at xs ys =
    let e : 3 * (at + length xs) ≡ 3 * at + length (words xs) = omega (arith, words_length xs) in
    rw (e, words_append) (sym (write_append (3 * at) (words xs) (words ys) l))

-- ---- the entries of slots

pub entries_more : (d : ℕ → Deed) (p k n : ℕ) → k ≤ n → length (slot_entries d p k) ≤ length (slot_entries d p n)
entries_more d p k zero h = let e : k ≡ 0 = omega arith in rw e (omega arith)
entries_more d p k (suc n) h = ⊎_elim
    (λ l. let e : k ≡ suc n = omega arith in rw e (omega arith))
    (λ l. rw length-append (omega (arith, entries_more d p k n l)))
    (lt_or_le n k)

module _ (d : ℕ → Deed) (p k : ℕ) where
  pub slots_same : changes (d k) ≡ false → slot_entries d p (k + 1) ≡ slot_entries d p k
  slots_same e = rw (add-one, e) (append-nil (slot_entries d p k))

  pub slots_told : changes (d k) ≡ true → slot_entries d p (k + 1) ≡ slot_entries d p k ++ (entry p k (deed_no (d k)) ∷ [])
  slots_told e = rw (add-one, e) refl

  -- there is room for it
  pub slots_room : (n : ℕ) → k < n → changes (d k) ≡ true → length (slot_entries d p k) + 1 ≤ length (slot_entries d p n)
  slots_room n h e = omega (arith, simp length-append at (ap length (slots_told e)), entries_more d p (k + 1) n (omega arith))

-- one slot more: it stays, or it is told
module _ (d : ℕ → Deed) (p k at next : ℕ) (l₀ l : List ℕ) (e : next ≡ at + length (slot_entries d p k))
    (f : l ≡ put l₀ (3 * at) (words (slot_entries d p k))) where
  pub turn_same : changes (d k) ≡ false
      → (next ≡ at + length (slot_entries d p (k + 1))) × (l ≡ put l₀ (3 * at) (words (slot_entries d p (k + 1))))
  turn_same z = rw (slots_same d p k z) (e, f)

  pub turn_told : changes (d k) ≡ true → (l' : List ℕ) → l' ≡ put l (3 * next) (words (entry p k (deed_no (d k)) ∷ []))
      → (next + 1 ≡ at + length (slot_entries d p (k + 1))) × (l' ≡ put l₀ (3 * at) (words (slot_entries d p (k + 1))))
  turn_told z l' g =
      rw (slots_told d p k z) (
        rw length-append (omega arith),
        g ∙ rw (f, e) (put_more l₀ at (slot_entries d p k) (entry p k (deed_no (d k)) ∷ [])),
      )
