-- Repair as a whole: which outcome it is by the tests, from what the passes answer and leave.
use Prim.Native.Nat.{ℕ, ◌+◌, ◌*◌, ◌/◌, ◌≤◌, ◌<◌}
use mathlib.Core.Path.{◌≡◌, sym, ap, ◌∙◌}
use mathlib.Core.Bool.{Bool, true, false, ◌&&◌}
use mathlib.Core.List.{List, [], ◌∷◌, ◌++◌, append-nil}
use native.Mathlib.Omega.{arith}
use native.Mathlib.Nat.{zero-add}
use lib.ListN.{length, length-append}
use borrow.Author.Tests.{lt-ltb, le-ltb, eqb-true}
use Rattle.store.specs.Numbers.{put}
use Rattle.store.specs.Segment.{size_ok, inv_ok}
use Rattle.store.specs.Answers.{repaired}
use Rattle.store.specs.Repair.{standing, seg_bytes, seg_entries, true_of, seg_after, same_inv, inv_after, Entry, entry, inv_entries, entries, words}
use Rattle.store.specs.Repair.{repair_step}
use Rattle.store.proofs.Laws.SoundPage.{and_both}
use Rattle.store.proofs.Laws.SoundSegment.{Sized, sized}
use Rattle.store.proofs.Laws.Repair.{standing_pages}
use Rattle.store.proofs.Laws.RepairInventory.{true_length}
use Rattle.store.proofs.Laws.RepairBytes.{seg_length}
use Rattle.store.proofs.Laws.RepairAlone.{left_alone}
use Rattle.store.proofs.Laws.RepairCall.{carried_out}
use Rattle.store.proofs.Promises.Repair.{none_sound, count_is}
use Rattle.store.proofs.Laws.RepairList.{entries_most}
use Rattle.std.specs.Prelude.{Ok, Err}
use Rattle.store.specs.declared.RepairRefusal.TheVariants.{Size, Room}
use Rattle.segment_repair.proofs.TellLaws.{put_more}

-- "1"
pub wrong_size_lem : (s v l : List ℕ) → (size_ok s && inv_ok v) ≡ false → repaired (Err Size) s v l ≡ repair_step s v l
unfolding repair_step
wrong_size_lem s v l e = sym (rw e)

module _ (s v : List ℕ) (ok : (size_ok s && inv_ok v) ≡ true) where
  pub right_size : Sized s
  right_size = sized s (and_both (size_ok s) (inv_ok v) ok).0

  pub one_page : length v ≡ 16384
  one_page = eqb-true (length v) 16384 (and_both (size_ok s) (inv_ok v) ok).1

-- ---- the entries in all

module _ (s v : List ℕ) where
  pub length_true : length (true_of (standing s)) ≡ 16384
  length_true = true_length (seg_after (standing s)) (standing s).pages (standing s).pages

  same_entries : same_inv v (true_of (standing s)) ≡ true → entries (standing s) v ≡ seg_entries (standing s) (length s / 16384)
  unfolding entries standing
  same_entries e = rw e (append-nil (seg_entries (standing s) (length s / 16384)))

  other_entries : same_inv v (true_of (standing s)) ≡ false
      → entries (standing s) v ≡ seg_entries (standing s) (length s / 16384) ++ (entry (length s / 16384) 65536 6 ∷ [])
  unfolding entries standing
  other_entries e = rw e

  -- ---- the inventory afterwards

  inv_same : same_inv v (true_of (standing s)) ≡ true → inv_after (standing s) v ≡ v
  unfolding inv_after
  inv_same e = rw e

  inv_other : same_inv v (true_of (standing s)) ≡ false → inv_after (standing s) v ≡ true_of (standing s)
  unfolding inv_after
  inv_other e = rw e

-- ---- what the passes tell: w is the true inventory, b whether v is the same, n the number of the pages' entries

pub record Passed (s v w : List ℕ) (b : Bool) (n : ℕ) : Type 0 where
  pub is : w ≡ true_of (standing s)
  pub same : b ≡ same_inv v w
  pub pages : n ≡ length (seg_entries (standing s) (length s / 16384))

module _ {s v w : List ℕ} {b : Bool} {n : ℕ} (h : Passed s v w b n) where
  pub passed_same : (a : Bool) → b ≡ a → same_inv v (true_of (standing s)) ≡ a
  passed_same a e = ap (same_inv v) (sym h.is) ∙ sym h.same ∙ e

  -- one entry more if the inventory is another
  pub count_same : b ≡ true → n ≡ length (entries (standing s) v)
  count_same e = h.pages ∙ ap length (sym (same_entries s v (passed_same true e)))

  pub count_other : b ≡ false → n + 1 ≡ length (entries (standing s) v)
  count_other e = rw (other_entries s v (passed_same false e), length-append) (omega (arith, h.pages))

  pub count_small : b ≡ false → length s / 16384 ≤ 32527 → n + 1 ≤ 66582770
  count_small e g = omega (arith, count_other e, entries_most (standing s) v, standing_pages s)

-- ---- the outcomes

module _ (s v l : List ℕ) (ok : (size_ok s && inv_ok v) ≡ true) (count : ℕ) (is : count ≡ length (entries (standing s) v)) where
  -- nothing to do
  pub nothing_done : count ≡ 0 → repaired (Ok 0) s v l ≡ repair_step s v l
  nothing_done z =
      sym (left_alone s v (none_sound s v l ok (count_is s v l ok ∙ sym is ∙ z)) l)

  -- "11 ROOM when the entry list is too short for all changes"
  pub no_place_lem : length l / 3 < count → repaired (Err (Room count)) s v l ≡ repair_step s v l
  unfolding repair_step
  no_place_lem h = sym (rw (ok, ← is, lt-ltb (length l / 3) count h))

  module _ (fits : count ≤ length l / 3) where
    done_is : repair_step s v l ≡ carried_out s v l
    unfolding repair_step
    done_is = rw (ok, le-ltb (length l / 3) (length (entries (standing s) v)) (omega arith))

    -- there is room for the entries of the pages
    pub pages_room : 3 * length (seg_entries (standing s) (length s / 16384)) ≤ length l
    unfolding entries standing
    pages_room = omega (arith, length-append (seg_entries (standing s) (length s / 16384)) (inv_entries (standing s) v))

    -- the inventory stays
    pub pages_done : same_inv v (true_of (standing s)) ≡ true → (s' l' : List ℕ) → s' ≡ seg_bytes (standing s) (length s / 16384) s
        → l' ≡ put l 0 (words (seg_entries (standing s) (length s / 16384))) → repaired (Ok count) s' v l' ≡ repair_step s v l
    pages_done b s' l' e f =
        let i : v ≡ inv_after (standing s) v = sym (inv_same s v b) in
        let g : l' ≡ put l 0 (words (entries (standing s) v)) = f ∙ ap (λ (x : List Entry). put l 0 (words x)) (sym (same_entries s v b)) in
        (λ k. record { answer = 0; count = is k; seg = e k; inv = i k; list = g k }) ∙ sym done_is

    -- the inventory is written
    module _ (b : same_inv v (true_of (standing s)) ≡ false) (at : ℕ) (told : at ≡ length (seg_entries (standing s) (length s / 16384))) where
      pub last_room : 3 * at + 3 ≤ length l
      last_room = omega (arith, simp length-append at (ap length (other_entries s v b)))

      pub all_done : (s' v' w l' l'' : List ℕ) → s' ≡ seg_bytes (standing s) (length s / 16384) s
          → l' ≡ put l 0 (words (seg_entries (standing s) (length s / 16384)))
          → l'' ≡ put l' (3 * at) (words (entry (length s' / 16384) 65536 6 ∷ []))
          → w ≡ true_of (standing s)
          → v' ≡ w
          → repaired (Ok count) s' v' l'' ≡ repair_step s v l
      all_done s' v' w l' l'' e f g h k =
          let i : v' ≡ inv_after (standing s) v = k ∙ h ∙ sym (inv_other s v b) in
          let es = seg_entries (standing s) (length s / 16384) in
          let j : l'' ≡ put l 0 (words (entries (standing s) v)) =
          let n : length s' ≡ length s = ap length e ∙ seg_length (standing s) (length s / 16384) s in
          g ∙ rw (n, f, told, other_entries s v b, ← zero-add (length es)) (put_more l 0 es (entry (length s / 16384) 65536 6 ∷ [])) in
          (λ m. record { answer = 0; count = is m; seg = e m; inv = i m; list = j m }) ∙ sym done_is
