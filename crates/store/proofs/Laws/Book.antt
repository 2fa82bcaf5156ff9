-- The book of a segment: which ids are in it, with which rows; and in a sound segment the whole scan lists each of its entries once.
use Rattle.std.specs.Prelude.{ℕ, ◌/◌, ◌≡◌, refl, Bool, true, false, List, ◌⊎◌, length, ltb}
use Rattle.std.proofs.Common.{sym, ap, ◌∙◌, subst, inl, inr, arith, lt-ltb, ltb-true}
use Rattle.store.specs.Numbers.{page_no, In}
use Rattle.store.specs.Segment.{seg_view, read_step}
use Rattle.store.specs.Records.{Entry, entries, scan_all}
use Rattle.store.specs.SoundSegment.{slot_on, Root, Rooted, SoundSegment}
use Rattle.store.specs.Book.{absent, row, is_root, in_use_at, book_of, Lists}
use Rattle.store.proofs.Laws.Cases.{never, false_by}
use Rattle.store.proofs.Laws.SoundPage.{and_both, and_in}
use Rattle.store.proofs.Laws.Listed.{entries_once, entry_read, root_listed}
use Rattle.store.specs.declared.Slot.{Slot}
use Rattle.store.specs.declared.Slot.TheVariants.{Ordinary, Free, Redirect, Target}

-- ---- rows

pub row_one : (cs bs : List ℕ) → row cs ≡ row bs → cs ≡ bs
row_one cs bs e = cc

pub row_not : (bs : List ℕ) → absent ≡ row bs → ⊥
row_not bs e = let z : ◌≡◌ {A = ℕ} 0 1 = cc in omega arith

-- ---- which ids are in it: those in use, damaged segments too

root_test : (x : Slot) → (Root x → is_root x ≡ true) × (is_root x ≡ true → Root x)
root_test (Ordinary o l) = (λ r. refl, λ e. tt)
root_test Free = (λ r. absurd r, λ e. never e refl)
root_test (Redirect t) = (λ r. refl, λ e. tt)
root_test (Target o l) = (λ r. absurd r, λ e. never e refl)

module _ (s : List ℕ) (i : ℕ) where
  test_used : Rooted s i → in_use_at s i ≡ true
  test_used r =
      and_in (ltb (page_no i) (length s / 16384)) (is_root (slot_on (seg_view s) i)) (lt-ltb (page_no i) (length s / 16384) r.below)
      ((root_test (slot_on (seg_view s) i)).0 r.root)

  used_test : in_use_at s i ≡ true → Rooted s i
  used_test e =
      let b = and_both (ltb (page_no i) (length s / 16384)) (is_root (slot_on (seg_view s) i)) e in
      record { below = ltb-true (page_no i) (length s / 16384) b.0; root = (root_test (slot_on (seg_view s) i)).1 b.1 }

  pub used_or : Rooted s i ⊎ (Rooted s i → ⊥)
  used_or = go (in_use_at s i) refl
    where
      go : (b : Bool) → in_use_at s i ≡ b → Rooted s i ⊎ (Rooted s i → ⊥)
      go true e = inl (used_test e)
      go false e = inr (λ r. never (test_used r) e)

  pub book_used : Rooted s i → book_of s i ≡ row (read_step s i).bytes
  unfolding book_of
  book_used r = rw (test_used r)

  pub book_absent : (Rooted s i → ⊥) → book_of s i ≡ absent
  unfolding book_of
  book_absent n = rw (false_by (in_use_at s i) (λ e. n (used_test e)))

  -- a row is that of an id in use, with the bytes that a read gives
  pub book_known : (bs : List ℕ) → book_of s i ≡ row bs → Rooted s i × ((read_step s i).bytes ≡ bs)
  book_known bs e = go used_or
    where
      go : Rooted s i ⊎ (Rooted s i → ⊥) → Rooted s i × ((read_step s i).bytes ≡ bs)
      go (inl r) = (r, row_one (read_step s i).bytes bs (sym (book_used r) ∙ e))
      go (inr n) = absurd (row_not bs (sym (book_absent n) ∙ e))

-- ---- "the scan lists each entry once"

pub all_listed : (s v : List ℕ) → SoundSegment s v → Lists (book_of s) (scan_all s)
unfolding scan_all
all_listed s v h =
    record {
      once = entries_once s v h;
      of = λ x i. let t = entry_read s v h x i in book_used s x.id t.0 ∙ ap row t.1;
      all = λ i bs e.
          let k = book_known s i bs e in
          let l = root_listed s v h i k.0 in
          let b : l.entry.bytes ≡ bs = sym (entry_read s v h l.entry l.listed).1 ∙ ap (λ (j : ℕ). (read_step s j).bytes) l.is ∙ k.1 in
          subst (λ (y : Entry). In y (entries (seg_view s))) (λ n. record { id = l.is n; bytes = b n }) l.listed;
    }
