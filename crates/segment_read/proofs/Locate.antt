-- The read's definition, test by test, and that the part it answers lies in the segment.
use Prim.Native.Nat.{ℕ, ◌+◌, ◌-◌, ◌≤◌}
use mathlib.Core.Path.{◌≡◌, refl, sym, ap, subst, ◌∙◌}
use mathlib.Core.Bool.{Bool, true, false, cond}
use mathlib.Core.List.{List}
use native.Mathlib.Omega.{arith}
use lib.ListN.{length, drop}
use lib.Dec.{eqb}
use Rattle.store.specs.Numbers.{cut, page_no, slot_no}
use Rattle.store.specs.declared.Part.{Part}
use Rattle.store.specs.Segment.{SegView, seg_view, size_ok, points_back, Read, no_read, read_by, read_plan, read_step, no_part, part_on, part_by}
use Rattle.store.specs.Segment.{Located, held}
use Rattle.store.specs.Segment.{root_of, by_root, locate_step}
use Rattle.store.specs.Refusals.{DONE, SIZE, DAMAGED, number_of}
use Rattle.store.proofs.Laws.Roots.{by_root_lem, refused_no}
use Rattle.store.specs.Laws.Lent.{SoundOn}
use Rattle.store.specs.Answers.{located}
use Rattle.store.proofs.Laws.Cases.{by_test}
use Rattle.store.proofs.Laws.Calls.{page_below}
use Rattle.store.proofs.Promises.Parts.{part_read}
use Rattle.std.proofs.Common.{Result, Ok, Err}
use Rattle.store.specs.declared.Refusal.{Refusal}
use Rattle.store.specs.declared.Slot.{Slot}
use Rattle.store.specs.declared.Slot.TheVariants.{Ordinary, Free, Redirect, Target}
use Rattle.segment_read.specs.Parts.{found_at, not_found, followed, locate_by}
use Rattle.segment_pages.proofs.Seen.{slot_high, target_long}
use Rattle.segment_pages.proofs.Root.{root_is, back_taken}

-- the read's own words: a part where the answer is 0
abbrev part_if : Read → Part → Located
part_if r a = record { answer = r.answer; part = cond (eqb r.answer DONE) a no_part }

abbrev read_as : SegView → ℕ → Slot → Located
read_as s i x = part_if (read_by s i x) (part_by s i x)

by_slot : (s : SegView) (i : ℕ) (x : Slot) → locate_by s i x ≡ read_as s i x
unfolding locate_by followed
by_slot s i (Ordinary o l) = refl
by_slot s i Free = refl
by_slot s i (Redirect t) = go (points_back s i t) (drop 8 ((s.page (page_no t)).bytes (slot_no t))) (part_on (page_no t) ((s.page (page_no t)).at (slot_no t)))
  where
    go : (b : Bool) (bs : List ℕ) (a : Part) → cond b (found_at a) (not_found DAMAGED) ≡ part_if
        (cond b (record { answer = DONE; bytes = bs }) (no_read DAMAGED)) a
    go true bs a = refl
    go false bs a = refl
by_slot s i (Target o l) = refl

module _ (s : List ℕ) (i : ℕ) where
  pub locate_size : size_ok s ≡ false → not_found SIZE ≡ locate_step s i
  unfolding locate_step read_step
  locate_size e = rw e

  -- by what the id's own page answers
  pub locate_root : size_ok s ≡ true → (r : Result Slot Refusal) → r ≡ root_of (seg_view s) i → by_root not_found (locate_by (seg_view s) i) r ≡ locate_step s i
  unfolding locate_step read_step read_plan
  locate_root z (Err x) e = rw (z, ← e, refused_no x)
  locate_root z (Ok x) e =
      rw (z, ← e)
      (by_slot (seg_view s) i x ∙ ap (λ (y : Slot). part_if (read_by (seg_view s) i x) (part_by (seg_view s) i y)) (sym (root_is s i x (sym e)).entry))

-- ---- the part lies in the segment

module _ (s : List ℕ) where
  abbrev Inside : Located → Type 0
  Inside d = d.part.offset + d.part.length ≤ length s

  part_inside : (p k : ℕ) → SoundOn s p → (x : Slot) → ((seg_view s).page p).at k ≡ x → Inside (found_at (part_on p x))
  part_inside p k w (Ordinary o l) e = omega (arith, w.whole, slot_high s p w.whole w.sound k (Ordinary o l) e)
  part_inside p k w Free e = omega arith
  part_inside p k w (Redirect t) e = omega arith
  part_inside p k w (Target o l) e =
      let high = slot_high s p w.whole w.sound k (Target o l) e in
      let long = target_long s p w.whole w.sound k (Target o l) e refl in
      omega (arith, w.whole)

  module _ (i : ℕ) where
    slot_inside : SoundOn s (page_no i) → (x : Slot) → ((seg_view s).page (page_no i)).at (slot_no i) ≡ x → Inside (locate_by (seg_view s) i x)
    unfolding locate_by followed
    slot_inside w (Ordinary o l) e = part_inside (page_no i) (slot_no i) w (Ordinary o l) e
    slot_inside w Free e = omega arith
    slot_inside w (Redirect t) e =
        by_test Inside (points_back (seg_view s) i t) (found_at (part_on (page_no t) (((seg_view s).page (page_no t)).at (slot_no t)))) (not_found DAMAGED)
        (λ b. let k = back_taken s i t b in
        part_inside (page_no t) (slot_no t) (record { whole = k.whole; sound = k.sound }) (((seg_view s).page (page_no t)).at (slot_no t)) refl)
        (λ b. omega arith)
    slot_inside w (Target o l) e = part_inside (page_no i) (slot_no i) w (Target o l) e

    locate_inside : Inside (locate_step s i)
    locate_inside = by_size (size_ok s) refl
      where
        by_size : (b : Bool) → size_ok s ≡ b → Inside (locate_step s i)
        by_size false z = subst Inside (locate_size s i z) (omega arith)
        by_size true z =
            subst Inside (locate_root s i z (root_of (seg_view s) i) refl)
            (by_root_lem Inside (seg_view s) i not_found (locate_by (seg_view s) i) (λ l. omega arith) (λ l e. omega arith)
            (λ l e. slot_inside (record { whole = page_below s (page_no i) l; sound = e }) (((seg_view s).page (page_no i)).at (slot_no i)) refl))

-- ---- the part's bytes are what is read

module _ (s : List ℕ) (i : ℕ) (r : Result Part Refusal) (e : located r ≡ locate_step s i) where
  same_read : (n : ℕ) (bs : List ℕ) → n ≡ (located r).answer → bs ≡ held s (located r).part → ◌≡◌ {A = Read} (record { answer = n; bytes = bs }) (read_step s i)
  unfolding locate_step
  same_read n bs m q =
      let a : n ≡ (read_step s i).answer = m ∙ ap (λ (d : Located). d.answer) e in
      let b : bs ≡ (read_step s i).bytes = q ∙ ap (λ (d : Located). held s d.part) e ∙ part_read s i in
      λ j. record { answer = a j; bytes = b j }

  pub read_part : (d : Part) → r ≡ Ok d → ◌≡◌ {A = Read} (record { answer = DONE; bytes = cut s d.offset (d.offset + d.length - d.offset) }) (read_step s i)
  read_part d q =
      let k : d.offset + d.length - d.offset ≡ d.length = omega arith in
      same_read _ _ (ap (λ (x : Result Part Refusal). (located x).answer) (sym q))
      (ap (cut s d.offset) k ∙ ap (λ (x : Result Part Refusal). held s (located x).part) (sym q))

  pub read_refused : (x : Refusal) → r ≡ Err x → no_read (number_of x) ≡ read_step s i
  read_refused x q = same_read _ _ (ap (λ (y : Result Part Refusal). (located y).answer) (sym q))
      (ap (λ (y : Result Part Refusal). held s (located y).part) (sym q))

  pub read_inside : (d : Part) → r ≡ Ok d → d.offset + d.length ≤ length s
  read_inside d q = subst (Inside s) (sym e ∙ ap located q) (locate_inside s i)

-- ---- a redirect followed

module _ (s : List ℕ) (i t : ℕ) where
  pub follow_none : points_back (seg_view s) i t ≡ false → not_found DAMAGED ≡ followed (seg_view s) i t
  unfolding followed
  follow_none e = rw e

  module _ (back : points_back (seg_view s) i t ≡ true) (x : Slot) (e : x ≡ ((seg_view s).page (page_no t)).at (slot_no t)) where
    module _ (o l : ℕ) (q : x ≡ Target o l) where
      pub follow_target : found_at (part_on (page_no t) (Target o l)) ≡ followed (seg_view s) i t
      unfolding followed
      follow_target = rw back (ap (λ (y : Slot). found_at (part_on (page_no t) y)) (sym q ∙ e))

      pub target_inside : (8 ≤ l) × (o + l ≤ 16384)
      target_inside =
          let w = back_taken s i t back in (
            target_long s (page_no t) w.whole w.sound (slot_no t) (Target o l) (sym e ∙ q) refl,
            slot_high s (page_no t) w.whole w.sound (slot_no t) (Target o l) (sym e ∙ q),
          )
