-- A place made on page p of the segment, and what the call then writes there: the page is lent a second time.
use Prim.Native.Nat.{ℕ, ◌+◌, ◌-◌, ◌*◌, ◌≤◌}
use mathlib.Core.Path.{◌≡◌, refl, sym, ap, ◌∙◌}
use mathlib.Core.List.{List, ◌++◌}
use native.Mathlib.Omega.{arith}
use lib.ListN.{length, drop, length-replicate}
use borrow.Rule.Slice.PartMut.{put_mid}
use Rattle.store.specs.Numbers.{cut, put, zeros}
use Rattle.store.specs.Slots.{slot_bytes}
use Rattle.store.specs.PageSteps.{allocate}
use Rattle.store.specs.Segment.{seg_view, page_of}
use Rattle.store.specs.Laws.Lent.{SoundOn}
use Rattle.store.proofs.Laws.Numbers.{length_put, put_over, lent}
use Rattle.store.proofs.Laws.Segments.{length_page, page_same, lent_part_lem}
use Rattle.store.specs.declared.Slot.TheVariants.{Target}
use Rattle.std.specs.Prelude.{None}
use Rattle.segment_pages.proofs.Seen.{page_right}
use Rattle.slotted_page.specs.Words.{page_bare, place_at, place_of, page_after, filled_at, target_at}
use Rattle.slotted_page.proofs.AllocateLaws.{allocate_ended, allocate_sized}
use Rattle.slotted_page.proofs.FillLaws.{fill_done, target_done, none_done}
use Rattle.segment_steps.proofs.Lent.{Lends, lent_is, lent_back, length_bare}

-- t is what the place for n bytes left
module _ (s : List ℕ) (p : ℕ) (h : SoundOn s p) (n : ℕ)
    (t : List ℕ) (et : t ≡ put s (p * 16384) (page_bare (allocate ((seg_view s).page p) n) (page_of s p))) where
  -- page p as the code lends it again
  abbrev pub lent_part : List ℕ
  lent_part = cut t (p * 16384) ((p + 1) * 16384 - p * 16384)

  abbrev page : List ℕ
  page = page_bare (allocate ((seg_view s).page p) n) (page_of s p)

  whole : length page ≡ 16384
  whole = length_bare (allocate ((seg_view s).page p) n) (page_of s p) ∙ length_page s p h.whole

  bare_length : length t ≡ length s
  bare_length = ap length et ∙ length_put s (p * 16384) page

  lent_again : lent_part ≡ page
  lent_again = lent_part_lem t p ∙ ap (λ (l : List ℕ). page_of l p) et ∙ page_same s p page whole h.whole

  pub bare_whole : length (lent_part) ≡ 16384
  bare_whole = ap length lent_again ∙ whole

  -- where there is no place nothing was written
  pub none_written : place_of (allocate ((seg_view s).page p) n) ≡ None → (bs : List ℕ)
      → (t ≡ put s (p * 16384) (page_after (filled_at (allocate ((seg_view s).page p) n) bs) (page_of s p)))
      × (t ≡ put s (p * 16384) (page_after (target_at (allocate ((seg_view s).page p) n) bs) (page_of s p)))
  none_written e bs =
      let d = (none_done (page_of s p) page (allocate ((seg_view s).page p) n) (sym e) refl).1 bs in
      (et ∙ ap (put s (p * 16384)) d.0, et ∙ ap (put s (p * 16384)) d.1)

  module _ (k o : ℕ) (e : place_of (allocate ((seg_view s).page p) n) ≡ place_at k o) (bs : List ℕ) (size : length bs ≡ n) (out : List ℕ) where
    back : length out ≡ 16384 → (q : List ℕ) → out ≡ q → put_mid (p * 16384) ((p + 1) * 16384 - p * 16384) t out ≡ put s (p * 16384) q
    back l q f =
        lent t (p * 16384) ((p + 1) * 16384) out (omega arith) (omega (arith, bare_length)) (l ∙ omega arith)
        ∙ ap (λ (r : List ℕ). put r (p * 16384) out) et ∙ put_over s (p * 16384) page out (omega (arith, whole)) ∙ ap (put s (p * 16384)) f

    -- the record's bytes
    pub bytes_written : out ≡ put (lent_part) o bs
        → put_mid (p * 16384) ((p + 1) * 16384 - p * 16384) t out ≡ put s (p * 16384)
        (page_after (filled_at (allocate ((seg_view s).page p) n) bs) (page_of s p))
    bytes_written f =
        let g : out ≡ put page o bs = f ∙ ap (λ (q : List ℕ). put q o bs) lent_again in
        back (ap length g ∙ length_put page o bs ∙ whole) _
        (fill_done k o (zeros n) (page_of s p) page out (allocate ((seg_view s).page p) n) bs
        (allocate_ended (page_of s p) ((seg_view s).page p) n (page_right s p h.whole h.sound)) (size ∙ sym (length-replicate n 0)) (sym e) refl g)

    -- the entry of a target, and its bytes, on the page lent again from the rest of the segment
    pub target_written : {front rest q : List ℕ} → Lends t p front rest q → 20 + 8 * k ≤ o
        → out ≡ put (put q (12 + 8 * k) (slot_bytes (Target o n))) o bs
        → front ++ (out ++ drop 16384 rest) ≡ put s (p * 16384) (page_after (target_at (allocate ((seg_view s).page p) n) bs) (page_of s p))
    target_written {q = q} l past f =
        let x : List ℕ = slot_bytes (Target o n) in
        let again : q ≡ page = lent_is l (omega (arith, bare_length, h.whole)) ∙ sym (lent_part_lem t p) ∙ lent_again in
        let g : out ≡ put (put page (12 + 8 * k) x) o bs = f ∙ ap (λ (r : List ℕ). put (put r (12 + 8 * k) x) o bs) again in
        let v = (seg_view s).page p in
        let m : length out ≡ 16384 =
        ap length g ∙ length_put (put page (12 + 8 * k) x) o bs ∙ length_put page (12 + 8 * k) x ∙ whole in
        lent_back l (omega (arith, bare_length, h.whole)) out m ∙ ap (λ (r : List ℕ). put r (p * 16384) out) et
        ∙ put_over s (p * 16384) page out (omega (arith, whole, m)) ∙ ap (put s (p * 16384))
        (target_done k o (zeros n) (page_of s p) page (put page (12 + 8 * k) x) (allocate v n) n bs out
        (allocate_ended (page_of s p) v n (page_right s p h.whole h.sound)) (allocate_sized v n (page_right s p h.whole h.sound))
        (size ∙ sym (length-replicate n 0)) past (sym e) refl refl g)
