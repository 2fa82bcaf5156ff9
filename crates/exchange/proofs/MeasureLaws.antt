-- Measuring: what is counted so far and what is left give the whole, of a page and of a segment.
use Prim.Native.Nat.{ℕ, ◌+◌, ◌*◌, ◌/◌, ◌^◌, ◌≤◌, ◌<◌}
use mathlib.Core.Path.{◌≡◌, sym, ap, ◌∙◌}
use mathlib.Core.Bool.{true, false}
use mathlib.Core.List.{List}
use native.Mathlib.Omega.{arith}
use lib.ListN.{length, length-append}
use borrow.Author.Count.{below_more}
use Rattle.store.specs.Page.{View, view, sound}
use Rattle.store.specs.PageSteps.{opened}
use Rattle.store.specs.Segment.{seg_view, page_of}
use Rattle.store.specs.Records.{records}
use Rattle.store.specs.Report.{all_sound}
use Rattle.store.proofs.Laws.Report.{sound_each, damaged}
use Rattle.store.proofs.Laws.SoundPage.{sound_opened}
use Rattle.store.proofs.Laws.SoundSegment.{seen_pages, seen_page}
use Rattle.exchange.specs.Exchange.{passed_over}
use Rattle.exchange.specs.Words.{part_of_slot, part_length, part_file, part_passed, page_file, page_passed, segment_file, PageSums, SegmentSums}
use Rattle.exchange.proofs.Laws.Left.{part_lies}
use Rattle.exchange.proofs.Laws.Room.{page_short, passed_few}
use Rattle.exchange.specs.declared.Exported.{Exported}
use Rattle.exchange.specs.declared.parts.Part.{Part}
use Rattle.exchange.proofs.LeftLaws as left

-- ---- the slots of a page, up to k

pub record MeasuredTo (v : View) (k : ℕ) (m : Exported) : Type 0 where
  pub length : m.length + length (left.file_from v k) ≡ length (page_file (opened v))
  pub passed : m.passed + left.passed_from v k ≡ page_passed (opened v)

pub measured_none : (v : View) (m : Exported) → (m.length ≡ 0) × (m.passed ≡ 0) → MeasuredTo v 0 m
measured_none v m e = record { length = omega (arith, ap length (left.file_all v)); passed = omega (arith, left.passed_all v) }

module _ (p : List ℕ) (whole : length p ≡ 16384) (ok : sound (view p) ≡ true) (k : ℕ) (m : Exported) (h : MeasuredTo (view p) k m) where
  -- a page's numbers are small
  short : (length (page_file (opened (view p))) ≤ 16372) × (page_passed (opened (view p)) ≤ 2046)
  short =
      let w = opened (view p) in
      let s = sound_opened p whole ok in
      (page_short w s, omega (arith, passed_few w.slot_count w 0 0, s.few))

  module _ (counted : k < (view p).slot_count) (a : Part) (is : a ≡ part_of_slot ((view p).at k)) where
    -- slot k and what is behind it
    next_length : length (left.file_from (view p) k) ≡ part_length a + length (left.file_from (view p) (k + 1))
    next_length =
        let x = part_of_slot ((view p).at k) in
        ap length (left.file_next p whole ok k counted) ∙ length-append (part_file p x) (left.file_from (view p) (k + 1))
        ∙ ap (λ (n : ℕ). n + length (left.file_from (view p) (k + 1)))
        (left.part_length_lem p x (part_lies p whole ok k counted) ∙ sym (ap part_length is))

    next_passed : left.passed_from (view p) k ≡ part_passed a + left.passed_from (view p) (k + 1)
    next_passed = left.passed_next p whole ok k counted ∙ ap (λ (x : Part). part_passed x + left.passed_from (view p) (k + 1)) (sym is)

    pub measured_room : (m.length + part_length a < 2 ^ 63) × (m.passed + part_passed a < 2 ^ 63)
    measured_room = let l = next_length in let n = next_passed in let s = short in (omega arith, omega arith)

    pub measured_next : (r : Exported) → (r.length ≡ m.length + part_length a) × (r.passed ≡ m.passed + part_passed a) → MeasuredTo (view p) (k + 1) r
    measured_next r e = let l = next_length in let n = next_passed in record { length = omega arith; passed = omega arith }

  pub measured_all : (view p).slot_count ≤ k → PageSums (opened (view p)) m
  measured_all e =
      let l = ap length (left.file_none (view p) k e) in
      let n = left.passed_none (view p) k e in
      let s = short in
      record { length = omega arith; passed = omega arith; short = omega arith; few = omega arith }

-- ---- the pages of a segment, up to p

pub record PagesTo (s : List ℕ) (p : ℕ) (m : Exported) : Type 0 where
  pub sounds : (q : ℕ) → q < p → sound (view (page_of s q)) ≡ true
  pub length : m.length + length (left.pages_file (seg_view s) p) ≡ length (segment_file (seg_view s))
  pub passed : m.passed + left.pages_passed (seg_view s) p ≡ passed_over (records (seg_view s))
  pub short : m.length ≤ p * 16384
  pub few : m.passed ≤ p * 16384

module _ (s : List ℕ) where
  pub pages_none : (t : Exported) → (t.length ≡ 0) × (t.passed ≡ 0) → PagesTo s 0 t
  pages_none t e =
      let u = seg_view s in
      record {
        sounds = λ q l. absurd (omega arith);
        length = omega (arith, ap length (left.pages_all u));
        passed = omega (arith, left.pages_passed_all u);
        short = omega arith;
        few = omega arith;
      }

  pub pages_next : (p : ℕ) (t : Exported) → PagesTo s p t → p < length s / 16384 → sound (view (page_of s p)) ≡ true
      → (m : Exported) → PageSums (opened (view (page_of s p))) m → PagesTo s (p + 1) record { length = t.length + m.length; passed = t.passed + m.passed }
  pages_next p t h below ok m g =
      let u = seg_view s in
      let w = seen_page s p in
      let inside : p < u.pages = omega (arith, seen_pages s) in
      let a = ap length (left.pages_next u p inside) ∙ length-append (page_file (u.page p)) (left.pages_file u (p + 1)) in
      let b = left.pages_passed_next u p inside in
      record {
        sounds = below_more _ _ h.sounds ok;
        length = omega (arith, ap (λ (v : View). length (page_file v)) w);
        passed = omega (arith, ap page_passed w);
        short = omega arith;
        few = omega arith;
      }

  pub pages_stop : (p : ℕ) → p < length s / 16384 → sound (view (page_of s p)) ≡ false → all_sound (seg_view s) ≡ false
  pages_stop p below d = damaged s record { on = p; below = below; unsound = d }

  pub pages_all : (p : ℕ) (t : Exported) → PagesTo s p t → p ≡ length s / 16384 → SegmentSums (seg_view s) t
  pages_all p t h e =
      let u = seg_view s in
      let end : u.pages ≤ p = omega (arith, seen_pages s) in
      record {
        sound = sound_each s (λ q below. h.sounds q (omega arith));
        length = omega (arith, ap length (left.pages_none u p end));
        passed = omega (arith, left.pages_passed_none u p end);
      }
