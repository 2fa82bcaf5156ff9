-- The whole scan: on every segment of right size whose pages are sound, redirects and targets paired or not, the steps from page 0, slot 0 on give
-- the records of `scan_all s` in their order, each with the answer 0, then 0 without a record, and so ever after. And in a sound segment a record that
-- a step hands out is what a read by its id gives: the answer 0 and the same bytes. A record that was forwarded has its root's id.
use Rattle.std.specs.Prelude.{ℕ, ◌≡◌, refl, true, false, List}
use Rattle.std.proofs.Common.{arith}
use Rattle.std.proofs.Math.Nat.{sub-zero}
use Rattle.store.specs.Refusals.{DONE}
use Rattle.store.specs.Segment.{seg_view, size_ok, read_step}
use Rattle.store.specs.Scan.{scan_step}
use Rattle.store.specs.Records.{scan_all, GivesAll}
use Rattle.store.specs.SoundSegment.{PagesSound, SoundSegment}
use Rattle.store.proofs.Laws.Cases.{never}
use Rattle.store.proofs.Laws.SoundSegment.{pages_sound}
use Rattle.store.proofs.Laws.Scan.{scan_each, Reads, record_reads}
use Rattle.store.proofs.Laws.ScanAll.{pages_give, steps}

-- each step is made from the position that the one before it left
pub scan_all_lem : (s : List ℕ) → size_ok s ≡ true → PagesSound s
    → GivesAll (scan_step s) (scan_step s 0 0) (scan_all s)
unfolding scan_all
scan_all_lem s e h =
    rw (steps s e 0 0 (omega arith), sub-zero (seg_view s).pages)
    (pages_give (seg_view s) (pages_sound s e h) (scan_step s) (steps s e) (seg_view s).pages 0 (omega arith))

pub scan_all_sound : (s v : List ℕ) → SoundSegment s v → GivesAll (scan_step s) (scan_step s 0 0) (scan_all s)
scan_all_sound s v h = scan_all_lem s h.whole h.pages

-- what a step hands out, from any position
pub scan_reads : (s v : List ℕ) → SoundSegment s v → (p k : ℕ) → (scan_step s p k).some ≡ true
    → read_step s (scan_step s p k).id ≡ record { answer = DONE; bytes = (scan_step s p k).bytes }
scan_reads s v h =
    scan_each (Reads s v h) s (λ p k. none) none (λ p k e. none) (λ p j e. none)
    (λ p j l c r g. record_reads s v h p j l c (((seg_view s).page p).at j) refl r)
  where
    none : {A : Type 0} → false ≡ true → A
    none e = never e refl
