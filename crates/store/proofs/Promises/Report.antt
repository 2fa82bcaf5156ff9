-- Document 02, "Fill report over the whole archive": what the figures of a segment come to, what a call does to the tally that it is lent, and
-- when it gives each answer. For all bytes, damaged ones too. A tally is 23 numbers, whatever they are.
use Rattle.std.specs.Prelude.{ℕ, ◌+◌, ◌%◌, ◌^◌, ◌<◌, ◌≡◌, refl, true, false, List, [], ◌∷◌, ◌++◌, map, ◌↔◌, ◌≢◌, ◌⊎◌, length, get_or}
use Rattle.std.proofs.Common.{sym, ap, ◌∙◌, subst, inl, inr, arith}
use Rattle.store.specs.Numbers.{zeros}
use Rattle.store.specs.Page.{View, fresh}
use Rattle.store.specs.PageSteps.{opened}
use Rattle.store.specs.Refusals.{DONE, SIZE, DAMAGED, TALLY}
use Rattle.store.specs.Segment.{SegView, seg_view, size_ok}
use Rattle.store.specs.SoundSegment.{PagesSound}
use Rattle.store.specs.Report.{meanings, figures_to, figures, added, Report, report_step}
use Rattle.store.specs.ReportTold.{pages_in, class_at, AddsUp, ClassesAddUp, Damage, sum_at, Passes, tally_after, AllDone, counted, totals, Permuted}
use Rattle.store.proofs.Laws.SoundSegment.{sized, pages_sound}
use Rattle.store.proofs.Laws.Report.{pages_all, figures_sum, figures_classes, figures_used, added_sum}
use Rattle.store.proofs.Laws.Report.{added_classes, length_added, each_sound, sound_each, damage}
use Rattle.store.proofs.Laws.Report.{damaged, on_size, on_damage, on_tally, on_done, by_report, after_at, all_fits, fits_all, not_all}
use Rattle.store.proofs.Laws.Report.{all_not_fit, after, run_adds, all_counted, Done, done_tells, tells_done, permuted, page_sum, joined_figures}
use Rattle.store.proofs.Laws.Report.{both_after, done_parts, parts_done}

-- ---- the figures of a segment

-- "12 each, 8 per slot, record bytes, 8 per forwarded record and free bytes must sum to 16,384 per page"
pub adds_up : (s : List ℕ) → size_ok s ≡ true → PagesSound s → AddsUp (figures (seg_view s))
adds_up s e h = figures_sum (seg_view s) (pages_sound s e h)

-- "pages" is n; "the 16 class figures sum to pages; class 0 is fresh pages", damaged pages too
pub counts_pages : (u : SegView) → pages_in (figures u) ≡ u.pages
unfolding figures_to
counts_pages u = pages_all u.pages

pub classes_add_up : (u : SegView) → ClassesAddUp (figures u)
classes_add_up = figures_classes

-- and on sound pages no page is of class 1: one in use has a slot, which takes 8 bytes
pub class_1_none : (s : List ℕ) → size_ok s ≡ true → PagesSound s → class_at 1 (figures (seg_view s)) ≡ 0
class_1_none s e h = figures_used (seg_view s) (pages_sound s e h)

-- "a fresh page adds 1 to pages, fresh pages and class 0 and nothing else, whatever its other bytes are"
pub fresh_page : (v : View) → fresh v ≡ true → map (λ (f : View → ℕ). f (opened v)) meanings ≡ 1 ∷ 1 ∷ zeros 5 ++ (1 ∷ zeros 15)
fresh_page v e = rw e

module _ (s t : List ℕ) where
  -- ---- "1 and 4 as in 01, then 9 TALLY when a figure would pass 2^64 − 1"

  pub answers : let a = (report_step s t).answer in (a ≡ DONE) ⊎ (a ≡ SIZE) ⊎ (a ≡ DAMAGED) ⊎ (a ≡ TALLY)
  answers =
      by_report s t (λ (r : Report). (r.answer ≡ DONE) ⊎ (r.answer ≡ SIZE) ⊎ (r.answer ≡ DAMAGED) ⊎ (r.answer ≡ TALLY)) (λ e. inr (inl refl))
      (λ e f. inr (inr (inl refl))) (λ e f g. inr (inr (inr refl))) (λ e f g. inl refl)

  -- 1 exactly if the segment is not 0 to 32,527 whole pages
  pub size_exactly : ((report_step s t).answer ≡ SIZE) ↔ (size_ok s ≡ false)
  size_exactly = (
    by_report s t (λ (r : Report). r.answer ≡ SIZE → size_ok s ≡ false) (λ e z. e) (λ e f z. absurd (omega arith)) (λ e f g z. absurd (omega arith))
        (λ e f g z. absurd (omega arith)),
    λ e. ap (λ (r : Report). r.answer) (on_size s t e),
  )

  -- 4 exactly if it is, and some page of it is not sound
  pub damaged_exactly : ((report_step s t).answer ≡ DAMAGED) ↔ ((size_ok s ≡ true) × Damage s)
  damaged_exactly = (
    by_report s t (λ (r : Report). r.answer ≡ DAMAGED → (size_ok s ≡ true) × Damage s) (λ e z. absurd (omega arith)) (λ e f z. (e, damage s f))
        (λ e f g z. absurd (omega arith)) (λ e f g z. absurd (omega arith)),
    λ x. ap (λ (r : Report). r.answer) (on_damage s t x.0 (damaged s x.1)),
  )

  -- "A refused segment adds nothing": all 23 figures are as they were
  pub refused_adds_none : (report_step s t).answer ≢ DONE → (report_step s t).tally ≡ t
  refused_adds_none =
      by_report s t (λ (r : Report). r.answer ≢ DONE → r.tally ≡ t) (λ e n. refl) (λ e f n. refl) (λ e f g n. refl) (λ e f g n. absurd (n refl))

  pub tally_long : length (report_step s t).tally ≡ length t
  tally_long =
      by_report s t (λ (r : Report). length r.tally ≡ length t) (λ e. refl) (λ e f. refl) (λ e f g. refl)
      (λ e f g. length_added t (figures (seg_view s)))

  module _ (long : length t ≡ 23) where
    -- 9 exactly if the segment is right, every page is sound, and some figure's sum is 2^64 or more
    pub tally_exactly : ((report_step s t).answer ≡ TALLY) ↔ ((size_ok s ≡ true) × PagesSound s × Passes s t)
    tally_exactly = (
      by_report s t (λ (r : Report). r.answer ≡ TALLY → (size_ok s ≡ true) × PagesSound s × Passes s t) (λ e z. absurd (omega arith))
          (λ e f z. absurd (omega arith)) (λ e f g z. (e, each_sound s f, not_all s t long g)) (λ e f g z. absurd (omega arith)),
      λ x. ap (λ (r : Report). r.answer) (on_tally s t x.0 (sound_each s x.1) (all_not_fit s t long x.2)),
    )

    -- 0 exactly if none is
    pub done_exactly : ((report_step s t).answer ≡ DONE) ↔ ((size_ok s ≡ true) × PagesSound s × ((j : ℕ) → j < 23 → sum_at s t j < 2 ^ 64))
    done_exactly = (
      λ z. let d = done_tells s t z in (d.size, each_sound s d.pages, all_fits s t long d.fits),
      λ x. ap (λ (r : Report). r.answer) (on_done s t x.0 (sound_each s x.1) (fits_all s t long x.2)),
    )

    -- and then each of the 23 is what it was and the segment's
    pub done_adds : (report_step s t).answer ≡ DONE → (j : ℕ) → j < 23 → get_or (report_step s t).tally j 0 ≡ get_or t j 0 + get_or (figures (seg_view s)) j 0
    done_adds z j l = ap (λ (r : Report). get_or r.tally j 0) (tells_done s t (done_tells s t z)) ∙ after_at s t long j l

    -- ---- a tally that has these laws has them after the call

    pub adds_up_kept : AddsUp t → AddsUp (report_step s t).tally
    adds_up_kept h =
        by_report s t (λ (r : Report). AddsUp r.tally) (λ e. h) (λ e f. h) (λ e f g. h)
        (λ e f g. added_sum t (figures (seg_view s)) long h (adds_up s e (each_sound s f)))

    pub classes_kept : ClassesAddUp t → ClassesAddUp (report_step s t).tally
    classes_kept h =
        by_report s t (λ (r : Report). ClassesAddUp r.tally) (λ e. h) (λ e f. h) (λ e f g. h)
        (λ e f g. added_classes t (figures (seg_view s)) long h (classes_add_up (seg_view s)))

-- ---- "exact figures over any number of segments"

-- so does any run of calls; and a tally that is set to 0 before the first has them
pub laws_kept : (ss : List (List ℕ)) (t : List ℕ) → length t ≡ 23 → AddsUp t → ClassesAddUp t → AddsUp (tally_after ss t) × ClassesAddUp (tally_after ss t)
laws_kept [] t long a c = (a, c)
laws_kept (s ∷ ss) t long a c = laws_kept ss (report_step s t).tally (tally_long s t ∙ long) (adds_up_kept s t long a) (classes_kept s t long c)

pub from_zeros : (ss : List (List ℕ)) → AddsUp (tally_after ss (zeros 23)) × ClassesAddUp (tally_after ss (zeros 23))
from_zeros ss = laws_kept ss (zeros 23) refl (record { fresh = omega arith; sums = refl }) (record { all = refl; fresh = refl })

-- "The tally after many segments is the sum of the tallies of each"
pub run_sums : (ss : List (List ℕ)) (t : List ℕ) → AllDone ss t → tally_after ss t ≡ added t (totals ss)
run_sums ss t d = run_adds ss t ∙ ap (λ (rs : List (List ℕ)). added t (totals rs)) (all_counted ss t d)

-- whichever calls are refused, it is the sum over the others
pub run_counts : (ss : List (List ℕ)) (t : List ℕ) → tally_after ss t ≡ added t (totals (counted ss t))
run_counts = run_adds

-- in any order: the calls answer 0 as well, and leave the same tally
pub any_order : (ss rs : List (List ℕ)) → Permuted ss rs → (t : List ℕ) → AllDone ss t → AllDone rs t × (tally_after rs t ≡ tally_after ss t)
any_order ss rs = permuted

-- "a segment of a + b pages counts as its first a pages and its last b"
module _ (s r : List ℕ) (a : length s % 16384 ≡ 0) (b : length r % 16384 ≡ 0) where
  pub parts_count : figures (seg_view (s ++ r)) ≡ added (figures (seg_view s)) (figures (seg_view r))
  parts_count = joined_figures s r a b

  -- a call for both answers 0 exactly if one for each does, and leaves the same
  pub parts_called : (t : List ℕ) → size_ok (s ++ r) ≡ true → ((report_step (s ++ r) t).answer ≡ DONE) ↔ AllDone (s ∷ r ∷ []) t
  parts_called t e = (
    λ d. let p = done_parts s r a b t (done_tells (s ++ r) t d) in
        let f = tells_done s t p.0 in
        (ap (λ (x : Report). x.answer) f, (rw f (ap (λ (x : Report). x.answer) (tells_done r (after s t) p.1)), tt)),
    λ d. let f = done_tells s t d.0 in
        let g = subst (λ (x : Report). Done r x.tally) (tells_done s t f) (done_tells r (report_step s t).tally d.1.0) in
        ap (λ (x : Report). x.answer) (tells_done (s ++ r) t (parts_done s r a b t (omega (arith, page_sum s r a b, (sized (s ++ r) e).few)) f g)),
  )

  pub parts_left : (t : List ℕ) → (report_step (s ++ r) t).answer ≡ DONE → tally_after (s ∷ r ∷ []) t ≡ (report_step (s ++ r) t).tally
  parts_left t d =
      let w = done_tells (s ++ r) t d in
      let p = done_parts s r a b t w in
      (λ i. (report_step r (tells_done s t p.0 i).tally).tally) ∙ ap (λ (x : Report). x.tally) (tells_done r (after s t) p.1)
      ∙ sym (both_after s r a b t) ∙ ap (λ (x : Report). x.tally) (sym (tells_done (s ++ r) t w))
