-- A sound segment stays sound, whatever the calls: every page, the pairs of redirects and targets, the true inventory. From one, no call
-- answers 4 (damaged) or 8 (no room where the inventory named a page), and no read or scan answers 4.
use Rattle.std.specs.Prelude.{ℕ, List, [], ◌∷◌, ◌≢◌}
use Rattle.std.proofs.Common.{sym, arith}
use Rattle.std.proofs.Math.Path.{subst}
use Rattle.store.specs.Numbers.{page_no}
use Rattle.store.specs.Segment.{SegView, seg_view, Out, Result, result, step, Read, no_read, read_by, read_plan, read_step}
use Rattle.store.specs.Scan.{scan_step}
use Rattle.store.specs.Calls.{Call, called, results, Each}
use Rattle.store.specs.SoundSegment.{bytes_on, SoundSegment}
use Rattle.store.proofs.Laws.Cases.{never}
use Rattle.store.proofs.Laws.Roots.{by_sound_root}
use Rattle.store.proofs.Laws.SoundPage.{sound_test, good_in}
use Rattle.store.proofs.Laws.Pairs.{tag_on, look_whole}
use Rattle.store.proofs.Laws.Plans.{Exacting, plan_of, called_plan, call_exacting}
use Rattle.store.proofs.Laws.SoundSegment.{seen_sound, sized, stays_right, Staying, row_of, call_staying, undamaged}
use Rattle.store.proofs.Laws.Rows.{by_look}
use Rattle.store.proofs.Laws.Scan.{scan_each}

pub record Right (r : Result) : Type 0 where
  pub sound : SoundSegment r.seg r.inv
  pub whole : r.answer ≢ 4
  pub current : r.answer ≢ 8

plan_right : (plan : SegView → Out) (w : SegView → Read) (s v : List ℕ) → Exacting plan → Staying plan w v → SoundSegment s v
    → Right (step s v (plan (seg_view s)))
unfolding result
plan_right plan w s v x k h =
    let z = sized s h.whole in
    let g = k s (seen_sound s v h) in
    rw (h.whole, h.page)
    (record { sound = stays_right s v h (plan (seg_view s)) (x s z.few) (w (seg_view s)) g; whole = g.whole; current = g.current })

pub call_right : (c : Call) (s v : List ℕ) → SoundSegment s v → Right (called c s v)
call_right c s v h = subst Right (sym (called_plan c s v)) (plan_right (plan_of c v) (row_of c) s v (call_exacting c v) (call_staying c v) h)

-- after each call of any sequence
pub calls_right : (cs : List Call) (s v : List ℕ) → SoundSegment s v → Each Right (results cs s v)
calls_right [] s v h = tt
calls_right (c ∷ cs) s v h =
    let r = call_right c s v h in
    (r, calls_right cs (called c s v).seg (called c s v).inv r.sound)

module _ (s v : List ℕ) (h : SoundSegment s v) where
  pub read_right : (i : ℕ) → (read_step s i).answer ≢ 4
  unfolding read_step read_plan
  read_right i =
      rw h.whole
      (by_sound_root (λ (d : Read). d.answer ≢ 4) (seg_view s) i no_read (read_by (seg_view s) i)
      (sound_test ((seg_view s).page (page_no i)) ((seen_sound s v h).sounds (page_no i))) (λ l e. omega arith)
      (λ l. subst (λ (d : Read). d.answer ≢ 4) (sym (by_look s v h i l)) (look_whole (bytes_on (seg_view s)) i (tag_on (seg_view s) i))))

  -- wherever the scan stands
  pub scan_right : (p k : ℕ) → (scan_step s p k).answer ≢ 4
  scan_right =
      scan_each (λ d. d.answer ≢ 4) s (λ p k e. omega arith) (λ e. omega arith)
      (λ p k e. never e (undamaged ((seg_view s).page p) ((seen_sound s v h).sounds p) k))
      (λ p j e. never (good_in ((seg_view s).page p) ((seen_sound s v h).sounds p) j) e)
      (λ p j l c r g e. omega arith)
