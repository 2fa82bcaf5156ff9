use Prim.Native.Nat.{ℕ, ◌+◌}
use mathlib.Core.Path.{◌≡◌, refl, sym, ap, ◌∙◌}
use mathlib.Core.Bool.{true}
use mathlib.Core.List.{List, ◌++◌}
use native.Mathlib.Omega.{arith}
use lib.ListN.{length, length-append}
use Rattle.store.specs.Page.{View, view, sound}
use Rattle.store.specs.PageSteps.{opened}
use Rattle.store.specs.Segment.{seg_view}
use Rattle.store.proofs.Laws.Report.{each_sound}
use Rattle.store.proofs.Laws.SoundSegment.{seen_pages, seen_page}
use Rattle.exchange.specs.Words.{page_file}
use Rattle.exchange.proofs.LeftLaws.{pages_file, pages_next, pages_none}
use Rattle.exchange.proofs.WriteLaws.{left_next, left_none}
use Rattle.exchange.proofs.write.write_file.Goals.{After-page_of}
use Rattle.exchange.proofs.write.write_file.Goals as goal

-- page p: it is sound, and what is left is its file and the rest
module _ (c : After-page_of) where
  abbrev page : List ℕ
  page = c.page_of.result.now

  ok : sound (view page) ≡ true
  ok =
      ap (λ (q : List ℕ). sound (view q)) c.page_of.ensures
      ∙ each_sound c.args.segment.now c.requires.segment_value.1 c.loop-p.p (omega arith)

  seen : (seg_view c.args.segment.now).page c.loop-p.p ≡ opened (view page)
  seen = seen_page c.args.segment.now c.loop-p.p ∙ ap (λ (q : List ℕ). opened (view q)) (sym c.page_of.ensures)

  next : pages_file (seg_view c.args.segment.now) c.loop-p.p ≡ page_file (opened (view page)) ++ pages_file (seg_view c.args.segment.now) (c.loop-p.p + 1)
  next =
      pages_next (seg_view c.args.segment.now) c.loop-p.p (omega (arith, seen_pages c.args.segment.now))
      ∙ ap (λ (v : View). page_file v ++ pages_file (seg_view c.args.segment.now) (c.loop-p.p + 1)) seen

pub write_page-at-requires : goal.write_page-at-requires
write_page-at-requires c =
    let h = c.loop-p.invariant in
    let a = ap length (next (goal.at.write_page-at-requires c).After-page_of)
    ∙ length-append (page_file (opened (view (page (goal.at.write_page-at-requires c).After-page_of))))
    (pages_file (seg_view c.args.segment.now) (c.loop-p.p + 1)) in
    record {
      page_sound = ok (goal.at.write_page-at-requires c).After-page_of;
      page_in_bounds = omega (arith, h.room, h.long, c.requires.segment_in_bounds);
    }

pub loop-p-preserved : goal.loop-p-preserved
loop-p-preserved c =
    left_next _ _ _ _ _ _ c.loop-p.invariant _ _ (next (goal.at.loop-p-preserved c).After-page_of) _ refl _ c.write_page-at.ensures.0 _
    c.write_page-at.ensures.1

pub returns : goal.returns
returns c =
    let s = c.args.segment.now in
    (left_none _ _ _ _ _ _ c.loop-p.invariant (pages_none (seg_view s) c.loop-p.p (omega (arith, seen_pages s)))).0
