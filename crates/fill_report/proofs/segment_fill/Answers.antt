use Prim.Native.Nat.{ℕ, ◌/◌}
use mathlib.Core.Path.{◌≡◌, sym, ap, subst, ◌∙◌}
use mathlib.Core.List.{List}
use native.Mathlib.Omega.{arith}
use lib.ListN.{length}
use Rattle.store.specs.Page.{view, sound}
use Rattle.store.specs.PageSteps.{opened}
use Rattle.store.specs.Segment.{page_of}
use Rattle.store.proofs.Laws.SoundSegment.{sized}
use Rattle.fill_report.specs.Words.{Fills}
use Rattle.store.specs.Answers.{numbers}
use Rattle.fill_report.proofs.PageLaws.{default_is}
use Rattle.fill_report.proofs.FillLaws.{filled_none, filled_room, filled_more, filled_stops, filled_all}
use Rattle.fill_report.proofs.segment_fill.Goals.{After-is_sound}
use Rattle.fill_report.proofs.segment_fill.Goals as goal

pub loop-p-init : goal.loop-p-init
loop-p-init c = filled_none _ _ (ap numbers (default_is _ c.default-tally.ensures))

-- whether page p is sound
told : (c : After-is_sound) → c.is_sound.result ≡ sound (view (page_of c.args.segment.now c.loop-p.p))
told c = c.is_sound.ensures ∙ ap (λ (q : List ℕ). sound (view q)) c.page_of-page.ensures

pub returns-then-not-is_sound : goal.returns-then-not-is_sound
returns-then-not-is_sound c =
    filled_stops c.args.segment.now c.loop-p.p (omega arith) (sym (told (goal.at.returns-then-not-is_sound c).After-is_sound) ∙ c.if-not-is_sound.true)

pub add_to-requires : goal.add_to-requires
add_to-requires c =
    let few = (sized c.args.segment.now c.requires).few in
    record {
      room = filled_room _ c.loop-p.p c.loop-p.tally c.loop-p.invariant (omega arith);
      whole = sym c.is_sound.ensures ∙ c.if-not-is_sound.false;
    }

pub loop-p-preserved : goal.loop-p-preserved
loop-p-preserved c =
    filled_more _ c.loop-p.p c.loop-p.tally c.loop-p.invariant
    (sym (told (goal.at.loop-p-preserved c).After-is_sound) ∙ c.if-not-is_sound.false) c.add_to.new.tally
    (subst (λ (q : List ℕ). Fills (opened (view q)) c.loop-p.tally c.add_to.new.tally) c.page_of-page.ensures c.add_to.ensures)

pub returns : goal.returns
returns c = let e : c.loop-p.p ≡ length c.args.segment.now / 16384 = omega arith in filled_all c.args.segment.now c.loop-p.tally (rw e at c.loop-p.invariant)
