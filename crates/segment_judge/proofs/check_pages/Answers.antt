use Prim.Native.Nat.{ℕ, ◌/◌}
use mathlib.Core.Path.{◌≡◌, sym, ap, subst, ◌∙◌}
use mathlib.Core.List.{List}
use native.Mathlib.Omega.{arith}
use lib.ListN.{length, replicate}
use Rattle.store.specs.Page.{view, sound}
use Rattle.store.specs.Segment.{page_of}
use Rattle.page_check.proofs.MapLaws.{blank_words}
use Rattle.segment_judge.proofs.CheckLaws.{Swept, swept_none, swept_mark, swept_skip, swept_all}
use Rattle.segment_judge.proofs.check_pages.Goals.{After-is_sound, then-is_sound, else-is_sound}
use Rattle.segment_judge.proofs.check_pages.Goals as goal

pub loop-p-init : goal.loop-p-init
loop-p-init c = swept_none _ (replicate 509 0) (blank_words 509)

-- whether page p is sound
told : (c : After-is_sound)
    → c.is_sound.result ≡ sound (view (page_of c.args.segment.now c.loop-p.p))
told c = c.is_sound.ensures ∙ ap (λ (q : List ℕ). sound (view q)) c.page_of.ensures

pub set_mark-requires : goal.set_mark-requires
set_mark-requires c = (omega (arith, c.requires), λ i a b. c.loop-p.invariant.rest i a)

pub loop-p-preserved : goal.loop-p-preserved
loop-p-preserved c =
    elim c.if-is_sound.branch [
      | then-is_sound w ↦ rw w.sound-is (swept_mark _ _ _ c.loop-p.invariant _ w.set_mark.ensures.0
          (sym (told (goal.at.loop-p-preserved c).After-is_sound) ∙ w.if-is_sound.true))
      | else-is_sound w ↦ rw w.sound-is (swept_skip _ _ _ c.loop-p.invariant (sym (told (goal.at.loop-p-preserved c).After-is_sound) ∙ w.if-is_sound.false))
    ]

pub returns : goal.returns
returns c =
    let s = c.args.segment.now in
    let e : c.loop-p.p ≡ length s / 16384 = omega arith in
    swept_all s _ c.requires (subst (λ (p : ℕ). Swept s p c.loop-p.sound) e c.loop-p.invariant)
