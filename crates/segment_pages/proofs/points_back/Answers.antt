use mathlib.Core.Path.{◌≡◌, sym, ◌∙◌}
use mathlib.Core.Bool.{true}
use native.Mathlib.Omega.{arith}
use Rattle.store.specs.Numbers.{page_no}
use Rattle.store.specs.Page.{sound}
use Rattle.store.specs.Segment.{seg_view}
use Rattle.segment_pages.proofs.Seen.{few_slots}
use Rattle.segment_pages.proofs.Back.{elsewhere, back_lost, inside, target_inside, back_target}
use Rattle.segment_pages.proofs.points_back.Goals.{Else-not-elsewhere, Else-not-page_sound}
use Rattle.segment_pages.proofs.points_back.Goals as goal

-- what the tests told
there : (c : Else-not-elsewhere) → let a = c.args in elsewhere a.segment.now a.i a.t ≡ true
there c = sym c.elsewhere.ensures ∙ c.if-not-elsewhere.false

told : (c : Else-not-page_sound)
    → let a = c.args in
    (elsewhere a.segment.now a.i a.t ≡ true) × (sound ((seg_view a.segment.now).page (page_no a.t)) ≡ true)
told c = (there (goal.at.Else-not-page_sound c).Else-not-elsewhere, sym c.page_sound.ensures ∙ c.if-not-page_sound.false)

pub returns-then-not-elsewhere : goal.returns-then-not-elsewhere
returns-then-not-elsewhere c =
    let a = c.args in
    back_lost a.segment.now a.i a.t (sym c.elsewhere.ensures ∙ c.if-not-elsewhere.true)

pub slot_on-requires-clause-p_bound : goal.slot_on-requires-clause-p_bound
slot_on-requires-clause-p_bound c =
    let a = c.args in
    let t = told (goal.at.slot_on-requires-clause-p_bound c).Else-not-page_sound in
    few_slots a.segment.now (page_no a.t) (inside a.segment.now a.i a.t t.0) t.1

pub back_id_on-requires-clause-offset_bound : goal.back_id_on-requires-clause-offset_bound
back_id_on-requires-clause-offset_bound c =
    let a = c.args in
    let t = told (goal.at.back_id_on-requires-clause-offset_bound c).Else-not-page_sound in
    let w = target_inside a.segment.now a.i a.t t.0 t.1 c.in-Target.offset c.in-Target.length c.in-Target.ensures.0 in
    omega (arith, w.0, w.1)

pub returns : goal.returns
returns c =
    let a = c.args in
    let t = told (goal.at.returns c).Else-not-page_sound in
    back_target a.segment.now a.i a.t t.0 t.1 c.in-Target.offset c.in-Target.length c.in-Target.ensures.0 c.back_id_on.result c.back_id_on.ensures
