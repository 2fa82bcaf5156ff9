use mathlib.Core.Path.{◌≡◌, sym, ◌∙◌}
use mathlib.Core.Bool.{true}
use Prim.Native.Nat.{◌*◌, ◌+◌, ◌≤◌}
use native.Mathlib.Omega.{arith}
use lib.ListN.{length}
use Rattle.store.specs.Numbers.{page_no}
use Rattle.store.specs.Page.{sound}
use Rattle.store.specs.Segment.{seg_view}
use Rattle.segment_pages.proofs.Seen.{few_slots}
use Rattle.segment_pages.proofs.Root.{root_past, root_damaged, root_found}
use Rattle.segment_pages.proofs.root_of.Goals.{Else-not-page_sound, Else-segment-p}
use Rattle.segment_pages.proofs.root_of.Goals as goal

pub returns-then-segment-p : goal.returns-then-segment-p
returns-then-segment-p c =
    let a = c.args in
    root_past a.segment.now a.id c.if-segment-p.true

pub returns-then-not-page_sound : goal.returns-then-not-page_sound
returns-then-not-page_sound c =
    let there = (goal.at.returns-then-not-page_sound c).Else-segment-p in
    let a = there.args in
    root_damaged a.segment.now a.id there.if-segment-p.false (sym c.page_sound.ensures ∙ c.if-not-page_sound.true)

-- the page is there, and sound
sound_here : (c : Else-not-page_sound) → let a = c.args in sound ((seg_view a.segment.now).page (page_no a.id)) ≡ true
sound_here c = sym c.page_sound.ensures ∙ c.if-not-page_sound.false

pub slot_on-requires-clause-p_bound : goal.slot_on-requires-clause-p_bound
slot_on-requires-clause-p_bound c =
    let a = c.args in
    let s = a.segment.now in
    let inside : page_no a.id * 16384 + 16384 ≤ length s = omega arith in
    few_slots s (page_no a.id) inside (sound_here (goal.at.slot_on-requires-clause-p_bound c).Else-not-page_sound)

pub returns : goal.returns
returns c =
    let found = (goal.at.returns c).Else-not-page_sound in
    let there = (goal.at.Else-not-page_sound found).Else-segment-p in
    let a = there.args in
    root_found a.segment.now a.id there.if-segment-p.false (sound_here found) c.slot_on.result c.slot_on.ensures.0
