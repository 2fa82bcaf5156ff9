use mathlib.Core.Path.{◌≡◌, sym, ◌∙◌}
use mathlib.Core.Bool.{true}
use native.Mathlib.Omega.{arith}
use Rattle.store.specs.Page.{sound}
use Rattle.store.specs.Segment.{seg_view}
use Rattle.segment_insert.proofs.KnownLaws.{more_known}
use Rattle.segment_insert.proofs.rows.known_sound.Goals as goal

-- it was looked at and is sound: one page more is known
pub returns-else-not-page_sound : goal.returns-else-not-page_sound
returns-else-not-page_sound c =
    let s = c.args.segment.now in
    let is : sound ((seg_view s).page c.args.p) ≡ true = sym c.page_sound.ensures ∙ c.if-not-page_sound.false in
    (sym is, more_known s _ c.requires.known_sound _ c.args.p (omega arith) (record { whole = c.requires.within; sound = is }))
