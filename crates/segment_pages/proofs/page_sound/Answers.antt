use mathlib.Core.Path.{sym, ap, ◌∙◌}
use mathlib.Core.List.{List}
use Prim.Native.Nat.{ℕ}
use Rattle.store.specs.Page.{view, sound}
use Rattle.segment_pages.proofs.Seen.{seen_sound}
use Rattle.segment_pages.proofs.page_sound.Goals.{Start}
use Rattle.segment_pages.proofs.page_sound.Goals as goal

pub returns : goal.returns
returns c =
    let entry = (goal.at.returns c).Start in
    c.is_sound.ensures ∙ ap (λ (q : List ℕ). sound (view q)) c.page_of.ensures
    ∙ sym (seen_sound entry.args.segment.now entry.args.p)
