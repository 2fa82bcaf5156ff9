use mathlib.Core.Path.{ap, ◌∙◌}
use Prim.Native.Nat.{ℕ}
use lib.Dec.{leb}
use mathlib.Core.List.{List}
use Rattle.store.specs.Numbers.{page_no, slot_no}
use Rattle.store.specs.Page.{View, view}
use Rattle.store.proofs.Laws.Calls.{page_ok}
use Rattle.segment_forward.proofs.fits_home.Goals as goal

-- the page is in use, so it says what is seen of it
pub returns : goal.returns
returns c =
    let a = c.args in
    let ok = page_ok a.segment.now (page_no a.id) (slot_no a.id) c.requires.whole c.requires.sound c.requires.taken in
    ap (leb a.size) (c.get_free_space.ensures.0 ∙ ap (λ (l : List ℕ). (view l).free_space) c.page_of.ensures
    ∙ ap (λ (v : View). v.free_space) ok.seen)
