use mathlib.Core.Path.{sym, ap, ◌∙◌}
use mathlib.Core.List.{List}
use Prim.Native.Nat.{ℕ}
use native.Mathlib.Omega.{arith}
use Rattle.store.specs.Page.{view}
use Rattle.segment_pages.proofs.Seen.{seen_count, seen_at}
use Rattle.segment_pages.proofs.slot_on.Goals.{Start}
use Rattle.segment_pages.proofs.slot_on.Goals as goal

pub slot_of-requires : goal.slot_of-requires
slot_of-requires c =
    let entry = (goal.at.slot_of-requires c).Start in
    let s = entry.args.segment.now in
    let p = entry.args.p in
    omega (arith, ap (λ (q : List ℕ). (view q).slot_count) c.page_of.ensures, seen_count s p entry.requires.within, entry.requires.p_bound)

pub returns : goal.returns
returns c =
    let entry = (goal.at.returns c).Start in
    let s = entry.args.segment.now in
    let k = entry.args.k in (
      c.slot_of.ensures.0 ∙ ap (λ (q : List ℕ). (view q).at k) c.page_of.ensures ∙ sym (seen_at s entry.args.p entry.requires.within k),
      c.slot_of.ensures.1,
    )
