use Prim.Native.Nat.{ℕ}
use mathlib.Core.Path.{sym, ap, ◌∙◌}
use mathlib.Core.List.{List}
use Rattle.store.specs.Page.{view}
use Rattle.store.specs.Segment.{page_of}
use Rattle.store.specs.Repair.{keeps}
use Rattle.store.proofs.Laws.Segments.{length_page}
use Rattle.store.proofs.Laws.RepairAlone.{record_by}
use Rattle.segment_judge.proofs.HoldLaws.{sound_keeps, kept_asks}
use Rattle.segment_judge.proofs.Judge.target_kept.Goals as goal

pub returns-then-is_sound : goal.returns-then-is_sound
returns-then-is_sound c =
    let s = c.args.self.now.segment.now in
    let p = c.args.p in
    let k = c.args.k in
    let used = c.requires.0 in
    let yes = c.if-is_sound.true in
    yes ∙ sym (sound_keeps (page_of s p) k (length_page s p used.within) (c.is_sound.ensures yes) used.counted
    (record_by ((view (page_of s p)).at k) c.requires.1))

pub is_kept-requires : goal.is_kept-requires
is_kept-requires c =
    kept_asks c.args.self.now.segment.now c.args.p c.args.k _ c.page.ensures c.requires.0 c.requires.1

pub returns-else-is_sound : goal.returns-else-is_sound
returns-else-is_sound c =
    c.is_kept.ensures ∙ ap (λ (q : List ℕ). keeps (view q) c.args.k) c.page.ensures
