use Prim.Native.Nat.{ℕ, ◌+◌, ◌*◌}
use mathlib.Core.Path.{sym, ap, ◌∙◌}
use mathlib.Core.List.{List}
use Rattle.store.specs.Numbers.{cut, be}
use Rattle.store.specs.Repair.{changes}
use Rattle.page_repair.proofs.MendLaws.{differs}
use Rattle.segment_judge.proofs.RowLaws.{slot_used, sound_judged, stay_more, stay_fails, low_stays}
use Rattle.segment_judge.proofs.Judge.all_stay.Goals.{
  else-get_u32-ge-REDIRECT-via-then-get_u32-ge-REDIRECT+else-ne,
  else-get_u32-ge-REDIRECT-via-else-get_u32-ge-REDIRECT,
}
use Rattle.segment_judge.proofs.Judge.all_stay.Goals as goal

pub judge_slot-requires : goal.judge_slot-requires
judge_slot-requires c =
    let used = slot_used _ _ _ c.loop-k.k c.requires.0 c.loop-k-test.true in
    (used, sym (sound_judged _ _ _ used c.requires.1))

pub returns-then-ne : goal.returns-then-ne
returns-then-ne c =
    let a = c.args in
    stay_fails a.self.now.segment.now a.p c.loop-k.k a.n c.loop-k-test.true
    (ap changes (sym c.judge_slot.ensures) ∙ differs c.judge_slot.result c.ne.ensures ∙ c.if-ne.true)

pub loop-k-preserved : goal.loop-k-preserved
loop-k-preserved c =
    let a = c.args in
    let used = slot_used _ _ _ c.loop-k.k c.requires.0 c.loop-k-test.true in
    let half = c.get_u32.ensures.is ∙ ap (λ (q : List ℕ). be (cut q (12 + 8 * c.loop-k.k) 4)) c.page-page.ensures in
    stay_more a.self.now.segment.now a.p c.loop-k.k c.loop-k.invariant
    (elim c.else-get_u32-ge-REDIRECT.branch [
      | else-get_u32-ge-REDIRECT-via-then-get_u32-ge-REDIRECT+else-ne w ↦
          ap changes (sym w.judge_slot.ensures) ∙ differs w.judge_slot.result w.ne.ensures ∙ w.if-ne.false
      | else-get_u32-ge-REDIRECT-via-else-get_u32-ge-REDIRECT w ↦
          low_stays _ _ _ used c.requires.1 c.args.self.now.bytes _ half w.if-get_u32-ge-REDIRECT.false
    ])
