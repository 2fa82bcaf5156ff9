use mathlib.Core.Path.{sym, ap, ◌∙◌}
use Rattle.store.specs.Slots.{is_record}
use Rattle.segment_scan.proofs.Records.{record_plain, record_target}
use Rattle.segment_scan.proofs.record_at.Goals as goal

pub returns-then-is_target : goal.returns-then-is_target
returns-then-is_target c =
    let a = c.args in
    let r = c.requires in
    record_target a.segment.now a.p a.k r.lies _ r.entry _ _ c.offset-o.ensures c.len-l.ensures
    (sym c.is_target.ensures ∙ c.if-is_target.true) _ c.back_id_on-root.ensures

pub returns : goal.returns
returns c =
    let a = c.args in
    let r = c.requires in
    record_plain a.segment.now a.p a.k r.lies _ r.entry _ _ c.offset-o.ensures c.len-l.ensures
    (ap is_record r.entry ∙ r.record_on.holds) (sym c.is_target.ensures ∙ c.if-is_target.false)
