use Prim.Native.Nat.{ℕ}
use mathlib.Core.Path.{◌≡◌, sym, ap, ◌∙◌}
use mathlib.Core.List.{List}
use Rattle.store.specs.Page.{View, view, lies_well}
use Rattle.store.specs.Segment.{seg_view}
use Rattle.segment_scan.proofs.Records.{lies_seen, record_no, record_yes}
use Rattle.segment_scan.proofs.record_or_damage.Goals.{After-lies_well}
use Rattle.segment_scan.proofs.record_or_damage.Goals as goal

abbrev page : After-lies_well → View
page c = (seg_view c.args.segment.now).page c.args.p

-- the test is the definition's
lies : (c : After-lies_well) → c.lies_well.result ≡ lies_well (page c) c.args.k
lies c =
    let a = c.args in
    c.lies_well.ensures ∙ lies_seen a.segment.now a.p a.k _ _ c.requires.record_on.holds
    (c.get_data_start-d.ensures.0 ∙ ap (λ (q : List ℕ). (view q).data_start) c.page_of.ensures) c.slot_on-s.ensures.0

pub returns-then-not-lies_well : goal.returns-then-not-lies_well
returns-then-not-lies_well c =
    let a = c.args in
    record_no (page (goal.at.returns-then-not-lies_well c).After-lies_well) a.p a.k
    (sym (lies (goal.at.returns-then-not-lies_well c).After-lies_well) ∙ c.if-not-lies_well.true)

pub record_at-requires : goal.record_at-requires
record_at-requires c =
    record {
      whole = c.requires.counted.whole;
      record_on = c.requires.record_on;
      entry = c.slot_on-s.ensures.0;
      lies = sym (lies (goal.at.record_at-requires c).After-lies_well) ∙ c.if-not-lies_well.false;
    }

pub returns : goal.returns
returns c =
    let a = c.args in
    c.record_at.ensures ∙ record_yes (page (goal.at.returns c).After-lies_well) a.p a.k
    (sym (lies (goal.at.returns c).After-lies_well) ∙ c.if-not-lies_well.false)
