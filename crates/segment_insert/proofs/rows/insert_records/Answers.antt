use mathlib.Core.Path.{◌≡◌, sym, ◌∙◌}
use mathlib.Core.Bool.{true, ◌&&◌}
use lib.ListN.{length}
use lib.Dec.{eqb}
use borrow.Author.Tests.{eqb-true}
use Rattle.store.specs.Segment.{size_ok, inv_ok}
use Rattle.store.specs.ManyRows.{total}
use Rattle.store.proofs.Laws.ManyRows.{list_right, by_size, by_list, rows_placed}
use Rattle.segment_insert.proofs.RowsLaws.{no_places, no_sum}
use Rattle.segment_insert.proofs.rows.insert_records.Goals.{Else-not-sizes_ok, Else-not-sum_to}
use Rattle.segment_insert.proofs.rows.insert_records.Goals as goal

-- what the tests told
sizes_here : (c : Else-not-sizes_ok) → let a = c.args in (size_ok a.segment.now && inv_ok a.inventory.now) ≡ true
sizes_here c = sym c.sizes_ok.ensures ∙ c.if-not-sizes_ok.false

sum_here : (c : Else-not-sum_to) → let a = c.args in eqb (total a.lengths.now) (length a.rows.now) ≡ true
sum_here c = sym c.sum_to.ensures ∙ c.if-not-sum_to.false

pub returns-then-not-sizes_ok : goal.returns-then-not-sizes_ok
returns-then-not-sizes_ok c =
    let a = c.args in (
      sym (by_size a.segment.now a.inventory.now a.rows.now a.lengths.now a.ids.now
          (sym c.sizes_ok.ensures ∙ c.if-not-sizes_ok.true)),
      tt,
    )

pub returns-then-ids-lengths : goal.returns-then-ids-lengths
returns-then-ids-lengths c =
    let a = c.args in (
      sym (by_list a.segment.now a.inventory.now a.rows.now a.lengths.now a.ids.now (sizes_here (goal.at.returns-then-ids-lengths c).Else-not-sizes_ok)
          (no_places a.rows.now a.lengths.now a.ids.now c.if-ids-lengths.true)),
      tt,
    )

pub returns-then-not-sum_to : goal.returns-then-not-sum_to
returns-then-not-sum_to c =
    let a = c.args in (
      sym (by_list a.segment.now a.inventory.now a.rows.now a.lengths.now a.ids.now (sizes_here (goal.at.returns-then-not-sum_to c).Else-not-sizes_ok)
          (no_sum a.rows.now a.lengths.now a.ids.now (sym c.sum_to.ensures ∙ c.if-not-sum_to.true))),
      tt,
    )

pub returns : goal.returns
returns c =
    let e = c.insert_rows.ensures in
    let h = sizes_here (goal.at.returns c).Else-not-sizes_ok in
    let a = c.args in (
      e.0 ∙ sym (rows_placed a.segment.now a.inventory.now a.rows.now a.lengths.now a.ids.now h
          (list_right a.rows.now a.lengths.now a.ids.now (eqb-true _ _ (sum_here (goal.at.returns c).Else-not-sum_to)) c.if-ids-lengths.false)),
      e.1,
    )
