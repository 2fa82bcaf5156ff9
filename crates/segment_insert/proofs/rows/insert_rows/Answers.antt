use Prim.Native.Nat.{ℕ}
use mathlib.Core.Path.{◌≡◌, sym, ap, ◌∙◌}
use native.Mathlib.Omega.{arith}
use lib.ListN.{length}
use Rattle.store.specs.Segment.{insert_step}
use Rattle.store.specs.Answers.{outcome}
use Rattle.std.proofs.Common.{Result}
use Rattle.store.specs.declared.Refusal.{Refusal}
use Rattle.segment_insert.proofs.RowsLaws.{row, left_none, left_stop, left_next}
use Rattle.segment_insert.proofs.rows.insert_rows.Goals.{After-insert_row}
use Rattle.segment_insert.proofs.rows.insert_rows.Goals as goal

-- the row's answer is what the definition gives for it
is_step : (c : After-insert_row) →
    let a = c.args in
    outcome c.insert_row.result c.insert_row.new.segment c.insert_row.new.inventory
    ≡ insert_step c.loop-k.segment c.loop-k.inventory (row a.rows.now a.lengths.now c.loop-k.at c.loop-k.k)
is_step c = c.insert_row.ensures.0

pub returns-in-Err : goal.returns-in-Err
returns-in-Err c =
    let a = c.args in
    let i = c.loop-k in
    let s = c.insert_row.new.segment in
    let v = c.insert_row.new.inventory in
    left_stop a.segment.now a.inventory.now a.rows.now a.lengths.now a.ids.now i.segment i.inventory i.ids i.known
    i.at i.k i.invariant c.loop-k-test.true s v _
    (ap (λ (r : Result ℕ Refusal). outcome r s v) (sym c.in-Err.is) ∙ is_step (goal.at.returns-in-Err c).After-insert_row)

pub loop-k-preserved : goal.loop-k-preserved
loop-k-preserved c =
    let a = c.args in
    let i = c.loop-k in
    let s = c.insert_row.new.segment in
    let v = c.insert_row.new.inventory in
    left_next a.segment.now a.inventory.now a.rows.now a.lengths.now a.ids.now i.segment i.inventory i.ids i.known
    i.at i.k i.invariant c.loop-k-test.true s v _
    (ap (λ (r : Result ℕ Refusal). outcome r s v) (sym c.in-Ok.is) ∙ is_step (goal.at.loop-k-preserved c).After-insert_row) _ c.insert_row.ensures.1

pub returns : goal.returns
returns c =
    let a = c.args in
    let i = c.loop-k in
    let all : i.k ≡ length a.lengths.now = omega (arith, i.invariant.few) in (
      rw (← all) (left_none a.segment.now a.inventory.now a.rows.now a.lengths.now a.ids.now i.segment i.inventory i.ids i.known
          i.at i.k i.invariant c.loop-k-test.false),
      tt,
    )
