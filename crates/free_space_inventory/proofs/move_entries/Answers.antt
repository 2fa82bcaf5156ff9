use mathlib.Core.Path.{◌∙◌}
use mathlib.Core.Logic.{inl, inr}
use native.Mathlib.Omega.{arith}
use Rattle.free_space_inventory.proofs.Search.{placed_none, placed_more, searched_none, searched_here, searched_next, Left}
use Rattle.free_space_inventory.proofs.Search.{left_none, left_over}
use Rattle.free_space_inventory.proofs.move_entries.Goals.{Joined-old-u}
use Rattle.free_space_inventory.proofs.move_entries.Goals.{then-old-u+else-pages-test, then-old-u+then-pages-test+else-u-nibble+then-loop-u-test+then-u-old}
use Rattle.free_space_inventory.proofs.move_entries.Goals.{else-old-u}
use Rattle.free_space_inventory.proofs.move_entries.Goals as goal

pub overflow_step-p : goal.overflow_step-p
overflow_step-p c = omega arith

pub pages-init : goal.pages-init
pages-init c = (searched_none _ _ _ _ _ _ (omega arith) (omega arith) c.requires.page_lt_n.0, c.if-old-u.true)

pub overflow_add-p : goal.overflow_add-p
overflow_add-p c = omega arith

pub read_nibble-nibble-requires : goal.read_nibble-nibble-requires
read_nibble-nibble-requires c = omega arith

pub overflow_step-p-then-u-nibble : goal.overflow_step-p-then-u-nibble
overflow_step-p-then-u-nibble c = omega arith

pub pages-smaller-then-u-nibble : goal.pages-smaller-then-u-nibble
pages-smaller-then-u-nibble c = omega arith

pub pages-preserved-then-u-nibble : goal.pages-preserved-then-u-nibble
pages-preserved-then-u-nibble c =
    (searched_next c.pages.invariant.0 c.pages-test.true (omega (arith, c.read_nibble-nibble.ensures.0)), c.pages.invariant.1)

pub loop-u-init : goal.loop-u-init
loop-u-init c = (placed_none _ _ _ _ _ (omega arith), c.pages.invariant.1)

pub overflow_sub-u : goal.overflow_sub-u
overflow_sub-u c = omega arith

pub write_entry-requires : goal.write_entry-requires
write_entry-requires c = omega arith

pub loop-u-smaller : goal.loop-u-smaller
loop-u-smaller c = omega arith

pub loop-u-preserved : goal.loop-u-preserved
loop-u-preserved c =
    (placed_more _ c.write_entry.ensures c.loop-u.invariant.0 c.loop-u.invariant.1 c.loop-u-test.true (omega arith), omega arith)

pub overflow_step-p-in-pages : goal.overflow_step-p-in-pages
overflow_step-p-in-pages c = omega arith

pub pages-smaller : goal.pages-smaller
pages-smaller c = omega arith

pub pages-preserved : goal.pages-preserved
pages-preserved c =
    let q = c.loop-u.invariant.0 in (
      searched_next (searched_here c.pages.invariant.0 c.pages-test.true c.read_nibble-nibble.ensures.0 q) c.pages-test.true
          (omega (arith, q.same c.pages.p, c.read_nibble-nibble.ensures.0)),
      c.loop-u.invariant.1,
    )

joined : (c : Joined-old-u)
    → Left c.args.inventory.now c.args.n c.args.page c.args.old
    c.args.end c.if-old-u.inventory c.if-old-u.u
joined c =
    elim c.if-old-u.branch [
      | then-old-u+else-pages-test w ↦ rw (w.inventory-is, w.u-is) (left_over w.pages.invariant.0 (inl w.pages-test.false))
      | then-old-u+then-pages-test+else-u-nibble+then-loop-u-test+then-u-old w ↦
          rw (w.inventory-is, w.u-is)
          (left_over
          (searched_here w.pages.invariant.0 w.pages-test.true w.read_nibble-nibble.ensures.0
          (placed_more _ w.write_entry.ensures w.loop-u.invariant.0 w.loop-u.invariant.1 w.loop-u-test.true
          (omega (arith, w.loop-u.invariant.0.hi, w.pages.invariant.0.hi))))
          (inr w.if-u-old.true))
      | else-old-u w ↦ rw (w.inventory-is, w.u-is) (left_none _ _ _ _ _ w.if-old-u.false)
    ]

pub fill_entries-requires : goal.fill_entries-requires
fill_entries-requires c = let j = joined (goal.at.fill_entries-requires c).Joined-old-u in omega arith

pub returns : goal.returns
returns c = c.fill_entries.ensures ∙ (joined (goal.at.returns c).Joined-old-u).all
