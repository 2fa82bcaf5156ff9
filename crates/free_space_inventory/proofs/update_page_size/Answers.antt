use mathlib.Core.Path.{◌∙◌, ap}
use native.Mathlib.Omega.{arith}
use Rattle.store.specs.Inventory.{updated, update}
use Rattle.free_space_inventory.proofs.Update.{class_le, update_none, update_some}
use Rattle.free_space_inventory.proofs.update_page_size.Goals as goal

pub write_nibble-requires : goal.write_nibble-requires
write_nibble-requires c = omega (arith, class_le _ _ c.class_of-new.ensures)

pub run_end-end-requires : goal.run_end-end-requires
run_end-end-requires c = omega (arith, class_le _ _ c.class_of-new.ensures)

pub returns-then-old-new : goal.returns-then-old-new
unfolding update
returns-then-old-new c =
    update_some _ _ _ _ _ c.read_nibble-old.ensures.0 c.if-old-new.true _ _ _ _ c.write_nibble.ensures c.run_end-end.ensures.0
    c.move_entries.ensures c.pull_entries.ensures
    ∙ ap (updated _ _ _) c.class_of-new.ensures

pub returns-else-old-new : goal.returns-else-old-new
unfolding update
returns-else-old-new c =
    update_none _ _ _ _ _ c.read_nibble-old.ensures.0 c.if-old-new.false ∙ ap (updated _ _ _) c.class_of-new.ensures
