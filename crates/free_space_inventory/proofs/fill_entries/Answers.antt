use mathlib.Core.Path.{◌∙◌, sym, ap}
use Rattle.store.specs.Inventory.{set_from}
use Rattle.free_space_inventory.proofs.Turns.{down_turn, down_done}
use Rattle.free_space_inventory.proofs.fill_entries.Goals as goal

pub loop-u-preserved : goal.loop-u-preserved
loop-u-preserved c = ap (set_from _ _ _) c.write_entry.ensures ∙ sym (down_turn _ _ _ _ c.loop-u-test.true) ∙ c.loop-u.invariant

pub returns : goal.returns
returns c = sym (down_done _ _ _ _ c.loop-u-test.false) ∙ c.loop-u.invariant
