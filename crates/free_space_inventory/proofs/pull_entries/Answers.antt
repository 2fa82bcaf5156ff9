use mathlib.Core.Path.{◌∙◌, sym, ap}
use native.Mathlib.Omega.{arith}
use Rattle.store.specs.Inventory.{pulled_back}
use Rattle.free_space_inventory.proofs.Turns.{pull_turn, pull_stop, pull_done}
use Rattle.free_space_inventory.proofs.pull_entries.Goals as goal

pub returns-then-read_entry-page : goal.returns-then-read_entry-page
returns-then-read_entry-page c = sym (pull_stop _ _ _ (omega arith) (omega (arith, c.read_entry.ensures))) ∙ c.loop-c.invariant

pub loop-c-preserved : goal.loop-c-preserved
loop-c-preserved c =
    ap (pulled_back _ _ _) c.write_entry.ensures
    ∙ sym (pull_turn _ _ _ (omega arith) (omega (arith, c.if-read_entry-page.false, c.read_entry.ensures))) ∙ c.loop-c.invariant

pub returns : goal.returns
returns c = sym (pull_done _ _ _ (omega arith)) ∙ c.loop-c.invariant
