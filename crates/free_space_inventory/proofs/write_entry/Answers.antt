use Rattle.store.specs.Inventory.{set_entry}
use borrow.Author.Rules.{rules}
use Rattle.free_space_inventory.proofs.write_entry.Goals as goal

pub returns : goal.returns
unfolding set_entry
returns c = search rules
