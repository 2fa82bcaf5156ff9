use Rattle.store.specs.Inventory.{entry_at}
use borrow.Author.Rules.{rules}
use Rattle.free_space_inventory.proofs.read_entry.Goals as goal

pub returns : goal.returns
unfolding entry_at
returns c = search rules
