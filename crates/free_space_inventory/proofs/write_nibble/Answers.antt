use borrow.Author.Tests.{eq-eqb, ne_eqb}
use Rattle.store.specs.Inventory.{set_nibble}
use Rattle.free_space_inventory.proofs.write_nibble.Goals as goal

pub returns-then-j-eq0 : goal.returns-then-j-eq0
unfolding set_nibble
returns-then-j-eq0 c = rw (eq-eqb _ _ c.if-j-eq0.true, c.from-b.ensures)

pub returns-else-j-eq0 : goal.returns-else-j-eq0
unfolding set_nibble
returns-else-j-eq0 c = rw (ne_eqb _ _ c.if-j-eq0.false, c.from-b.ensures)
