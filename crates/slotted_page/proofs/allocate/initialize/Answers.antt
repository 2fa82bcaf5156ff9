use mathlib.Core.Path.{◌∙◌}
use Rattle.slotted_page.proofs.FreshLaws.{head_init}
use Rattle.slotted_page.proofs.allocate.initialize.Goals as goal

pub returns : goal.returns
returns c = c.write.ensures ∙ head_init c.args.page.now
