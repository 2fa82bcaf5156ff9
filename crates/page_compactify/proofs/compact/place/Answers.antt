use Rattle.page_compactify.specs.Keys.{move_key}
use Rattle.page_compactify.proofs.compact.place.Goals as goal

pub returns : goal.returns
unfolding move_key
returns c = cc
