use Rattle.store.specs.Page.{view}
use Rattle.store.specs.PageSteps.{compactify}
use Rattle.page_compactify.proofs.PackLaws.{keys_ready, keys_slots}
use Rattle.page_compactify.proofs.compact.compactify.Goals as goal

pub pack-requires : goal.pack-requires
pack-requires c = rw (c.keys.ensures, c.collect.ensures, c.get_slot_count.ensures.0) (keys_ready (view c.args.page.now) c.requires)

pub returns : goal.returns
unfolding compactify
returns c =
    rw (c.keys.ensures, c.collect.ensures, c.get_slot_count.ensures.0, keys_slots (view c.args.page.now) c.requires) at c.pack.ensures
