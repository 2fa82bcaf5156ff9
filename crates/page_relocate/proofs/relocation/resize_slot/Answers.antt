use mathlib.Core.Path.{◌≡◌, sym, ap, ◌∙◌}
use mathlib.Core.Bool.{true}
use native.Mathlib.Omega.{arith}
use Rattle.store.specs.Slots.{len, is_record}
use Rattle.store.specs.Page.{View, view}
use Rattle.page_relocate.proofs.RelocationLaws.{resize_more, Parked, parked_by, grow_done}
use Rattle.page_relocate.proofs.relocation.resize_slot.Goals.{After-offset-offset, After-park}
use Rattle.page_relocate.proofs.relocation.resize_slot.Goals as goal

-- where the record's length is read
module _ (c : After-offset-offset) where
  abbrev page : View
  page = view c.args.page.now

  length_is : c.len-n.result ≡ len (page.at c.args.k)
  length_is = c.len-n.ensures ∙ ap len c.requires.s_value.0

  holds_record : is_record (page.at c.args.k) ≡ true
  holds_record = ap is_record (sym c.requires.s_value.0) ∙ c.requires.s_value.1

module _ (c : After-park) where
  parked : Parked c.args.page.now c.args.k c.park.new.page
  parked =
      parked_by c.args.page.now c.args.k c.len-n.result c.args.s c.park.new.page c.requires.used_slot c.requires.s_value.0 c.requires.s_value.1
      c.len-n.ensures c.park.ensures

pub put_under-d-requires : goal.put_under-d-requires
put_under-d-requires c =
    record {
      used_slot = (parked (goal.at.put_under-d-requires c).After-park).used;
      size_bound = rw (parked (goal.at.put_under-d-requires c).After-park).seen (omega (arith, length_is (goal.at.put_under-d-requires c).After-offset-offset));
    }

pub returns : goal.returns
returns c =
    let a = c.args in
    let g = grow_done a.page.now a.k c.len-n.result a.s c.park.new.page c.requires.used_slot c.requires.s_value.0 c.requires.s_value.1
    c.len-n.ensures a.size c.put_under-d.new.page c.park.ensures c.put_under-d.ensures.0 in
    let y = resize_more (page (goal.at.returns c).After-offset-offset) a.k a.size c.len-n.result a.page.now c.put_under-d.new.page
    (length_is (goal.at.returns c).After-offset-offset)
    (holds_record (goal.at.returns c).After-offset-offset) c.get_free_space-room.result c.put_under-d.result c.get_free_space-room.ensures.0
    (omega arith) (omega arith) g (rw (parked (goal.at.returns c).After-park).seen at c.put_under-d.ensures.1) in
    (y.0, y.1, c.put_under-d.ensures.2)
