use Prim.Native.Nat.{◌+◌, ◌<◌}
use mathlib.Core.Path.{◌≡◌, sym, ap, ◌∙◌}
use mathlib.Core.List.{◌++◌}
use native.Mathlib.Omega.{arith}
use lib.ListN.{length, length-append}
use Rattle.store.specs.Page.{view}
use Rattle.exchange.specs.Words.{part_file, part_length}
use Rattle.exchange.proofs.LeftLaws.{file_from, part_length_lem, file_next, file_none}
use Rattle.exchange.proofs.WriteLaws.{left_next, left_none}
use Rattle.exchange.specs.declared.parts.Part.{Part}
use Rattle.exchange.proofs.write.write_page.Goals.{After-part_on, In-loop-k}
use Rattle.exchange.proofs.write.write_page.Goals as goal

counted : (c : In-loop-k) → c.loop-k.k < (view c.args.page.now).slot_count
counted c = omega (arith, c.get_slot_count-k-end.ensures.0)

-- what is left is the part that slot k is and the rest
module _ (c : After-part_on) where
  next : file_from (view c.args.page.now) c.loop-k.k
      ≡ part_file c.args.page.now c.part_on.result ++ file_from (view c.args.page.now) (c.loop-k.k + 1)
  next =
      file_next _ c.told-page c.requires.page_sound c.loop-k.k (counted (goal.at.After-part_on c).In-loop-k)
      ∙ ap (λ (a : Part). part_file c.args.page.now a ++ file_from (view c.args.page.now) (c.loop-k.k + 1)) (sym c.part_on.ensures.0)

  as_long : length (part_file c.args.page.now c.part_on.result) ≡ part_length c.part_on.result
  as_long = part_length_lem c.args.page.now c.part_on.result c.part_on.ensures.1

pub write_part-to-requires-clause-part_in_bounds : goal.write_part-to-requires-clause-part_in_bounds
write_part-to-requires-clause-part_in_bounds c =
    let h = c.loop-k.invariant in
    let g = (goal.at.write_part-to-requires-clause-part_in_bounds c).After-part_on in
    let a = ap length (next g) ∙ length-append (part_file c.args.page.now c.part_on.result) (file_from (view c.args.page.now) (c.loop-k.k + 1)) in
    omega (arith, as_long g, h.room, h.long, c.requires.page_in_bounds)

pub loop-k-preserved : goal.loop-k-preserved
loop-k-preserved c =
    let g = (goal.at.loop-k-preserved c).After-part_on in
    left_next _ _ _ _ _ _ c.loop-k.invariant _ _ (next g) _ (as_long g) _ c.write_part-to.ensures.0 _ c.write_part-to.ensures.1

pub returns : goal.returns
returns c = left_none _ _ _ _ _ _ c.loop-k.invariant (file_none _ c.loop-k.k (omega (arith, c.get_slot_count-k-end.ensures.0)))
