use mathlib.Core.Path.{◌≡◌, refl, sym, ap, ◌∙◌}
use mathlib.Core.Bool.{true}
use mathlib.Core.List.{List}
use Prim.Native.Nat.{ℕ, ◌+◌}
use native.Mathlib.Omega.{arith}
use Rattle.store.specs.Numbers.{to_be}
use Rattle.store.specs.Slots.{off}
use Rattle.store.specs.PageSteps.{relocate}
use Rattle.store.specs.Page.{view}
use Rattle.page_relocate.specs.Words.{was_moved}
use Rattle.page_relocate.proofs.RecordLaws.{Kept, target_kept}
use Rattle.page_relocate.proofs.record.resize_target.Goals.{Then-relocate}
use Rattle.page_relocate.proofs.record.resize_target.Goals as goal

-- where relocate answered that the record was moved
module _ (c : Then-relocate) where
  abbrev page : List ℕ
  page = c.args.page.now

  was_moved_lem : true ≡ was_moved (relocate (view page) c.args.k (c.args.size + 8))
  was_moved_lem = sym c.if-relocate.true ∙ c.relocate.ensures.1

  kept : Kept page c.args.k c.args.size (relocate (view page) c.args.k (c.args.size + 8))
      c.relocate.new.page
  kept =
      target_kept page c.args.k c.args.size c.relocate.new.page c.requires.used_slot c.relocate.ensures.0 was_moved_lem

pub get_slot-s-requires : goal.get_slot-s-requires
get_slot-s-requires c = let x = kept (goal.at.get_slot-s-requires c).Then-relocate in x.counted

pub put_u64-requires : goal.put_u64-requires
put_u64-requires c =
    let x = kept (goal.at.put_u64-requires c).Then-relocate in
    omega (arith, x.whole, x.high, c.offset.ensures, ap off c.get_slot-s.ensures.0)

pub returns-then-relocate : goal.returns-then-relocate
returns-then-relocate c =
    let a = c.args in
    let f = c.offset.ensures ∙ ap off c.get_slot-s.ensures.0 in (
      (kept (goal.at.returns-then-relocate c).Then-relocate).done (to_be 8 a.id) c.put_u64.new.page refl (c.put_u64.ensures ∙ rw f),
      was_moved_lem
          (goal.at.returns-then-relocate c).Then-relocate,
    )
