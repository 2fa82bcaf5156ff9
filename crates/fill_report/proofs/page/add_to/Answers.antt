use Prim.Native.Nat.{ℕ, ◌^◌, ◌≤◌}
use mathlib.Core.Path.{◌≡◌, sym, ◌∙◌}
use mathlib.Core.Bool.{false}
use native.Mathlib.Omega.{arith}
use borrow.Author.Rules.{rules}
use Rattle.store.specs.Page.{view, fresh}
use Rattle.store.proofs.Laws.SoundPage.{sound_page}
use Rattle.store.specs.Laws.Views.{Sound}
use lib.ListN.{get_or}
use Rattle.store.specs.Answers.{numbers}
use Rattle.fill_report.proofs.SumLaws.{most_at}
use Rattle.fill_report.proofs.PageLaws.{slots_small, fills_fresh, fills_used}
use Rattle.fill_report.proofs.page.add_to.Goals.{Start, Else-is_fresh, After-count_slots-c}
use Rattle.fill_report.proofs.page.add_to.Goals as goal

pub returns-then-is_fresh : goal.returns-then-is_fresh
returns-then-is_fresh c =
    fills_fresh (view c.args.page.now) (sym c.is_fresh.ensures ∙ c.if-is_fresh.true) c.args.tally.now (search rules)

-- ---- in use
not_fresh : (c : Else-is_fresh) → fresh (view c.args.page.now) ≡ false
not_fresh c = sym c.is_fresh.ensures ∙ c.if-is_fresh.false

used : (c : Else-is_fresh) → Sound (view c.args.page.now)
used c = sound_page _ c.told-page (not_fresh c) c.requires.whole

pub count_slots-c-requires : goal.count_slots-c-requires
count_slots-c-requires c = (record { whole = c.told-page; sound = used (goal.at.count_slots-c-requires c).Else-is_fresh }, c.get_slot_count-n.ensures.0)

pub overflow_sub-free : goal.overflow_sub-free
overflow_sub-free c = omega (arith, (used (goal.at.overflow_sub-free c).Else-is_fresh).sums)

-- its figures leave room
bounded : (c : Start) (i : ℕ) → get_or (numbers c.args.tally.now) i 0 ≤ 2 ^ 63
bounded c i = most_at (2 ^ 63) (numbers c.args.tally.now) i c.requires.room

small : (c : After-count_slots-c)
    → (c.count_slots-c.result.records ≤ 65536) × (c.count_slots-c.result.bytes ≤ 65536) × (c.count_slots-c.result.forwarded ≤ 65536)
small c = slots_small _ (used (goal.at.After-count_slots-c c).Else-is_fresh) c.get_slot_count-n.ensures.0 c.count_slots-c.ensures

pub overflow_add-tally-3 : goal.overflow_add-tally-3
overflow_add-tally-3 c = omega (arith, bounded (goal.at.overflow_add-tally-3 c).Start 3, small (goal.at.overflow_add-tally-3 c).After-count_slots-c)

pub overflow_add-tally-4 : goal.overflow_add-tally-4
overflow_add-tally-4 c = omega (arith, bounded (goal.at.overflow_add-tally-4 c).Start 4, small (goal.at.overflow_add-tally-4 c).After-count_slots-c)

pub overflow_add-tally-5 : goal.overflow_add-tally-5
overflow_add-tally-5 c = omega (arith, bounded (goal.at.overflow_add-tally-5 c).Start 5, small (goal.at.overflow_add-tally-5 c).After-count_slots-c)

pub overflow_add-tally-7 : goal.overflow_add-tally-7
overflow_add-tally-7 c = omega (arith, most_at (2 ^ 63) c.args.tally.now.classes c.class_of.result c.requires.room.1.1.1.1.1.1.1)

pub returns : goal.returns
returns c =
    let e = (goal.at.returns c).Else-is_fresh in
    fills_used (view c.args.page.now) (not_fresh e) (used e) c.get_slot_count-n.ensures.0 c.count_slots-c.ensures
    c.get_free_space-free.ensures.0 c.class_of.ensures c.args.tally.now (search rules)
