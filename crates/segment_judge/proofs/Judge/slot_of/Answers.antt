use Prim.Native.Nat.{ℕ, ◌*◌, ◌+◌, ◌≤◌}
use mathlib.Core.Path.{sym, ap, ◌∙◌}
use mathlib.Core.List.{List}
use native.Mathlib.Omega.{arith}
use lib.ListN.{length}
use Rattle.store.specs.Numbers.{page_no}
use Rattle.store.specs.Page.{view}
use Rattle.segment_pages.proofs.Seen.{seen_count}
use Rattle.segment_pages.proofs.Back.{is_elsewhere}
use Rattle.segment_judge.specs.Words.{Apart}
use Rattle.segment_judge.proofs.HoldLaws.{stands}
use Rattle.segment_judge.proofs.Judge.slot_of.Goals.{Else-get_slot_count-gt-MOST_SLOTS}
use Rattle.segment_judge.proofs.Judge.slot_of.Goals as goal

-- what the tests told by then
told : (c : Else-get_slot_count-gt-MOST_SLOTS) → let a = c.args in Apart a.self.now.segment.now a.i a.t
told c =
    let w = is_elsewhere (sym c.elsewhere.ensures ∙ c.if-not-elsewhere.false) in
    record {
      below = w.0;
      other = w.1;
      few =
          omega (arith, c.if-get_slot_count-gt-MOST_SLOTS.false, c.get_slot_count.ensures.0, ap (λ (q : List ℕ). (view q).slot_count) c.page.ensures);
    }

pub slot_on-requires : goal.slot_on-requires
slot_on-requires c =
    let a = c.args in
    let s = a.self.now.segment.now in
    let h = told (goal.at.slot_on-requires c).Else-get_slot_count-gt-MOST_SLOTS in
    let inside : page_no a.t * 16384 + 16384 ≤ length s = omega (arith, h.below) in
    record { within = inside; p_bound = omega (arith, seen_count s (page_no a.t) inside, h.few) }

pub returns : goal.returns
returns c =
    let a = c.args in (
      told (goal.at.returns c).Else-get_slot_count-gt-MOST_SLOTS,
      stands a.self.now.segment.now a.t _ c.slot_on.ensures.0,
      c.slot_on.ensures.1,
    )
