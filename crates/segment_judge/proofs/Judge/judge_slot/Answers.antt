use Prim.Native.Nat.{ℕ}
use mathlib.Core.Path.{◌≡◌, sym, ap, ◌∙◌}
use mathlib.Core.Bool.{true}
use mathlib.Core.List.{List}
use native.Mathlib.Omega.{arith}
use Rattle.store.specs.Page.{view}
use Rattle.store.specs.Segment.{page_of}
use Rattle.store.specs.Repair.{standing, keeps}
use Rattle.store.specs.declared.Slot.TheVariants.{Target}
use Rattle.page_repair.proofs.MendLaws.{differs}
use Rattle.segment_judge.proofs.DeedLaws.{deed_ordinary, deed_free, deed_holds, deed_loose, deed_freed}
use Rattle.segment_judge.proofs.DeedLaws.{stays_kept, target_inside, deed_named, deed_made, named_asks}
use Rattle.segment_judge.proofs.Judge.judge_slot.Goals.{After-get_slot, Else-ne, In-Target}
use Rattle.segment_judge.proofs.Judge.judge_slot.Goals as goal

-- the slot that was read is that of the page
slot_is : (c : After-get_slot) → let a = c.args in c.get_slot.result ≡ (view (page_of a.self.now.segment.now a.p)).at a.k
slot_is c = c.get_slot.ensures.0 ∙ ap (λ (q : List ℕ). (view q).at c.args.k) c.page.ensures

pub get_slot-requires : goal.get_slot-requires
get_slot-requires c =
    let a = c.args in
    let used = c.requires.0 in
    let n = ap (λ (q : List ℕ). (view q).slot_count) c.page.ensures in
    (omega (arith, used.counted), omega (arith, used.counted, used.few))

is : (c : In-Target)
    → let a = c.args in
    Target c.in-Target.offset c.in-Target.length ≡ (view (page_of a.self.now.segment.now a.p)).at a.k
is c = sym c.in-Target.is ∙ slot_is (goal.at.In-Target c).After-get_slot

kept : (c : Else-ne) → let a = c.args in keeps ((standing a.self.now.segment.now).page a.p) a.k ≡ true
kept c =
    let a = c.args in
    stays_kept a.self.now.segment.now a.p a.k _ _ (is (goal.at.Else-ne c).In-Target) a.freed c.requires.1 (differs a.freed c.ne.ensures ∙ c.if-ne.false)

pub returns-then-ne : goal.returns-then-ne
returns-then-ne c =
    let a = c.args in
    deed_freed a.self.now.segment.now a.p a.k _ _ (is (goal.at.returns-then-ne c).In-Target) a.freed c.requires.1 (differs a.freed c.ne.ensures ∙ c.if-ne.true)

pub back_id_on-b-requires : goal.back_id_on-b-requires
back_id_on-b-requires c =
    let a = c.args in
    let w = target_inside a.self.now.segment.now a.p a.k _ _ (is (goal.at.back_id_on-b-requires c).In-Target)
    (kept (goal.at.back_id_on-b-requires c).Else-ne) in
    record { within = c.requires.0.within; offset_bound = omega (arith, w.0, w.1) }

pub named-requires : goal.named-requires
named-requires c =
    let a = c.args in
    named_asks a.self.now.segment.now a.p a.k _ _ _ c.requires.0 (is (goal.at.named-requires c).In-Target) (kept (goal.at.named-requires c).Else-ne)
    c.back_id_on-b.ensures

pub returns-in-Ordinary : goal.returns-in-Ordinary
returns-in-Ordinary c =
    let a = c.args in
    c.requires.1 ∙ deed_ordinary a.self.now.segment.now a.p a.k _ _ (sym c.in-Ordinary.is ∙ slot_is (goal.at.returns-in-Ordinary c).After-get_slot)

pub returns-in-Free : goal.returns-in-Free
returns-in-Free c =
    let a = c.args in
    deed_free a.self.now.segment.now a.p a.k (sym c.in-Free.is ∙ slot_is (goal.at.returns-in-Free c).After-get_slot)

pub returns-then-holds : goal.returns-then-holds
returns-then-holds c =
    let a = c.args in
    deed_holds a.self.now.segment.now a.p a.k _ (sym c.in-Redirect.is ∙ slot_is (goal.at.returns-then-holds c).After-get_slot) _ c.holds.ensures c.if-holds.true

pub returns-else-holds : goal.returns-else-holds
returns-else-holds c =
    let a = c.args in
    deed_loose a.self.now.segment.now a.p a.k _ (sym c.in-Redirect.is ∙ slot_is (goal.at.returns-else-holds c).After-get_slot) _ c.holds.ensures
    c.if-holds.false

pub returns-then-named : goal.returns-then-named
returns-then-named c =
    let a = c.args in
    deed_named a.self.now.segment.now a.p a.k _ _ (is (goal.at.returns-then-named c).In-Target) (kept (goal.at.returns-then-named c).Else-ne) _
    c.named.ensures c.if-named.true

pub returns-else-named : goal.returns-else-named
returns-else-named c =
    let a = c.args in
    deed_made a.self.now.segment.now a.p a.k _ _ (is (goal.at.returns-else-named c).In-Target) (kept (goal.at.returns-else-named c).Else-ne) _
    c.named.ensures c.if-named.false
