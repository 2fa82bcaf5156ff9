use Prim.Native.Nat.{ℕ, ◌+◌, ◌*◌, ◌≤◌}
use mathlib.Core.Path.{◌≡◌, sym, ap, subst, ◌∙◌}
use mathlib.Core.Bool.{false, not}
use mathlib.Core.List.{List}
use native.Mathlib.Omega.{arith}
use lib.ListN.{length}
use Rattle.store.specs.Page.{view}
use Rattle.store.specs.Segment.{page_of}
use Rattle.store.specs.Repair.{standing, deed}
use Rattle.page_repair.specs.Mended.{deeds_of}
use Rattle.segment_judge.specs.Words.{Deeds}
use Rattle.segment_repair.proofs.WriteLaws.{
  Lends,
  lent_is,
  head_same,
  room_slots,
  lent_asks,
  head_told,
  written_slots,
  room_head,
  written_head,
}
use Rattle.segment_repair.proofs.write.write_mended.Goals.{After-judge_page-deeds, After-unwrap, Else-not-mend}
use Rattle.segment_repair.proofs.write.write_mended.Goals as goal

deeds : (c : After-judge_page-deeds) → Deeds (deed (standing c.args.segment.now) c.args.p) c.judge_page-deeds.result
deeds c = subst (λ (s : List ℕ). Deeds (deed (standing s) c.args.p) c.judge_page-deeds.result) c.new.ensures c.judge_page-deeds.ensures

lends : (c : After-unwrap) → Lends c.args.segment.now c.args.p c.split_at_mut-rest.result.0.now c.split_at_mut-rest.result.1.now c.unwrap.result.now
lends c =
    let s = c.split_at_mut-rest.ensures in
    record { before = s.front; behind = s.back; first = (rw c.unwrap.ensures at c.first_chunk_mut.ensures.cases).same }

-- the header changes, and there is room for its entry
anew : (c : Else-not-mend) → false ≡ head_same (deeds_of c.judge_page-deeds.result) (view (page_of c.args.segment.now c.args.p))
anew c =
    let a = c.args in
    sym (ap not c.if-not-mend.false)
    ∙ head_told a.segment.now a.p a.n c.requires.known.1 c.judge_page-deeds.result (deeds (goal.at.Else-not-mend c).After-judge_page-deeds)
    (lent_is (lends (goal.at.Else-not-mend c).After-unwrap)) c.mend.ensures.1

room : (c : Else-not-mend) → 3 * c.tell_slots-next.result + 3 ≤ length c.args.entries.now
room c =
    let a = c.args in
    room_head a.segment.now a.p a.n c.requires.known.1 c.judge_page-deeds.result (deeds (goal.at.Else-not-mend c).After-judge_page-deeds) (anew c) a.at
    c.tell_slots-next.result (length a.entries.now) c.tell_slots-next.ensures.0 c.requires.p_in_bounds

pub judge_page-deeds-requires : goal.judge_page-deeds-requires
judge_page-deeds-requires c = rw c.new.ensures c.requires.known.1

pub tell_slots-next-requires : goal.tell_slots-next-requires
tell_slots-next-requires c =
    let a = c.args in (
      c.requires.known.1.few,
      room_slots a.segment.now a.p a.n c.requires.known.1 c.judge_page-deeds.result (deeds (goal.at.tell_slots-next-requires c).After-judge_page-deeds) a.at
          (length a.entries.now) c.requires.p_in_bounds,
    )

pub mend-requires : goal.mend-requires
mend-requires c =
    let a = c.args in
    lent_asks a.segment.now a.p a.n c.requires.known.1 c.judge_page-deeds.result (deeds (goal.at.mend-requires c).After-judge_page-deeds)
    (lent_is (lends (goal.at.mend-requires c).After-unwrap))

pub returns-then-not-mend : goal.returns-then-not-mend
returns-then-not-mend c =
    let a = c.args in
    let at = goal.at.returns-then-not-mend c in
    let js = deeds at.After-judge_page-deeds in
    let l = lends at.After-unwrap in
    let same = sym (ap not c.if-not-mend.true)
    ∙ head_told a.segment.now a.p a.n c.requires.known.1 c.judge_page-deeds.result js (lent_is l) c.mend.ensures.1 in
    written_slots a.segment.now a.p a.n c.requires.known.1 c.judge_page-deeds.result js l same a.entries.now c.tell_slots-next.new.entries c.mend.new.page a.at
    c.tell_slots-next.result c.mend.ensures.0 c.tell_slots-next.ensures.0 c.tell_slots-next.ensures.1

pub tell-requires : goal.tell-requires
tell-requires c = let r = room (goal.at.tell-requires c).Else-not-mend in omega (arith, c.tell_slots-next.auto.entries)

pub overflow_add-result : goal.overflow_add-result
overflow_add-result c = omega (arith, room (goal.at.overflow_add-result c).Else-not-mend)

pub returns : goal.returns
returns c =
    let a = c.args in
    let at = goal.at.returns c in
    written_head a.segment.now a.p a.n c.requires.known.1 c.judge_page-deeds.result (deeds at.After-judge_page-deeds) (anew at.Else-not-mend)
    (lends at.After-unwrap) a.entries.now c.tell_slots-next.new.entries c.tell.new.entries c.mend.new.page a.at c.tell_slots-next.result c.mend.ensures.0
    c.tell_slots-next.ensures.0 c.tell_slots-next.ensures.1 c.tell.ensures
