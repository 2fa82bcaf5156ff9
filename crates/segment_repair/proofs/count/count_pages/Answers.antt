use Prim.Native.Nat.{ℕ, ◌/◌}
use mathlib.Core.Path.{◌≡◌, ap, ◌∙◌}
use native.Mathlib.Omega.{arith}
use lib.ListN.{length}
use Rattle.store.specs.Inventory.{update}
use Rattle.store.specs.Repair.{standing, seg_entries, seg_after}
use Rattle.store.proofs.Laws.RepairList.{seg_most, page_most}
use Rattle.store.proofs.Laws.RepairInventory.{true_length}
use Rattle.segment_repair.proofs.CountLaws.{entries_none, entries_more, true_none, true_skips, true_more, true_all}
use Rattle.segment_repair.proofs.count.count_pages.Goals.{in-Some, in_default}
use Rattle.segment_repair.proofs.count.count_pages.Goals as goal

pub loop-p-init : goal.loop-p-init
loop-p-init c =
    let s = c.args.judge.now.segment.now in
    (entries_none (standing s), c.requires ∙ true_none (seg_after (standing s)) (length s / 16384))

pub count_page-c-requires : goal.count_page-c-requires
count_page-c-requires c = omega (arith, c.pages-n.ensures)

pub overflow_add-entries : goal.overflow_add-entries
overflow_add-entries c =
    let u = standing c.args.judge.now.segment.now in
    omega (
      arith,
      seg_most u c.loop-p.p,
      page_most u c.loop-p.p,
      c.count_page-c.ensures.entries,
      c.loop-p.invariant.0,
      c.pages-n.ensures,
      c.args.judge.now.known.few,
    )

pub update_page_size-requires : goal.update_page_size-requires
update_page_size-requires c =
    let s = c.args.judge.now.segment.now in
    let l : length c.loop-p.inventory ≡ 16384 = ap length c.loop-p.invariant.1 ∙ true_length (seg_after (standing s)) _ _ in
    record {
      room = record { entries = omega arith; pages = omega (arith, c.pages-n.ensures, c.args.judge.now.known.few) };
      page_lt_n = (omega arith, c.count_page-c.ensures.small c.in-Some.space c.in-Some.is);
    }

pub loop-p-preserved : goal.loop-p-preserved
loop-p-preserved c =
    let n = length c.args.judge.now.segment.now / 16384 in
    let told = c.count_page-c.ensures in (
      entries_more told c.loop-p.invariant.0,
      elim c.match-c.branch [
        | in-Some w ↦ w.inventory-is ∙ w.update_page_size.ensures
            ∙ ap (λ (m : ℕ). update c.loop-p.inventory m c.loop-p.p w.in-Some.space) c.pages-n.ensures
            ∙ true_more told n c.loop-p.invariant.1 w.in-Some.space w.in-Some.is
        | in_default w ↦ w.inventory-is ∙ true_skips told n c.loop-p.invariant.1 w.in_default.not-Some
      ],
    )

pub returns : goal.returns
returns c =
    let s = c.args.judge.now.segment.now in
    let e : c.loop-p.p ≡ length s / 16384 = omega (arith, c.pages-n.ensures) in
    (c.loop-p.invariant.0 ∙ ap (λ (p : ℕ). length (seg_entries (standing s) p)) e, c.loop-p.invariant.1 ∙ true_all s c.loop-p.p e)
