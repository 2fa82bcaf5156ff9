use Prim.Native.Nat.{ℕ, ◌/◌}
use mathlib.Core.List.{List}
use mathlib.Core.Path.{◌≡◌, sym, ap, ◌∙◌}
use mathlib.Core.Bool.{true, false, ◌&&◌}
use native.Mathlib.Omega.{arith}
use lib.ListN.{length}
use Rattle.store.specs.Segment.{size_ok, inv_ok}
use Rattle.store.specs.Repair.{standing, seg_entries, true_of, same_inv, entries}
use Rattle.segment_repair.proofs.RepairLaws.{wrong_size_lem, right_size, one_page, length_true, Passed, passed_same, count_same, count_other, count_small}
use Rattle.segment_repair.proofs.RepairLaws.{nothing_done, no_place_lem, pages_done, pages_room, last_room, all_done}
use Rattle.segment_repair.proofs.repair.Goals.{After-same_inventory-same, then-not-same, else-not-same}
use Rattle.segment_repair.proofs.repair.Goals.{Else-not-sizes_ok, Joined-not-same}
use Rattle.segment_repair.proofs.repair.Goals as goal

right : (c : Else-not-sizes_ok) → (size_ok c.args.segment.now && inv_ok c.args.inventory.now) ≡ true
right c = sym c.sizes_ok.ensures ∙ c.if-not-sizes_ok.false

passed : (x : After-same_inventory-same) →
    Passed x.args.segment.now x.args.inventory.now x.count_pages-count.new.inventory x.same_inventory-same.result x.count_pages-count.result
passed x =
    let n = x.count_pages-count in
    let e = x.new.ensures in
    let lent = (rw x.unwrap.ensures at x.as_array.ensures.cases).same in
    record {
      is = n.ensures.1 ∙ ap (λ (s : List ℕ). true_of (standing s)) e;
      same = x.same_inventory-same.ensures ∙ ap (λ (v : List ℕ). same_inv v n.new.inventory) lent;
      pages = n.ensures.0 ∙ ap (λ (s : List ℕ). length (seg_entries (standing s) (length s / 16384))) e;
    }

-- the count
is_count : (c : Joined-not-same) → c.if-not-same.count ≡ length (entries (standing c.args.segment.now) c.args.inventory.now)
is_count c =
    elim c.if-not-same.branch [
      | then-not-same w ↦ w.count-is ∙ count_other (passed (goal.at.Joined-not-same c).After-same_inventory-same) w.if-not-same.true
      | else-not-same w ↦ w.count-is ∙ count_same (passed (goal.at.Joined-not-same c).After-same_inventory-same) w.if-not-same.false
    ]

pub returns-then-not-sizes_ok : goal.returns-then-not-sizes_ok
returns-then-not-sizes_ok c = wrong_size_lem c.args.segment.now c.args.inventory.now c.args.entries.now (sym c.sizes_ok.ensures ∙ c.if-not-sizes_ok.true)

pub check_pages-sound-requires : goal.check_pages-sound-requires
check_pages-sound-requires c =
    omega (arith, (right_size c.args.segment.now c.args.inventory.now (right (goal.at.check_pages-sound-requires c).Else-not-sizes_ok)).few)

pub overflow_add-count : goal.overflow_add-count
overflow_add-count c =
    omega (
      arith,
      count_small (passed (goal.at.overflow_add-count c).After-same_inventory-same) c.if-not-same.true
          (right_size c.args.segment.now c.args.inventory.now (right (goal.at.overflow_add-count c).Else-not-sizes_ok)).few,
    )

pub returns-then-count-eq0 : goal.returns-then-count-eq0
returns-then-count-eq0 c =
    nothing_done c.args.segment.now c.args.inventory.now c.args.entries.now (right (goal.at.returns-then-count-eq0 c).Else-not-sizes_ok)
    c.if-not-same.count (is_count (goal.at.returns-then-count-eq0 c).Joined-not-same) c.if-count-eq0.true

pub returns-then-entries-count : goal.returns-then-entries-count
returns-then-entries-count c =
    no_place_lem c.args.segment.now c.args.inventory.now c.args.entries.now (right (goal.at.returns-then-entries-count c).Else-not-sizes_ok)
    c.if-not-same.count (is_count (goal.at.returns-then-entries-count c).Joined-not-same) c.if-entries-count.true

pub write_pages-at-requires : goal.write_pages-at-requires
write_pages-at-requires c = (
  c.check_pages-sound.ensures.known,
  (right_size c.args.segment.now c.args.inventory.now (right (goal.at.write_pages-at-requires c).Else-not-sizes_ok)).whole,
  pages_room c.args.segment.now c.args.inventory.now c.args.entries.now (right (goal.at.write_pages-at-requires c).Else-not-sizes_ok) c.if-not-same.count
      (is_count (goal.at.write_pages-at-requires c).Joined-not-same) c.if-entries-count.false,
)

pub tell-requires : goal.tell-requires
tell-requires c =
    let b = passed_same (passed (goal.at.tell-requires c).After-same_inventory-same) false c.if-not-same-2.true in
    omega (
      arith,
      last_room c.args.segment.now c.args.inventory.now c.args.entries.now (right (goal.at.tell-requires c).Else-not-sizes_ok) c.if-not-same.count
          (is_count (goal.at.tell-requires c).Joined-not-same) c.if-entries-count.false b c.write_pages-at.result c.write_pages-at.ensures.2,
      c.write_pages-at.auto.entries,
    )

pub copy_from_slice-requires : goal.copy_from_slice-requires
copy_from_slice-requires c =
    one_page c.args.segment.now c.args.inventory.now (right (goal.at.copy_from_slice-requires c).Else-not-sizes_ok)
    ∙ sym (ap length (passed (goal.at.copy_from_slice-requires c).After-same_inventory-same).is ∙ length_true c.args.segment.now c.args.inventory.now)

pub returns-then-not-same-2 : goal.returns-then-not-same-2
returns-then-not-same-2 c =
    let b = passed_same (passed (goal.at.returns-then-not-same-2 c).After-same_inventory-same) false c.if-not-same-2.true in
    all_done c.args.segment.now c.args.inventory.now c.args.entries.now (right (goal.at.returns-then-not-same-2 c).Else-not-sizes_ok) c.if-not-same.count
    (is_count (goal.at.returns-then-not-same-2 c).Joined-not-same) c.if-entries-count.false b c.write_pages-at.result c.write_pages-at.ensures.2
    c.write_pages-at.new.segment c.copy_from_slice.new.self c.count_pages-count.new.inventory c.write_pages-at.new.entries c.tell.new.entries
    c.write_pages-at.ensures.0
    c.write_pages-at.ensures.1 c.tell.ensures (passed (goal.at.returns-then-not-same-2 c).After-same_inventory-same).is c.copy_from_slice.ensures.after

pub returns-else-not-same-2 : goal.returns-else-not-same-2
returns-else-not-same-2 c =
    let b = passed_same (passed (goal.at.returns-else-not-same-2 c).After-same_inventory-same) true c.if-not-same-2.false in
    pages_done c.args.segment.now c.args.inventory.now c.args.entries.now (right (goal.at.returns-else-not-same-2 c).Else-not-sizes_ok) c.if-not-same.count
    (is_count (goal.at.returns-else-not-same-2 c).Joined-not-same) c.if-entries-count.false b c.write_pages-at.new.segment c.write_pages-at.new.entries
    c.write_pages-at.ensures.0 c.write_pages-at.ensures.1
