use Prim.Native.Nat.{ℕ}
use mathlib.Core.Path.{◌≡◌, sym, ap, ◌∙◌}
use mathlib.Core.Bool.{false}
use mathlib.Core.List.{List}
use Rattle.std.proofs.Common.{Option, Some, None}
use native.Mathlib.Omega.{arith}
use Rattle.std.proofs.lemmas.Result.{err_from_is_err_and}
use Rattle.store.specs.Page.{View, view}
use Rattle.store.specs.Segment.{seg_view}
use Rattle.store.specs.Scan.{Scanned, damaged_at}
use Rattle.segment_pages.proofs.Seen.{seen_count}
use Rattle.segment_scan.specs.Pages.{Counted, or_record, on_page}
use Rattle.segment_scan.proofs.Positions.{few_at, first_is, page_damaged, page_first}
use Rattle.segment_scan.proofs.scan_page.Goals.{After-get_slot_count-n, Else-damaged_at, After-next_record}
use Rattle.segment_scan.proofs.scan_page.Goals as goal

abbrev page : After-get_slot_count-n → View
page c = (seg_view c.args.segment.now).page c.args.p

-- the number read is the page's count
counted : (c : After-get_slot_count-n) → c.get_slot_count-n.result ≡ (page c).slot_count
counted c =
    c.get_slot_count-n.ensures.0 ∙ ap (λ (q : List ℕ). (view q).slot_count) c.page_of.ensures
    ∙ sym (seen_count c.args.segment.now c.args.p c.requires.within)

-- behind the test the page is not damaged, so it has few slots
undamaged : (c : Else-damaged_at) → damaged_at (page (goal.at.Else-damaged_at c).After-get_slot_count-n) c.args.k ≡ false
undamaged c = sym c.damaged_at.ensures ∙ c.if-damaged_at.false

few : (c : Else-damaged_at) → Counted c.args.segment.now c.args.p
few c = record { whole = c.requires.within; few = few_at (page (goal.at.Else-damaged_at c).After-get_slot_count-n) c.args.k (undamaged c) }

pub damaged_at-requires-clause-n_value : goal.damaged_at-requires-clause-n_value
damaged_at-requires-clause-n_value c = counted (goal.at.damaged_at-requires-clause-n_value c).After-get_slot_count-n

pub returns-then-damaged_at : goal.returns-then-damaged_at
returns-then-damaged_at c = λ d.
    page_damaged (page (goal.at.returns-then-damaged_at c).After-get_slot_count-n) c.args.p c.args.k d
    (sym c.damaged_at.ensures ∙ c.if-damaged_at.true)

pub next_record-requires : goal.next_record-requires
next_record-requires c =
    let k = few (goal.at.next_record-requires c).Else-damaged_at in
    record { counted = k; n_bound = omega (arith, counted (goal.at.next_record-requires c).After-get_slot_count-n, k.few) }

-- what it answers, by the slot found
answered : (c : After-next_record) → (r : Option ℕ) → c.next_record.result ≡ r → (d : Scanned)
    → let v = (seg_view c.args.segment.now).page c.args.p in or_record r v c.args.p d ≡ on_page v c.args.p c.args.k d
answered c r e d =
    page_first _ c.args.p c.args.k d (undamaged (goal.at.After-next_record c).Else-damaged_at) _
    (counted (goal.at.After-next_record c).After-get_slot_count-n) r (sym c.next_record.ensures ∙ e)

pub returns-in_default : goal.returns-in_default
returns-in_default c = answered (goal.at.returns-in_default c).After-next_record None c.in_default.is

pub record_or_damage-requires : goal.record_or_damage-requires
record_or_damage-requires c =
    let f = first_is (page (goal.at.record_or_damage-requires c).After-get_slot_count-n) _ _ _ (sym c.next_record.ensures ∙ c.in-Some.is) in
    record {
      counted = few (goal.at.record_or_damage-requires c).Else-damaged_at;
      record_on = record { page = c.requires.p_bound; slot = omega (arith, c.get_slot_count-n.ensures.1, f.0); holds = f.1 };
    }

pub returns-in_err-record_or_damage : goal.returns-in_err-record_or_damage
returns-in_err-record_or_damage c = λ d.
    let e = err_from_is_err_and c.from_residual.result c.from_residual.ensures.1 in
    rw (e.1, e.2)
    (c.in_err-record_or_damage.ensures ∙ answered (goal.at.returns-in_err-record_or_damage c).After-next_record (Some c.in-Some.j) c.in-Some.is d)

pub returns : goal.returns
returns c = λ d. c.in_ok-record_or_damage.ensures ∙ answered (goal.at.returns c).After-next_record (Some c.in-Some.j) c.in-Some.is d
