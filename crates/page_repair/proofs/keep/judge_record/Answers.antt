use Prim.Native.Nat.{◌<◌}
use mathlib.Core.Path.{◌≡◌, sym, ap, ◌∙◌}
use mathlib.Core.Bool.{Bool, true, false}
use native.Mathlib.Omega.{arith}
use borrow.Author.Rules.{rules}
use Rattle.store.specs.Slots.{is_record}
use Rattle.store.specs.Page.{view}
use Rattle.store.specs.Repair.{lies_in, lies}
use Rattle.page_check.specs.Fit.{Runs}
use Rattle.page_check.proofs.SlotLaws.{not_both}
use Rattle.page_repair.proofs.KeepLaws.{runs_at, no_record, lies_ill, overlaps, claims, no_bytes}
use Rattle.page_repair.proofs.keep.judge_record.Goals.{After-is_record, After-len-l, After-lies_in, Start}
use Rattle.page_repair.proofs.keep.judge_record.Goals as goal

-- ---- the slot is read and asked whether it holds a record, how it lies, and where
below : (c : Start) → c.args.k < (view c.args.page.now).slot_count
below c = omega (arith, c.requires.counted_page.0.counted)

is : (c : After-is_record) (b : Bool) → c.is_record.result ≡ b → is_record ((view c.args.page.now).at c.args.k) ≡ b
is c b e = ap is_record (sym c.get_slot-s.ensures.0) ∙ sym c.is_record.ensures ∙ e

record_at_lem : (c : After-lies_in) → is_record ((view c.args.page.now).at c.args.k) ≡ true
record_at_lem c = is (goal.at.After-lies_in c).After-is_record true c.if-not-is_record.false

lie : (c : After-lies_in) (b : Bool) → c.lies_in.result ≡ b → lies (view c.args.page.now) c.args.k ≡ b
lie c b e =
    let at = c.get_slot-s.ensures.0 in
    sym (λ i. lies_in (c.requires.counted_page.0.counted i) (at i)) ∙ sym c.lies_in.ensures ∙ e

lies_well_lem : (c : After-len-l) → lies (view c.args.page.now) c.args.k ≡ true
lies_well_lem c = lie (goal.at.After-len-l c).After-lies_in true c.if-not-lies_in.false

runs : (c : After-len-l) → Runs ((view c.args.page.now).at c.args.k) 16384 c.offset-o.result c.len-l.result
runs c =
    let v = view c.args.page.now in
    runs_at v.slot_count c.offset-o.result c.len-l.result c.get_slot-s.result (v.at c.args.k) c.get_slot-s.ensures.0
    c.offset-o.ensures c.len-l.ensures (lies_well_lem c)

-- ---- the goals
pub get_slot-s-requires : goal.get_slot-s-requires
get_slot-s-requires c =
    (below (goal.at.get_slot-s-requires c).Start, omega (arith, c.requires.counted_page.0.few))

pub returns-then-not-is_record : goal.returns-then-not-is_record
returns-then-not-is_record c =
    let at = goal.at.returns-then-not-is_record c in
    no_record _ _ _ (below at.Start) c.requires.kept_marks (is at.After-is_record false c.if-not-is_record.true)

pub lies_in-requires : goal.lies_in-requires
lies_in-requires c = (c.requires.counted_page.0.few, c.get_slot-s.ensures.1)

pub returns-then-not-lies_in : goal.returns-then-not-lies_in
returns-then-not-lies_in c =
    let at = goal.at.returns-then-not-lies_in c in
    lies_ill _ _ _ (below at.Start) c.requires.kept_marks (record_at_lem at.After-lies_in) (lie at.After-lies_in false c.if-not-lies_in.true)

pub returns-then-l-eq0 : goal.returns-then-l-eq0
returns-then-l-eq0 c =
    let at = goal.at.returns-then-l-eq0 c in
    no_bytes _ _ _ (below at.Start) c.requires.kept_marks (record_at_lem at.After-lies_in) _ _ (runs at.After-len-l)
    (lies_well_lem at.After-len-l) c.if-l-eq0.true

pub overflow_add-o : goal.overflow_add-o
overflow_add-o c = omega (arith, (runs (goal.at.overflow_add-o c).After-len-l).down)

pub is_clear-requires : goal.is_clear-requires
is_clear-requires c =
    (omega (arith, c.if-l-eq0.false), (runs (goal.at.is_clear-requires c).After-len-l).down)

pub returns-then-not-is_clear : goal.returns-then-not-is_clear
returns-then-not-is_clear c =
    let at = goal.at.returns-then-not-is_clear c in
    overlaps _ _ _ (below at.Start) c.requires.kept_marks (record_at_lem at.After-lies_in) _ _ (runs at.After-len-l)
    (λ e. not_both (c.is_clear.ensures.back e) c.if-not-is_clear.true)

pub overflow_add-o-2 : goal.overflow_add-o-2
overflow_add-o-2 c = omega (arith, (runs (goal.at.overflow_add-o-2 c).After-len-l).down)

pub claim-requires : goal.claim-requires
claim-requires c =
    let down = (runs (goal.at.claim-requires c).After-len-l).down in
    let some = c.if-l-eq0.false in
    search (rules, down, some)

pub returns : goal.returns
returns c =
    let at = goal.at.returns c in
    let clear = c.is_clear.ensures.yes c.if-not-is_clear.false in
    claims _ _ _ (below at.Start) c.requires.kept_marks (record_at_lem at.After-lies_in) _ _ (runs at.After-len-l)
    (lies_well_lem at.After-len-l) _ (c.claim.ensures.claimed (c.claim.ensures.tells.back clear))
