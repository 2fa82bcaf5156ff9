use Prim.Native.Nat.{ℕ, ◌-◌, ◌≤◌}
use mathlib.Core.Path.{◌≡◌, refl, sym, ◌∙◌}
use mathlib.Core.Bool.{true}
use mathlib.Core.List.{List}
use native.Mathlib.Omega.{arith}
use lib.ListN.{length, drop, length-drop}
use Rattle.exchange.specs.Exchange.{marked, data_length}
use Rattle.store.proofs.Laws.Numbers.{bytes_all}
use Rattle.exchange.proofs.Laws.Parse.{parse_end, parse_few, parse_mark, parse_long, parse_cut, parse_record}
use Rattle.exchange.proofs.Laws.Parse.{other_first, other_second, marked_at, told_at, record_at_lem}
use Rattle.exchange.proofs.format.record_at.Goals.{After-get_u16-length, After-shared_slice_known-2-1, Else-file-at-ne84, Start}
use Rattle.exchange.proofs.format.record_at.Goals as goal

abbrev rest : Start → List ℕ
rest s = drop s.args.at s.args.file.now

-- ---- what is known there
left : (s : Start) → length (rest s) ≡ length s.args.file.now - s.args.at
left s = length-drop s.args.at s.args.file.now

enough : (c : After-shared_slice_known-2-1) → 12 ≤ length (drop c.args.at c.args.file.now)
enough c = omega (arith, left (goal.at.After-shared_slice_known-2-1 c).Start)

mark : (c : Else-file-at-ne84) → marked (drop c.args.at c.args.file.now) ≡ true
mark c = marked_at c.args.file.now c.args.at c.if-file-at-ne82.false c.if-file-at-ne84.false

told : (c : After-get_u16-length) → data_length (drop c.args.at c.args.file.now) ≡ c.get_u16-length.result
told c = told_at c.args.file.now c.args.at ∙ sym c.get_u16-length.ensures.is

-- ---- the answers
pub returns-then-left-eq0 : goal.returns-then-left-eq0
returns-then-left-eq0 c = (parse_end (drop c.args.at c.args.file.now) (omega (arith, left (goal.at.returns-then-left-eq0 c).Start)), tt)

pub returns-then-left-lt-BEFORE : goal.returns-then-left-lt-BEFORE
returns-then-left-lt-BEFORE c = (
  parse_few (drop c.args.at c.args.file.now)
      (λ e. c.if-left-eq0.false (omega (arith, left (goal.at.returns-then-left-lt-BEFORE c).Start)))
      (omega (arith, left (goal.at.returns-then-left-lt-BEFORE c).Start)),
  tt,
)

pub returns-then-file-at-ne82 : goal.returns-then-file-at-ne82
returns-then-file-at-ne82 c = (
  parse_mark (drop c.args.at c.args.file.now) (enough (goal.at.returns-then-file-at-ne82 c).After-shared_slice_known-2-1)
      (other_first c.args.file.now c.args.at c.if-file-at-ne82.true),
  tt,
)

pub returns-then-file-at-ne84 : goal.returns-then-file-at-ne84
returns-then-file-at-ne84 c = (
  parse_mark (drop c.args.at c.args.file.now) (enough (goal.at.returns-then-file-at-ne84 c).After-shared_slice_known-2-1)
      (other_second c.args.file.now c.args.at c.if-file-at-ne84.true),
  tt,
)

pub returns-then-length-gt-LONGEST_DATA : goal.returns-then-length-gt-LONGEST_DATA
returns-then-length-gt-LONGEST_DATA c = (
  parse_long (drop c.args.at c.args.file.now) (enough (goal.at.returns-then-length-gt-LONGEST_DATA c).After-shared_slice_known-2-1)
      (mark (goal.at.returns-then-length-gt-LONGEST_DATA c).Else-file-at-ne84)
      (omega (arith, told (goal.at.returns-then-length-gt-LONGEST_DATA c).After-get_u16-length)),
  tt,
)

pub returns-then-left-length : goal.returns-then-left-length
returns-then-left-length c =
    let t = told (goal.at.returns-then-left-length c).After-get_u16-length in
    let l = left (goal.at.returns-then-left-length c).Start in (
      parse_cut (drop c.args.at c.args.file.now) (enough (goal.at.returns-then-left-length c).After-shared_slice_known-2-1)
          (mark (goal.at.returns-then-left-length c).Else-file-at-ne84) (omega arith) (omega arith),
      tt,
    )

pub returns : goal.returns
returns c =
    let t = told (goal.at.returns c).After-get_u16-length in
    let l = left (goal.at.returns c).Start in
    let b = bytes_all c.args.file.now (λ i. omega (arith, c.type_inv.file i)) in (
      parse_record (drop c.args.at c.args.file.now) (enough (goal.at.returns c).After-shared_slice_known-2-1) (mark (goal.at.returns c).Else-file-at-ne84)
          (omega arith) (omega arith)
          ∙ record_at_lem c.args.file.now c.args.at c.get_u64.result c.get_u16-length.result b c.get_u64.ensures.is c.get_u64.ensures.small t (omega arith),
      record { begins = refl; long = omega arith; short = omega arith; within = omega arith },
    )
