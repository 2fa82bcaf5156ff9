use Rattle.std.proofs.Common.{◌≡◌, ℕ, ◌+◌, ◌<◌, ◌^◌, length, get_or}
use Rattle.fill_report.proofs.sums.checked_classes.Given as goal

abbrev pub invariant-loop-c : goal.invariant-loop-c
invariant-loop-c l = record {
  length_a : length l.a ≡ 16;
  length_b : length l.b ≡ 16;
  length_sum : length l.sum ≡ 16;
  sums : (k : ℕ) → k < l.c → get_or l.sum k 0 ≡ get_or l.a k 0 + get_or l.b k 0;
  fit : (k : ℕ) → k < l.c → get_or l.a k 0 + get_or l.b k 0 < 2 ^ 64;
}
