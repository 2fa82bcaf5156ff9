use native.Mathlib.Omega.{arith}
use Rattle.segment_scan.proofs.Positions.{step_over, step_size, step_plan}
use Rattle.segment_scan.proofs.scan_step.Goals as goal

pub returns-then-page-gt-MOST_PAGES : goal.returns-then-page-gt-MOST_PAGES
returns-then-page-gt-MOST_PAGES c = grind (arith, step_over)

pub returns-then-not-is_segment : goal.returns-then-not-is_segment
returns-then-not-is_segment c = grind (arith, step_size)

pub returns : goal.returns
returns c = grind (arith, step_plan)
