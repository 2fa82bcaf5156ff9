use mathlib.Core.Path.{◌≡◌, ◌∙◌, sym}
use native.Mathlib.Omega.{arith}
use Rattle.free_space_inventory.proofs.Turns.{run_turn, run_stop, run_done}
use Rattle.free_space_inventory.proofs.run_end.Goals as goal

pub returns-then-read_entry-page : goal.returns-then-read_entry-page
returns-then-read_entry-page c =
    let l = c.loop-c in
    (sym (run_stop _ _ _ _ (omega arith) (λ e. c.if-read_entry-page.true (c.read_entry.ensures ∙ e))) ∙ l.invariant.0, omega arith)

pub loop-c-preserved : goal.loop-c-preserved
loop-c-preserved c =
    let l = c.loop-c in
    (sym (run_turn _ _ _ _ (omega arith) (sym c.read_entry.ensures ∙ c.if-read_entry-page.false)) ∙ l.invariant.0, omega arith)

pub returns : goal.returns
returns c =
    let e : c.max.result ≡ c.loop-c.c = omega arith in
    rw e (sym (run_done _ _ _ _ (omega arith)) ∙ c.loop-c.invariant.0, omega arith)
