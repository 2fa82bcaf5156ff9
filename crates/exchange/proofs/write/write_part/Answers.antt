use mathlib.Core.Path.{sym}
use mathlib.Core.Logic.{⊎_elim}
use native.Mathlib.Omega.{arith}
use Rattle.store.proofs.Laws.Numbers.{put_nil}
use Rattle.exchange.proofs.write.write_part.Goals as goal

pub returns-in-Passed : goal.returns-in-Passed
returns-in-Passed c = ⊎_elim (λ e. rw e (sym (put_nil _ _), omega arith)) (λ e. rw e (sym (put_nil _ _), omega arith)) c.in-Passed.is
