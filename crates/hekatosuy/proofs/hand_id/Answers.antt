use mathlib.Core.Path.{refl}
use Rattle.store.proofs.Laws.Roots.{refused_no}
use Rattle.hekatosuy.proofs.hand_id.Goals as goal

pub returns-in-Ok : goal.returns-in-Ok
returns-in-Ok c = rw c.in-Ok.is (refl, refl)

pub returns-in-Err : goal.returns-in-Err
returns-in-Err c = rw (c.in-Err.is, refused_no c.in-Err.refusal) (c.from.ensures, refl)
