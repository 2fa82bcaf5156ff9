use mathlib.Core.Path.{subst}
use mathlib.Core.List.{[]}
use Rattle.std.proofs.Common.{Result}
use Rattle.store.specs.Answers.{scanned_of}
use Rattle.store.specs.declared.Refusal.{Refusal}
use Rattle.store.specs.declared.Step.{Step}
use Rattle.hekatosuy.specs.Handed.{Positioned}
use Rattle.hekatosuy.proofs.Positions.{step_fits}
use Rattle.hekatosuy.proofs.hand_step.Goals as goal

-- the position that the step names fits
pub position_of-requires : goal.position_of-requires
position_of-requires c =
    let t = c.in-Ok.field-0 in
    step_fits t.found t.page t.slot [] (subst (λ (s : Result Step Refusal). Positioned (scanned_of s [])) c.in-Ok.is (c.requires []))
