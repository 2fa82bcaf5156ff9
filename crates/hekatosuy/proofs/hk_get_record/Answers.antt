use mathlib.Core.Path.{◌≡◌, refl, ◌∙◌}
use Rattle.std.proofs.Common.{Result, Ok, Err}
use Rattle.store.specs.Answers.{reading_no, located}
use Rattle.store.specs.Segment.{Located}
use Rattle.store.specs.declared.Part.{Part}
use Rattle.store.specs.declared.Refusal.{Refusal}
use Rattle.hekatosuy.proofs.hk_get_record.Goals as goal

-- an answer is its number and its part
both : (r : Result Part Refusal) → ◌≡◌ {A = Located} (record { answer = reading_no r; part = (located r).part }) (located r)
both (Ok d) = refl
both (Err x) = refl

pub returns : goal.returns
returns c = rw (c.answer_no.ensures, c.part-part.ensures) (both c.find_record-r.result ∙ c.find_record-r.ensures)
