-- Each contract admits a single outcome: the left side of its equation fixes the answer itself and every word of the place.
use Rattle.std.specs.Prelude.{ℕ, ◌≡◌, refl, Bool, true, false, cond, List, eqb, Result, Ok, Err}
use Rattle.std.proofs.Common.{sym, ap, ◌∙◌}
use Rattle.store.specs.Refusals.{SIZE, DAMAGED, ROOM}
use Rattle.polishing.specs.Polishing.{RULE, Cleared, Listed}
use Rattle.polishing.specs.Told.{cleared_by, listed_by}
use Rattle.polishing.specs.declared.RuleRefusal.{RuleRefusal}
use Rattle.polishing.specs.declared.RuleRefusal.TheVariants as refusal

-- an answer from its number: of 0 what is told with it, of any other its refusal
abbrev answer_at : {T : Type 0} → T → ℕ → Result T RuleRefusal
answer_at x n =
    cond (eqb n SIZE) (Err refusal.Size)
    (cond (eqb n RULE) (Err refusal.Rule) (cond (eqb n DAMAGED) (Err refusal.Damaged) (cond (eqb n ROOM) (Err refusal.Room) (Ok x))))

-- ---- cleared

pub cleared_single : (r r' : Result Bool RuleRefusal) → cleared_by r ≡ cleared_by r' → r ≡ r'
cleared_single r r' e = sym (back r) ∙ ap answer e ∙ back r'
  where
    answer : Cleared → Result Bool RuleRefusal
    answer o = answer_at (eqb o.cleared 1) o.answer

    back : (a : Result Bool RuleRefusal) → answer (cleared_by a) ≡ a
    back (Ok true) = refl
    back (Ok false) = refl
    back (Err refusal.Size) = refl
    back (Err refusal.Rule) = refl
    back (Err refusal.Damaged) = refl
    back (Err refusal.Room) = refl

-- ---- whole readings

pub listed_single : (r r' : Result (Unit {0}) RuleRefusal) (p p' : List ℕ) → listed_by r p ≡ listed_by r' p' → (r ≡ r') × (p ≡ p')
listed_single r r' p p' e = (sym (back r p) ∙ ap answer e ∙ back r' p', ap (λ (o : Listed). o.place) e)
  where
    answer : Listed → Result (Unit {0}) RuleRefusal
    answer o = answer_at tt o.answer

    back : (a : Result (Unit {0}) RuleRefusal) (q : List ℕ) → answer (listed_by a q) ≡ a
    back (Ok u) q = refl
    back (Err refusal.Size) q = refl
    back (Err refusal.Rule) q = refl
    back (Err refusal.Damaged) q = refl
    back (Err refusal.Room) q = refl
