-- What the code's answers mean: the number of each, and what it tells.
use Rattle.std.specs.Prelude.{ℕ, Bool, List, Result, Ok, Err}
use Rattle.store.specs.Numbers.{one}
use Rattle.store.specs.Refusals.{SIZE, DAMAGED, ROOM}
use Rattle.store.specs.Answers.{told_no}
use Rattle.polishing.specs.Polishing.{RULE, Cleared, Listed}
use Rattle.polishing.specs.declared.RuleRefusal.{RuleRefusal}
use Rattle.polishing.specs.declared.RuleRefusal.TheVariants as refusal

abbrev pub rule_number : RuleRefusal → ℕ
rule_number refusal.Size = SIZE
rule_number refusal.Rule = RULE
rule_number refusal.Damaged = DAMAGED
rule_number refusal.Room = ROOM

-- ---- cleared: its number, and 1 for yes alone

abbrev pub clearing_no : Result Bool RuleRefusal → ℕ
clearing_no r = told_no rule_number r

abbrev pub clearing_yes : Result Bool RuleRefusal → ℕ
clearing_yes (Ok cleared) = one cleared
clearing_yes (Err r) = 0

abbrev pub cleared_by : Result Bool RuleRefusal → Cleared
cleared_by r = record { answer = clearing_no r; cleared = clearing_yes r }

-- ---- whole readings: its number

abbrev pub listing_no : Result (Unit {0}) RuleRefusal → ℕ
listing_no r = told_no rule_number r

-- what the call answered, and the place that it left
abbrev pub listed_by : Result (Unit {0}) RuleRefusal → List ℕ → Listed
listed_by r p = record { answer = listing_no r; place = p }
