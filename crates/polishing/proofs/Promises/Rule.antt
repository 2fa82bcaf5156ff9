-- "Show once over both that more whole readings never turn a yes into a no. Edition 2's yes implies edition 1's." (document 02, "Polishing rule,
-- edition 2"). Of what the call answers; a yes stands beside the answer 0 alone.
use Rattle.std.specs.Prelude.{ℕ, ◌≡◌, true, List}
use Rattle.store.specs.Refusals.{DONE}
use Rattle.polishing.specs.Polishing.{demands_of, whole_in, cleared_step}
use Rattle.polishing.proofs.Laws.Rule as rule
use Rattle.polishing.proofs.Laws.Judged.{done_judged, yes_judged, judged_yes}

-- every reading that is whole in s is whole in t, s is cleared, and t is judged by the same edition: t is cleared. Mirror and rows may differ
pub more : (s t : List ℕ) (m n rows rows' e : ℕ) → ((r : ℕ) → whole_in s m rows r ≡ true → whole_in t n rows' r ≡ true)
    → (cleared_step s m rows e).cleared ≡ 1 → (cleared_step t n rows' e).answer ≡ DONE → (cleared_step t n rows' e).cleared ≡ 1
more s t m n rows rows' e h y done =
    judged_yes t n rows' e (done_judged t n rows' e done) (rule.more (whole_in s m rows) (whole_in t n rows') h (demands_of e) (yes_judged s m rows e y).1)

-- of the same segment, mirror and rows
pub second_first : (s : List ℕ) (m rows : ℕ) → (cleared_step s m rows 2).cleared ≡ 1 → (cleared_step s m rows 1).cleared ≡ 1
second_first s m rows q =
    let y = yes_judged s m rows 2 q in
    judged_yes s m rows 1 (record { size = y.0.size; names = y.0.names; pages = y.0.pages }) (rule.second_first (whole_in s m rows) y.1)
