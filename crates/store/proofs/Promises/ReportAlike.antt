-- Fill report, "Alike: equal figures and answers on alike segments": "the tally too is equal in two alike segments". The call answers the same and
-- leaves the same tally on every two segments that are alike in the paper's words (`Alike`) or by what is seen (`AlikeByKind`), with right size or
-- wrong, with sound pages or damaged ones, and whatever the tally was.
use Rattle.std.specs.Prelude.{ℕ, ◌≡◌, true, List}
use Rattle.std.proofs.Common.{ap}
use Rattle.store.specs.Segment.{seg_view, size_ok}
use Rattle.store.specs.Report.{figures, report_step}
use Rattle.store.specs.Alike.{Alike, AlikeByKind}
use Rattle.store.proofs.Laws.SoundSegment.{sized}
use Rattle.store.proofs.Laws.Alike.{alike_seen, by_size}

-- ---- by what is seen

pub figures_same : (s t : List ℕ) → AlikeByKind s t → figures (seg_view s) ≡ figures (seg_view t)
figures_same s t a = ap figures a.seen

pub report_same : (s t x : List ℕ) → AlikeByKind s t → report_step s x ≡ report_step t x
unfolding report_step
report_same s t x a = rw (a.seen, a.long)

-- ---- in the paper's words

-- of right size; one of another size is refused
pub figures_alike : (s t : List ℕ) → size_ok s ≡ true → Alike s t → figures (seg_view s) ≡ figures (seg_view t)
figures_alike s t e l = figures_same s t (alike_seen s t (sized s e) l)

-- the answer's number, and the tally afterwards
pub report_alike : (s t x : List ℕ) → Alike s t → report_step s x ≡ report_step t x
unfolding report_step
report_alike s t x l = by_size s t l _ (report_same s t x) (λ e f. rw (e, f))
