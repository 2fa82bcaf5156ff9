-- Words for the contracts of the functions that insert and allocate share.
use Rattle.std.specs.Prelude.{ℕ, ◌+◌, ◌≡◌, ◌≤◌, false, List, length, get_or, Option, Some, Ok, Err}
use Rattle.std.specs.Prelude.{Result as ResultOf}
use Rattle.store.specs.Answers.{outcome}
use Rattle.store.specs.Segment.{Result, result, seg_view, find_on, inserted, insert_step}
use Rattle.store.specs.Laws.Lent.{Within, SoundOn}
use Rattle.store.specs.declared.Refusal.{Refusal}

-- a record with these bytes, where the inventory names a page, or none
abbrev pub named_on : List ℕ → List ℕ → List ℕ → Option ℕ → Result
named_on s v bs m = result s (inserted (seg_view s) v bs (find_on (seg_view s) (length bs) (λ p. false) m))

-- the page that the inventory names for such a record. A refusal is what the call answers, and nothing changes; a page is the segment's, the
-- bytes are no more than a record may have, and the call does what it does on that page
abbrev pub PageFor : List ℕ → List ℕ → List ℕ → ResultOf ℕ Refusal → Type 0
PageFor s v bs (Ok p) = Within s p × (length bs ≤ 16364) × (named_on s v bs (Some p) ≡ insert_step s v bs)
PageFor s v bs (Err r) = outcome (Err r) s v ≡ insert_step s v bs

-- ---- many rows: the pages that a call remembers, each by its number and 1, are sound

pub record KnownSound (s ks : List ℕ) : Type 0 where
  pub long : length ks ≡ 16
  pub sound : (j p : ℕ) → get_or ks j 0 ≡ p + 1 → SoundOn s p
