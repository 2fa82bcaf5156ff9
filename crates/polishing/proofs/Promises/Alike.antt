-- Demand 3 over the polishing rule: alike segments are cleared alike and list the same readings. In the paper's words (`Alike`) and by what is seen
-- (`AlikeByKind`); of all segments, damaged ones too, and with right size or wrong.
use Rattle.std.specs.Prelude.{ℕ, ◌≡◌, List}
use Rattle.std.proofs.Common.{sym, ◌∙◌}
use Rattle.store.specs.Alike.{Alike, AlikeByKind}
use Rattle.store.proofs.Laws.Alike.{by_size}
use Rattle.polishing.specs.Polishing.{cleared_step, whole_step}
use Rattle.polishing.proofs.Laws.Judged as judged
use Rattle.polishing.proofs.Laws.Listed as listed

-- ---- by kind and values

module _ (s t : List ℕ) (a : AlikeByKind s t) (m rows : ℕ) where
  pub cleared_same : (e : ℕ) → cleared_step s m rows e ≡ cleared_step t m rows e
  unfolding cleared_step
  cleared_same e = rw (a.seen, a.long)

  pub listed_same : (p : List ℕ) → whole_step s m rows p ≡ whole_step t m rows p
  unfolding whole_step
  listed_same p = rw (a.seen, a.long)

-- ---- in the paper's words

module _ (s t : List ℕ) (l : Alike s t) where
  -- the answer's number, and whether the mirror is cleared
  pub cleared_alike : (m rows e : ℕ) → cleared_step s m rows e ≡ cleared_step t m rows e
  cleared_alike m rows e =
      by_size s t l _ (λ a. cleared_same s t a m rows e) (λ f g. judged.on_size s m rows e f ∙ sym (judged.on_size t m rows e g))

  -- the answer's number, and every word of the place
  pub listed_alike : (m rows : ℕ) (p : List ℕ) → whole_step s m rows p ≡ whole_step t m rows p
  listed_alike m rows p =
      by_size s t l _ (λ a. listed_same s t a m rows p) (λ f g. listed.on_size s m rows p f ∙ sym (listed.on_size t m rows p g))
