-- What `cleared` answers, by its tests.
use Rattle.std.specs.Prelude.{ℕ, ◌≡◌, Bool, true, false, cond, not, List}
use Rattle.std.proofs.Math.Path.{refl}
use Rattle.std.proofs.Common.{sym, ap, ◌∙◌, subst, arith}
use Rattle.store.specs.Numbers.{one}
use Rattle.store.specs.Refusals.{DONE, SIZE, DAMAGED}
use Rattle.store.specs.Segment.{seg_view, size_ok}
use Rattle.store.specs.Report.{all_sound}
use Rattle.polishing.specs.Polishing.{RULE, demands_of, met, Cleared, not_cleared, named, whole_in, cleared_step}

-- by size, names and pages, and by the rule
abbrev pub answered : Bool → Bool → Bool → Bool → Cleared
answered size names pages rule =
    cond (not size) (not_cleared SIZE)
    (cond (not names) (not_cleared RULE) (cond (not pages) (not_cleared DAMAGED) (record { answer = DONE; cleared = one rule })))

-- the tests that an answer 0 has passed
pub record Judged (s : List ℕ) (rows e : ℕ) : Type 0 where
  pub size : size_ok s ≡ true
  pub names : named rows e ≡ true
  pub pages : all_sound (seg_view s) ≡ true

module _ (s : List ℕ) (m rows e : ℕ) where
  -- the answer then
  abbrev judgment : Cleared
  judgment = record { answer = DONE; cleared = one (met (whole_in s m rows) (demands_of e)) }

  pub by_answer : cleared_step s m rows e ≡ answered (size_ok s) (named rows e) (all_sound (seg_view s)) (met (whole_in s m rows) (demands_of e))
  unfolding cleared_step
  by_answer = refl

  pub on_size : size_ok s ≡ false → cleared_step s m rows e ≡ not_cleared SIZE
  unfolding cleared_step
  on_size a = rw a

  pub on_rule : size_ok s ≡ true → named rows e ≡ false → cleared_step s m rows e ≡ not_cleared RULE
  unfolding cleared_step
  on_rule a b = rw (a, b)

  pub on_damage : size_ok s ≡ true → named rows e ≡ true → all_sound (seg_view s) ≡ false → cleared_step s m rows e ≡ not_cleared DAMAGED
  unfolding cleared_step
  on_damage a b c = rw (a, b, c)

  pub on_judged : Judged s rows e → cleared_step s m rows e ≡ judgment
  unfolding cleared_step
  on_judged j = rw (j.size, j.names, j.pages)

  -- a property of the answer, from each of the four with its tests
  pub by_cleared : (P : Cleared → Type 0) → (size_ok s ≡ false → P (not_cleared SIZE)) → (size_ok s ≡ true → named rows e ≡ false → P (not_cleared RULE))
      → (size_ok s ≡ true → named rows e ≡ true → all_sound (seg_view s) ≡ false → P (not_cleared DAMAGED)) → (Judged s rows e → P judgment)
      → P (cleared_step s m rows e)
  by_cleared P a b c d = go (size_ok s) refl (named rows e) refl (all_sound (seg_view s)) refl
    where
      go : (x : Bool) → size_ok s ≡ x → (y : Bool) → named rows e ≡ y → (z : Bool) → all_sound (seg_view s) ≡ z → P (cleared_step s m rows e)
      go false f y g z h = subst P (sym (on_size f)) (a f)
      go true f false g z h = subst P (sym (on_rule f g)) (b f g)
      go true f true g false h = subst P (sym (on_damage f g h)) (c f g h)
      go true f true g true h = let j : Judged s rows e = record { size = f; names = g; pages = h } in subst P (sym (on_judged j)) (d j)

  pub done_judged : (cleared_step s m rows e).answer ≡ DONE → Judged s rows e
  done_judged =
      by_cleared (λ (r : Cleared). r.answer ≡ DONE → Judged s rows e) (λ f z. absurd (omega arith)) (λ f g z. absurd (omega arith))
      (λ f g h z. absurd (omega arith)) (λ j z. j)

  -- a yes is an answer 0 with every demand met
  pub yes_judged : (cleared_step s m rows e).cleared ≡ 1 → Judged s rows e × (met (whole_in s m rows) (demands_of e) ≡ true)
  yes_judged =
      by_cleared (λ (r : Cleared). r.cleared ≡ 1 → Judged s rows e × (met (whole_in s m rows) (demands_of e) ≡ true)) (λ f z. absurd (omega arith))
      (λ f g z. absurd (omega arith)) (λ f g h z. absurd (omega arith)) (λ j z. (j, one_true (met (whole_in s m rows) (demands_of e)) z))
    where
      one_true : (b : Bool) → one b ≡ 1 → b ≡ true
      one_true true z = refl
      one_true false z = absurd (omega arith)

  pub judged_yes : Judged s rows e → met (whole_in s m rows) (demands_of e) ≡ true → (cleared_step s m rows e).cleared ≡ 1
  judged_yes j t = ap (λ (r : Cleared). r.cleared) (on_judged j) ∙ ap one t
