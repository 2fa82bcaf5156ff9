-- What the two calls answer, once the sizes and numbers have passed.
use Prim.Native.Nat.{ℕ}
use mathlib.Core.Path.{◌≡◌, refl, sym, ap, ◌∙◌}
use mathlib.Core.Bool.{Bool, true, false, ◌&&◌}
use mathlib.Core.List.{List}
use lib.Dec.{leb}
use Rattle.std.specs.Prelude.{Ok, Err}
use Rattle.store.specs.Segment.{size_ok}
use Rattle.store.proofs.Laws.SoundPage.{and_in}
use Rattle.polishing.specs.Polishing.{rows_named, named, met, demands_of, whole_in, cleared_step, whole_step}
use Rattle.polishing.specs.Told.{cleared_by, listed_by}
use Rattle.polishing.specs.Words.{edition_number, RefusedBy}
use Rattle.polishing.proofs.Laws.Judged.{on_rule, on_damage, on_judged}
use Rattle.polishing.proofs.Laws.Listed as listed
use Rattle.polishing.specs.declared.RuleRefusal.{RuleRefusal}
use Rattle.polishing.specs.declared.RuleRefusal.TheVariants as refusal
use Rattle.polishing.specs.declared.rule.Edition.{Edition}
use Rattle.polishing.specs.declared.rule.Edition.TheVariants.{First, Second}
use Rattle.polishing.specs.declared.readings.Readings.{Readings}

module _ (s : List ℕ) (m rows e : ℕ) (size : size_ok s ≡ true) where
  pub other_edition : (leb 1 e && leb e 2) ≡ false → cleared_by (Err refusal.Rule) ≡ cleared_step s m rows e
  other_edition h = sym (on_rule s m rows e size (ap (λ (b : Bool). b && rows_named rows) h))

  module _ (x : Edition) (is : e ≡ edition_number x) where
    of_edition : (leb 1 e && leb e 2) ≡ true
    of_edition = ap (λ (n : ℕ). leb 1 n && leb n 2) is ∙ go x
      where
        go : (y : Edition) → (leb 1 (edition_number y) && leb (edition_number y) 2) ≡ true
        go First = refl
        go Second = refl

    names : rows_named rows ≡ true → named rows e ≡ true
    names rule = and_in (leb 1 e && leb e 2) (rows_named rows) of_edition rule

    pub not_judged : (r : RuleRefusal) → RefusedBy s rows r → cleared_by (Err r) ≡ cleared_step s m rows e
    not_judged refusal.Rule h = sym (on_rule s m rows e size (rw (of_edition, h) refl))
    not_judged refusal.Damaged h = sym (on_damage s m rows e size (names h.0) h.1)
    not_judged refusal.Size h = absurd h
    not_judged refusal.Room h = absurd h

    -- by the rule
    pub judged : (r : Readings) → (r.segment.now ≡ s) × (r.mirror ≡ m) × (r.rows ≡ rows) → (b : Bool)
        → b ≡ met (whole_in r.segment.now r.mirror r.rows) (demands_of (edition_number x)) → cleared_by (Ok b) ≡ cleared_step s m rows e
    judged r same b told =
        let pages = rw same.0 at r.sounds in
        let rule = rw same.2 at r.named in
        let by = told ∙ (λ i. met (whole_in (same.0 i) (same.1 i) (same.2 i)) (demands_of (sym is i))) in
        ap (λ (a : Bool). cleared_by (Ok a)) by ∙ sym (on_judged s m rows e (record { size = size; names = names rule; pages = pages }))

module _ (s : List ℕ) (m rows : ℕ) (p : List ℕ) (size : size_ok s ≡ true) where
  pub not_listed : (r : RuleRefusal) → RefusedBy s rows r → listed_by (Err r) p ≡ whole_step s m rows p
  not_listed refusal.Rule h = sym (listed.on_rule s m rows p size h)
  not_listed refusal.Damaged h = sym (listed.on_damage s m rows p size h.0 h.1)
  not_listed refusal.Size h = absurd h
  not_listed refusal.Room h = absurd h
