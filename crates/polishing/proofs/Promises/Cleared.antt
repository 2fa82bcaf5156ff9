-- Whether a mirror is cleared for polishing, `cleared_step` (document 02, "Polishing rule, edition 2"): when each answer is given, and what `cleared` is
-- then. "A wrong yes takes off glass": every doubt goes to no. For all segments, damaged ones too, and all numbers. The call only reads.
use Rattle.std.specs.Prelude.{ℕ, ◌^◌, ◌≤◌, ◌≡◌, refl, Bool, true, false, ◌&&◌, List, [], ◌↔◌, ◌≢◌, ◌⊎◌, leb}
use Rattle.std.proofs.Common.{ap, ◌∙◌, inl, inr, ⊎_elim, arith, le-leb}
use Rattle.store.specs.Numbers.{Bytes, In, one}
use Rattle.store.specs.Refusals.{DONE, SIZE, DAMAGED}
use Rattle.store.specs.Segment.{seg_view, size_ok}
use Rattle.store.specs.SoundSegment.{PagesSound}
use Rattle.store.specs.Records.{Entry, scan_all}
use Rattle.store.specs.ReportTold.{Damage}
use Rattle.store.proofs.Laws.Cases.{eq_or_ne, false_by, tests}
use Rattle.store.proofs.Laws.Report.{each_sound, sound_each, damage, damaged}
use Rattle.store.proofs.Laws.SoundPage.{and_both, and_in}
use Rattle.polishing.specs.Polishing.{RULE, Cleared, mirror_of, rows_named, named, whole_in, met, demands_of, cleared_step}
use Rattle.polishing.proofs.Laws.Judged.{on_size, on_rule, on_damage, on_judged, by_cleared, done_judged, yes_judged, judged_yes}
use Rattle.polishing.proofs.Laws.Whole.{rows_within, rows_named_lem}
use Rattle.polishing.proofs.Laws.NoRecord.{none_met, none_whole, wide_none}

-- ---- the numbers that are named: "another edition or rows outside 1 to 2,048"

pub rows_exactly : (rows : ℕ) → (rows_named rows ≡ true) ↔ ((1 ≤ rows) × (rows ≤ 2048))
rows_exactly rows = (
  rows_within rows,
  λ x. and_in (leb 1 rows) (leb rows 2048) (le-leb 1 rows x.0) (le-leb rows 2048 x.1),
)

pub named_exactly : (rows e : ℕ) → (named rows e ≡ true) ↔ (((e ≡ 1) ⊎ (e ≡ 2)) × (1 ≤ rows) × (rows ≤ 2048))
named_exactly rows e = (
  λ h.
      let b = and_both (leb 1 e && leb e 2) (rows_named rows) h in
      let k = and_both (leb 1 e) (leb e 2) b.0 in
      let r = rows_within rows b.1 in
      (⊎_elim (λ f. inl f) (λ n. inr (omega tests)) (eq_or_ne e 1), r.0, r.1),
  λ x.
      and_in (leb 1 e && leb e 2) (rows_named rows)
      (⊎_elim (λ f. rw f refl) (λ f. rw f refl) x.0) ((rows_exactly rows).1 (x.1, x.2)),
)

module _ (s : List ℕ) (m rows e : ℕ) where
  -- ---- "1, then 14 RULE for another edition or rows outside 1 to 2,048, then 4"

  -- "the answer is 0, 1, 4 or 14"
  pub answers : let a = (cleared_step s m rows e).answer in (a ≡ DONE) ⊎ (a ≡ SIZE) ⊎ (a ≡ DAMAGED) ⊎ (a ≡ RULE)
  answers =
      by_cleared s m rows e (λ (r : Cleared). (r.answer ≡ DONE) ⊎ (r.answer ≡ SIZE) ⊎ (r.answer ≡ DAMAGED) ⊎ (r.answer ≡ RULE))
      (λ a. inr (inl refl)) (λ a b. inr (inr (inr refl))) (λ a b c. inr (inr (inl refl))) (λ j. inl refl)

  -- 1 exactly if the segment is not 0 to 32,527 whole pages
  pub size_exactly : ((cleared_step s m rows e).answer ≡ SIZE) ↔ (size_ok s ≡ false)
  size_exactly = (
    by_cleared s m rows e (λ (r : Cleared). r.answer ≡ SIZE → size_ok s ≡ false) (λ a z. a) (λ a b z. absurd (omega arith))
        (λ a b c z. absurd (omega arith)) (λ j z. absurd (omega arith)),
    λ a. ap (λ (r : Cleared). r.answer) (on_size s m rows e a),
  )

  -- 14 exactly if it is, and the numbers are not named: no page is looked at
  pub rule_exactly : ((cleared_step s m rows e).answer ≡ RULE) ↔ ((size_ok s ≡ true) × (named rows e ≡ false))
  rule_exactly = (
    by_cleared s m rows e (λ (r : Cleared). r.answer ≡ RULE → (size_ok s ≡ true) × (named rows e ≡ false)) (λ a z. absurd (omega arith))
        (λ a b z. (a, b)) (λ a b c z. absurd (omega arith)) (λ j z. absurd (omega arith)),
    λ x. ap (λ (r : Cleared). r.answer) (on_rule s m rows e x.0 x.1),
  )

  -- 4 exactly if both are right and some page, wherever it lies, is not sound: "even when the pages before it already say yes, and even if it could
  -- hold nothing of this mirror"
  pub damaged_exactly : ((cleared_step s m rows e).answer ≡ DAMAGED) ↔ ((size_ok s ≡ true) × (named rows e ≡ true) × Damage s)
  damaged_exactly = (
    by_cleared s m rows e (λ (r : Cleared). r.answer ≡ DAMAGED → (size_ok s ≡ true) × (named rows e ≡ true) × Damage s) (λ a z. absurd (omega arith))
        (λ a b z. absurd (omega arith)) (λ a b c z. (a, b, damage s c)) (λ j z. absurd (omega arith)),
    λ x. ap (λ (r : Cleared). r.answer) (on_damage s m rows e x.0 x.1 (damaged s x.2)),
  )

  -- 0 exactly if all are right
  pub done_exactly : ((cleared_step s m rows e).answer ≡ DONE) ↔ ((size_ok s ≡ true) × (named rows e ≡ true) × PagesSound s)
  done_exactly = (
    λ z. let j = done_judged s m rows e z in (j.size, j.names, each_sound s j.pages),
    λ x. ap (λ (r : Cleared). r.answer) (on_judged s m rows e (record { size = x.0; names = x.1; pages = sound_each s x.2 })),
  )

  -- ---- cleared

  pub one_or_none : let c = (cleared_step s m rows e).cleared in (c ≡ 0) ⊎ (c ≡ 1)
  one_or_none =
      by_cleared s m rows e (λ (r : Cleared). (r.cleared ≡ 0) ⊎ (r.cleared ≡ 1)) (λ a. inl refl) (λ a b. inl refl) (λ a b c. inl refl)
      (λ j. by (met (whole_in s m rows) (demands_of e)))
    where
      by : (b : Bool) → (one b ≡ 0) ⊎ (one b ≡ 1)
      by true = inr refl
      by false = inl refl

  -- "A caller who forgets the answer then does not polish": on a refusal it is 0
  pub refused_no : (cleared_step s m rows e).answer ≢ DONE → (cleared_step s m rows e).cleared ≡ 0
  refused_no =
      by_cleared s m rows e (λ (r : Cleared). r.answer ≢ DONE → r.cleared ≡ 0) (λ a n. refl) (λ a b n. refl) (λ a b c n. refl)
      (λ j n. absurd (n refl))

  -- "Exactly then": on an answer 0 it is 1 if and only if the rule holds of the set of whole readings
  pub exactly_then : (cleared_step s m rows e).answer ≡ DONE → ((cleared_step s m rows e).cleared ≡ 1) ↔ (met (whole_in s m rows) (demands_of e) ≡ true)
  exactly_then z = (
    λ y. (yes_judged s m rows e y).1,
    judged_yes s m rows e (done_judged s m rows e z),
  )

  -- so it is 1 exactly if the size is right, both numbers are named, every page is sound and the rule holds
  pub yes_exactly : ((cleared_step s m rows e).cleared ≡ 1)
      ↔ ((size_ok s ≡ true) × (named rows e ≡ true) × PagesSound s × (met (whole_in s m rows) (demands_of e) ≡ true))
  yes_exactly = (
    λ y. let x = yes_judged s m rows e y in (x.0.size, x.0.names, each_sound s x.0.pages, x.1),
    λ x. judged_yes s m rows e (record { size = x.0; names = x.1; pages = sound_each s x.2 }) x.3,
  )

  -- ---- wide numbers

  -- "`rows` and `edition` likewise: 2^32 + 1 is no edition"
  pub wide_refused : (2 ^ 32 ≤ rows) ⊎ (2 ^ 32 ≤ e) → size_ok s ≡ true → (cleared_step s m rows e).answer ≡ RULE
  wide_refused w a =
      rule_exactly.1 (
        a,
        false_by (named rows e) λ h.
            let x = (named_exactly rows e).0 h in
            ⊎_elim (λ l. omega (arith, x.2)) (λ l. ⊎_elim (λ f. omega arith) (λ f. omega arith) x.0) w,
      )

  -- a mirror that no record names is not cleared
  pub no_record : ((x : Entry) → In x (scan_all s) → mirror_of x.bytes ≢ m) → (cleared_step s m rows e).cleared ≡ 0
  no_record none =
      by_cleared s m rows e (λ (r : Cleared). r.cleared ≡ 0) (λ a. refl) (λ a b. refl) (λ a b c. refl)
      (λ j. ap one (none_met (whole_in s m rows) (none_whole s m none rows (rows_named_lem rows e j.names)) e))

  -- "A mirror of 2^32 or more has no record: the answer is 0, not cleared": of any bytes
  pub wide_mirror : Bytes s → 2 ^ 32 ≤ m → (cleared_step s m rows e).cleared ≡ 0
  wide_mirror bytes l = no_record (wide_none s bytes m l)

-- "n = 0: no reading, answer 0, not cleared"
pub no_pages : (m rows e : ℕ) → named rows e ≡ true → cleared_step [] m rows e ≡ record { answer = DONE; cleared = 0 }
unfolding scan_all seg_view
no_pages m rows e h =
    let none : (x : Entry) → In x (scan_all []) → mirror_of x.bytes ≢ m = λ x i. absurd i in
    on_judged [] m rows e (record { size = refl; names = h; pages = sound_each [] (λ p l. absurd (omega arith)) })
    ∙ (λ i. record { answer = DONE; cleared = one (none_met (whole_in [] m rows) (none_whole [] m none rows (rows_named_lem rows e h)) e i) })
