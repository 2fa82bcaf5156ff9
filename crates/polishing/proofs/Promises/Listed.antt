-- Which readings of a mirror are whole, `whole_step`, so that a person sees why: when each answer is given and what the place that is lent is afterwards;
-- and that `cleared` is the rule over the list that is handed out. For all segments, damaged ones too, all numbers and all places.
use Rattle.std.specs.Prelude.{ℕ, ◌/◌, ◌%◌, ◌≤◌, ◌<◌, ◌≡◌, refl, Bool, true, false, List, ◌↔◌, ◌≢◌, ◌⊎◌, length, get_or, drop, eqb}
use Rattle.std.proofs.Common.{sym, ap, ◌∙◌, inl, inr, arith}
use Rattle.store.specs.Numbers.{one}
use Rattle.store.specs.Refusals.{DONE, SIZE, DAMAGED, ROOM}
use Rattle.store.specs.Segment.{size_ok}
use Rattle.store.specs.SoundSegment.{PagesSound}
use Rattle.store.specs.ReportTold.{Damage}
use Rattle.store.proofs.Laws.Numbers.{length_put, drop_put}
use Rattle.store.proofs.Laws.Report.{each_sound, sound_each, damage, damaged}
use Rattle.page_check.specs.Map.{bit}
use Rattle.polishing.specs.Polishing.{RULE, Cleared, Listed, rows_named, whole_in, words, met, demands_of, cleared_step, whole_step}
use Rattle.polishing.proofs.Laws.Judged.{done_judged, on_judged}
use Rattle.polishing.proofs.Laws.Listed.{length_words, words_bit, met_same, on_size, on_rule, on_damage, on_room, on_done, by_listed}

-- bit r % 64 of word r / 64 is set
abbrev pub in_list : List ℕ → ℕ → Bool
in_list p r = eqb (bit (r % 64) (get_or p (r / 64) 0)) 1

module _ (s : List ℕ) (m rows : ℕ) (p : List ℕ) where
  -- ---- 1, 14 for rows outside 1 to 2,048, 4, then 11

  pub answers : let a = (whole_step s m rows p).answer in (a ≡ DONE) ⊎ (a ≡ SIZE) ⊎ (a ≡ DAMAGED) ⊎ (a ≡ ROOM) ⊎ (a ≡ RULE)
  answers =
      by_listed s m rows p
      (λ (r : Listed). (r.answer ≡ DONE) ⊎ (r.answer ≡ SIZE) ⊎ (r.answer ≡ DAMAGED) ⊎ (r.answer ≡ ROOM) ⊎ (r.answer ≡ RULE)) (λ a. inr (inl refl))
      (λ a b. inr (inr (inr (inr refl)))) (λ a b c. inr (inr (inl refl))) (λ a b c l. inr (inr (inr (inl refl)))) (λ a b c l. inl refl)

  -- 1 exactly if the segment is not 0 to 32,527 whole pages
  pub size_exactly : ((whole_step s m rows p).answer ≡ SIZE) ↔ (size_ok s ≡ false)
  size_exactly = (
    by_listed s m rows p (λ (r : Listed). r.answer ≡ SIZE → size_ok s ≡ false) (λ a z. a) (λ a b z. absurd (omega arith)) (λ a b c z. absurd (omega arith))
        (λ a b c l z. absurd (omega arith)) (λ a b c l z. absurd (omega arith)),
    λ a. ap (λ (r : Listed). r.answer) (on_size s m rows p a),
  )

  -- 14 exactly if it is, and the rows are not 1 to 2,048
  pub rule_exactly : ((whole_step s m rows p).answer ≡ RULE) ↔ ((size_ok s ≡ true) × (rows_named rows ≡ false))
  rule_exactly = (
    by_listed s m rows p (λ (r : Listed). r.answer ≡ RULE → (size_ok s ≡ true) × (rows_named rows ≡ false)) (λ a z. absurd (omega arith)) (λ a b z. (a, b))
        (λ a b c z. absurd (omega arith)) (λ a b c l z. absurd (omega arith)) (λ a b c l z. absurd (omega arith)),
    λ x. ap (λ (r : Listed). r.answer) (on_rule s m rows p x.0 x.1),
  )

  -- 4 exactly if both are right and some page is not sound, whatever the place
  pub damaged_exactly : ((whole_step s m rows p).answer ≡ DAMAGED) ↔ ((size_ok s ≡ true) × (rows_named rows ≡ true) × Damage s)
  damaged_exactly = (
    by_listed s m rows p (λ (r : Listed). r.answer ≡ DAMAGED → (size_ok s ≡ true) × (rows_named rows ≡ true) × Damage s) (λ a z. absurd (omega arith))
        (λ a b z. absurd (omega arith)) (λ a b c z. (a, b, damage s c)) (λ a b c l z. absurd (omega arith)) (λ a b c l z. absurd (omega arith)),
    λ x. ap (λ (r : Listed). r.answer) (on_damage s m rows p x.0 x.1 (damaged s x.2)),
  )

  -- 11 exactly if all are right and the place has fewer than 1,024 words
  pub room_exactly : ((whole_step s m rows p).answer ≡ ROOM) ↔ ((size_ok s ≡ true) × (rows_named rows ≡ true) × PagesSound s × (length p < 1024))
  room_exactly = (
    by_listed s m rows p (λ (r : Listed). r.answer ≡ ROOM → (size_ok s ≡ true) × (rows_named rows ≡ true) × PagesSound s × (length p < 1024))
        (λ a z. absurd (omega arith)) (λ a b z. absurd (omega arith)) (λ a b c z. absurd (omega arith)) (λ a b c l z. (a, b, each_sound s c, l))
        (λ a b c l z. absurd (omega arith)),
    λ x. ap (λ (r : Listed). r.answer) (on_room s m rows p x.0 x.1 (sound_each s x.2) x.3),
  )

  -- 0 exactly if it has 1,024 or more
  pub done_exactly : ((whole_step s m rows p).answer ≡ DONE) ↔ ((size_ok s ≡ true) × (rows_named rows ≡ true) × PagesSound s × (1024 ≤ length p))
  done_exactly = (
    by_listed s m rows p (λ (r : Listed). r.answer ≡ DONE → (size_ok s ≡ true) × (rows_named rows ≡ true) × PagesSound s × (1024 ≤ length p))
        (λ a z. absurd (omega arith)) (λ a b z. absurd (omega arith)) (λ a b c z. absurd (omega arith)) (λ a b c l z. absurd (omega arith))
        (λ a b c l z. (a, b, each_sound s c, l)),
    λ x. ap (λ (r : Listed). r.answer) (on_done s m rows p x.0 x.1 (sound_each s x.2) x.3),
  )

  -- ---- the place

  -- on a refusal no word changes
  pub kept : (whole_step s m rows p).answer ≢ DONE → (whole_step s m rows p).place ≡ p
  kept =
      by_listed s m rows p (λ (r : Listed). r.answer ≢ DONE → r.place ≡ p) (λ a n. refl) (λ a b n. refl) (λ a b c n. refl) (λ a b c l n. refl)
      (λ a b c l n. absurd (n refl))

  pub place_long : length (whole_step s m rows p).place ≡ length p
  place_long =
      by_listed s m rows p (λ (r : Listed). length r.place ≡ length p) (λ a. refl) (λ a b. refl) (λ a b c. refl) (λ a b c l. refl)
      (λ a b c l. length_put p 0 (words (whole_in s m rows)))

  -- a place that is longer keeps its other words, whatever the answer
  pub rest_kept : drop 1024 (whole_step s m rows p).place ≡ drop 1024 p
  rest_kept =
      by_listed s m rows p (λ (r : Listed). drop 1024 r.place ≡ drop 1024 p) (λ a. refl) (λ a b. refl) (λ a b c. refl) (λ a b c l. refl)
      (λ a b c l. drop_put p 0 (words (whole_in s m rows)) 1024 (omega (arith, length_words (whole_in s m rows))))

  -- on 0 the first 1,024 words tell of each of the 65,536 reading numbers whether it is whole
  pub listed : (whole_step s m rows p).answer ≡ DONE → (r : ℕ) → r < 65536
      → bit (r % 64) (get_or (whole_step s m rows p).place (r / 64) 0) ≡ one (whole_in s m rows r)
  listed z r h =
      let x = done_exactly.0 z in
      ap (λ (q : Listed). bit (r % 64) (get_or q.place (r / 64) 0)) (on_done s m rows p x.0 x.1 (sound_each s x.2) x.3)
      ∙ words_bit (whole_in s m rows) p x.3 r h

  pub in_list_lem : (whole_step s m rows p).answer ≡ DONE → (r : ℕ) → r < 65536 → in_list (whole_step s m rows p).place r ≡ whole_in s m rows r
  in_list_lem z r h = ap (λ (n : ℕ). eqb n 1) (listed z r h) ∙ by (whole_in s m rows r)
    where
      by : (b : Bool) → eqb (one b) 1 ≡ b
      by true = refl
      by false = refl

  -- ---- the list is why: on 0 of both calls `cleared` is the edition's rule over the numbers in the list
  pub cleared_by_list : (e : ℕ) → (whole_step s m rows p).answer ≡ DONE → (cleared_step s m rows e).answer ≡ DONE
      → (cleared_step s m rows e).cleared ≡ one (met (in_list (whole_step s m rows p).place) (demands_of e))
  cleared_by_list e z y =
      ap (λ (r : Cleared). r.cleared) (on_judged s m rows e (done_judged s m rows e y))
      ∙ ap one (sym (met_same (in_list (whole_step s m rows p).place) (whole_in s m rows) (in_list_lem z) e))
