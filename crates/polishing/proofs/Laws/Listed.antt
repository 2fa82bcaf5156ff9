-- The words of a list of reading numbers, one after the other; and what `whole_readings` answers and leaves, by its tests.
use Rattle.std.specs.Prelude.{ℕ, zero, suc, ◌+◌, ◌*◌, ◌/◌, ◌%◌, ◌≤◌, ◌<◌, ◌≡◌, Bool}
use Rattle.std.specs.Prelude.{true, false, cond, not, ◌&&◌, List, [], ◌∷◌, ◌⊎◌, length, get_or, drop}
use Rattle.std.specs.Prelude.{ltb, leb}
use Rattle.std.proofs.Math.Path.{refl, ap}
use Rattle.std.proofs.Common.{sym, subst, ◌∙◌, inl, inr, arith, drop-cons}
use Rattle.std.proofs.Math.ListN.{get_or-append}
use borrow.Author.Tests.{lt-ltb, le-ltb}
use Rattle.store.specs.Numbers.{put, one}
use Rattle.store.specs.Refusals.{DONE, SIZE, DAMAGED, ROOM}
use Rattle.store.specs.Segment.{seg_view, size_ok}
use Rattle.store.specs.Report.{all_sound}
use Rattle.store.proofs.Laws.Cases.{lt_or_le}
use Rattle.store.proofs.Laws.Numbers.{put_parts}
use Rattle.store.proofs.Laws.Views.{sum_ext}
use Rattle.page_check.specs.Map.{bit}
use Rattle.polishing.proofs.Laws.Bits.{bit_word}
use Rattle.polishing.proofs.Laws.Rule.{by_edition}
use Rattle.polishing.specs.Polishing.{Demand, counted, met, demands_of}
use Rattle.polishing.specs.Polishing.{RULE, word, words_from, words, rows_named, whole_in, Listed, not_listed, whole_step}

-- ---- the words

length_from : (n : ℕ) (w : ℕ → Bool) (i : ℕ) → length (words_from n w i) ≡ n
length_from zero w i = refl
length_from (suc n) w i = ap suc (length_from n w (i + 1))

from_at : (n : ℕ) (w : ℕ → Bool) (i k : ℕ) → k < n → get_or (words_from n w i) k 0 ≡ word w (i + k)
from_at zero w i k l = absurd (omega arith)
from_at (suc n) w i zero l = ap (word w) (omega arith)
from_at (suc n) w i (suc k) l = from_at n w (i + 1) k (omega arith) ∙ ap (word w) (omega arith)

module _ (w : ℕ → Bool) where
  pub length_words : length (words w) ≡ 1024
  unfolding words
  length_words = length_from 1024 w 0

  words_at : (i : ℕ) → i < 1024 → get_or (words w) i 0 ≡ word w i
  unfolding words
  words_at i l = from_at 1024 w 0 i l ∙ ap (word w) (omega arith)

  -- what is left of them from word i on
  pub words_next : (i : ℕ) → i < 1024 → drop i (words w) ≡ word w i ∷ drop (suc i) (words w)
  words_next i l = drop-cons (words w) i 0 (omega (arith, length_words)) ∙ ap (λ (x : ℕ). x ∷ drop (suc i) (words w)) (words_at i l)

  -- bit r % 64 of word r / 64 tells of r
  pub words_bit : (p : List ℕ) → 1024 ≤ length p → (r : ℕ) → r < 65536 → bit (r % 64) (get_or (put p 0 (words w)) (r / 64) 0) ≡ one (w r)
  words_bit p l r h =
      let i : ℕ = r / 64 in
      let parts = put_parts p 0 (words w) (omega (arith, length_words)) in
      let same : 64 * i + r % 64 ≡ r = omega arith in
      ap (λ (q : List ℕ). bit (r % 64) (get_or q i 0)) parts
      ∙ ap (bit (r % 64)) (get_or-append (words w) _ 0 i (omega (arith, length_words)) ∙ words_at i (omega arith))
      ∙ bit_word w i (r % 64) (omega arith) ∙ ap (λ (x : ℕ). one (w x)) same

-- ---- the rule looks at the 65,536 numbers alone

-- so do these demands
abbrev Inside : List Demand → Type 0
Inside [] = Unit {0}
Inside (d ∷ ds) = (d.first + d.span ≤ 65536) × Inside ds

inside : (e : ℕ) → Inside (demands_of e)
inside e = by_edition Inside e (λ _. (omega arith, tt)) (λ _. (omega arith, (omega arith, (omega arith, tt))))

module _ (w x : ℕ → Bool) (same : (r : ℕ) → r < 65536 → w r ≡ x r) where
  counted_same : (a n : ℕ) → a + n ≤ 65536 → counted w a n ≡ counted x a n
  unfolding counted
  counted_same a n l = sum_ext n (λ j. one (w (a + j))) (λ j. one (x (a + j))) (λ j h. ap one (same (a + j) (omega arith)))

  demands_same : (ds : List Demand) → Inside ds → met w ds ≡ met x ds
  demands_same [] h = refl
  demands_same (d ∷ ds) h = λ i. leb d.least (counted_same d.first d.span h.0 i) && demands_same ds h.1 i

  pub met_same : (e : ℕ) → met w (demands_of e) ≡ met x (demands_of e)
  met_same e = demands_same (demands_of e) (inside e)

-- ---- the call, by its tests

-- by size, rows and pages, and by the place and the words
abbrev pub answered : Bool → Bool → Bool → List ℕ → List ℕ → Listed
answered size names pages p ws =
    cond (not size) (not_listed SIZE p)
    (cond (not names) (not_listed RULE p)
    (cond (not pages) (not_listed DAMAGED p) (cond (ltb (length p) 1024) (not_listed ROOM p) (record { answer = DONE; place = put p 0 ws }))))

module _ (s : List ℕ) (m rows : ℕ) (p : List ℕ) where
  pub by_answer : whole_step s m rows p ≡ answered (size_ok s) (rows_named rows) (all_sound (seg_view s)) p (words (whole_in s m rows))
  unfolding whole_step
  by_answer = refl

  pub on_size : size_ok s ≡ false → whole_step s m rows p ≡ not_listed SIZE p
  unfolding whole_step
  on_size a = rw a

  module _ (size : size_ok s ≡ true) where
    pub on_rule : rows_named rows ≡ false → whole_step s m rows p ≡ not_listed RULE p
    unfolding whole_step
    on_rule b = rw (size, b)

    module _ (rule : rows_named rows ≡ true) where
      pub on_damage : all_sound (seg_view s) ≡ false → whole_step s m rows p ≡ not_listed DAMAGED p
      unfolding whole_step
      on_damage c = rw (size, rule, c)

      module _ (sounds : all_sound (seg_view s) ≡ true) where
        pub on_room : length p < 1024 → whole_step s m rows p ≡ not_listed ROOM p
        unfolding whole_step
        on_room l = rw (size, rule, sounds, lt-ltb (length p) 1024 l)

        pub on_done : 1024 ≤ length p → whole_step s m rows p ≡ record { answer = DONE; place = put p 0 (words (whole_in s m rows)) }
        unfolding whole_step
        on_done l = rw (size, rule, sounds, le-ltb (length p) 1024 l)

  -- a property of what is answered and left, from each of the five
  pub by_listed : (P : Listed → Type 0) → (size_ok s ≡ false → P (not_listed SIZE p)) → (size_ok s ≡ true → rows_named rows ≡ false → P (not_listed RULE p))
      → (size_ok s ≡ true → rows_named rows ≡ true → all_sound (seg_view s) ≡ false → P (not_listed DAMAGED p))
      → (size_ok s ≡ true → rows_named rows ≡ true → all_sound (seg_view s) ≡ true → length p < 1024 → P (not_listed ROOM p))
      → (size_ok s ≡ true → rows_named rows ≡ true → all_sound (seg_view s) ≡ true → 1024 ≤ length p
      → P (record { answer = DONE; place = put p 0 (words (whole_in s m rows)) })) → P (whole_step s m rows p)
  by_listed P a b c d f = go (size_ok s) refl (rows_named rows) refl (all_sound (seg_view s)) refl (lt_or_le (length p) 1024)
    where
      go : (x : Bool) → size_ok s ≡ x → (y : Bool) → rows_named rows ≡ y → (z : Bool) → all_sound (seg_view s) ≡ z
          → (length p < 1024) ⊎ (1024 ≤ length p) → P (whole_step s m rows p)
      go false g y h z k l = subst P (sym (on_size g)) (a g)
      go true g false h z k l = subst P (sym (on_rule g h)) (b g h)
      go true g true h false k l = subst P (sym (on_damage g h k)) (c g h k)
      go true g true h true k (inl l) = subst P (sym (on_room g h k l)) (d g h k l)
      go true g true h true k (inr l) = subst P (sym (on_done g h k l)) (f g h k l)
