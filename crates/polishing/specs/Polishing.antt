-- Document 02, "Polishing rule, edition 2": which readings of a mirror are whole, what an edition demands of them, and the two calls.
use Rattle.std.specs.Prelude.{ℕ, zero, suc, ◌+◌, ◌-◌, ◌*◌, ◌^◌, Bool, true, cond, not, ◌&&◌, List, [], ◌∷◌, length, take, get_or, eqb, ltb, leb}
use Rattle.store.specs.Numbers.{cut, put, be, all, sum, one}
use Rattle.store.specs.Refusals.{DONE, SIZE, DAMAGED, ROOM}
use Rattle.store.specs.Segment.{seg_view, size_ok}
use Rattle.store.specs.Records.{records, count_if}
use Rattle.store.specs.Report.{all_sound}
use Rattle.exchange.specs.Exchange.{readings}

-- ---- the refusal

-- "for another edition or rows outside 1 to 2,048"
abbrev pub RULE : ℕ
RULE = 14

-- ---- "A reading of a mirror"

-- "the 8 bytes of mirror, reading and row" (Ask 7): of a record of 8 bytes or more
abbrev pub mirror_of : List ℕ → ℕ
mirror_of b = be (take 4 b)

abbrev pub reading_of : List ℕ → ℕ
reading_of b = be (cut b 4 2)

abbrev pub row_of : List ℕ → ℕ
row_of b = be (cut b 6 2)

-- of reading r of mirror m; how often its row k is there, and how many have a row from `rows` on
abbrev pub is_of : ℕ → ℕ → List ℕ → Bool
is_of m r b = eqb (mirror_of b) m && eqb (reading_of b) r

abbrev pub row_times : List (List ℕ) → ℕ → ℕ → ℕ → ℕ
row_times bs m r k = count_if (λ b. is_of m r b && eqb (row_of b) k) bs

abbrev pub other_rows : List (List ℕ) → ℕ → ℕ → ℕ → ℕ
other_rows bs m rows r = count_if (λ b. is_of m r b && leb rows (row_of b)) bs

-- "whole when each row below the named number of rows is there exactly once, with no other row"
unfoldable pub whole : List (List ℕ) → ℕ → ℕ → ℕ → Bool
whole bs m rows r = all rows (λ k. eqb (row_times bs m r k) 1) && eqb (other_rows bs m rows r) 0

-- ---- the rule sheet: an edition is a list of demands

-- at least so many whole readings, of the `span` numbers from `first` on
pub record Demand : Type 0 where
  pub least : ℕ
  pub first : ℕ
  pub span : ℕ

abbrev pub demand : ℕ → ℕ → ℕ → Demand
demand l a n = record { least = l; first = a; span = n }

-- "Edition 1: cleared when at least two readings are whole."
abbrev pub edition1 : List Demand
edition1 = demand 2 0 65536 ∷ []

-- "Edition 2: at least three, of which one has a reading number below 32,768 (as mounted) and one at or above it (turned)."
abbrev pub edition2 : List Demand
edition2 = demand 3 0 65536 ∷ demand 1 0 32768 ∷ demand 1 32768 32768 ∷ []

-- the rule sheets, edition 1 first: a third is a line here
abbrev pub editions : List (List Demand)
editions = edition1 ∷ edition2 ∷ []

-- the default is never asked (`named`)
abbrev pub demands_of : ℕ → List Demand
demands_of e = get_or editions (e - 1) edition1

-- how many of the n numbers from a on are in w
unfoldable pub counted : (ℕ → Bool) → ℕ → ℕ → ℕ
counted w a n = sum n (λ j. one (w (a + j)))

abbrev pub met : (ℕ → Bool) → List Demand → Bool
met w [] = true
met w (d ∷ ds) = leb d.least (counted w d.first d.span) && met w ds

-- ---- whether a mirror is cleared

-- the answer's number, and 1 or 0 for cleared
pub record Cleared : Type 0 where
  pub answer : ℕ
  pub cleared : ℕ

abbrev pub not_cleared : ℕ → Cleared
not_cleared a = record { answer = a; cleared = 0 }

-- "rows outside 1 to 2,048"; "another edition"
abbrev pub rows_named : ℕ → Bool
rows_named rows = leb 1 rows && leb rows 2048

abbrev pub named : ℕ → ℕ → Bool
named rows e = (leb 1 e && leb e (length editions)) && rows_named rows

-- "Both are judged from the scan over the records that Ask 7 stores"; "Records under 8 bytes don't count."
abbrev pub whole_in : List ℕ → ℕ → ℕ → ℕ → Bool
whole_in s m rows = whole (readings (records (seg_view s))) m rows

-- "Refusals: 1, then 14 RULE .., then 4."
unfoldable pub cleared_step : List ℕ → ℕ → ℕ → ℕ → Cleared
cleared_step s m rows e =
    cond (not (size_ok s)) (not_cleared SIZE)
    (cond (not (named rows e)) (not_cleared RULE)
    (cond (not (all_sound (seg_view s))) (not_cleared DAMAGED)
    (record { answer = DONE; cleared = one (met (whole_in s m rows) (demands_of e)) })))

-- ---- which readings are whole, so that a person sees why

-- the 64 numbers from 64 × i on as one word: bit j is 1 where 64 × i + j is in w; n words from word i on
abbrev pub word : (ℕ → Bool) → ℕ → ℕ
word w i = sum 64 (λ j. one (w (64 * i + j)) * 2 ^ j)

abbrev pub words_from : ℕ → (ℕ → Bool) → ℕ → List ℕ
words_from zero w i = []
words_from (suc n) w i = word w i ∷ words_from n w (i + 1)

-- the 65,536 reading numbers
unfoldable pub words : (ℕ → Bool) → List ℕ
words w = words_from 1024 w 0

-- the answer's number, and every word of the place that is lent
pub record Listed : Type 0 where
  pub answer : ℕ
  pub place : List ℕ

abbrev pub not_listed : ℕ → List ℕ → Listed
not_listed a p = record { answer = a; place = p }

-- 1, 14 and 4 as above, then 11 for a place of fewer than 1,024 words; one that is longer keeps its other words
unfoldable pub whole_step : List ℕ → ℕ → ℕ → List ℕ → Listed
whole_step s m rows p =
    cond (not (size_ok s)) (not_listed SIZE p)
    (cond (not (rows_named rows)) (not_listed RULE p)
    (cond (not (all_sound (seg_view s))) (not_listed DAMAGED p)
    (cond (ltb (length p) 1024) (not_listed ROOM p)
    (record { answer = DONE; place = put p 0 (words (whole_in s m rows)) }))))
