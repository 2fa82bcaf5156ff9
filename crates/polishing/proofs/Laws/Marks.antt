-- A window's marks tell which of its readings are whole: bit j of a row's word is set just if reading j has the row, and j is spoiled just if it has
-- a row twice or one from `rows` on.
use Rattle.std.specs.Prelude.{ℕ, zero, suc, ◌+◌, ◌-◌, ◌*◌, ◌/◌, ◌%◌, ◌^◌, ◌≤◌, ◌<◌, min}
use Rattle.std.specs.Prelude.{max, ◌≡◌, refl, Some, None, Bool, true, false, cond, ◌&&◌, List, [], ◌∷◌, ◌⊎◌}
use Rattle.std.specs.Prelude.{length, get_or, set, eqb, leb}
use Rattle.std.proofs.Common.{sym, ap, ◌∙◌, inl, inr, arith, length-set, get_or-set_same, get_or-set_other, eq-eqb, ne_eqb, eqb-true}
use Rattle.std.proofs.lemmas.List.{length-replicate, get_or-replicate}
use Rattle.std.specs.Int.Bits.{bit_and, bit_or}
use Rattle.std.proofs.lemmas.Nat.{or_lt, and_le_l, and_le_r}
use Rattle.std.proofs.Math.Pow.{pow-lt, ones_sub-lt}
use Rattle.std.proofs.lemmas.Bool.{eqb-false}
use Rattle.store.specs.Numbers.{zeros, one}
use Rattle.store.proofs.Laws.Cases.{eq_or_ne, by_test, never, tests}
use Rattle.page_check.specs.Map.{bit}
use Rattle.page_check.specs.Bits.{bit_zero, bit_one, bit_and_lem, bit_or_lem}
use Rattle.polishing.specs.Polishing.{mirror_of, reading_of, row_of, is_of, row_times, other_rows, whole, word}
use Rattle.polishing.specs.Words.{head_of, with_row, with_head, marks_over, in_rows}
use Rattle.polishing.proofs.Laws.Bits.{others, word_lt, bit_word, bit_pow, bit_others, same_bits}
use Rattle.polishing.proofs.Laws.Whole.{whole_parts}
use Rattle.polishing.specs.declared.wanted.Wanted.{Wanted}
use Rattle.polishing.specs.declared.rows.Marks.{Marks}

-- no row is there, and no reading is spoiled
abbrev no_marks : Marks
no_marks = record { map = zeros 2048; spoiled = 0 }

-- ---- what is noted between two marks

-- the marks of reading j of the window: whether it has row k, and whether it is spoiled
abbrev has : ℕ → Marks → ℕ → ℕ
has j x k = bit j (get_or x.map k 0)

abbrev bad : ℕ → Marks → ℕ
bad j x = bit j x.spoiled

-- from x to y reading j has had o rows from n on, and row k t k times
record Noted (n j : ℕ) (x y : Marks) (o : ℕ) (t : ℕ → ℕ) : Type 0 where
  seen : (k : ℕ) → k < n → has j y k ≡ min 1 (has j x k + t k)
  clean : bad j y ≡ 0 → (bad j x ≡ 0) × (o ≡ 0) × ((k : ℕ) → k < n → has j x k + t k ≤ 1)
  back : bad j x ≡ 0 → o ≡ 0 → ((k : ℕ) → k < n → has j x k + t k ≤ 1) → bad j y ≡ 0

module _ (n j : ℕ) where
  -- nothing of reading j
  noted_none : (x y : Marks) → ((k : ℕ) → k < n → has j y k ≡ has j x k) → bad j y ≡ bad j x → Noted n j x y 0 (λ k. 0)
  noted_none x y f e = record {
    seen = λ k h. omega (arith, f k h, bit_one j (get_or x.map k 0));
    clean = λ z. (sym e ∙ z, refl, λ k h. omega (arith, bit_one j (get_or x.map k 0)));
    back = λ z _ _. e ∙ z;
  }

  -- one after another
  noted_then : (x y z : Marks) (o p : ℕ) (t u : ℕ → ℕ) → Noted n j x y o t → Noted n j y z p u → Noted n j x z (o + p) (λ k. t k + u k)
  noted_then x y z o p t u f g = record {
    seen = λ k h. omega (arith, f.seen k h, g.seen k h);
    clean = λ e.
        let b = g.clean e in
        let a = f.clean b.0 in
        (a.0, omega arith, λ k h. omega (arith, f.seen k h, a.2 k h, b.2 k h));
    back = λ e q h.
        g.back (f.back e (omega arith) (λ k l. omega (arith, h k l))) (omega arith) (λ k l. omega (arith, f.seen k l, h k l));
  }

-- ---- one row

-- marks with the bits of p at row i
abbrev marked : Marks → ℕ → ℕ → Marks
marked x i p = record { map = set x.map i (bit_or (get_or x.map i 0) p); spoiled = bit_or x.spoiled (bit_and (get_or x.map i 0) p) }

abbrev spoilt : Marks → ℕ → Marks
spoilt x p = record { map = x.map; spoiled = bit_or x.spoiled p }

module _ (n j : ℕ) (x : Marks) (i p : ℕ) where
  spoilt_bad : bad j (spoilt x p) ≡ max (bad j x) (bit j p)
  spoilt_bad = bit_or_lem j x.spoiled p

  marked_bad : bad j (marked x i p) ≡ max (bad j x) (min (has j x i) (bit j p))
  marked_bad = bit_or_lem j x.spoiled (bit_and (get_or x.map i 0) p) ∙ ap (max (bad j x)) (bit_and_lem j (get_or x.map i 0) p)

  module _ (inside : i < length x.map) where
    marked_has : (k : ℕ) (b : Bool) → eqb i k ≡ b → has j (marked x i p) k ≡ cond b (max (has j x k) (bit j p)) (has j x k)
    marked_has k true e =
        rw (← eqb-true i k e)
        (ap (bit j) (get_or-set_same x.map i (bit_or (get_or x.map i 0) p) 0 inside) ∙ bit_or_lem j (get_or x.map i 0) p)
    marked_has k false e = ap (bit j) (get_or-set_other x.map i k (bit_or (get_or x.map i 0) p) 0 (λ q. eqb-false i k e (sym q)))

  -- p has not the bit of reading j
  module _ (off : bit j p ≡ 0) where
    row_other : n ≤ length x.map → (b : Bool) → leb n i ≡ b → Noted n j x (cond b (spoilt x p) (marked x i p)) 0 (λ k. 0)
    row_other h true e = noted_none n j x (spoilt x p) (λ k l. refl) (omega (arith, spoilt_bad))
    row_other h false e =
        noted_none n j x (marked x i p) (λ k l. go k (eqb i k) (marked_has (omega tests) k (eqb i k) refl)) (omega (arith, marked_bad))
      where
        go : (k : ℕ) (b : Bool) → has j (marked x i p) k ≡ cond b (max (has j x k) (bit j p)) (has j x k) → has j (marked x i p) k ≡ has j x k
        go k true e = omega arith
        go k false e = e

  -- it has it
  module _ (on : bit j p ≡ 1) where
    row_own : n ≤ length x.map → (b : Bool) → leb n i ≡ b → Noted n j x (cond b (spoilt x p) (marked x i p)) (one b) (λ k. one (eqb i k))
    row_own h true e = record {
      seen = λ k l. rw (ne_eqb i k (λ q. omega tests)) (omega (arith, bit_one j (get_or x.map k 0)));
      clean = λ z. absurd (omega (arith, spoilt_bad));
      back = λ _ z _. absurd (omega arith);
    }
    row_own h false e = record {
      seen = λ k l. seen k (eqb i k) refl;
      clean = λ z. (omega (arith, marked_bad), refl, λ k l. fresh z k (eqb i k) refl);
      back = λ z _ f. omega (arith, marked_bad, f i (omega tests), ap one (eq-eqb i i refl));
    }
      where
        seen : (k : ℕ) (b : Bool) → eqb i k ≡ b → has j (marked x i p) k ≡ min 1 (has j x k + one b)
        seen k true q = omega (arith, marked_has (omega tests) k true q, bit_one j (get_or x.map k 0))
        seen k false q = omega (arith, marked_has (omega tests) k false q, bit_one j (get_or x.map k 0))

        fresh : bad j (marked x i p) ≡ 0 → (k : ℕ) (b : Bool) → eqb i k ≡ b → has j x k + one b ≤ 1
        fresh z k true q = rw (← eqb-true i k q) (omega (arith, marked_bad))
        fresh z k false q = omega (arith, bit_one j (get_or x.map k 0))

-- ---- one record, and all of them

-- reading j of the window
abbrev nth : Wanted → ℕ → ℕ
nth w j = 64 * w.window + j

-- as many words as rows may be named, and spoiled readings of 64
record Sized (x : Marks) : Type 0 where
  long : length x.map ≡ 2048
  small : x.spoiled < 2 ^ 64

module _ (w : Wanted) where
  sized_row : (x : Marks) → Sized x → (q i : ℕ) → Sized (with_row w.rows x q i)
  sized_row x s q i =
      by_test Sized (leb w.rows i) (spoilt x p) (marked x i p) (λ e. record { long = s.long; small = or_lt 64 x.spoiled p s.small bit_lt })
      (λ e. record {
        long = length-set x.map i (bit_or old p) ∙ s.long;
        small = or_lt 64 x.spoiled (bit_and old p) s.small (omega (arith, and_le_r old p, bit_lt));
      })
    where
      p : ℕ
      p = 2 ^ (q % 64)

      old : ℕ
      old = get_or x.map i 0

      bit_lt : p < 2 ^ 64
      bit_lt = pow-lt {j = 64} (omega arith)

  sized_head : (x : Marks) → Sized x → (b : List ℕ) → Sized (with_head w x (head_of w.mirror b))
  sized_head x s b = go (eqb (mirror_of b) w.mirror)
    where
      new : Marks
      new = with_row w.rows x (reading_of b) (row_of b)

      go : (a : Bool) → Sized (with_head w x (cond a (Some (record { reading = reading_of b; row = row_of b })) None))
      go true = by_test Sized (eqb (reading_of b / 64) w.window) new x (λ _. sized_row x s (reading_of b) (row_of b)) (λ _. s)
      go false = s

  sized_all : (x : Marks) → Sized x → (bs : List (List ℕ)) → Sized (marks_over w x bs)
  sized_all x s [] = s
  sized_all x s (b ∷ bs) = sized_all (with_head w x (head_of w.mirror b)) (sized_head x s b) bs

  -- of reading j of the window
  module _ (few : w.rows ≤ 2048) (j : ℕ) (h : j < 64) where
    noted_row : (x : Marks) → Sized x → (q i : ℕ)
        → Noted w.rows j x (with_head w x (Some (record { reading = q; row = i }))) (one (eqb q (nth w j) && leb w.rows i))
        (λ k. one (eqb q (nth w j) && eqb i k))
    noted_row x s q i = go (eqb (q / 64) w.window) (eqb q (nth w j)) refl refl
      where
        p : ℕ
        p = 2 ^ (q % 64)

        go : (c d : Bool) → eqb (q / 64) w.window ≡ c → eqb q (nth w j) ≡ d
            → Noted w.rows j x (cond c (with_row w.rows x q i) x) (one (d && leb w.rows i)) (λ k. one (d && eqb i k))
        go true true e f =
            row_own w.rows j x i p (bit_pow j (q % 64) ∙ ap one (eq-eqb j (q % 64) (omega tests))) (omega (arith, s.long)) (leb w.rows i) refl
        go true false e f =
            row_other w.rows j x i p (bit_pow j (q % 64) ∙ ap one (ne_eqb j (q % 64) (λ g. omega tests))) (omega (arith, s.long)) (leb w.rows i) refl
        go false true e f = absurd (omega tests)
        go false false e f = noted_none w.rows j x x (λ k l. refl) refl

    noted_head : (x : Marks) → Sized x → (b : List ℕ)
        → Noted w.rows j x (with_head w x (head_of w.mirror b)) (one (is_of w.mirror (nth w j) b && leb w.rows (row_of b)))
        (λ k. one (is_of w.mirror (nth w j) b && eqb (row_of b) k))
    noted_head x s b = go (eqb (mirror_of b) w.mirror)
      where
        go : (a : Bool) → Noted w.rows j x (with_head w x (cond a (Some (record { reading = reading_of b; row = row_of b })) None))
            (one ((a && eqb (reading_of b) (nth w j)) && leb w.rows (row_of b))) (λ k. one ((a && eqb (reading_of b) (nth w j)) && eqb (row_of b) k))
        go true = noted_row x s (reading_of b) (row_of b)
        go false = noted_none w.rows j x x (λ k l. refl) refl

    noted_all : (x : Marks) → Sized x → (bs : List (List ℕ))
        → Noted w.rows j x (marks_over w x bs) (other_rows bs w.mirror w.rows (nth w j)) (row_times bs w.mirror (nth w j))
    noted_all x s [] = noted_none w.rows j x x (λ k l. refl) refl
    noted_all x s (b ∷ bs) =
        let y = with_head w x (head_of w.mirror b) in
        noted_then w.rows j x y (marks_over w y bs) _ _ _ _ (noted_head x s b) (noted_all y (sized_head x s b) bs)

-- ---- the bits that the rows have in common

rows_le : (n : ℕ) (u : List ℕ) (a : ℕ) → in_rows n u a ≤ a
rows_le zero u a = omega arith
rows_le (suc n) u a = omega (arith, and_le_l (in_rows n u a) (get_or u n 0), rows_le n u a)

-- bit j of a and of each of n words is set
abbrev InAll : ℕ → List ℕ → ℕ → ℕ → Type 0
InAll n u a j = (bit j a ≡ 1) × ((k : ℕ) → k < n → bit j (get_or u k 0) ≡ 1)

module _ (u : List ℕ) (a j : ℕ) where
  rows_each : (n : ℕ) → bit j (in_rows n u a) ≡ 1 → InAll n u a j
  rows_each zero e = (e, λ k l. absurd (omega arith))
  rows_each (suc n) e =
      let q : bit j (in_rows n u a) ≡ 1 = omega (arith, bit_and_lem j (in_rows n u a) (get_or u n 0), bit_one j (in_rows n u a)) in
      let s = rows_each n q in
      (s.0, λ k l. last k l (s.1 k) (eq_or_ne k n))
    where
      last : (k : ℕ) → k < suc n → (k < n → bit j (get_or u k 0) ≡ 1) → (k ≡ n) ⊎ (k ≡ n → ⊥) → bit j (get_or u k 0) ≡ 1
      last k l f (inl g) = rw g (omega (arith, bit_and_lem j (in_rows n u a) (get_or u n 0), bit_one j (get_or u n 0)))
      last k l f (inr g) = f (omega arith)

  rows_common : (n : ℕ) → InAll n u a j → bit j (in_rows n u a) ≡ 1
  rows_common zero f = f.0
  rows_common (suc n) f =
      omega (arith, bit_and_lem j (in_rows n u a) (get_or u n 0), rows_common n (f.0, λ k l. f.1 k (omega arith)), f.1 n (omega arith))

-- ---- the whole readings

-- a bit is set just if a test passes
bit_is : (x : ℕ) (b : Bool) → x ≤ 1 → (x ≡ 1 → b ≡ true) → (b ≡ true → x ≡ 1) → x ≡ one b
bit_is x true h f g = g refl
bit_is x false h f g = go (eq_or_ne x 1)
  where
    go : (x ≡ 1) ⊎ (x ≡ 1 → ⊥) → x ≡ 0
    go (inl e) = never (f e) refl
    go (inr n) = omega arith

sized_none : Sized no_marks
sized_none = record { long = length-replicate {A = ℕ} 2048 0; small = omega arith }

module _ (bs : List (List ℕ)) (w : Wanted) where
  abbrev after : Marks
  after = marks_over w no_marks bs

  small : after.spoiled < 2 ^ 64
  small = (sized_all w no_marks sized_none bs).small

  module _ (j : ℕ) (h : j < 64) where
    abbrev times : ℕ → ℕ
    times = row_times bs w.mirror (nth w j)

    abbrev beyond : ℕ
    beyond = other_rows bs w.mirror w.rows (nth w j)

    noted : Noted w.rows j no_marks after beyond times
    noted = noted_all w w.few j h no_marks sized_none bs

    none : (k : ℕ) → k < w.rows → has j no_marks k ≡ 0
    none k l = ap (bit j) (get_or-replicate {A = ℕ} 2048 k 0 0 (omega arith)) ∙ bit_zero j

    other_bit : bit j (others after.spoiled) ≡ 1 - bad j after
    other_bit = bit_others j after.spoiled h small

    bit_whole : InAll w.rows after.map (others after.spoiled) j → whole bs w.mirror w.rows (nth w j) ≡ true
    bit_whole f =
        let c = noted.clean (omega (arith, f.0, other_bit)) in
        (whole_parts bs w.mirror w.rows (nth w j)).1 (λ k l. omega (arith, none k l, noted.seen k l, f.1 k l, c.2 k l), c.1)

    whole_bit : whole bs w.mirror w.rows (nth w j) ≡ true → InAll w.rows after.map (others after.spoiled) j
    whole_bit f =
        let s = (whole_parts bs w.mirror w.rows (nth w j)).0 f in
        let z = noted.back (bit_zero j) s.1 (λ k l. omega (arith, none k l, s.0 k l)) in
        (omega (arith, other_bit, z), λ k l. omega (arith, none k l, noted.seen k l, s.0 k l))

  pub marks_whole : in_rows w.rows after.map (others after.spoiled) ≡ word (whole bs w.mirror w.rows) w.window
  marks_whole =
      let a = others after.spoiled in
      let x = in_rows w.rows after.map a in
      let f = whole bs w.mirror w.rows in
      same_bits 64 x (word f w.window) (omega (arith, rows_le w.rows after.map a, ones_sub-lt 64 after.spoiled)) (word_lt f w.window)
      (λ j h. bit_is (bit j x) (f (nth w j)) (bit_one j x) (λ e. bit_whole j h (rows_each after.map a j w.rows e))
      (λ e. rows_common after.map a j w.rows (whole_bit j h e)) ∙ sym (bit_word f w.window j h))
