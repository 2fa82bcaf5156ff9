-- A file is read: how many turns are allowed plays no part, and what stands first says how it goes on. For all files.
use Rattle.std.specs.Prelude.{ℕ, zero, suc, ◌+◌, ◌-◌, ◌^◌, ◌≤◌, ◌<◌, ◌≡◌, refl, Bool, true, false, cond, not, ◌&&◌, List, [], ◌++◌, ◌≢◌, length, take, drop}
use Rattle.std.specs.Prelude.{get_or, eqb, ltb}
use Rattle.std.proofs.Common.{sym, ap, ◌∙◌, arith, length-drop, get_or-drop, drop-drop, eq-eqb, ne_eqb, lt-ltb, le-ltb}
use Rattle.std.proofs.Math.Bool.{and-false}
use Rattle.store.specs.Numbers.{cut, Bytes, be, to_be}
use Rattle.store.specs.Refusals.{LONG}
use Rattle.store.proofs.Laws.SoundPage.{and_in}
use Rattle.store.proofs.Laws.Writes.{length_cut}
use Rattle.store.proofs.Laws.Numbers.{length_to_be, be_to_be, bytes_to_be, bytes_take, bytes_drop, be_same}
use Rattle.exchange.specs.Exchange.{MARK, SHORT, Parsed, wrong, holds, and_record, marked, data_length, first_record, too_long, cut_off}
use Rattle.exchange.specs.Exchange.{behind, turn, parse_from, parse}
use Rattle.exchange.specs.Words.{fault_of}

-- ---- the turns

shorter : (m : ℕ) (f : List ℕ) → length f ≤ suc m → length (behind f) ≤ m
shorter m f h = omega (arith, length-drop (12 + data_length f) f)

none_left : (m : ℕ) (f : List ℕ) → length f ≤ 0 → parse_from m f ≡ holds []
none_left zero f h = refl
none_left (suc m) f h = rw (eq-eqb (length f) 0 (omega arith))

same_turns : (m n : ℕ) (f : List ℕ) → length f ≤ m → length f ≤ n → parse_from m f ≡ parse_from n f
same_turns zero n f h g = sym (none_left n f h)
same_turns (suc m) zero f h g = none_left (suc m) f g
same_turns (suc m) (suc n) f h g = ap (turn f) (same_turns m n (behind f) (shorter m f h) (shorter n f g))

pub parse_more : (m : ℕ) (f : List ℕ) → length f ≤ m → parse_from m f ≡ parse f
unfolding parse
parse_more m f h = same_turns m (length f) f h (omega arith)

pub parse_turn : (f : List ℕ) → parse f ≡ turn f (parse (behind f))
parse_turn f =
    sym (parse_more (suc (length f)) f (omega arith)) ∙ ap (turn f) (parse_more (length f) (behind f) (shorter (length f) f (omega arith)))

-- ---- what stands first

module _ (f : List ℕ) where
  pub parse_end : length f ≡ 0 → parse f ≡ holds []
  parse_end h = parse_turn f ∙ rw (eq-eqb (length f) 0 h)

  pub parse_few : length f ≢ 0 → length f < 12 → parse f ≡ wrong SHORT
  parse_few n h = parse_turn f ∙ rw (ne_eqb (length f) 0 n, lt-ltb (length f) 12 h)

  module _ (h : 12 ≤ length f) where
    some : eqb (length f) 0 ≡ false
    some = ne_eqb (length f) 0 (λ e. omega arith)

    pub parse_mark : marked f ≡ false → parse f ≡ wrong MARK
    parse_mark m = parse_turn f ∙ rw (some, le-ltb (length f) 12 h, m)

    module _ (m : marked f ≡ true) where
      pub parse_long : 16356 < data_length f → parse f ≡ wrong LONG
      parse_long l = parse_turn f ∙ rw (some, le-ltb (length f) 12 h, m, lt-ltb 16356 (data_length f) l)

      module _ (s : data_length f ≤ 16356) where
        pub parse_cut : length f < 12 + data_length f → parse f ≡ wrong SHORT
        parse_cut l =
            parse_turn f ∙ rw (some, le-ltb (length f) 12 h, m, le-ltb 16356 (data_length f) s, lt-ltb (length f) (12 + data_length f) l)

        pub parse_record : 12 + data_length f ≤ length f → parse f ≡ and_record (first_record f) (parse (behind f))
        parse_record l =
            parse_turn f ∙ rw (some, le-ltb (length f) 12 h, m, le-ltb 16356 (data_length f) s, le-ltb (length f) (12 + data_length f) l)

-- ---- of bytes, eight that were read as a number are those of the number

pub number_back : (p : List ℕ) → Bytes p → (o r : ℕ) → o + 8 ≤ length p → r ≡ be (cut p o 8) → r < 256 ^ 8 → to_be 8 r ≡ cut p o 8
number_back p b o r h e small =
    be_same (to_be 8 r) (cut p o 8) (length_to_be 8 r ∙ sym (length_cut p o 8 h)) (bytes_to_be 8 r) (bytes_take 8 (drop o p) (bytes_drop o p b))
    (be_to_be 8 small ∙ e)

-- ---- the same at a place of a file

module _ (f : List ℕ) (at : ℕ) where
  byte_at : (i : ℕ) → get_or (drop at f) i 0 ≡ get_or f (at + i) 0
  byte_at i = get_or-drop at f i 0

  first_at : get_or (drop at f) 0 0 ≡ get_or f at 0
  first_at = let e : at + 0 ≡ at = omega arith in byte_at 0 ∙ ap (λ (i : ℕ). get_or f i 0) e

  pub marked_at : get_or f at 0 ≡ 82 → get_or f (at + 1) 0 ≡ 84 → marked (drop at f) ≡ true
  marked_at a b = and_in (eqb (get_or (drop at f) 0 0) 82) (eqb (get_or (drop at f) 1 0) 84) (eq-eqb _ 82 (first_at ∙ a)) (eq-eqb _ 84 (byte_at 1 ∙ b))

  pub other_first : get_or f at 0 ≢ 82 → marked (drop at f) ≡ false
  other_first n = ap (λ (b : Bool). b && eqb (get_or (drop at f) 1 0) 84) (ne_eqb (get_or (drop at f) 0 0) 82 (λ e. n (sym first_at ∙ e)))

  pub other_second : get_or f (at + 1) 0 ≢ 84 → marked (drop at f) ≡ false
  other_second n =
      ap (λ (b : Bool). eqb (get_or (drop at f) 0 0) 82 && b) (ne_eqb (get_or (drop at f) 1 0) 84 (λ e. n (sym (byte_at 1) ∙ e)))
      ∙ and-false (eqb (get_or (drop at f) 0 0) 82)

  cut_at : (i n : ℕ) → cut (drop at f) i n ≡ cut f (at + i) n
  cut_at i n = ap (take n) (drop-drop i at f)

  pub told_at : data_length (drop at f) ≡ be (cut f (at + 10) 2)
  told_at = ap be (cut_at 10 2)

  -- the eight bytes of mirror, reading and row
  head_at : (h : ℕ) → Bytes f → h ≡ be (cut f (at + 2) 8) → h < 256 ^ 8 → at + 10 ≤ length f → to_be 8 h ≡ cut (drop at f) 2 8
  head_at h b e u l = number_back f b (at + 2) h (omega arith) e u ∙ sym (cut_at 2 8)

  pub record_at_lem : (h n : ℕ) → Bytes f → h ≡ be (cut f (at + 2) 8) → h < 256 ^ 8 → data_length (drop at f) ≡ n → at + 12 + n ≤ length f
      → and_record (first_record (drop at f)) (parse (behind (drop at f)))
      ≡ and_record (to_be 8 h ++ cut f (at + 12) (at + 12 + n - (at + 12))) (parse (drop (at + 12 + n) f))
  record_at_lem h n b e u d l =
      let m : n ≡ at + 12 + n - (at + 12) = omega arith in
      let k : at + (12 + n) ≡ at + 12 + n = omega arith in
      let p = sym (head_at h b e u (omega arith)) in
      let q = cut_at 12 n ∙ ap (cut f (at + 12)) m in
      let r = drop-drop (12 + n) at f ∙ ap (λ (i : ℕ). drop i f) k in
      ap (λ (i : ℕ). and_record (cut (drop at f) 2 8 ++ cut (drop at f) 12 i) (parse (drop (12 + i) (drop at f)))) d
      ∙ (λ i. and_record (p i ++ q i) (parse (r i)))

-- ---- a fault, or none

-- a record more or less: the same fault
pub fault_behind : (r : List ℕ) (p : Parsed) → fault_of (and_record r p) ≡ fault_of p
fault_behind r (wrong a) = refl
fault_behind r (holds rs) = refl

pub fault_is : (p : Parsed) {a : ℕ} → a ≡ fault_of p → a ≢ 0 → p ≡ wrong a
fault_is (wrong b) e n = ap wrong (sym e)
fault_is (holds rs) e n = absurd (n e)

-- no refusal of a file has the number 0
abbrev Numbered : Parsed → Type 0
Numbered (wrong a) = 0 < a
Numbered (holds rs) = Unit {0}

either : (b : Bool) (x y : Parsed) → Numbered x → Numbered y → Numbered (cond b x y)
either true x y h g = h
either false x y h g = g

more : (r : List ℕ) (p : Parsed) → Numbered p → Numbered (and_record r p)
more r (wrong a) h = h
more r (holds rs) h = tt

numbered : (m : ℕ) (f : List ℕ) → Numbered (parse_from m f)
numbered zero f = tt
numbered (suc m) f =
    let r : Parsed = and_record (first_record f) (parse_from m (behind f)) in
    let d : Parsed = cond (cut_off f) (wrong SHORT) r in
    let c : Parsed = cond (too_long f) (wrong LONG) d in
    let b : Parsed = cond (not (marked f)) (wrong MARK) c in
    let a : Parsed = cond (ltb (length f) 12) (wrong SHORT) b in
    either (eqb (length f) 0) (holds []) a tt
    (either (ltb (length f) 12) (wrong SHORT) b (omega arith)
    (either (not (marked f)) (wrong MARK) c (omega arith)
    (either (too_long f) (wrong LONG) d (omega arith)
    (either (cut_off f) (wrong SHORT) r (omega arith)
    (more (first_record f) (parse_from m (behind f)) (numbered m (behind f)))))))

abbrev pub held : Parsed → List (List ℕ)
held (wrong a) = []
held (holds rs) = rs

-- without a fault a file holds its records
pub parse_holds : (f : List ℕ) → fault_of (parse f) ≡ 0 → parse f ≡ holds (held (parse f))
unfolding parse
parse_holds f = go (parse_from (length f) f) (numbered (length f) f)
  where
    go : (p : Parsed) → Numbered p → fault_of p ≡ 0 → p ≡ holds (held p)
    go (wrong a) n e = absurd (omega arith)
    go (holds rs) n e = refl
