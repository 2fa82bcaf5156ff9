-- What stands first in a file, in the promises' words; and what is written of a record is read. For all lists of numbers, bytes or not.
use Rattle.std.specs.Prelude.{ℕ, ◌+◌, ◌-◌, ◌≡◌, refl, List, [], ◌∷◌, ◌++◌, length, take, drop}
use Rattle.std.proofs.Common.{sym, ap, ◌∙◌, append_assoc, inl, inr, arith, length-append, length-drop, take-append-drop, length-take-le, drop-drop, take_at}
use Rattle.std.proofs.Common.{drop_at}
use Rattle.store.specs.Numbers.{cut, be, to_be}
use Rattle.store.proofs.Laws.Numbers.{be_to_be}
use Rattle.exchange.specs.Exchange.{wrong, holds, and_record, data_length, first_record, behind}
use Rattle.exchange.specs.Exchange.{parse, file_record, file_of}
use Rattle.exchange.proofs.Laws.Parse.{parse_end, parse_few, parse_mark, parse_long, parse_cut, parse_record}
use Rattle.exchange.specs.FileTold.{Reading, Readings, and_all, Whole, Faulty, few, unmarked, long, off}

-- ---- what stands first

pub faulty : (f : List ℕ) (a : ℕ) → Faulty f a → parse f ≡ wrong a
faulty f a (few n l e) = parse_few f (λ z. omega arith) l ∙ ap wrong (sym e)
faulty f a (unmarked l m e) = parse_mark f l m ∙ ap wrong (sym e)
faulty f a (long l m k e) = parse_long f l m k ∙ ap wrong (sym e)
faulty f a (off l m k c e) = parse_cut f l m k c ∙ ap wrong (sym e)

pub whole_read : (f : List ℕ) → Whole f → parse f ≡ and_record (first_record f) (parse (behind f))
whole_read f w = parse_record f (omega (arith, w.fits)) w.mark w.short w.fits

-- ---- a record as it is written, and anything behind it

module _ (r rest : List ℕ) (good : Reading r) where
  abbrev n : ℕ
  n = length r - 8

  -- behind the row, and behind the length
  abbrev tail : List ℕ
  tail = to_be 2 n ++ (drop 8 r ++ rest)

  abbrev file : List ℕ
  file = 82 ∷ 84 ∷ (take 8 r ++ tail)

  file_is : file_record r ++ rest ≡ file
  file_is = simp append_assoc

  head_long : length (take 8 r) ≡ 8
  head_long = length-take-le 8 r good.headed

  told : data_length file ≡ n
  told = ap (λ (t : List ℕ). be (take 2 t)) (drop_at (take 8 r) tail 8 head_long) ∙ be_to_be 2 (omega (arith, good.short))

  data_there : drop 12 file ≡ drop 8 r ++ rest
  data_there = sym (drop-drop 2 8 (take 8 r ++ tail)) ∙ ap (drop 2) (drop_at (take 8 r) tail 8 head_long)

  pub record_read : parse (file_record r ++ rest) ≡ and_record r (parse rest)
  record_read =
      let d : length (drop 8 r) ≡ n = length-drop 8 r in
      let a : first_record file ≡ r =
      ap (λ (m : ℕ). cut file 2 8 ++ cut file 12 m) told
      ∙ (λ i. take_at (take 8 r) tail 8 head_long i ++ (ap (take n) data_there ∙ take_at (drop 8 r) rest n d) i) ∙ take-append-drop 8 r in
      let b : behind file ≡ rest =
      ap (λ (m : ℕ). drop (12 + m) file) told ∙ sym (drop-drop n 12 file) ∙ ap (drop n) data_there ∙ drop_at (drop 8 r) rest n d in
      let c = length-append (take 8 r) tail in
      let e = length-append (drop 8 r) rest in
      ap parse file_is ∙ whole_read file (record { mark = refl; short = omega (arith, told, good.short); fits = omega (arith, told, head_long) })
      ∙ (λ i. and_record (a i) (parse (b i)))

-- "one format": what is behind good records is read as it stands
pub records_read : (rs : List (List ℕ)) (rest : List ℕ) → Readings rs → parse (file_of rs ++ rest) ≡ and_all rs (parse rest)
records_read [] rest h = refl
records_read (r ∷ rs) rest h =
    ap parse (append_assoc (file_record r) (file_of rs) rest) ∙ record_read r (file_of rs ++ rest) (h r (inl refl))
    ∙ ap (and_record r) (records_read rs rest (λ x i. h x (inr i)))

-- and nothing behind them is their file
pub all_read : (rs : List (List ℕ)) → and_all rs (parse []) ≡ holds rs
all_read [] = parse_end [] refl
all_read (r ∷ rs) = ap (and_record r) (all_read rs)
