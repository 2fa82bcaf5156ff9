-- Every file, taken apart: the records that are read, and behind them its end or the record that is refused. A file of bytes is what is written of
-- its records.
use Rattle.std.specs.Prelude.{ℕ, zero, suc, ◌+◌, ◌-◌, ◌≤◌, ◌<◌, ◌≡◌, refl, Bool, true, false, List, [], ◌∷◌, ◌++◌, ◌⊎◌, length, drop, get_or, eqb}
use Rattle.std.proofs.Common.{sym, ap, ◌∙◌, subst, append_assoc, inl, inr, ⊎_elim, arith, length-append, length-drop, take-append-drop, length-take-le}
use Rattle.std.proofs.Common.{drop-drop, drop-cons, take_at, drop_at}
use Rattle.store.specs.Numbers.{Bytes, cut, to_be}
use Rattle.store.specs.Refusals.{LONG}
use Rattle.store.proofs.Laws.Cases.{lt_or_le, tests}
use Rattle.store.proofs.Laws.Numbers.{be_to_be, be_same, bytes_take, bytes_drop, bytes_to_be}
use Rattle.store.proofs.Laws.SoundPage.{and_both}
use Rattle.exchange.specs.Exchange.{MARK, SHORT, wrong, holds, and_record, marked, data_length, first_record, parse, file_record, file_of}
use Rattle.exchange.specs.FileTold.{Reading, Readings, and_all, Whole, Faulty, few, unmarked, long, off}
use Rattle.exchange.proofs.Laws.ReadBack.{faulty, whole_read, all_read}

-- ---- the first record, if it can be read

module _ (f : List ℕ) (w : Whole f) where
  abbrev n : ℕ
  n = data_length f

  head_long : length (cut f 2 8) ≡ 8
  head_long = length-take-le 8 (drop 2 f) (omega (arith, length-drop 2 f, w.fits))

  data_long : length (cut f 12 n) ≡ n
  data_long = length-take-le n (drop 12 f) (omega (arith, length-drop 12 f, w.fits))

  record_long : length (first_record f) ≡ 8 + n
  record_long = length-append (cut f 2 8) (cut f 12 n) ∙ omega (arith, head_long, data_long)

  is_reading : Reading (first_record f)
  is_reading = record { headed = omega (arith, record_long); short = omega (arith, record_long, w.short) }

  next : (i m : ℕ) → cut f i m ++ drop (i + m) f ≡ drop i f
  next i m = ap (λ (t : List ℕ). cut f i m ++ t) (sym (drop-drop m i f)) ∙ take-append-drop m (drop i f)

  two : 82 ∷ 84 ∷ drop 2 f ≡ f
  two =
      let m = and_both (eqb (get_or f 0 0) 82) (eqb (get_or f 1 0) 84) w.mark in
      let a : 82 ≡ get_or f 0 0 = omega (tests, m.0) in
      let b : 84 ≡ get_or f 1 0 = omega (tests, m.1) in
      (λ i. a i ∷ b i ∷ drop 2 f)
      ∙ sym (drop-cons f 0 0 (omega (arith, w.fits)) ∙ ap (λ (t : List ℕ). get_or f 0 0 ∷ t) (drop-cons f 1 0 (omega (arith, w.fits))))

  length_written : Bytes f → to_be 2 (length (first_record f) - 8) ≡ cut f 10 2
  length_written b =
      let l : length (first_record f) - 8 ≡ n = omega (arith, record_long) in
      ap (to_be 2) l
      ∙ be_same (to_be 2 n) (cut f 10 2) (sym (length-take-le 2 (drop 10 f) (omega (arith, length-drop 10 f, w.fits)))) (bytes_to_be 2 n)
      (bytes_take 2 (drop 10 f) (bytes_drop 10 f b)) (be_to_be 2 (omega (arith, w.short)))

  record_written : Bytes f → file_record (first_record f) ++ drop (12 + n) f ≡ f
  record_written b =
      (λ i. 82 ∷ 84 ∷
      ((take_at (cut f 2 8) (cut f 12 n) 8 head_long i ++ (length_written b i ++ drop_at (cut f 2 8) (cut f 12 n) 8 head_long i)) ++ drop (12 + n) f))
      ∙ ap (λ (r : List ℕ). 82 ∷ 84 ∷ r)
      (append_assoc (cut f 2 8) (cut f 10 2 ++ cut f 12 n) (drop (12 + n) f)
      ∙ ap (λ (r : List ℕ). cut f 2 8 ++ r)
      (append_assoc (cut f 10 2) (cut f 12 n) (drop (12 + n) f) ∙ ap (λ (r : List ℕ). cut f 10 2 ++ r) (next 12 n) ∙ next 10 2)
      ∙ next 2 8)
      ∙ two

-- ---- the whole file

-- what stands first
data First (f : List ℕ) : Type 0 where
  end : length f ≡ 0 → First f
  fault : (a : ℕ) → Faulty f a → First f
  whole : Whole f → First f

first : (f : List ℕ) → First f
first f =
    by (lt_or_le 0 (length f)) (lt_or_le (length f) 12) (marked f) refl (lt_or_le 16356 (data_length f)) (lt_or_le (length f) (12 + data_length f))
  where
    by : (0 < length f) ⊎ (length f ≤ 0) → (length f < 12) ⊎ (12 ≤ length f) → (b : Bool) → marked f ≡ b
        → (16356 < data_length f) ⊎ (data_length f ≤ 16356) → (length f < 12 + data_length f) ⊎ (12 + data_length f ≤ length f) → First f
    by (inr z) l b m k c = end (omega arith)
    by (inl z) (inl l) b m k c = fault SHORT (few z l refl)
    by (inl z) (inr l) false m k c = fault MARK (unmarked l m refl)
    by (inl z) (inr l) true m (inl k) c = fault LONG (long l m k refl)
    by (inl z) (inr l) true m (inr k) (inl c) = fault SHORT (off l m k c refl)
    by (inl z) (inr l) true m (inr k) (inr c) = whole (record { mark = m; short = k; fits = c })

-- the records that are read from f, and what is left
pub record Split (f : List ℕ) : Type 0 where
  pub before : List (List ℕ)
  pub rest : List ℕ
  pub readings : Readings before
  pub read : parse f ≡ and_all before (parse rest)
  pub written : Bytes f → file_of before ++ rest ≡ f
  pub ends : (rest ≡ []) ⊎ ((a : ℕ) × Faulty rest a)

-- none is
none : (f : List ℕ) → (f ≡ []) ⊎ ((a : ℕ) × Faulty f a) → Split f
none f e = record { before = []; rest = f; readings = λ r i. absurd i; read = refl; written = λ b. refl; ends = e }

-- the first is, and those of what is behind it
one_more : (f : List ℕ) → Whole f → Split (drop (12 + data_length f) f) → Split f
one_more f w k =
    record {
      before = first_record f ∷ k.before;
      rest = k.rest;
      readings = λ r i. ⊎_elim (λ e. subst Reading (sym e) (is_reading f w)) (λ e. k.readings r e) i;
      read = whole_read f w ∙ ap (and_record (first_record f)) k.read;
      written = λ b.
          append_assoc (file_record (first_record f)) (file_of k.before) k.rest
          ∙ ap (λ (t : List ℕ). file_record (first_record f) ++ t) (k.written (bytes_drop (12 + data_length f) f b)) ∙ record_written f w b;
      ends = k.ends;
    }

split_by : (f : List ℕ) → First f → (Whole f → Split (drop (12 + data_length f) f)) → Split f
split_by [] (end e) more = none [] (inl refl)
split_by (x ∷ f) (end e) more = absurd (omega arith)
split_by f (fault a x) more = none f (inr (a, x))
split_by f (whole w) more = one_more f w (more w)

split_in : (m : ℕ) (f : List ℕ) → length f ≤ m → Split f
split_in zero f l = split_by f (first f) (λ w. absurd (omega (arith, w.fits)))
split_in (suc m) f l =
    split_by f (first f) (λ w. split_in m (drop (12 + data_length f) f) (omega (arith, length-drop (12 + data_length f) f, w.fits)))

pub split : (f : List ℕ) → Split f
split f = split_in (length f) f (omega arith)

-- ---- what it says

pub all_wrong : (rs : List (List ℕ)) (a : ℕ) → and_all rs (wrong a) ≡ wrong a
all_wrong [] a = refl
all_wrong (r ∷ rs) a = ap (and_record r) (all_wrong rs a)

module _ (f : List ℕ) where
  abbrev k : Split f
  k = split f

  pub ends_well : k.rest ≡ [] → parse f ≡ holds k.before
  ends_well e = k.read ∙ ap (λ (g : List ℕ). and_all k.before (parse g)) e ∙ all_read k.before

  pub ends_ill : (a : ℕ) → Faulty k.rest a → parse f ≡ wrong a
  ends_ill a x = k.read ∙ ap (and_all k.before) (faulty k.rest a x) ∙ all_wrong k.before a

  -- all of it is read
  pub read_whole : (rs : List (List ℕ)) → parse f ≡ holds rs → (k.rest ≡ []) × (k.before ≡ rs)
  read_whole rs e = by k.ends
    where
      by : (k.rest ≡ []) ⊎ ((a : ℕ) × Faulty k.rest a) → (k.rest ≡ []) × (k.before ≡ rs)
      by (inl z) = let q = ends_well z in (z, cc)
      by (inr (a, x)) = let q = ends_ill a x in let z : ◌≡◌ {A = ℕ} 0 1 = cc in absurd (omega arith)

  -- a record is refused
  pub read_part : (a : ℕ) → parse f ≡ wrong a → Faulty k.rest a
  read_part a e = by k.ends
    where
      by : (k.rest ≡ []) ⊎ ((b : ℕ) × Faulty k.rest b) → Faulty k.rest a
      by (inl z) = let q = ends_well z in let z : ◌≡◌ {A = ℕ} 0 1 = cc in absurd (omega arith)
      by (inr (b, x)) = let q = ends_ill b x in let z : b ≡ a = cc in subst (Faulty k.rest) z x
