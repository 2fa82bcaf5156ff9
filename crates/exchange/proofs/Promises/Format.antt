-- The exchange file's format (document 02, "Bench exchange file"): what is written is read and what is read is what was written, and each number of a
-- refusal is given exactly by the first record that is not as it should be. For all files; that a file's numbers are bytes is asked where it has to be.
use Rattle.std.specs.Prelude.{ℕ, ◌≡◌, refl, List, [], ◌∷◌, ◌++◌, ◌↔◌, ◌⊎◌, take}
use Rattle.std.proofs.Common.{sym, ap, ◌∙◌, subst, append-nil, inl, inr}
use Rattle.store.specs.Numbers.{Bytes, zeros}
use Rattle.store.specs.Refusals.{LONG}
use Rattle.exchange.specs.Exchange.{MARK, SHORT, wrong, holds, and_record, parse, file_of}
use Rattle.exchange.specs.FileTold.{Readings, and_all, Faulty, few, unmarked, long, off, RefusedAt}
use Rattle.exchange.proofs.Laws.Parse.{parse_end}
use Rattle.exchange.proofs.Laws.Files.{file_append}
use Rattle.exchange.proofs.Laws.ReadBack.{faulty, records_read, all_read}
use Rattle.exchange.proofs.Laws.WriteBack.{split, all_wrong, read_whole, read_part}

-- ---- "One format, both ways"

-- "`parse (file_of rs)` is `rs` for records of 8 to 16,364 bytes"
pub reads_back : (rs : List (List ℕ)) → Readings rs → parse (file_of rs) ≡ holds rs
reads_back rs h = ap parse (sym (append-nil (file_of rs))) ∙ records_read rs [] h ∙ all_read rs

-- "if `parse f` gives `rs`, then `file_of rs` is `f`"
pub writes_back : (f : List ℕ) (rs : List (List ℕ)) → Bytes f → parse f ≡ holds rs → file_of rs ≡ f
writes_back f rs b e =
    let x = read_whole f rs e in
    sym (append-nil (file_of rs)) ∙ (λ i. file_of (sym x.1 i) ++ sym x.0 i) ∙ (split f).written b

-- of numbers that are no bytes it is not so: a length of 0, 256 is read as 256, and written as 1, 0
pub not_bytes : (parse (82 ∷ 84 ∷ zeros 9 ++ (256 ∷ zeros 256)) ≡ holds (zeros 264 ∷ []))
    × (take 12 (file_of (zeros 264 ∷ [])) ≡ 82 ∷ 84 ∷ zeros 8 ++ (1 ∷ 0 ∷ []))
unfolding parse
not_bytes = (refl, refl)

-- a file that is read, of bytes or not, holds records of 8 to 16,364 bytes: such as a store can hold
pub parsed_good : (f : List ℕ) (rs : List (List ℕ)) → parse f ≡ holds rs → Readings rs
parsed_good f rs e = subst Readings (read_whole f rs e).1 (split f).readings

-- so a file of bytes holds rs exactly if rs are such records and it is their file
pub holds_exactly : (f : List ℕ) (rs : List (List ℕ)) → Bytes f → (parse f ≡ holds rs) ↔ (Readings rs × (file_of rs ≡ f))
holds_exactly f rs b = (λ e. (parsed_good f rs e, writes_back f rs b e), λ x. ap parse (sym x.1) ∙ reads_back rs x.0)

-- two lists have one file only if they are the same
pub file_one : (rs ts : List (List ℕ)) → Readings rs → Readings ts → file_of rs ≡ file_of ts → rs ≡ ts
file_one rs ts h k e = let a = reads_back rs h in let b = reads_back ts k in let c = ap parse e in cc

-- ---- "A file is any number of these end to end, and nothing else."

pub empty_file : parse [] ≡ holds []
empty_file = parse_end [] refl

-- two files end to end are a file of both
pub files_join : (rs ts : List (List ℕ)) → file_of (rs ++ ts) ≡ file_of rs ++ file_of ts
files_join = file_append

-- behind good records whatever follows is read as it would be alone, a wrong record too; and so behind a file that is read
pub reads_behind : (rs : List (List ℕ)) (g : List ℕ) → Readings rs → parse (file_of rs ++ g) ≡ and_all rs (parse g)
reads_behind = records_read

pub reads_on : (f g : List ℕ) (rs : List (List ℕ)) → Bytes f → parse f ≡ holds rs → parse (f ++ g) ≡ and_all rs (parse g)
reads_on f g rs b e = ap (λ (h : List ℕ). parse (h ++ g)) (sym (writes_back f rs b e)) ∙ records_read rs g (parsed_good f rs e)

pub files_read : (f g : List ℕ) (rs ts : List (List ℕ)) → Bytes f → parse f ≡ holds rs → parse g ≡ holds ts → parse (f ++ g) ≡ holds (rs ++ ts)
files_read f g rs ts b e k = reads_on f g rs b e ∙ ap (and_all rs) k ∙ both rs
  where
    both : (xs : List (List ℕ)) → and_all xs (holds ts) ≡ holds (xs ++ ts)
    both [] = refl
    both (x ∷ xs) = ap (and_record x) (both xs)

-- ---- "13 SHORT when fewer than 12 bytes are left, 12 MARK for another mark, 3 for a length above 16,356, 13 again when the data is cut off"

-- by what stands first in the file
pub first_refused : (f : List ℕ) (a : ℕ) → Faulty f a → parse f ≡ wrong a
first_refused = faulty

-- "record by record in file order": by a exactly if the first record that cannot be read is refused by a
pub refused_exactly : (f : List ℕ) (a : ℕ) → Bytes f → (parse f ≡ wrong a) ↔ RefusedAt f a
refused_exactly f a b = (
  λ e. record { before = (split f).before; rest = (split f).rest; readings = (split f).readings; whole = (split f).written b; fault = read_part f a e },
  λ x. ap parse (sym x.whole) ∙ records_read x.before x.rest x.readings ∙ ap (and_all x.before) (faulty x.rest a x.fault)
      ∙ all_wrong x.before a,
)

-- by no other number
pub refused_by : (f : List ℕ) (a : ℕ) → parse f ≡ wrong a → (a ≡ LONG) ⊎ (a ≡ MARK) ⊎ (a ≡ SHORT)
refused_by f a e = by (read_part f a e)
  where
    by : Faulty (split f).rest a → (a ≡ LONG) ⊎ (a ≡ MARK) ⊎ (a ≡ SHORT)
    by (few n l q) = inr (inr q)
    by (unmarked l m q) = inr (inl q)
    by (long l m k q) = inl q
    by (off l m k c q) = inr (inr q)
