-- Read after write, from a sound segment: what a read gives after a call that is carried out, by the answer's id and by every other id in use.
-- Demand 3's last sentence: a byte that a call added without writing it reads as zero, also after any further calls that do not write, resize
-- or erase that record.
use Rattle.std.specs.Prelude.{ℕ, ◌≤◌, ◌<◌, ◌≡◌, refl, List, [], ◌∷◌, ◌≢◌, length, get_or}
use Rattle.std.proofs.Common.{sym, ap, ◌∙◌, subst}
use Rattle.store.specs.Numbers.{zeros, fit}
use Rattle.store.specs.Refusals.{DONE, NONE}
use Rattle.store.specs.Segment.{seg_view, Result, Read, no_read, read_step}
use Rattle.store.specs.Calls.{Call, insert, allocate, write, resize, erase, called, results, Each, NoneOfId}
use Rattle.store.specs.SoundSegment.{Rooted, SoundSegment}
use Rattle.store.proofs.Laws.Fit.{length_fit, fit_kept, fit_added}
use Rattle.store.proofs.Laws.SoundSegment.{row_of}
use Rattle.store.proofs.Laws.Rows.{read_look, call_rows}
use Rattle.store.proofs.Promises.Sound.{call_right}
use Rattle.store.proofs.Promises.Ids.{id_own, id_other}

-- what the answer's id reads as: the bytes written, with zeros where a resize or an allocate added some; after an erase it is 5
abbrev pub reads_as : Call → List ℕ → Read
reads_as (insert bs) s = record { answer = DONE; bytes = bs }
reads_as (allocate n) s = record { answer = DONE; bytes = zeros n }
reads_as (write i bs) s = record { answer = DONE; bytes = bs }
reads_as (resize i n) s = record { answer = DONE; bytes = fit n (read_step s i).bytes }
reads_as (erase i) s = no_read NONE

-- r of a call on s, whose id reads as w if it is carried out: every other id in use reads as before, and after a refusal every id in use
pub record Reads (s : List ℕ) (w : Read) (r : Result) : Type 0 where
  pub own : r.answer ≡ 0 → read_step r.seg r.id ≡ w
  pub others : (j : ℕ) → Rooted s j → (r.answer ≡ 0 → j ≢ r.id) → Rooted r.seg j × (read_step r.seg j ≡ read_step s j)

module _ (c : Call) (s v : List ℕ) (h : SoundSegment s v) where
  row_reads : (d : Call) → (called d s v).answer ≡ 0 → row_of d (seg_view s) ≡ reads_as d s
  row_reads (insert bs) a = refl
  row_reads (allocate n) a = refl
  row_reads (write i bs) a = refl
  row_reads (resize i n) a =
      ap (λ (r : Read). record { answer = DONE; bytes = fit n r.bytes })
      (sym (read_look s v h i (id_own (resize i n) s v i refl a).1.below))
  row_reads (erase i) a = refl

  pub call_reads : Reads s (reads_as c s) (called c s v)
  call_reads = let r = call_rows c s v h in record { own = λ a. r.own a ∙ row_reads c a; others = r.others }

  -- a call that leaves a record: its id is in use
  pub record_rooted : (reads_as c s).answer ≡ 0 → (called c s v).answer ≡ 0 → Rooted (called c s v).seg (called c s v).id
  record_rooted w a = (call_rows c s v h).rooted a (ap (λ (r : Read). r.answer) (row_reads c a) ∙ w)

-- a record that no call of a sequence writes, resizes or erases reads as w after each of them, as it did before
pub reads_throughout : (cs : List Call) (s v : List ℕ) → SoundSegment s v → (i : ℕ) → Rooted s i → NoneOfId i cs
    → (w : Read) → read_step s i ≡ w → Each (λ r. read_step r.seg i ≡ w) (results cs s v)
reads_throughout [] s v h i x n w e = tt
reads_throughout (c ∷ cs) s v h i x n w e =
    let y = (call_reads c s v h).others i x (id_other c s v h i x n.0) in
    let f = y.1 ∙ e in
    (f, reads_throughout cs (called c s v).seg (called c s v).inv (call_right c s v h).sound i y.0 n.1 w f)

-- so what a call wrote or added is read after any further calls that do not write, resize or erase that record
pub written_throughout : (c : Call) (cs : List Call) (s v : List ℕ) → SoundSegment s v → (called c s v).answer ≡ 0 → (reads_as c s).answer ≡ 0
    → NoneOfId (called c s v).id cs
    → Each (λ r. read_step r.seg (called c s v).id ≡ reads_as c s) (results cs (called c s v).seg (called c s v).inv)
written_throughout c cs s v h a w n =
    reads_throughout cs (called c s v).seg (called c s v).inv (call_right c s v h).sound (called c s v).id (record_rooted c s v h w a) n
    (reads_as c s) ((call_reads c s v h).own a)

each_so : (P Q : Result → Type 0) → ((r : Result) → P r → Q r) → (rs : List Result) → Each P rs → Each Q rs
each_so P Q f [] h = tt
each_so P Q f (r ∷ rs) h = (f r h.0, each_so P Q f rs h.1)

-- ---- byte by byte

-- a record at another size: the old bytes as far as both go, and zeros behind
pub record Refit (n : ℕ) (old new : List ℕ) : Type 0 where
  pub long : length new ≡ n
  pub kept : (k : ℕ) → k < n → k < length old → get_or new k 0 ≡ get_or old k 0
  pub added : (k : ℕ) → length old ≤ k → get_or new k 0 ≡ 0

module _ (s v : List ℕ) (i n : ℕ) (h : SoundSegment s v) (a : (called (resize i n) s v).answer ≡ 0) where
  abbrev left : Result
  left = called (resize i n) s v

  own : read_step left.seg i ≡ reads_as (resize i n) s
  own = ap (read_step left.seg) (sym (id_own (resize i n) s v i refl a).0) ∙ (call_reads (resize i n) s v h).own a

  refit : (r : Read) → r ≡ reads_as (resize i n) s → Refit n (read_step s i).bytes r.bytes
  refit r e =
      subst (λ (d : Read). Refit n (read_step s i).bytes d.bytes) (sym e)
      (record { long = length_fit n (read_step s i).bytes; kept = fit_kept n (read_step s i).bytes; added = fit_added n (read_step s i).bytes })

  -- a read after a resize beside a read before it
  pub resize_reads : Refit n (read_step s i).bytes (read_step (called (resize i n) s v).seg i).bytes
  resize_reads = refit (read_step left.seg i) own

  -- and the same after each of any further calls that do not write, resize or erase that record
  pub added_throughout : (cs : List Call) → NoneOfId i cs
      → Each (λ r. Refit n (read_step s i).bytes (read_step r.seg i).bytes) (results cs (called (resize i n) s v).seg (called (resize i n) s v).inv)
  added_throughout cs x =
      each_so _ _ (λ r. refit (read_step r.seg i)) (results cs left.seg left.inv)
      (reads_throughout cs left.seg left.inv (call_right (resize i n) s v h).sound i
      (subst (Rooted left.seg) (id_own (resize i n) s v i refl a).0 (record_rooted (resize i n) s v h refl a)) x (reads_as (resize i n) s) own)
