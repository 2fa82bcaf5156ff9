-- "By the readings alone" (document 02, "Polishing rule, edition 2"): segments with the same readings, each as often, are cleared alike, and the same
-- readings are whole in them. So a round trip by file keeps every answer; the order of inserts plays no part, nor does where the records lie: what
-- forwarding and compactify move shows in no answer.
use Rattle.std.specs.Prelude.{ℕ, ◌+◌, ◌*◌, ◌≤◌, ◌<◌, ◌≡◌, refl, true, List, ◌⊎◌, ◌≢◌, length}
use Rattle.std.proofs.Common.{sym, ap, ◌∙◌, inl, inr, arith, take_all}
use Rattle.store.specs.Numbers.{zeros, one, same_bytes}
use Rattle.store.specs.Refusals.{DONE}
use Rattle.store.specs.Segment.{seg_view, size_ok}
use Rattle.store.specs.Records.{records, scan_all, times, times_in}
use Rattle.store.specs.Report.{all_sound}
use Rattle.store.specs.SoundSegment.{PagesSound, SoundSegment}
use Rattle.store.specs.Calls.{Call, insert, write, called}
use Rattle.store.specs.Book.{row, book_of, new_row, times_row}
use Rattle.store.specs.ManyRows.{insert_all}
use Rattle.store.proofs.Laws.Cases.{eq_or_ne, false_by}
use Rattle.store.proofs.Laws.Report.{sound_each}
use Rattle.store.proofs.Laws.RepairInventory.{same_is}
use Rattle.store.proofs.Laws.Counts.{holding, times_count}
use Rattle.store.proofs.Promises.Blank.{blank_sound}
use Rattle.store.proofs.Promises.Sound.{call_right}
use Rattle.store.proofs.Promises.Refused.{refused_keeps}
use Rattle.store.proofs.Promises.Ids.{id_own}
use Rattle.store.proofs.Promises.Book.{book_unused}
use Rattle.store.proofs.Promises.Counts.{book_counts, rows_change, insert_all_adds}
use Rattle.store.proofs.Promises.ManyRows.{rows_done}
use Rattle.store.proofs.Promises.ManyRowsSound.{rows_sound}
use Rattle.exchange.specs.Exchange.{readings, import_step, export_step}
use Rattle.exchange.specs.FileTold.{file_written}
use Rattle.exchange.proofs.Promises.Export.{done_exactly}
use Rattle.exchange.proofs.Promises.Import.{import_sound}
use Rattle.exchange.proofs.Promises.RoundTrip.{round_trip}
use Rattle.polishing.specs.Polishing.{demands_of, met, rows_named, named, whole_in, cleared_step, words, whole_step}
use Rattle.polishing.proofs.Laws.Same.{readings_same, whole_same}
use Rattle.polishing.proofs.Laws.Judged as judged
use Rattle.polishing.proofs.Laws.Listed as listed

-- "the same readings, each as often" (Ask 7): records of 8 bytes or more
abbrev pub SameReadings : List ℕ → List ℕ → Type 0
SameReadings s t = (x : List ℕ) → 8 ≤ length x → times_in x s ≡ times_in x t

-- both calls answer the same, whatever is named and whatever place is lent
pub record SameAnswers (s t : List ℕ) : Type 0 where
  pub cleared : (m rows e : ℕ) → cleared_step s m rows e ≡ cleared_step t m rows e
  pub listed : (m rows : ℕ) (p : List ℕ) → whole_step s m rows p ≡ whole_step t m rows p

-- the same readings are whole, of every mirror
pub whole_alike : (s t : List ℕ) → SameReadings s t → (m rows : ℕ) → whole_in s m rows ≡ whole_in t m rows
unfolding scan_all
whole_alike s t h m rows =
    whole_same (readings (records (seg_view s))) (readings (records (seg_view t))) (readings_same (records (seg_view s)) (records (seg_view t)) h) m rows

-- where the size is right or wrong in both, and the pages are sound or damaged in both
by_tests : (s t : List ℕ) → size_ok s ≡ size_ok t → all_sound (seg_view s) ≡ all_sound (seg_view t) → ((m rows : ℕ) → whole_in s m rows ≡ whole_in t m rows)
    → SameAnswers s t
by_tests s t a b h =
    record {
      cleared = λ m rows e.
          judged.by_answer s m rows e ∙ (λ i. judged.answered (a i) (named rows e) (b i) (met (h m rows i) (demands_of e)))
          ∙ sym (judged.by_answer t m rows e);
      listed = λ m rows p.
          listed.by_answer s m rows p ∙ (λ i. listed.answered (a i) (rows_named rows) (b i) p (words (h m rows i))) ∙ sym (listed.by_answer t m rows p);
    }

module _ (s t : List ℕ) (h : SameReadings s t) where
  -- of segments of right sizes with sound pages; redirects and targets may be paired or not
  pub same_readings : size_ok s ≡ true → size_ok t ≡ true → PagesSound s → PagesSound t → SameAnswers s t
  same_readings a b c d = by_tests s t (a ∙ sym b) (sound_each s c ∙ sym (sound_each t d)) (whole_alike s t h)

  -- so that both answer 0 to some call is enough
  pub same_judged : (m n rows rows' e e' : ℕ) → (cleared_step s m rows e).answer ≡ DONE → (cleared_step t n rows' e').answer ≡ DONE → SameAnswers s t
  same_judged m n rows rows' e e' a b =
      let j = judged.done_judged s m rows e a in
      let k = judged.done_judged t n rows' e' b in
      by_tests s t (j.size ∙ sym k.size) (j.pages ∙ sym k.pages) (whole_alike s t h)

  pub same_sound : (v w : List ℕ) → SoundSegment s v → SoundSegment t w → SameAnswers s t
  same_sound v w k l = same_readings k.whole l.whole k.pages l.pages

-- ---- "So a round trip by file keeps every answer"

-- export answers 0, and import of its file into n pages of zeros does
pub round_trip_same : (s p : List ℕ) → (export_step s p).answer ≡ DONE → (n : ℕ) → n ≤ 32527
    → let r = import_step (zeros (n * 16384)) (zeros 16384) (file_written (export_step s p)) in r.answer ≡ DONE → SameAnswers r.seg s
round_trip_same s p done n few ok =
    let f : List ℕ = file_written (export_step s p) in
    let x = (done_exactly s p).0 done in
    let k = import_sound (zeros (n * 16384)) (zeros 16384) f (blank_sound n few) in
    same_readings (import_step (zeros (n * 16384)) (zeros 16384) f).seg s (round_trip s p done n few ok) k.whole x.0 k.pages x.1

-- ---- the order of inserts

all_added : (x s v : List ℕ) → SoundSegment s v → (rs : List (List ℕ)) → (insert_all s v rs).answer ≡ DONE
    → times_in x (insert_all s v rs).seg ≡ times_in x s + times x rs
all_added x s v h rs d =
    insert_all_adds x rs s v h
    ∙ ap (λ (ts : List (List ℕ)). times_in x s + times x ts) (take_all (insert_all s v rs).inserted rs (omega (arith, (rows_done s v rs).0 d)))

-- the same rows in any order, all of them inserted, and rows of fewer than 8 bytes as may be
pub order_same : (s v t w : List ℕ) → SoundSegment s v → SoundSegment t w → SameReadings s t → (rs ts : List (List ℕ))
    → ((x : List ℕ) → 8 ≤ length x → times x rs ≡ times x ts) → (insert_all s v rs).answer ≡ DONE → (insert_all t w ts).answer ≡ DONE
    → SameAnswers (insert_all s v rs).seg (insert_all t w ts).seg
order_same s v t w h k same rs ts often d e =
    same_sound (insert_all s v rs).seg (insert_all t w ts).seg
    (λ x l. omega (arith, all_added x s v h rs d, all_added x t w k ts e, same x l, often x l)) (insert_all s v rs).inv (insert_all t w ts).inv
    (rows_sound rs s v h).sound (rows_sound ts t w k).sound

-- ---- where the records lie

-- two sound segments with the same book of ids and rows
pub book_same : (s v t w : List ℕ) → SoundSegment s v → SoundSegment t w → ((i : ℕ) → book_of s i ≡ book_of t i) → SameAnswers s t
book_same s v t w h k e =
    same_sound s t (λ x l. times_count x (scan_all s) ∙ book_counts (holding x) t w s v k h e ∙ sym (times_count x (scan_all t))) v w h k

module _ (c : Call) (s v : List ℕ) (h : SoundSegment s v) where
  -- a call that leaves its id's row as it was, or changes it among rows of fewer than 8 bytes, or is refused
  pub call_same : ((called c s v).answer ≡ DONE → (x : List ℕ) → 8 ≤ length x → times_row x (new_row c (book_of s)) ≡ times_row x (book_of s (called c s v).id))
      → SameAnswers (called c s v).seg s
  call_same keeps = go (eq_or_ne (called c s v).answer DONE)
    where
      go : ((called c s v).answer ≡ DONE) ⊎ ((called c s v).answer ≢ DONE) → SameAnswers (called c s v).seg s
      go (inl d) =
          same_sound (called c s v).seg s (λ x l. omega (arith, rows_change x s v h c d, keeps d x l)) (called c s v).inv v (call_right c s v h).sound h
      go (inr n) = rw (refused_keeps c s v n).0 (record { cleared = λ m rows e. refl; listed = λ m rows p. refl })

module _ (s v : List ℕ) (h : SoundSegment s v) where
  -- a write of the bytes that are there already, wherever it moves them
  pub write_same : (i : ℕ) (bs : List ℕ) → book_of s i ≡ row bs → SameAnswers (called (write i bs) s v).seg s
  write_same i bs e =
      call_same (write i bs) s v h (λ d x l. ap (times_row x) (sym e ∙ ap (book_of s) (sym (id_own (write i bs) s v i refl d).0)))

  -- "Records under 8 bytes don't count": nor does their insert
  pub short_same : (bs : List ℕ) → length bs < 8 → SameAnswers (called (insert bs) s v).seg s
  short_same bs l =
      call_same (insert bs) s v h
      (λ d x k.
      ap one (false_by (same_bytes x bs) (λ q. omega (arith, ap length (same_is x bs q)))) ∙ sym (ap (times_row x) (book_unused (insert bs) s v h tt d)))
