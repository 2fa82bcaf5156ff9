-- What repair keeps: no byte outside headers and directories changes, a record whose slot has no entry stays, and what could be read can still
-- be read. And the list that it fills.
use Rattle.std.specs.Prelude.{ℕ, ◌+◌, ◌*◌, ◌/◌, ◌≤◌, ◌<◌, ◌≡◌, refl, List, [], ◌∷◌, ◌≢◌, false, length, take, drop}
use Rattle.std.proofs.Common.{arith, eqb-true}
use Rattle.store.specs.Numbers.{cut, page_no, slot_no, In}
use Rattle.store.specs.Page.{view}
use Rattle.store.specs.Segment.{seg_view, page_of, size_ok, inv_ok, read_step, locate_step}
use Rattle.store.specs.SoundSegment.{slot_on, bytes_on}
use Rattle.store.specs.Repair.{standing, lost, deed, Entry, entry, entries, words, Repaired, repair_step}
use Rattle.store.specs.RepairTold.{directory}
use Rattle.store.proofs.Laws.Numbers.{cut_same, drop_put}
use Rattle.store.proofs.Laws.SoundPage.{and_both}
use Rattle.store.proofs.Laws.SoundSegment.{sized}
use Rattle.store.proofs.Laws.RepairBytes.{repaired_length, untouched, slot_untouched}
use Rattle.store.proofs.Laws.RepairReads.{record_kept, still_read}
use Rattle.store.proofs.Laws.RepairList.{changes_not, untold_stays, entries_most}
use Rattle.store.proofs.Laws.RepairCall.{Outcome, of_size, of_room, of_done, outcome}
use Rattle.store.proofs.Promises.Repair.{count_is, room_only}

-- slot k of page p has no entry
abbrev pub Untold : List ℕ → List ℕ → ℕ → ℕ → Type 0
Untold s v p k = (d : ℕ) → In (entry p k d) (entries (standing s) v) → ⊥

-- r of a repair of s and v that is carried out
pub record Kept (s v : List ℕ) (r : Repaired) : Type 0 where
  pub long : length r.seg ≡ length s
  -- "No byte of the segment outside headers and directories changes."
  pub outside : (p j m : ℕ) → p < length s / 16384 → directory (view (page_of s p)) ≤ j → j + m ≤ 16384
      → cut r.seg (p * 16384 + j) m ≡ cut s (p * 16384 + j) m
  -- "A slot below the count without an entry, on a page that is not lost, has the same 8 bytes"
  pub slots : (p k : ℕ) → p < length s / 16384 → lost (view (page_of s p)) ≡ false → k < (view (page_of s p)).slot_count
      → Untold s v p k → cut (page_of r.seg p) (12 + 8 * k) 8 ≡ cut (page_of s p) (12 + 8 * k) 8
  -- "so its record keeps id, offset, length and bytes"
  pub records : (i : ℕ) → page_no i < length s / 16384 → lost (view (page_of s (page_no i))) ≡ false → slot_no i < (view (page_of s (page_no i))).slot_count
      → Untold s v (page_no i) (slot_no i) → (slot_on (seg_view r.seg) i ≡ slot_on (seg_view s) i) × (bytes_on (seg_view r.seg) i ≡ bytes_on (seg_view s) i)
  -- "if a read answered 0 before, it answers 0 with the same offset, length and bytes after"
  pub reads : (i : ℕ) → (read_step s i).answer ≡ 0 → (read_step r.seg i ≡ read_step s i) × (locate_step r.seg i ≡ locate_step s i)

kept_by : (s v l : List ℕ) (r : Repaired) → Outcome s v l r → r.answer ≡ 0 → Kept s v r
unfolding standing
kept_by s v l r (of_size e) q = absurd (omega arith)
kept_by s v l r (of_room e f) q = absurd (omega arith)
kept_by s v l r (of_done e f) q =
    let b = and_both (size_ok s) (inv_ok v) e in
    let z = sized s b.0 in
    record {
      long = repaired_length s z.whole;
      outside = λ p j m a c d. untouched s z.whole p j m a c d;
      slots = λ p k a c d h. slot_untouched s z.whole p k a c d (untold_stays (standing s) v p k a c d h);
      records =
          λ i a c d h. record_kept s z.whole i a c d (changes_not (deed (standing s) (page_no i) (slot_no i))
          (untold_stays (standing s) v (page_no i) (slot_no i) a c d h));
      reads = λ i a. let w = still_read s z.whole v z.few (eqb-true (length v) 16384 b.1) b.0 i a in (w.reads, w.places);
    }

pub kept_afterwards : (s v l : List ℕ) → (repair_step s v l).answer ≡ 0 → Kept s v (repair_step s v l)
kept_afterwards s v l q = kept_by s v l (repair_step s v l) (outcome s v l) q

-- ---- the list

-- "Three words are one entry"
pub words_length : (es : List Entry) → length (words es) ≡ 3 * length es
words_length [] = refl
words_length (e ∷ es) = omega (arith, words_length es)

-- "Answer 0: count is the number of entries, words from 3 × count on keep what they were."
pub record Listed (s v l : List ℕ) (r : Repaired) : Type 0 where
  pub count : r.count ≡ length (entries (standing s) v)
  pub told : take (3 * r.count) r.list ≡ words (entries (standing s) v)
  pub rest : drop (3 * r.count) r.list ≡ drop (3 * r.count) l

listed_by_lem : (s v l : List ℕ) (r : Repaired) → Outcome s v l r → r.answer ≡ 0 → Listed s v l r
listed_by_lem s v l r (of_size e) q = absurd (omega arith)
listed_by_lem s v l r (of_room e f) q = absurd (omega arith)
listed_by_lem s v l r (of_done e f) q =
    let es : List Entry = entries (standing s) v in
    let n = words_length es in
    record {
      count = refl;
      told = cut_same l 0 (words es) (3 * length es) n (omega arith);
      rest = drop_put l 0 (words es) (3 * length es) (omega arith);
    }

pub listed_afterwards : (s v l : List ℕ) → (repair_step s v l).answer ≡ 0 → Listed s v l (repair_step s v l)
listed_afterwards s v l q = listed_by_lem s v l (repair_step s v l) (outcome s v l) q

-- "3 × (2,047 × n + 1) words always suffice."
pub enough : (s v l : List ℕ) → 3 * (2047 * (length s / 16384) + 1) ≤ length l → (repair_step s v l).answer ≢ 11
unfolding standing
enough s v l m q =
    let a = room_only s v l q in
    omega (arith, a.1, count_is s v l a.0, entries_most (standing s) v)
