-- Which of the scan's records are readings: on sound pages none is too long for a file, and each reading is among them as often as in the scan.
use Rattle.std.specs.Prelude.{ℕ, suc, ◌+◌, ◌≤◌, ◌<◌, ◌≡◌, refl, Bool, true, false, cond, List, [], ◌∷◌, ◌⊎◌, length, drop}
use Rattle.std.proofs.Common.{sym, ap, subst, inl, inr, ⊎_elim, arith, length-drop}
use Rattle.store.specs.Numbers.{same_bytes, one, In}
use Rattle.store.specs.Slots.{len, is_target}
use Rattle.store.specs.Page.{View}
use Rattle.store.specs.Segment.{seg_view, size_ok}
use Rattle.store.specs.SoundSegment.{PagesSound}
use Rattle.store.specs.Records.{Entry, entry_of, entries, scan_all, rows_in, times}
use Rattle.store.proofs.Laws.Cases.{lt_or_le, by_test, false_by, tests}
use Rattle.store.specs.Laws.Views.{Sound}
use Rattle.store.proofs.Laws.SoundSegment.{pages_sound}
use Rattle.store.proofs.Laws.Listed.{entry_slot}
use Rattle.store.proofs.Laws.RepairInventory.{same_is}
use Rattle.exchange.specs.Exchange.{is_short, readings, passed_over}
use Rattle.exchange.specs.FileTold.{Readings, readings_in}

-- ---- "May a record be too long for the file? No: on a sound page a record has at most 16,364 bytes"

module _ (v : View) (h : Sound v) (p j : ℕ) (c : j < v.slot_count) where
  slot_short : length (v.bytes j) ≤ 16364
  slot_short = by (lt_or_le 0 (len (v.at j)))
    where
      by : (0 < len (v.at j)) ⊎ (len (v.at j) ≤ 0) → length (v.bytes j) ≤ 16364
      by (inl l) = omega (arith, h.lens j, h.low j l, h.high j, h.dir)
      by (inr l) = omega (arith, h.lens j)

  entry_short : length (entry_of v p j).bytes ≤ 16364
  entry_short =
      by_test (λ (bs : List ℕ). length bs ≤ 16364) (is_target (v.at j)) (drop 8 (v.bytes j)) (v.bytes j)
      (λ e. omega (arith, slot_short, length-drop 8 (v.bytes j))) (λ e. slot_short)

entries_read : (es : List Entry) → ((x : Entry) → In x es → length x.bytes ≤ 16364) → Readings (readings (rows_in es))
entries_read [] h = λ r i. absurd i
entries_read (x ∷ es) h =
    by_test Readings (is_short x.bytes) (readings (rows_in es)) (x.bytes ∷ readings (rows_in es)) (λ e. entries_read es (λ y i. h y (inr i)))
    (λ e r i.
    ⊎_elim (λ q. record { headed = omega (tests, ap length q); short = omega (arith, ap length q, h x (inl refl)) })
    (λ k. entries_read es (λ y i. h y (inr i)) r k) i)

pub scan_read : (s : List ℕ) → size_ok s ≡ true → PagesSound s → Readings (readings_in s)
unfolding scan_all
scan_read s e h =
    entries_read (entries (seg_view s))
    (λ x i.
    let o = entry_slot (seg_view s) (seg_view s).pages 0 x i in
    subst (λ (y : Entry). length y.bytes ≤ 16364) (sym o.is)
    (entry_short ((seg_view s).page o.page) (pages_sound s e h o.page) o.page o.slot o.counted))

-- ---- "A record shorter than 8 bytes is not a reading"

pub passed_sum : (rs : List (List ℕ)) → length (readings rs) + passed_over rs ≡ length rs
passed_sum [] = refl
passed_sum (r ∷ rs) = by (is_short r) (passed_sum rs)
  where
    by : (b : Bool) → length (readings rs) + passed_over rs ≡ length rs
        → length (cond b (readings rs) (r ∷ readings rs)) + (one b + passed_over rs) ≡ suc (length rs)
    by true ih = omega arith
    by false ih = omega arith

-- every other is there as often
pub readings_times : (x : List ℕ) → 8 ≤ length x → (rs : List (List ℕ)) → times x (readings rs) ≡ times x rs
readings_times x l [] = refl
readings_times x l (r ∷ rs) =
    by_test (λ (ts : List (List ℕ)). times x ts ≡ times x (r ∷ rs)) (is_short r) (readings rs) (r ∷ readings rs)
    (λ e. omega (arith, ap one (false_by (same_bytes x r) (λ q. omega (tests, ap length (same_is x r q)))), readings_times x l rs))
    (λ e. ap (λ (n : ℕ). one (same_bytes x r) + n) (readings_times x l rs))

-- and none of fewer than 8 bytes is there
pub short_none : (x : List ℕ) → length x < 8 → (rs : List (List ℕ)) → times x (readings rs) ≡ 0
short_none x l [] = refl
short_none x l (r ∷ rs) =
    by_test (λ (ts : List (List ℕ)). times x ts ≡ 0) (is_short r) (readings rs) (r ∷ readings rs) (λ e. short_none x l rs)
    (λ e. omega (arith, ap one (false_by (same_bytes x r) (λ q. omega (tests, ap length (same_is x r q)))), short_none x l rs))
