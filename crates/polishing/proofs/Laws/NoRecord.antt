-- A mirror that no record names has no whole reading, and no edition's rule holds. Of bytes, no record names a mirror of 2 ^ 32 or more.
use Rattle.std.specs.Prelude.{ℕ, ◌+◌, ◌*◌, ◌^◌, ◌≤◌, ◌<◌, ◌≡◌, refl, Bool, true, false, ◌&&◌, List, [], ◌∷◌, ◌≢◌, length, take, drop}
use Rattle.std.proofs.Common.{sym, inl, inr, arith, lt_of_lt_of_le, length-take, ne_eqb}
use Rattle.std.proofs.Math.Path.{ap, subst}
use Rattle.std.proofs.Math.Nat.{pow-le-pow_right}
use Rattle.std.proofs.Math.Dec.{eqb}
use Rattle.std.proofs.lemmas.Bool.{lt-leb}
use Rattle.store.specs.Numbers.{Bytes, In, one}
use Rattle.store.specs.Slots.{off, len, is_target}
use Rattle.store.specs.Page.{View, view, fresh, slot_at}
use Rattle.store.specs.PageSteps.{initialised}
use Rattle.store.specs.Segment.{seg_view, page_of}
use Rattle.store.specs.Records.{Entry, entries, rows_in, records, scan_all, count_if}
use Rattle.store.proofs.Laws.Cases.{by_test, false_by}
use Rattle.store.proofs.Laws.Listed.{entry_slot}
use Rattle.store.proofs.Laws.Numbers.{be_less, bytes_take, bytes_drop, bytes_cut}
use Rattle.store.proofs.Laws.Views.{sum_zero}
use Rattle.exchange.specs.Exchange.{is_short, readings}
use Rattle.polishing.specs.Polishing.{mirror_of, is_of, row_of, row_times, whole_in, rows_named, Demand, counted, met, demands_of}
use Rattle.polishing.proofs.Laws.Rule.{by_edition}
use Rattle.polishing.proofs.Laws.Whole.{rows_within, whole_first}

-- ---- nothing is whole: no demand is met

-- one reading or more, by the first demand
abbrev Asks : List Demand → Type 0
Asks [] = ⊥
Asks (d ∷ ds) = 1 ≤ d.least

module _ (w : ℕ → Bool) (none : (r : ℕ) → w r ≡ false) where
  counted_zero : (a n : ℕ) → counted w a n ≡ 0
  unfolding counted
  counted_zero a n = sum_zero n (λ j. one (w (a + j))) (λ j l. ap one (none (a + j)))

  unmet : (ds : List Demand) → Asks ds → met w ds ≡ false
  unmet [] h = absurd h
  unmet (d ∷ ds) h = rw (counted_zero d.first d.span, lt-leb d.least 0 h)

  pub none_met : (e : ℕ) → met w (demands_of e) ≡ false
  none_met e = unmet (demands_of e) (by_edition Asks e (λ _. omega arith) (λ _. omega arith))

-- ---- no record names the mirror: nothing is whole

not_there : (f : List ℕ → Bool) (es : List Entry) → ((x : Entry) → In x es → f x.bytes ≡ false) → count_if f (readings (rows_in es)) ≡ 0
not_there f [] h = refl
not_there f (x ∷ es) h =
    let ih = not_there f es (λ y i. h y (inr i)) in
    by_test (λ (bs : List (List ℕ)). count_if f bs ≡ 0) (is_short x.bytes) (readings (rows_in es)) (x.bytes ∷ readings (rows_in es)) (λ e. ih)
    (λ e. omega (arith, ap one (h x (inl refl))))

module _ (s : List ℕ) (m : ℕ) (none : (x : Entry) → In x (scan_all s) → mirror_of x.bytes ≢ m) where
  row_none : (r k : ℕ) → row_times (readings (records (seg_view s))) m r k ≡ 0
  unfolding scan_all
  row_none r k = not_there (λ b. is_of m r b && eqb (row_of b) k) (entries (seg_view s)) (λ x i. rw (ne_eqb (mirror_of x.bytes) m (none x i)))

  -- row 0 is not there
  pub none_whole : (rows : ℕ) → rows_named rows ≡ true → (r : ℕ) → whole_in s m rows r ≡ false
  none_whole rows names r =
      false_by (whole_in s m rows r)
      (λ t. omega (arith, row_none r 0, whole_first (readings (records (seg_view s))) m rows r t (rows_within rows names).0))

-- ---- mirrors of 4 bytes

mirror_small : (b : List ℕ) → Bytes b → mirror_of b < 2 ^ 32
mirror_small b h =
    let few : length (take 4 b) ≤ 4 = omega (arith, length-take 4 b) in
    lt_of_lt_of_le (be_less (take 4 b) (bytes_take 4 b h)) (pow-le-pow_right {n = 256} (omega arith) few)

module _ (s : List ℕ) (bytes : Bytes s) where
  view_bytes : (p k : ℕ) → Bytes (((seg_view s).page p).bytes k)
  unfolding seg_view view
  view_bytes p k =
      let q = page_of s p in
      by_test (λ (v : View). Bytes (v.bytes k)) (fresh (view q)) initialised (view q) (λ e. tt)
      (λ e. bytes_cut q (off (slot_at q k)) (len (slot_at q k)) (bytes_cut s (p * 16384) 16384 bytes))

  entry_bytes : (x : Entry) → In x (scan_all s) → Bytes x.bytes
  unfolding scan_all
  entry_bytes x i =
      let o = entry_slot (seg_view s) (seg_view s).pages 0 x i in
      let v = (seg_view s).page o.page in
      let b = v.bytes o.slot in
      let h = view_bytes o.page o.slot in
      subst (λ (y : Entry). Bytes y.bytes) (sym o.is) (by_test Bytes (is_target (v.at o.slot)) (drop 8 b) b (λ e. bytes_drop 8 b h) (λ e. h))

  pub wide_none : (m : ℕ) → 2 ^ 32 ≤ m → (x : Entry) → In x (scan_all s) → mirror_of x.bytes ≢ m
  wide_none m l x i e = omega (arith, mirror_small x.bytes (entry_bytes x i))
