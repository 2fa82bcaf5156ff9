-- The steps of a scan, by cases; and in a sound segment a record that is found is what a read by its id gives.
use Rattle.std.specs.Prelude.{ℕ, zero, suc, ◌+◌, ◌-◌, ◌≤◌, ◌<◌, ◌≡◌, refl, Bool, true, false, cond, List, drop, take, ltb}
use Rattle.std.proofs.Common.{sym, ap, ◌∙◌, ltb-true}
use Rattle.std.proofs.Math.Path.{subst}
use native.Mathlib.Omega.{arith}
use Rattle.std.proofs.Math.Decide.{dec_lt}
use Rattle.store.specs.Numbers.{be, id_of, page_no, slot_no}
use Rattle.store.specs.Slots.{is_record, is_target}
use Rattle.store.specs.Page.{View, lies_well}
use Rattle.store.specs.Segment.{SegView, seg_view, size_ok, Read, read_by, read_step}
use Rattle.store.specs.Refusals.{DONE, SIZE, DAMAGED}
use Rattle.store.specs.Scan.{Scanned, without, over_page, record_at, next_record, damaged_at, scan_from, scan_plan, scan_step}
use Rattle.store.specs.SoundSegment.{slot_on, bytes_on, SoundSegment}
use Rattle.store.proofs.Laws.Calls.{by_test}
use Rattle.store.proofs.Laws.Slots.{tag}
use Rattle.store.proofs.Laws.Pairs.{look}
use Rattle.store.proofs.Laws.Stays.{page_of_lem, slot_no_of}
use Rattle.store.proofs.Laws.Rows.{read_by_lem, by_look}
use Rattle.store.proofs.Laws.SoundSegment.{seen_sound}
use Rattle.store.specs.declared.Slot.{Slot}
use Rattle.store.specs.declared.Slot.TheVariants.{Ordinary, Free, Redirect, Target}

-- the slot found holds a record
pub next_record_lem : (m : ℕ) (v : View) (k : ℕ) → next_record m v k < k + m → is_record (v.at (next_record m v k)) ≡ true
next_record_lem zero v k h = absurd (omega arith)
next_record_lem (suc m) v k h = go (is_record (v.at k)) refl h (λ l. next_record_lem m v (k + 1) l)
  where
    go : (b : Bool) → is_record (v.at k) ≡ b → cond b k (next_record m v (k + 1)) < k + suc m
        → (next_record m v (k + 1) < k + 1 + m → is_record (v.at (next_record m v (k + 1))) ≡ true)
        → is_record (v.at (cond b k (next_record m v (k + 1)))) ≡ true
    go true e l ih = e
    go false e l ih = ih (omega arith)

pub next_low : (m : ℕ) (v : View) (k : ℕ) → k ≤ next_record m v k
next_low zero v k = omega arith
next_low (suc m) v k = go (is_record (v.at k)) (next_low m v (k + 1))
  where
    go : (b : Bool) → k + 1 ≤ next_record m v (k + 1) → k ≤ cond b k (next_record m v (k + 1))
    go true h = omega arith
    go false h = omega arith

-- ---- what holds of every step of a scan: of one without a record, and of each record found

module _ (P : Scanned → Type 0) (u : SegView) (over : (p k : ℕ) → P (without DONE p k))
    (page : (p k : ℕ) → damaged_at (u.page p) k ≡ true → P (without DAMAGED over_page 0))
    (place : (p j : ℕ) → lies_well (u.page p) j ≡ false → P (without DAMAGED over_page 0))
    (found : (p j : ℕ) → p < u.pages → j < (u.page p).slot_count → is_record ((u.page p).at j) ≡ true → lies_well (u.page p) j ≡ true
    → P (record_at (u.page p) p j)) where
  from_each : (m p k : ℕ) → p + m ≤ u.pages → P (scan_from m u p k)
  from_each zero p k l = over p k
  from_each (suc m) p k l = go (from_each m (p + 1) 0 (omega arith))
    where
      v : View
      v = u.page p

      j : ℕ
      j = next_record (v.slot_count - k) v k

      at_j : j < v.slot_count → P (cond (lies_well v j) (record_at v p j) (without DAMAGED over_page 0))
      at_j c =
          by_test P (lies_well v j) (record_at v p j) (without DAMAGED over_page 0)
          (found p j (omega arith) c (next_record_lem (v.slot_count - k) v k (omega (arith, next_low (v.slot_count - k) v k)))) (place p j)

      go : P (scan_from m u (p + 1) 0)
          → P (cond (damaged_at v k) (without DAMAGED over_page 0)
          (cond (ltb j v.slot_count) (cond (lies_well v j) (record_at v p j) (without DAMAGED over_page 0)) (scan_from m u (p + 1) 0)))
      go ih =
          by_test P (damaged_at v k) (without DAMAGED over_page 0) _ (page p k)
          (λ a. by_test P (ltb j v.slot_count) _ (scan_from m u (p + 1) 0) (λ b. at_j (ltb-true j v.slot_count b)) (λ b. ih))

  plan_each : (p k : ℕ) → P (scan_plan u p k)
  unfolding scan_plan
  plan_each p k = go (dec_lt p u.pages)
    where
      go : Dec (p < u.pages) → P (scan_from (u.pages - p) u p k)
      go (yes l) = from_each (u.pages - p) p k (omega arith)
      go (no l) = let z : u.pages - p ≡ 0 = omega arith in subst (λ (m : ℕ). P (scan_from m u p k)) (sym z) (over p k)

-- the same of a segment, whatever its size
pub scan_each : (P : Scanned → Type 0) (s : List ℕ) → ((p k : ℕ) → P (without DONE p k)) → P (without SIZE over_page 0)
    → ((p k : ℕ) → damaged_at ((seg_view s).page p) k ≡ true → P (without DAMAGED over_page 0))
    → ((p j : ℕ) → lies_well ((seg_view s).page p) j ≡ false → P (without DAMAGED over_page 0))
    → ((p j : ℕ) → p < (seg_view s).pages → j < ((seg_view s).page p).slot_count → is_record (((seg_view s).page p).at j) ≡ true
    → lies_well ((seg_view s).page p) j ≡ true → P (record_at ((seg_view s).page p) p j))
    → (p k : ℕ) → P (scan_step s p k)
unfolding scan_step
scan_each P s over size page place found p k =
    by_test P (ltb 32527 p) (without DONE p k) _ (λ a. over p k)
    (λ a. by_test P (size_ok s) (scan_plan (seg_view s) p k) (without SIZE over_page 0) (λ b. plan_each P (seg_view s) over page place found p k) (λ b. size))

-- ---- a record found is what a read by its id gives, in a sound segment

abbrev pub row : List ℕ → Read
row bs = record { answer = 0; bytes = bs }

module _ (s v : List ℕ) (h : SoundSegment s v) where
  abbrev pub Reads : Scanned → Type 0
  Reads d = d.some ≡ true → read_step s d.id ≡ row d.bytes

  -- of slot j on page p, which holds a record
  module _ (p j : ℕ) (below : p < (seg_view s).pages) (counted : j < ((seg_view s).page p).slot_count) where
    small : j < 65536
    small = omega (arith, ((seen_sound s v h).sounds p).few)

    pub inside : page_no (id_of p j) < (seg_view s).pages
    inside = subst (λ (q : ℕ). q < (seg_view s).pages) (sym (page_of_lem p j small)) below

    pub here : slot_on (seg_view s) (id_of p j) ≡ ((seg_view s).page p).at j
    here = λ i. ((seg_view s).page (page_of_lem p j small i)).at (slot_no_of p j small i)

    same_bytes_lem : ((seg_view s).page (page_no (id_of p j))).bytes (slot_no (id_of p j)) ≡ ((seg_view s).page p).bytes j
    same_bytes_lem = λ i. ((seg_view s).page (page_of_lem p j small i)).bytes (slot_no_of p j small i)

    -- a target's back id is its root's, which is a redirect to it
    abbrev pub back : ℕ
    back = be (take 8 (((seg_view s).page p).bytes j))

    pub back_root : (o l : ℕ) → ((seg_view s).page p).at j ≡ Target o l → (page_no back < (seg_view s).pages)
        × (slot_on (seg_view s) back ≡ Redirect (id_of p j))
    back_root o l e =
        let t : ℕ = id_of p j in
        let n = h.pairs.targets t inside (ap is_target (here ∙ e)) in
        let r = h.pairs.redirects n.by t n.below n.names in
        let b : back ≡ n.by = ap (λ (bs : List ℕ). be (take 8 bs)) (sym same_bytes_lem) ∙ r.back in
        rw b (n.below, n.names)

    by_root_lem : (o l : ℕ) → ((seg_view s).page p).at j ≡ Target o l → read_step s back ≡ row (drop 8 (((seg_view s).page p).bytes j))
    by_root_lem o l e =
        let r = back_root o l e in
        read_by_lem s v h back r.0 ∙ by_look s v h back r.0 ∙ ap (λ (x : Slot). look (bytes_on (seg_view s)) back (tag x)) r.1
        ∙ ap (λ (bs : List ℕ). row (drop 8 bs)) same_bytes_lem

    pub record_reads : (x : Slot) → ((seg_view s).page p).at j ≡ x → is_record x ≡ true → Reads (record_at ((seg_view s).page p) p j)
    record_reads (Ordinary o l) e r d = rw e (read_by_lem s v h (id_of p j) inside ∙ ap (read_by (seg_view s) (id_of p j)) (here ∙ e) ∙ ap row same_bytes_lem)
    record_reads Free e r d = let z : ◌≡◌ {A = ℕ} 0 1 = cc in absurd (omega arith)
    record_reads (Redirect t) e r d = let z : ◌≡◌ {A = ℕ} 0 1 = cc in absurd (omega arith)
    record_reads (Target o l) e r d = rw e (by_root_lem o l e)
