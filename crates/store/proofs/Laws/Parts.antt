-- What is seen of a slot, as bytes of the segment; and what a read or a scan's step answers so.
use Rattle.std.specs.Prelude.{ℕ, ◌+◌, ◌-◌, ◌*◌, ◌≤◌, ◌<◌, ◌≡◌, refl, true, cond, List, drop, eqb}
use Rattle.std.proofs.Common.{sym, ap, subst, ◌∙◌, arith}
use Rattle.store.specs.Numbers.{cut, page_no, slot_no}
use Rattle.store.specs.Slots.{off, len, is_target}
use Rattle.store.specs.Page.{View, view, fresh, lies_well, sound}
use Rattle.store.specs.PageSteps.{initialised}
use Rattle.store.specs.Segment.{seg_view, page_of, points_back, Read, no_read, read_by, no_part, part_on, held, part_by}
use Rattle.store.specs.Scan.{Scanned, record_at}
use Rattle.store.proofs.Laws.Numbers.{cut_cut, cut_drop}
use Rattle.store.proofs.Laws.SoundPage.{in_page}
use Rattle.store.proofs.Laws.Segments.{length_page}
use Rattle.store.proofs.Laws.Calls.{by_test, page_below, sound_seen, back_ok}
use Rattle.store.specs.declared.Slot.{Slot}
use Rattle.store.specs.declared.Slot.TheVariants.{Ordinary, Free, Redirect, Target}

-- what is seen of slot k of page p, as bytes of the segment
pub seen_bytes : (s : List ℕ) (p k : ℕ) → off (((seg_view s).page p).at k) + len (((seg_view s).page p).at k) ≤ 16384
    → cut s (p * 16384 + off (((seg_view s).page p).at k)) (len (((seg_view s).page p).at k)) ≡ ((seg_view s).page p).bytes k
unfolding seg_view view
seen_bytes s p k =
    by_test (λ (u : View). off (u.at k) + len (u.at k) ≤ 16384 → cut s (p * 16384 + off (u.at k)) (len (u.at k)) ≡ u.bytes k)
    (fresh (view (page_of s p))) initialised (view (page_of s p)) (λ f h. refl)
    (λ f h. sym (cut_cut s (p * 16384) 16384 (off ((view (page_of s p)).at k)) (len ((view (page_of s p)).at k)) h))

-- a record's part, a target's without its 8 bytes
module _ (s : List ℕ) (p k : ℕ) where
  slot_bytes_lem : (x : Slot) → ((seg_view s).page p).at k ≡ x → off x + len x ≤ 16384 → cut s (p * 16384 + off x) (len x) ≡ ((seg_view s).page p).bytes k
  slot_bytes_lem x e =
      subst (λ (y : Slot). off y + len y ≤ 16384 → cut s (p * 16384 + off y) (len y) ≡ ((seg_view s).page p).bytes k) e (seen_bytes s p k)

  pub ordinary_part : (o l : ℕ) → ((seg_view s).page p).at k ≡ Ordinary o l → o + l ≤ 16384 → held s (part_on p (Ordinary o l)) ≡ ((seg_view s).page p).bytes k
  ordinary_part o l e h = slot_bytes_lem (Ordinary o l) e h

  pub target_part : (o l : ℕ) → ((seg_view s).page p).at k ≡ Target o l → o + l ≤ 16384
      → held s (part_on p (Target o l)) ≡ drop 8 (((seg_view s).page p).bytes k)
  target_part o l e h =
      let q : p * 16384 + (o + 8) ≡ p * 16384 + o + 8 = omega arith in
      ap (λ (a : ℕ). cut s a (l - 8)) q ∙ sym (cut_drop s (p * 16384 + o) l 8) ∙ ap (drop 8) (slot_bytes_lem (Target o l) e h)

-- ---- a read

module _ (s : List ℕ) (i : ℕ) where
  abbrev pub Holds : Read → Type 0
  Holds r = held s (cond (eqb r.answer 0) (part_by (seg_view s) i (((seg_view s).page (page_no i)).at (slot_no i))) no_part) ≡ r.bytes

  pub high : (p k : ℕ) → p < (seg_view s).pages → sound ((seg_view s).page p) ≡ true
      → off (((seg_view s).page p).at k) + len (((seg_view s).page p).at k) ≤ 16384
  unfolding seg_view
  high p k l e = (sound_seen (page_of s p) (length_page s p (page_below s p l)) e).high k

  at_target_lem : (t : ℕ) → points_back (seg_view s) i t ≡ true → (x : Slot) → ((seg_view s).page (page_no t)).at (slot_no t) ≡ x → is_target x ≡ true
      → held s (part_on (page_no t) x) ≡ drop 8 (((seg_view s).page (page_no t)).bytes (slot_no t))
  at_target_lem t b (Ordinary o l) e w = let z : ◌≡◌ {A = ℕ} 0 1 = cc in absurd (omega arith)
  at_target_lem t b Free e w = let z : ◌≡◌ {A = ℕ} 0 1 = cc in absurd (omega arith)
  at_target_lem t b (Redirect j) e w = let z : ◌≡◌ {A = ℕ} 0 1 = cc in absurd (omega arith)
  at_target_lem t b (Target o l) e w =
      let h = (back_ok s i t b).0.sound.high (slot_no t) in
      target_part s (page_no t) (slot_no t) o l e (subst (λ (y : Slot). off y + len y ≤ 16384) e h)

  pub slot_holds : (x : Slot) → ((seg_view s).page (page_no i)).at (slot_no i) ≡ x
      → off (((seg_view s).page (page_no i)).at (slot_no i)) + len (((seg_view s).page (page_no i)).at (slot_no i)) ≤ 16384
      → held s (cond (eqb (read_by (seg_view s) i x).answer 0) (part_by (seg_view s) i (((seg_view s).page (page_no i)).at (slot_no i))) no_part)
      ≡ (read_by (seg_view s) i x).bytes
  slot_holds (Ordinary o l) e h = ap (λ (y : Slot). held s (part_by (seg_view s) i y)) e
      ∙ ordinary_part s (page_no i) (slot_no i) o l e (subst (λ (y : Slot). off y + len y ≤ 16384) e h)
  slot_holds Free e h = refl
  slot_holds (Redirect t) e h =
      by_test (λ (r : Read). held s (cond (eqb r.answer 0) (part_by (seg_view s) i (((seg_view s).page (page_no i)).at (slot_no i))) no_part)
      ≡ r.bytes) (points_back (seg_view s) i t)
      (record { answer = 0; bytes = drop 8 (((seg_view s).page (page_no t)).bytes (slot_no t)) }) (no_read 4)
      (λ b. ap (λ (y : Slot). held s (part_by (seg_view s) i y)) e
      ∙ at_target_lem t b (((seg_view s).page (page_no t)).at (slot_no t)) refl (back_ok s i t b).1) (λ b. refl)
  slot_holds (Target o l) e h = ap (λ (y : Slot). held s (part_by (seg_view s) i y)) e
      ∙ target_part s (page_no i) (slot_no i) o l e (subst (λ (y : Slot). off y + len y ≤ 16384) e h)

-- ---- a step of the scan

module _ (s : List ℕ) where
  abbrev pub Shown : Scanned → Type 0
  Shown d = held s d.part ≡ d.bytes

  pub record_part : (p k : ℕ) → lies_well ((seg_view s).page p) k ≡ true → Shown (record_at ((seg_view s).page p) p k)
  record_part p k g = go (((seg_view s).page p).at k) refl (in_page ((seg_view s).page p) k g)
    where
      go : (x : Slot) → ((seg_view s).page p).at k ≡ x → off (((seg_view s).page p).at k) + len (((seg_view s).page p).at k) ≤ 16384
          → Shown (record_at ((seg_view s).page p) p k)
      go (Ordinary o l) e h = rw e (ordinary_part s p k o l e (subst (λ (y : Slot). off y + len y ≤ 16384) e h))
      go Free e h = rw e (sym (ap (λ (y : Slot). cut s (p * 16384 + off y) (len y)) e) ∙ seen_bytes s p k h)
      go (Redirect j) e h = rw e (sym (ap (λ (y : Slot). cut s (p * 16384 + off y) (len y)) e) ∙ seen_bytes s p k h)
      go (Target o l) e h = rw e (target_part s p k o l e (subst (λ (y : Slot). off y + len y ≤ 16384) e h))
