-- A record that the scan answers: how it lies, and its step.
use Prim.Native.Nat.{ℕ, ◌+◌, ◌-◌, ◌*◌, ◌≤◌}
use mathlib.Core.Path.{◌≡◌, refl, sym, ap, subst, ◌∙◌}
use mathlib.Core.Bool.{true, false, not, ◌||◌}
use mathlib.Core.List.{List}
use Rattle.std.proofs.Common.{Option, Some}
use lib.ListN.{take, drop}
use lib.Dec.{leb}
use borrow.Author.Tests.{leb-true}
use Rattle.store.specs.Numbers.{cut, be, id_of}
use Rattle.store.specs.Slots.{off, len, is_record, is_target}
use Rattle.store.specs.Page.{View, view, fresh, lies_well}
use Rattle.store.specs.Refusals.{DAMAGED}
use Rattle.store.specs.PageSteps.{initialised}
use Rattle.store.specs.Segment.{seg_view, page_of, part_on}
use Rattle.store.specs.Scan.{without, over_page, record_at}
use Rattle.store.specs.Answers.{step_of}
use Rattle.store.proofs.Laws.SoundPage.{and_both, in_page}
use Rattle.store.proofs.Laws.Cases.{by_test, never}
use Rattle.store.proofs.Laws.Parts.{ordinary_part, target_part}
use Rattle.store.specs.declared.Slot.{Slot}
use Rattle.store.specs.declared.Slot.TheVariants.{Ordinary, Free, Redirect, Target}
use Rattle.store.specs.declared.Record.{Record}
use Rattle.segment_pages.proofs.Seen.{target_head}
use Rattle.segment_scan.specs.Pages.{lies_at, well_at, record_or}

-- ---- how a record lies

lies_well_at : (v : View) (k : ℕ) → lies_well v k ≡ well_at v.data_start (v.at k)
unfolding well_at lies_at
lies_well_at v k = refl

-- a target that lies well has its back id
well_long : (v : View) (k : ℕ) → lies_well v k ≡ true → is_target (v.at k) ≡ true → 8 ≤ len (v.at k)
unfolding well_at
well_long v k g t =
    let s = v.at k in
    let b = (and_both (lies_at v.data_start (off s) (len s)) (not (is_target s) || leb 8 (len s)) (sym (lies_well_at v k) ∙ g)).1 in
    leb-true 8 (len s) (rw t at b)

-- ---- the page of a record is not a fresh one

seen_used : (s : List ℕ) (p k : ℕ) → is_record (((seg_view s).page p).at k) ≡ true → view (page_of s p) ≡ (seg_view s).page p
unfolding seg_view
seen_used s p k =
    by_test (λ (u : View). is_record (u.at k) ≡ true → view (page_of s p) ≡ u) (fresh (view (page_of s p))) initialised (view (page_of s p))
    (λ f e. never e refl) (λ f e. refl)

pub lies_seen : (s : List ℕ) (p k d : ℕ) (x : Slot) → is_record (((seg_view s).page p).at k) ≡ true → d ≡ (view (page_of s p)).data_start
    → x ≡ ((seg_view s).page p).at k
    → well_at d x ≡ lies_well ((seg_view s).page p) k
lies_seen s p k d x r e q =
    let f : d ≡ ((seg_view s).page p).data_start = e ∙ ap (λ (v : View). v.data_start) (seen_used s p k r) in
    (λ i. well_at (f i) (q i)) ∙ sym (lies_well_at ((seg_view s).page p) k)

-- ---- its step

abbrev found : ℕ → ℕ → ℕ → Option Record
found i o l = Some (record { id = i; part = record { offset = o; length = l } })

module _ (s : List ℕ) (p k : ℕ) (well : lies_well ((seg_view s).page p) k ≡ true) where
  inside : (x : Slot) → ((seg_view s).page p).at k ≡ x → off x + len x ≤ 16384
  inside x e = subst (λ (y : Slot). off y + len y ≤ 16384) e (in_page ((seg_view s).page p) k well)

  long_enough : (x : Slot) → ((seg_view s).page p).at k ≡ x → is_target x ≡ true → 8 ≤ len x
  long_enough x e = subst (λ (y : Slot). is_target y ≡ true → 8 ≤ len y) e (well_long ((seg_view s).page p) k well)

  plain : (x : Slot) → ((seg_view s).page p).at k ≡ x → is_record x ≡ true → is_target x ≡ false
      → step_of (found (id_of p k) (p * 16384 + off x) (len x)) p (k + 1) s ≡ record_at ((seg_view s).page p) p k
  plain (Ordinary o l) e r t =
      rw e (ap (λ (bs : List ℕ). record { answer = 0; some = true; id = id_of p k; bytes = bs; part = part_on p (Ordinary o l); page = p; slot = k + 1 })
      (ordinary_part s p k o l e (inside (Ordinary o l) e)))
  plain Free e r t = never r refl
  plain (Redirect i) e r t = never r refl
  plain (Target o l) e r t = never refl t

  target : (x : Slot) → ((seg_view s).page p).at k ≡ x → is_target x ≡ true
      → step_of (found (be (cut s (p * 16384 + off x) 8)) (p * 16384 + (off x + 8)) (len x - 8)) p (k + 1) s ≡ record_at ((seg_view s).page p) p k
  target (Ordinary o l) e t = never t refl
  target Free e t = never t refl
  target (Redirect i) e t = never t refl
  target (Target o l) e t =
      let i : be (cut s (p * 16384 + o) 8) ≡ be (take 8 (((seg_view s).page p).bytes k)) =
      ap be (sym (target_head s p k o l e (long_enough (Target o l) e refl) (inside (Target o l) e))) in
      let b : cut s (p * 16384 + (o + 8)) (l - 8) ≡ drop 8 (((seg_view s).page p).bytes k) = target_part s p k o l e (inside (Target o l) e) in
      rw e (λ j. record { answer = 0; some = true; id = i j; bytes = b j; part = part_on p (Target o l); page = p; slot = k + 1 })

  module _ (x : Slot) (e : x ≡ ((seg_view s).page p).at k) (o l : ℕ) (offset : o ≡ off x) (long : l ≡ len x) where
    pub record_plain : is_record x ≡ true → is_target x ≡ false
        → step_of (found (id_of p k) (p * 16384 + o) l) p (k + 1) s ≡ record_at ((seg_view s).page p) p k
    record_plain r t = rw (offset, long) (plain x (sym e) r t)

    pub record_target : is_target x ≡ true → (b : ℕ) → b ≡ be (cut s (p * 16384 + o) 8)
        → step_of (found b (p * 16384 + (o + 8)) (l - 8)) p (k + 1) s ≡ record_at ((seg_view s).page p) p k
    record_target t b q = rw (q, offset, long) (target x (sym e) t)

    pub record_high : o + l ≤ 16384
    record_high = rw (offset, long) (inside x (sym e))

    pub record_long : is_target x ≡ true → 8 ≤ l
    record_long t = rw long (long_enough x (sym e) t)

-- ---- or damage

module _ (v : View) (p k : ℕ) where
  pub record_no : lies_well v k ≡ false → without DAMAGED over_page 0 ≡ record_or v p k
  unfolding record_or
  record_no e = rw e

  pub record_yes : lies_well v k ≡ true → record_at v p k ≡ record_or v p k
  unfolding record_or
  record_yes e = rw e
