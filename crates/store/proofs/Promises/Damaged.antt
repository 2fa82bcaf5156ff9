-- Document 01's 4 for a page that is not sound, at its places: for all bytes and each such page, so also for one whose count was wiped (Fresh,
-- `emptied`). Document 02, Ask 3: "4 is given for it, at its usual places."
use Prim.Native.Nat.{ℕ, suc, ◌-◌, ◌/◌, ◌≤◌, ◌<◌}
use Rattle.std.specs.Prelude.{◌≡◌, Bool, true, false, not, ◌&&◌, List, length, take, ltb, eqb}
use Rattle.std.proofs.Math.Path.{refl}
use Rattle.std.proofs.Common.{sym, ap, ◌∙◌, subst, arith, le-ltb}
use Rattle.store.specs.Numbers.{be, fit, page_no}
use Rattle.store.specs.Slots.{is_target}
use Rattle.store.specs.Page.{view, sound}
use Rattle.store.specs.Refusals.{DAMAGED}
use Rattle.store.specs.Inventory.{found_in}
use Rattle.store.specs.Segment.{seg_view, page_of, size_ok, inv_ok, Out, result, refuse, nowhere, find, need_for, root_of, by_root, points_back}
use Rattle.store.specs.Segment.{step, insert_step, write_step, resize_step, erase_step, store_by, store_plan, erase_by, erase_plan, insert_plan}
use Rattle.store.specs.Segment.{Read, no_read, read_by, read_plan, read_step}
use Rattle.store.specs.Scan.{over_page, without, scan_plan, scan_step}
use Rattle.store.specs.SoundSegment.{slot_on, bytes_on}
use Rattle.store.proofs.Laws.Cases.{never}
use Rattle.store.proofs.Laws.Roots.{by_root_lem}
use Rattle.store.proofs.Laws.SoundSegment.{open_sound, seen_pages, sized}
use Rattle.std.specs.Prelude.{Some}
use Rattle.store.specs.declared.Slot.{Slot}
use Rattle.store.specs.declared.Slot.TheVariants.{Redirect}

module _ (s v : List ℕ) (p : ℕ) (fits : size_ok s ≡ true) (one : inv_ok v ≡ true) (there : p < length s / 16384)
    (damaged : sound (view (page_of s p)) ≡ false) where
  seen : sound ((seg_view s).page p) ≡ false
  unfolding seg_view
  seen = open_sound (view (page_of s p)) ∙ damaged

  stepped : (o : Out) → o.answer ≡ DAMAGED → (step s v o).answer ≡ DAMAGED
  unfolding result
  stepped o e = rw (fits, one) e

  -- ---- "4 (root)", before 5: the page of the id; and the page of the target that its redirect names

  pub data Led (i : ℕ) : Type 0 where
    own : page_no i ≡ p → Led i
    target : (t : ℕ) → page_no i < length s / 16384 → slot_on (seg_view s) i ≡ Redirect t → page_no t ≡ p → Led i

  astray : (i t : ℕ) → page_no t ≡ p → points_back (seg_view s) i t ≡ false
  astray i t e = rw (ap (λ (q : ℕ). sound ((seg_view s).page q)) e ∙ seen) (go (ltb (page_no t) (seg_view s).pages) (not (eqb (page_no t) (page_no i))))
    where
      go : (a b : Bool) → (a && b && false && is_target (slot_on (seg_view s) t) && eqb (be (take 8 (bytes_on (seg_view s) t))) i) ≡ false
      go true true = refl
      go true false = refl
      go false b = refl

  -- what is done by the id's own page is 4, if it is so for a redirect that leads astray
  module _ {A : Type 0} (P : A → Type 0) (i : ℕ) (f : ℕ → A) (g : Slot → A) (four : P (f DAMAGED))
      (Led_on : (t : ℕ) → points_back (seg_view s) i t ≡ false → P (g (Redirect t))) where
    inside : page_no i < length s / 16384 → (seg_view s).pages ≤ page_no i → ⊥
    inside l h = omega (arith, seen_pages s)

    by_led : Led i → P (by_root f g (root_of (seg_view s) i))
    by_led (own e) =
        by_root_lem P (seg_view s) i f g (λ h. absurd (inside (omega arith) h)) (λ l d. four)
        (λ l d. never d (ap (λ (q : ℕ). sound ((seg_view s).page q)) e ∙ seen))
    by_led (target t l e q) =
        by_root_lem P (seg_view s) i f g (λ h. absurd (inside l h)) (λ l d. four) (λ l d. subst (λ (x : Slot). P (g x)) (sym e) (Led_on t (astray i t q)))

  module _ (i : ℕ) (led : Led i) where
    pub read_damaged : read_step s i ≡ no_read DAMAGED
    unfolding read_step read_plan
    read_damaged = rw fits (by_led (λ (r : Read). r ≡ no_read DAMAGED) i no_read (read_by (seg_view s) i) refl (λ t e. rw e) led)

    stored : (n : ℕ) (new : List ℕ → List ℕ) → n ≤ 16364 → (step s v (store_plan found_in (seg_view s) v i n new)).answer ≡ DAMAGED
    unfolding store_plan
    stored n new h =
        stepped (store_plan found_in (seg_view s) v i n new) (rw (le-ltb 16364 n h)
        (by_led (λ (o : Out). o.answer ≡ DAMAGED) i (refuse v) (store_by found_in (seg_view s) v i n new) refl (λ t e. rw e) led))

    pub write_damaged : (bs : List ℕ) → length bs ≤ 16364 → (write_step s v i bs).answer ≡ DAMAGED
    unfolding write_step
    write_damaged bs = stored (length bs) (λ old. bs)

    pub resize_damaged : (n : ℕ) → n ≤ 16364 → (resize_step s v i n).answer ≡ DAMAGED
    unfolding resize_step
    resize_damaged n = stored n (fit n)

    pub erase_damaged : (erase_step s v i).answer ≡ DAMAGED
    unfolding erase_step erase_plan
    erase_damaged =
        stepped (erase_plan (seg_view s) v i)
        (by_led (λ (o : Out). o.answer ≡ DAMAGED) i (refuse v) (erase_by (seg_view s) v i) refl (λ t e. rw e) led)

  -- ---- "4 (new page)", after 7 and before 8: the page that the inventory names, for a record of insert and allocate and for a new target

  pub new_damaged : (m : ℕ) (excluded : ℕ → Bool) → found_in v (length s / 16384) (need_for m) ≡ Some p
      → find found_in (seg_view s) v m excluded ≡ nowhere DAMAGED
  unfolding find
  new_damaged m excluded e = rw (seen_pages s, e, seen)

  pub insert_damaged : (bs : List ℕ) → length bs ≤ 16364 → found_in v (length s / 16384) (need_for (length bs)) ≡ Some p → (insert_step s v bs).answer ≡ DAMAGED
  unfolding insert_step insert_plan
  insert_damaged bs h e =
      stepped (insert_plan found_in (seg_view s) v bs) (rw (le-ltb 16364 (length bs) h, new_damaged (length bs) (λ q. false) e))

  -- ---- the scan, when it reaches the page

  pub scan_damaged : scan_step s p 0 ≡ without DAMAGED over_page 0
  unfolding scan_step scan_plan
  scan_damaged =
      let h = sized s fits in
      let n : (seg_view s).pages - p ≡ suc (length s / 16384 - p - 1) = omega (arith, seen_pages s) in
      rw (le-ltb 32527 p (omega (arith, h.few)), fits, n, seen)
