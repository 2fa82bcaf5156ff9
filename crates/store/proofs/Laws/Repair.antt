-- Repair's laws, for every bytes that can be lent: sound afterwards; what is kept; refusals change nothing.
use Rattle.std.specs.Prelude.{ℕ, ◌-◌, ◌/◌, ◌%◌, ◌≤◌, ◌<◌, ◌≡◌, Bool, cond, ◌&&◌, take, eqb, leb}
use Rattle.std.proofs.Math.Path.{refl, sym, ap}
use Rattle.std.proofs.Common.{◌∙◌, subst, arith, eq-eqb, lt-ltb, le-ltb}
use Rattle.std.proofs.Math.Bool.{true, false}
use mathlib.Core.List.{List}
use Rattle.std.proofs.Math.Decide.{dec_lt}
use Rattle.std.proofs.Math.ListN.{length}
use Rattle.store.specs.Numbers.{be, page_no, slot_no}
use Rattle.store.specs.Slots.{is_target}
use Rattle.store.specs.Page.{View, view, fresh, sound_tests, passes, sound}
use Rattle.store.specs.PageSteps.{initialised, opened}
use Rattle.store.specs.Inventory.{class_of, Truth}
use Rattle.store.specs.Segment.{SegView, seg_view, page_of, size_ok}
use Rattle.store.specs.SoundSegment.{slot_on, bytes_on, Paired, nibble_of, classes, SoundSegment}
use Rattle.store.specs.Repair.{standing, lost, mended, emptied, page_after, seg_after, true_of, same_inv, inv_after}
use Rattle.store.proofs.Laws.Cases.{by_test, or_in}
use Rattle.store.proofs.Laws.SoundPage.{past_free, sound_test, fresh_none}
use Rattle.store.proofs.Laws.Segments.{length_page}
use Rattle.store.proofs.Laws.SoundSegment.{seen_pages}
use Rattle.store.proofs.Laws.RepairPage.{used, Shown, mended_sound}
use Rattle.store.proofs.Laws.RepairBytes.{shown_page, repaired_seg, repaired_length, repaired_view}
use Rattle.store.proofs.Laws.RepairPairs.{after_paired}
use Rattle.store.proofs.Laws.RepairInventory.{classes_to, true_length, true_is, same_true}

-- ---- a fresh page as it stands and as it is opened: neither has a record

pub opened_slot : (q : List ℕ) (k : ℕ) → (opened (view q)).at k ≡ (view q).at k
opened_slot q k =
    by_test (λ (w : View). w.at k ≡ (view q).at k) (fresh (view q)) initialised (view q) (λ f. sym (past_free q k (omega (arith, fresh_none (view q) f))))
    (λ f. refl)

pub opened_bytes : (q : List ℕ) (k : ℕ) → (opened (view q)).bytes k ≡ (view q).bytes k
unfolding view
opened_bytes q k =
    by_test (λ (w : View). w.bytes k ≡ (view q).bytes k) (fresh (view q)) initialised (view q)
    (λ f. rw (past_free q k (omega (arith, fresh_none (view q) f)))) (λ f. refl)

pub opened_nibble : (w : View) → nibble_of (opened w) ≡ nibble_of w
opened_nibble w =
    by_test (λ (x : View). nibble_of x ≡ nibble_of w) (fresh w) initialised w (λ f. sym (ap (λ (b : Bool). cond b 0 (class_of (16372 - w.free_space))) f))
    (λ f. refl)

module _ (s : List ℕ) where
  pub seen_slot : (i : ℕ) → slot_on (seg_view s) i ≡ slot_on (standing s) i
  unfolding seg_view standing
  seen_slot i = opened_slot (page_of s (page_no i)) (slot_no i)

  pub seen_bytes : (i : ℕ) → bytes_on (seg_view s) i ≡ bytes_on (standing s) i
  unfolding seg_view standing
  seen_bytes i = opened_bytes (page_of s (page_no i)) (slot_no i)

  pub standing_pages : (standing s).pages ≡ length s / 16384
  unfolding standing
  standing_pages = refl

  pub standing_page : (p : ℕ) → (standing s).page p ≡ view (page_of s p)
  unfolding standing
  standing_page p = refl

pub opened_standing : (s : List ℕ) (p : ℕ) → (seg_view s).page p ≡ opened ((standing s).page p)
unfolding seg_view standing
opened_standing s p = refl

-- pairing asks only for the slots and bytes of ids on the pages
pub paired_same : (a b : SegView) → a.pages ≡ b.pages → ((i : ℕ) → page_no i < b.pages → slot_on a i ≡ slot_on b i)
    → ((i : ℕ) → page_no i < b.pages → bytes_on a i ≡ bytes_on b i)
    → Paired b → Paired a
paired_same a b n slots bytes h =
    record {
      redirects = λ i t l e.
          let m : page_no i < b.pages = omega arith in
          let r = h.redirects i t m (sym (slots i m) ∙ e) in
          record {
            below = omega (arith, r.below);
            other = r.other;
            target = ap is_target (slots t r.below) ∙ r.target;
            back = ap (λ (z : List ℕ). be (take 8 z)) (bytes t r.below) ∙ r.back;
          };
      targets = λ t l e.
          let m : page_no t < b.pages = omega arith in
          let r = h.targets t m (ap is_target (sym (slots t m)) ∙ e) in
          record { by = r.by; below = omega (arith, r.below); names = slots r.by r.below ∙ r.names };
    }

-- ---- law 1: sound afterwards

pub sound_fresh : (v : View) → fresh v ≡ true → sound v ≡ true
unfolding sound
sound_fresh v f = or_in (fresh v) (passes sound_tests v) f

sound_emptied : sound emptied ≡ true
sound_emptied = sound_fresh emptied refl

module _ (s : List ℕ) (whole : length s % 16384 ≡ 0) where
  pub shown : (p : ℕ) → p < length s / 16384 → Shown ((standing s).page p)
  unfolding standing
  shown p l = shown_page (page_of s p) (length_page s p (omega arith))

  shown_all : (p : ℕ) → p < (standing s).pages → Shown ((standing s).page p)
  shown_all p l = shown p (omega (arith, standing_pages s))

  pub page_sound : (p : ℕ) → p < length s / 16384 → sound (page_after (standing s) p) ≡ true
  unfolding page_after
  page_sound p l = go (lost ((standing s).page p)) refl (fresh ((standing s).page p)) refl
    where
      go : (a : Bool) → lost ((standing s).page p) ≡ a → (b : Bool) → fresh ((standing s).page p) ≡ b
          → sound (cond a emptied (cond b ((standing s).page p) (mended (standing s) p))) ≡ true
      go true x b y = sound_emptied
      go false x true y = sound_fresh ((standing s).page p) y
      go false x false y = let h = used ((standing s).page p) x y in sound_test (mended (standing s) p) (mended_sound (standing s) p (shown p l) h.0 h.1)

  -- what is seen of the segment's pages
  pub after_page : (p : ℕ) → p < length s / 16384 → (standing (repaired_seg s whole)).page p ≡ (seg_after (standing s)).page p
  unfolding seg_after
  after_page p l = standing_page (repaired_seg s whole) p ∙ repaired_view s whole p l

  after_pages : (seg_view (repaired_seg s whole)).pages ≡ (seg_after (standing s)).pages
  unfolding seg_after
  after_pages =
      seen_pages (repaired_seg s whole) ∙ ap (λ (n : ℕ). n / 16384) (repaired_length s whole) ∙ sym (standing_pages s)

  pub planned_pages : (seg_after (standing s)).pages ≡ length s / 16384
  unfolding seg_after
  planned_pages = standing_pages s

  pub pairs_after : Paired (seg_view (repaired_seg s whole))
  pairs_after =
      paired_same (seg_view (repaired_seg s whole)) (seg_after (standing s)) after_pages
      (λ i l. seen_slot (repaired_seg s whole) i ∙ ap (λ (v : View). v.at (slot_no i)) (after_page (page_no i) (omega (arith, planned_pages))))
      (λ i l. seen_bytes (repaired_seg s whole) i ∙ ap (λ (v : View). v.bytes (slot_no i)) (after_page (page_no i) (omega (arith, planned_pages))))
      (after_paired (standing s) shown_all)

  pub classes_after : classes_to (seg_after (standing s)) (length s / 16384) ≡ classes (seg_view (repaired_seg s whole))
  classes_after = λ z p. each p (dec_lt p (length s / 16384)) z
    where
      pages : (seg_view (repaired_seg s whole)).pages ≡ length s / 16384
      pages = after_pages ∙ planned_pages

      seen : (p : ℕ) → (seg_view (repaired_seg s whole)).page p ≡ opened ((standing (repaired_seg s whole)).page p)
      seen p = opened_standing (repaired_seg s whole) p

      each : (p : ℕ) → Dec (p < length s / 16384) → classes_to (seg_after (standing s)) (length s / 16384) p ≡ classes (seg_view (repaired_seg s whole)) p
      each p (yes l) =
          rw (lt-ltb p (length s / 16384) l, lt-ltb p (seg_view (repaired_seg s whole)).pages (omega (arith, pages)))
          (sym (ap nibble_of (seen p) ∙ opened_nibble ((standing (repaired_seg s whole)).page p) ∙ ap nibble_of (after_page p l)))
      each p (no l) = rw (le-ltb p (length s / 16384) (omega arith), le-ltb p (seg_view (repaired_seg s whole)).pages (omega (arith, pages)))

  module _ (few : length s / 16384 ≤ 32527) (v : List ℕ) (one : length v ≡ 16384) where
    pub inv_length : length (inv_after (standing s) v) ≡ 16384
    unfolding inv_after
    inv_length =
        by_test (λ (r : List ℕ). length r ≡ 16384) (same_inv v (true_of (standing s))) v (true_of (standing s)) (λ e. one)
        (λ e. true_length (seg_after (standing s)) (standing s).pages (standing s).pages)

    pub true_planned : Truth (classes_to (seg_after (standing s)) (length s / 16384)) (length s / 16384) (true_of (standing s))
    unfolding standing
    true_planned = true_is (seg_after (standing s)) (length s / 16384) few (length s / 16384) (omega arith)

    inv_true : Truth (classes_to (seg_after (standing s)) (length s / 16384)) (length s / 16384) (inv_after (standing s) v)
    unfolding inv_after
    inv_true =
        by_test (λ (r : List ℕ). Truth (classes_to (seg_after (standing s)) (length s / 16384)) (length s / 16384) r) (same_inv v (true_of (standing s))) v
        (true_of (standing s))
        (λ e. same_true (classes_to (seg_after (standing s)) (length s / 16384)) (length s / 16384) v (true_of (standing s))
        (one ∙ sym (true_length (seg_after (standing s)) (standing s).pages (standing s).pages)) e true_planned)
        (λ e. true_planned)

    pub after_sound : size_ok s ≡ true → SoundSegment (repaired_seg s whole) (inv_after (standing s) v)
    after_sound ok =
        let long : length s ≡ length (repaired_seg s whole) = sym (repaired_length s whole) in
        record {
          whole = ap (λ (n : ℕ). eqb (n % 16384) 0 && leb (n / 16384) 32527) (repaired_length s whole) ∙ ok;
          page = eq-eqb (length (inv_after (standing s) v)) 16384 inv_length;
          pages = λ p l. let m : p < length s / 16384 = omega arith in ap sound (repaired_view s whole p m) ∙ page_sound p m;
          pairs = pairs_after;
          inventory =
              subst (λ (n : ℕ). Truth (classes (seg_view (repaired_seg s whole))) n (inv_after (standing s) v)) (ap (λ (n : ℕ). n / 16384) long)
              (subst (λ (f : ℕ → ℕ). Truth f (length s / 16384) (inv_after (standing s) v)) classes_after inv_true);
        }
