-- A sound segment stays sound under each plan, and from one no plan answers 4 or 8.
use Rattle.std.specs.Prelude.{ℕ, ◌/◌, ◌%◌, ◌≤◌, ◌<◌, ◌≡◌, refl, Bool, true, false, not, ◌&&◌, List, [], ◌∷◌, length, eqb, ltb, leb}
use Rattle.std.proofs.Common.{sym, ap, ◌∙◌, subst, arith, length-take, length-drop, leb-true, le-leb, eqb-true, eq-eqb}
use Rattle.std.proofs.Math.Decide.{dec_lt}
use Rattle.store.specs.Numbers.{zeros, fit}
use Rattle.store.specs.Page.{View, view, fresh, count_fits, sound_tests, passes, sound}
use Rattle.store.specs.PageSteps.{initialised, opened, plan}
use Rattle.store.specs.Inventory.{Truth}
use Rattle.store.specs.Inventory.{found_in}
use Rattle.store.specs.Segment.{SegView, seg_view, page_of, size_ok, Out, carried, refuse, insert_plan, Read, no_read}
use Rattle.store.proofs.Laws.Cases.{or_in}
use Rattle.store.specs.Laws.Views.{Sound}
use Rattle.store.proofs.Laws.SoundPage.{and_both, and_in, sound_init, sound_opened, sound_test}
use Rattle.store.specs.Scan.{damaged_at}
use Rattle.store.proofs.Laws.Segments.{AllExact, AllSound, length_page, settled, carried_seen, settled_sound}
use Rattle.store.proofs.Laws.Calls.{by_test}
use Rattle.store.proofs.Laws.Plans.{length_carried, plan_of}
use Rattle.store.specs.Calls.{Call, insert, allocate, write, resize, erase}
use Rattle.store.specs.SoundSegment.{bytes_on, classes, PagesSound, SoundSegment}
use Rattle.store.proofs.Laws.Pairs.{Pairs, tag_on, paired_pairs, pairs_paired}
use Rattle.store.proofs.Laws.Stays.{Stays, Seen, wrote, old_bytes, refusal, insert_stays, store_stays, erase_stays}

-- ---- what a sound segment gives to the plans

-- past the last page there is a fresh one
pub page_past : (s : List ℕ) (p : ℕ) → length s / 16384 ≤ p → length s % 16384 ≡ 0 → page_of s p ≡ []
page_past s p h w = nil (page_of s p) (simp (length-take, length-drop) (omega arith))
  where
    nil : (l : List ℕ) → length l ≡ 0 → l ≡ []
    nil [] e = refl
    nil (x ∷ l) e = absurd (omega arith)

pub record Sized (s : List ℕ) : Type 0 where
  pub whole : length s % 16384 ≡ 0
  pub few : length s / 16384 ≤ 32527

pub sized : (s : List ℕ) → size_ok s ≡ true → Sized s
sized s e =
    let b = and_both (eqb (length s % 16384) 0) (leb (length s / 16384) 32527) e in
    record { whole = eqb-true (length s % 16384) 0 b.0; few = leb-true (length s / 16384) 32527 b.1 }

pub right_size : (s : List ℕ) → length s % 16384 ≡ 0 → length s / 16384 ≤ 32527 → size_ok s ≡ true
right_size s a b = and_in (eqb (length s % 16384) 0) (leb (length s / 16384) 32527) (eq-eqb (length s % 16384) 0 a) (le-leb (length s / 16384) 32527 b)

-- every page that is seen is sound, those past the end too
pub pages_sound : (s : List ℕ) → size_ok s ≡ true → PagesSound s
    → (p : ℕ) → Sound ((seg_view s).page p)
unfolding seg_view view
pages_sound s e h p = each (sized s e) (dec_lt p (length s / 16384))
  where
    each : Sized s → Dec (p < length s / 16384) → Sound (opened (view (page_of s p)))
    each z (yes l) = sound_opened (page_of s p) (length_page s p (omega arith)) (h p l)
    each z (no l) = subst (λ (q : List ℕ). Sound (opened (view q))) (sym (page_past s p (omega arith) z.whole)) sound_init

pub seen_sound : (s v : List ℕ) → SoundSegment s v → Seen (seg_view s) v
unfolding seg_view
seen_sound s v h =
    record {
      sounds = pages_sound s h.whole h.pages;
      few = (sized s h.whole).few;
      one = eqb-true (length v) 16384 h.page;
      pairs = paired_pairs (seg_view s) h.pairs;
      truth = h.inventory;
    }

pub open_sound : (v : View) → sound (opened v) ≡ sound v
unfolding sound
open_sound v = by_test (λ w. sound w ≡ sound v) (fresh v) initialised v (λ f. sym (or_in (fresh v) (passes sound_tests v) f)) (λ f. refl)

pub sound_closed : (v : View) → sound (opened v) ≡ true → sound v ≡ true
sound_closed v e = sym (open_sound v) ∙ e

-- ---- once over the plan

pub seen_pages : (s : List ℕ) → (seg_view s).pages ≡ length s / 16384
unfolding seg_view
seen_pages s = refl

pub seen_page : (s : List ℕ) (p : ℕ) → (seg_view s).page p ≡ opened (view (page_of s p))
unfolding seg_view
seen_page s p = refl

module _ (s v : List ℕ) (h : SoundSegment s v) (o : Out) (x : AllExact s o.steps) (w : Read) (k : Stays (seg_view s) v w o) where
  pub after_seen : seg_view (carried o.steps s) ≡ settled o.steps (seg_view s)
  after_seen = carried_seen o.steps s x

  same_long : length (carried o.steps s) ≡ length s
  same_long = length_carried o.steps s

  pub page_count : length s / 16384 ≡ length (carried o.steps s) / 16384
  page_count = ap (λ (n : ℕ). n / 16384) (sym same_long)

  same_pages : (seg_view s).pages ≡ (seg_view (carried o.steps s)).pages
  same_pages = seen_pages s ∙ page_count ∙ sym (seen_pages (carried o.steps s))

  sounds_after : AllSound (settled o.steps (seg_view s))
  sounds_after p = settled_sound o.steps s (seg_view s) x p (sound_test ((seg_view s).page p) ((seen_sound s v h).sounds p))

  pub stays_right : SoundSegment (carried o.steps s) o.inv
  stays_right =
      record {
        whole = ap (λ (n : ℕ). eqb (n % 16384) 0 && leb (n / 16384) 32527) same_long ∙ h.whole;
        page = ap (λ (n : ℕ). eqb n 16384) k.long ∙ h.page;
        pages = λ p l.
            sound_closed (view (page_of (carried o.steps s) p))
            (ap sound (sym (seen_page (carried o.steps s) p) ∙ ap (λ (z : SegView). z.page p) after_seen) ∙ sounds_after p);
        pairs = pairs_paired (seg_view (carried o.steps s))
            (subst (λ (n : ℕ). Pairs n (tag_on (seg_view (carried o.steps s))) (bytes_on (seg_view (carried o.steps s)))) same_pages
            (subst (λ (z : SegView). Pairs (seg_view s).pages (tag_on z) (bytes_on z)) (sym after_seen) k.pairs));
        inventory =
            subst (λ (n : ℕ). Truth (classes (seg_view (carried o.steps s))) n o.inv) (seen_pages s ∙ page_count)
            (subst (λ (z : SegView). Truth (classes z) (seg_view s).pages o.inv) (sym after_seen) k.truth);
      }

-- a plan that stays, for every sound segment
abbrev pub Staying : (SegView → Out) → (SegView → Read) → List ℕ → Type 0
Staying plan w v = (s : List ℕ) → Seen (seg_view s) v → Stays (seg_view s) v (w (seg_view s)) (plan (seg_view s))

-- ---- the five writing calls

insert_keeps : (s v bs : List ℕ) → Seen (seg_view s) v → Stays (seg_view s) v (wrote bs) (insert_plan found_in (seg_view s) v bs)
insert_keeps s v bs e = insert_stays (seg_view s) v e bs

-- what the answer's id reads as, after a call that is carried out
abbrev pub row_of : Call → SegView → Read
row_of (insert bs) u = wrote bs
row_of (allocate n) u = wrote (zeros n)
row_of (write i bs) u = wrote bs
row_of (resize i n) u = wrote (fit n (old_bytes u i))
row_of (erase i) u = no_read 5

pub call_staying : (c : Call) (v : List ℕ) → Staying (plan_of c v) (row_of c) v
call_staying (insert bs) v z e = insert_keeps z v bs e
call_staying (allocate n) v z e =
    by_test (Stays (seg_view z) v (wrote (zeros n))) (ltb 16364 n) (refuse v 3) (insert_plan found_in (seg_view z) v _)
    (λ f. refusal (seg_view z) v e (wrote (zeros n)) 3 refl)
    (λ f. insert_keeps z v _ e)
call_staying (write i bs) v z e = store_stays (seg_view z) v e i _ _
call_staying (resize i n) v z e = store_stays (seg_view z) v e i _ _
call_staying (erase i) v z e = erase_stays (seg_view z) v e i

-- ---- scans

-- on a sound page no position is damaged
pub undamaged : (w : View) → Sound w → (k : ℕ) → damaged_at w k ≡ false
undamaged w t k =
    by_test (λ (b : Bool). b ≡ false) (eqb k 0) (not (sound w)) (not (count_fits w)) (λ e. ap not (sound_test w t))
    (λ e. ap not (le-leb w.slot_count 2046 t.few))
