-- A sound segment with zero pages behind it: the same is seen of each page, and there are more of them.
use Rattle.std.specs.Prelude.{ℕ, zero, suc, ◌+◌, ◌*◌, ◌/◌, ◌%◌, ◌≤◌, ◌<◌, refl, Bool, true, false, cond, take, drop, ltb}
use Rattle.std.proofs.Math.Path.{◌≡◌, sym, ap}
use Rattle.std.proofs.Common.{◌∙◌, subst, arith, length-append, lt-ltb, le-ltb}
use mathlib.Core.List.{List, [], ◌∷◌, ◌++◌}
use Rattle.std.proofs.Math.Decide.{dec_lt}
use Rattle.std.proofs.Math.ListN.{length}
use Rattle.std.proofs.lemmas.List.{length-replicate}
use Rattle.store.specs.Numbers.{cut, be, zeros, page_no, slot_no}
use Rattle.store.specs.Slots.{is_free}
use Rattle.store.specs.Page.{View, view}
use Rattle.store.specs.PageSteps.{initialised, opened}
use Rattle.store.specs.Inventory.{Lowest}
use Rattle.store.specs.Segment.{SegView, seg_view, page_of}
use Rattle.store.specs.SoundSegment.{slot_on, Paired, nibble_of, classes, SoundSegment}
use Rattle.store.proofs.Laws.SoundPage.{header_is_lem}
use Rattle.store.proofs.Laws.Segments.{page_first}
use Rattle.store.proofs.Laws.Calls.{target_taken}
use Rattle.store.proofs.Laws.SoundSegment.{page_past, sized, seen_page, seen_pages}
use Rattle.store.specs.declared.Slot.TheVariants.{Free}

-- ---- zeros

abbrev pub AllZero : List ℕ → Type 0
AllZero [] = Unit {0}
AllZero (x ∷ l) = (x ≡ 0) × AllZero l

pub zero_zeros : (n : ℕ) → AllZero (zeros n)
zero_zeros zero = tt
zero_zeros (suc n) = (refl, zero_zeros n)

pub zero_take : (n : ℕ) (l : List ℕ) → AllZero l → AllZero (take n l)
zero_take zero l h = tt
zero_take (suc n) [] h = tt
zero_take (suc n) (x ∷ l) h = (h.0, zero_take n l h.1)

-- past s
pub zero_drop : (s l : List ℕ) → AllZero l → (m : ℕ) → length s ≤ m → AllZero (drop m (s ++ l))
zero_drop [] l h zero e = h
zero_drop [] [] h (suc m) e = tt
zero_drop [] (x ∷ l) h (suc m) e = zero_drop [] l h.1 m (omega arith)
zero_drop (x ∷ s) l h zero e = absurd (omega arith)
zero_drop (x ∷ s) l h (suc m) e = zero_drop s l h m (omega arith)

pub zero_be : (l : List ℕ) → AllZero l → be l ≡ 0
zero_be [] h = refl
zero_be (x ∷ l) h = rw (h.0, zero_be l h.1) (omega arith)

pub either : (b : Bool) → ◌≡◌ {A = ℕ} (cond b 0 0) 0
either true = refl
either false = refl

-- a page of zeros is seen as one just initialised, and so is one that is not there
pub zero_page : (q : List ℕ) → AllZero q → opened (view q) ≡ initialised
unfolding view
zero_page q z = rw (header_is_lem (view q) 0 0 0 0 (part 0 2) (part 2 2) (part 4 4) (part 8 4))
  where
    part : (i n : ℕ) → be (cut q i n) ≡ 0
    part i n = zero_be (cut q i n) (zero_take n (drop i q) (zero_drop [] q z i (omega arith)))

-- ---- k more pages

abbrev pub grown : List ℕ → ℕ → List ℕ
grown s k = s ++ zeros (k * 16384)

pub long : (s : List ℕ) (k : ℕ) → length (grown s k) ≡ length s + k * 16384
long s k = length-append s (zeros (k * 16384)) ∙ ap (λ (n : ℕ). length s + n) (length-replicate (k * 16384) 0)

module _ (s v : List ℕ) (h : SoundSegment s v) where
  pub whole : length s % 16384 ≡ 0
  whole = (sized s h.whole).whole

  pub fresh_past : (p : ℕ) → length s / 16384 ≤ p → (seg_view s).page p ≡ initialised
  fresh_past p l = seen_page s p ∙ zero_page (page_of s p) (subst AllZero (sym (page_past s p l whole)) tt)

  pub free_past : (i : ℕ) → length s / 16384 ≤ page_no i → slot_on (seg_view s) i ≡ Free
  free_past i l = ap (λ (w : View). w.at (slot_no i)) (fresh_past (page_no i) l)

  module _ (k : ℕ) where
    pub page_count : length (grown s k) / 16384 ≡ length s / 16384 + k
    page_count = omega (arith, long s k, whole)

    -- the same is seen of each page; there are more of them
    abbrev pub more : SegView
    more = record { pages = length s / 16384 + k; page = (seg_view s).page }

    pub grown_seen : seg_view (grown s k) ≡ more
    unfolding seg_view
    grown_seen = λ i. record { pages = page_count i; page = λ p. each p (dec_lt p (length s / 16384)) i }
      where
        each : (p : ℕ) → Dec (p < length s / 16384) → opened (view (page_of (grown s k) p)) ≡ (seg_view s).page p
        each p (yes l) = ap (λ (q : List ℕ). opened (view q)) (page_first s (zeros (k * 16384)) p (omega arith))
        each p (no l) =
            zero_page (page_of (grown s k) p) (zero_take 16384 (drop (p * 16384) (grown s k))
            (zero_drop s (zeros (k * 16384)) (zero_zeros (k * 16384)) (p * 16384) (omega (arith, whole))))
            ∙ sym (fresh_past p (omega arith))

    -- a slot in use is on one of the old pages
    inside : (i : ℕ) → is_free (slot_on more i) ≡ false → page_no i < (seg_view s).pages
    unfolding seg_view
    inside i e = go (dec_lt (page_no i) (length s / 16384))
      where
        go : Dec (page_no i < length s / 16384) → page_no i < length s / 16384
        go (yes l) = l
        go (no l) = let f = ap is_free (free_past i (omega arith)) in let z : ◌≡◌ {A = ℕ} 0 1 = cc in absurd (omega arith)

    pub more_paired : Paired more
    more_paired =
        record {
          redirects = λ i t l e. let r = h.pairs.redirects i t (inside i (ap is_free e)) e in
              record { below = omega (arith, r.below, seen_pages s); other = r.other; target = r.target; back = r.back };
          targets = λ t l e. let r = h.pairs.targets t (inside t (target_taken (slot_on more t) e)) e in
              record { by = r.by; below = omega (arith, r.below, seen_pages s); names = r.names };
        }

    class_past : (p : ℕ) → length s / 16384 ≤ p → classes (seg_view s) p ≡ 0
    class_past p l = rw (le-ltb p (seg_view s).pages (omega (arith, seen_pages s)))

    pub more_classes : (p : ℕ) → classes more p ≡ classes (seg_view s) p
    more_classes p = go (dec_lt p (length s / 16384))
      where
        go : Dec (p < length s / 16384) → classes more p ≡ classes (seg_view s) p
        go (yes l) = rw (lt-ltb p (length s / 16384 + k) (omega arith), lt-ltb p (seg_view s).pages (omega (arith, seen_pages s)))
        go (no l) =
            ap (λ (w : View). cond (ltb p (length s / 16384 + k)) (nibble_of w) 0) (fresh_past p (omega arith)) ∙ either (ltb p (length s / 16384 + k))
            ∙ sym (class_past p (omega arith))

    pub more_lowest : (c e : ℕ) → Lowest (classes (seg_view s)) (length s / 16384) c e → Lowest (classes more) (length s / 16384 + k) c e
    more_lowest c e w = record {
      within = omega (arith, w.within);
      before = λ j m. rw (more_classes j) (w.before j m);
      here = λ m. rw (more_classes e) (go (dec_lt e (length s / 16384)));
    }
      where
        go : Dec (e < length s / 16384) → classes (seg_view s) e ≤ c
        go (yes l) = w.here l
        go (no l) = omega (arith, class_past e (omega arith))
