-- All slots: one more slot, and the whole page.
use Prim.Native.Nat.{ℕ, ◌+◌, ◌*◌, ◌≤◌, ◌<◌}
use mathlib.Core.Path.{◌≡◌, refl, sym, ap, ◌∙◌}
use mathlib.Core.Bool.{Bool, true, false}
use mathlib.Core.List.{List}
use mathlib.Core.Logic.{inl, inr, ◌≢◌}
use native.Mathlib.Omega.{arith}
use native.Mathlib.Numerals.{add-one}
use native.Mathlib.Decide.{dec_lt, ℕ_discrete}
use lib.ListN.{length, drop, length-take, length-drop}
use lib.Dec.{eqb}
use borrow.Author.Count.{below_more}
use borrow.Author.Tests.{eq-eqb, ne_eqb}
use Rattle.store.specs.Numbers.{sum}
use Rattle.store.specs.Slots.{off, len, is_target}
use Rattle.store.specs.Page.{View, view, slot_at, sound}
use Rattle.store.specs.Laws.Edits.{Apart}
use Rattle.store.specs.Laws.Views.{Sound}
use Rattle.store.proofs.Laws.Views.{apart_flip}
use Rattle.store.proofs.Laws.SoundPage.{used_not_fresh, sound_page, sound_test, past_free, page_codable}
use Rattle.page_check.specs.Fit.{Allowed, Runs, RecordsFit, Total, HeaderFits}
use Rattle.layout.specs.Head.{Heads}
use Rattle.layout.specs.declared.header.Header.{Header}
use Rattle.page_check.proofs.SlotLaws.{refuted}

-- ---- one more slot

pub records_lower : (v : View) (n f d e : ℕ) → RecordsFit v n f d → e ≤ d → RecordsFit v n f e
records_lower v n f d e r h = record { allowed = r.allowed; above = λ j g p. omega (arith, r.above j g p); apart = r.apart }

pub records_more : (v : View) (k f d : ℕ) → RecordsFit v k f d → Allowed (v.at k) k f 16384 → (0 < len (v.at k) → d ≤ off (v.at k))
    → ((i : ℕ) → i < k → Apart (v.at i) (v.at k)) → RecordsFit v (k + 1) f d
records_more v k f d r a o s = record {
  allowed = below_more (λ j. Allowed (v.at j) j f 16384) k r.allowed a;
  above = below_more (λ j. 0 < len (v.at j) → d ≤ off (v.at j)) k r.above o;
  apart = λ i j g h. below_more (λ j. (i : ℕ) → i < j → Apart (v.at i) (v.at j)) k (λ j h i g. r.apart i j g h) s j h i g;
}

pub total_more : (v : View) (k t l : ℕ) → Total v k t → l ≡ len (v.at k) → l ≤ 16384 → Total v (k + 1) (t + l)
total_more v k t l s e h = record {
  is = let g : sum (k + 1) (λ j. len (v.at j)) ≡ len (v.at k) + sum k (λ j. len (v.at j)) =
      ap (λ (m : ℕ). sum m (λ j. len (v.at j))) (add-one k) in omega (arith, s.is, g);
  small = omega (arith, s.small);
}

-- the record of slot k lies below all before
pub records_under : (v : View) (k f low o l : ℕ) → low ≤ 16384 → RecordsFit v k f low → Allowed (v.at k) k f low → Runs (v.at k) low o l
    → RecordsFit v (k + 1) f o
records_under v k f low o l h r a s =
    records_more v k f o (records_lower v k f low o r (omega (arith, s.down)))
    (record { under = omega (arith, a.under); long = a.long; used = a.used })
    (λ p. omega (arith, s.start (omega (arith, s.size))))
    (λ i g p q. inr (omega (arith, r.above i g p, a.under)))

-- ---- the page

-- what is read of the header
pub record Read (p : List ℕ) (n f d : ℕ) : Type 0 where
  pub whole : length p ≡ 16384
  pub slots : n ≡ (view p).slot_count
  pub first : f ≡ (view p).first_free
  pub start : d ≡ (view p).data_start

pub read_of : {p : List ℕ} {h : Header} → length p ≡ 16384 → Heads h (view p) → Read p h.count h.first h.start
read_of w e = record { whole = w; slots = e.count; first = e.first; start = e.start }

module _ {p : List ℕ} {n f d : ℕ} (a : Read p n f d) where
  pub sound_header : Sound (view p) → HeaderFits (view p) n f d
  sound_header s = rw (a.slots, a.first, a.start) (record { few = s.few; first = s.first≤; free = s.first_is_free; dir = s.dir; start = s.start≤ })

  pub sound_records : Sound (view p) → RecordsFit (view p) n f d
  sound_records s =
      rw (a.slots, a.first, a.start)
      (record {
        allowed = λ j h. record { under = s.high j; long = s.targets j; used = s.lower j };
        above = λ j h. s.low j;
        apart = λ i j g h. s.apart i j (λ e. omega arith);
      })

  -- a page in use that is not sound
  pub unsound : n ≢ 0 → (Sound (view p) → ⊥) → false ≡ sound (view p)
  unsound used h = go (sound (view p)) refl
    where
      go : (b : Bool) → sound (view p) ≡ b → false ≡ sound (view p)
      go true e = absurd (h (sound_page p a.whole (used_not_fresh (view p) (λ z. used (a.slots ∙ z))) e))
      go false e = sym e

  -- a slot past the last is free, and what is asked of one that is counted holds of it
  module _ (h : HeaderFits (view p) n f d) (r : RecordsFit (view p) n f d) where
    high : (j : ℕ) → Dec (j < n) → off ((view p).at j) + len ((view p).at j) ≤ 16384
    high j (yes g) = (r.allowed j g).under
    high j (no g) = rw (past_free p j (omega arith)) (omega arith)

    low : (j : ℕ) → Dec (j < n) → 0 < len ((view p).at j) → d ≤ off ((view p).at j)
    low j (yes g) = r.above j g
    low j (no g) = rw (past_free p j (omega arith)) (λ x. absurd (omega arith))

    long : (j : ℕ) → Dec (j < n) → is_target ((view p).at j) ≡ true → 8 ≤ len ((view p).at j)
    long j (yes g) = (r.allowed j g).long
    long j (no g) = rw (past_free p j (omega arith)) refuted

    ordered : (i j : ℕ) → i < j → Dec (j < n) → Apart ((view p).at i) ((view p).at j)
    ordered i j g (yes m) = r.apart i j g m
    ordered i j g (no m) = rw (past_free p j (omega arith)) (λ x y. absurd (omega arith))

    apart : (i j : ℕ) → i ≢ j → Dec (i < j) → Apart ((view p).at i) ((view p).at j)
    apart i j e (yes g) = ordered i j g (dec_lt j n)
    apart i j e (no g) = apart_flip ((view p).at j) ((view p).at i) (ordered j i (omega arith) (dec_lt i n))

    lens : (j : ℕ) → length ((view p).bytes j) ≡ len ((view p).at j)
    unfolding view
    lens j = length-take (len (slot_at p j)) (drop (off (slot_at p j)) p) ∙ omega (arith, length-drop (off (slot_at p j)) p, high j (dec_lt j n))

    all_sound_lem : n ≢ 0 → (view p).free_space + 8 * (view p).slot_count + sum (view p).slot_count (λ j. len ((view p).at j)) ≡ 16372 → Sound (view p)
    all_sound_lem used e = record {
      few = omega (arith, h.few);
      first≤ = omega (arith, h.first);
      first_is_free = rw (← a.first) h.free;
      lower = λ j g. (r.allowed j (omega (arith, h.first))).used (omega arith);
      dir = omega (arith, h.dir);
      start≤ = omega (arith, h.start);
      low = λ j. rw (← a.start) (low j (dec_lt j n));
      high = λ j. high j (dec_lt j n);
      apart = λ i j g. apart i j g (dec_lt i j);
      targets = λ j. long j (dec_lt j n);
      sums = e;
      codable = page_codable p;
      past = past_free p;
      lens = lens;
      in_use = inl (omega arith);
    }

    -- all that is left is the free space
    pub sound_space : n ≢ 0 → (s t : ℕ) → s ≡ (view p).free_space → Total (view p) n t → eqb (s + 8 * n + t) 16372 ≡ sound (view p)
    sound_space used s t es w = go (ℕ_discrete (s + 8 * n + t) 16372)
      where
        sums : s + 8 * n + t ≡ (view p).free_space + 8 * (view p).slot_count + sum (view p).slot_count (λ j. len ((view p).at j))
        sums = rw (es, w.is, a.slots)

        go : Dec (s + 8 * n + t ≡ 16372) → eqb (s + 8 * n + t) 16372 ≡ sound (view p)
        go (yes e) = eq-eqb (s + 8 * n + t) 16372 e ∙ sym (sound_test (view p) (all_sound_lem used (sym sums ∙ e)))
        go (no e) = ne_eqb (s + 8 * n + t) 16372 e ∙ unsound used (λ q. e (sums ∙ q.sums))
