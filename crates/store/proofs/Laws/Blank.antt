-- A segment of no page is sound with an inventory all zero; and pages of zeros have no record.
use Rattle.std.specs.Prelude.{ℕ, zero, suc, ◌+◌, ◌*◌, ◌/◌, ◌%◌, ◌≡◌, refl, length, drop, get_or, eqb}
use Rattle.std.proofs.Common.{sym, ap, ◌∙◌, arith, eq-eqb, le-ltb}
use mathlib.Core.List.{List, [], ◌∷◌, reverse, reverse_aux}
use Rattle.std.proofs.lemmas.List.{length-replicate}
use Rattle.store.specs.Numbers.{cut, zeros}
use Rattle.store.specs.Inventory.{nibble_at, nibble, half_of, entry_at}
use Rattle.store.specs.PageSteps.{initialised}
use Rattle.store.specs.Segment.{SegView, seg_view, page_of}
use Rattle.store.specs.Records.{pages_entries, entries}
use Rattle.store.specs.SoundSegment.{classes, SoundSegment}
use Rattle.store.proofs.Laws.Grown.{AllZero, zero_zeros, zero_take, zero_drop, zero_be, either, zero_page}
use Rattle.store.proofs.Laws.SoundSegment.{seen_page}

-- ---- an inventory of zeros

zero_reverse : (l r : List ℕ) → AllZero l → AllZero r → AllZero (reverse_aux l r)
zero_reverse [] r h g = g
zero_reverse (x ∷ l) r h g = zero_reverse l (x ∷ r) h.1 (h.0, g)

zero_get : (l : List ℕ) → AllZero l → (j : ℕ) → get_or l j 0 ≡ 0
zero_get [] h j = refl
zero_get (x ∷ l) h zero = h.0
zero_get (x ∷ l) h (suc j) = zero_get l h.1 j

pub nibble_zero : (k : ℕ) → nibble (zeros 16384) k ≡ 0
unfolding nibble_at
nibble_zero k = ap (λ (b : ℕ). half_of b ((k + 240) % 2)) (zero_get (zeros 16384) (zero_zeros 16384) ((k + 240) / 2)) ∙ either (eqb ((k + 240) % 2) 0)

pub entry_zero : (c : ℕ) → entry_at (zeros 16384) c ≡ 0
unfolding entry_at
entry_zero c =
    zero_be (reverse (cut (zeros 16384) (8 * c) 8))
    (zero_reverse (cut (zeros 16384) (8 * c) 8) []
    (zero_take 8 (drop (8 * c) (zeros 16384)) (zero_drop [] (zeros 16384) (zero_zeros 16384) (8 * c) (omega arith))) tt)

-- ---- a segment of no page

pub none_sound : SoundSegment [] (zeros 16384)
unfolding seg_view
none_sound =
    record {
      whole = refl;
      page = eq-eqb (length (zeros 16384)) 16384 (length-replicate {A = ℕ} 16384 0);
      pages = λ p l. absurd (omega arith);
      pairs = record { redirects = λ i t l e. absurd (omega arith); targets = λ t l e. absurd (omega arith) };
      inventory = record {
        nibbles = λ k l. nibble_zero k ∙ sym (no_class k);
        entries = λ c l. rw (entry_zero c) (record { within = omega arith; before = λ k m. absurd (omega arith); here = λ m. absurd (omega arith) });
      };
    }
  where
    no_class : (p : ℕ) → classes (seg_view []) p ≡ 0
    no_class p = rw (le-ltb p 0 (omega arith))

-- ---- pages of zeros

zeros_page : (n p : ℕ) → (seg_view (zeros n)).page p ≡ initialised
zeros_page n p =
    seen_page (zeros n) p
    ∙ zero_page (page_of (zeros n) p) (zero_take 16384 (drop (p * 16384) (zeros n)) (zero_drop [] (zeros n) (zero_zeros n) (p * 16384) (omega arith)))

no_entries : (u : SegView) → ((p : ℕ) → u.page p ≡ initialised) → (m p : ℕ) → pages_entries m u p ≡ []
no_entries u h zero p = refl
no_entries u h (suc m) p = rw (h p) (no_entries u h m (p + 1))

pub zeros_empty : (n : ℕ) → entries (seg_view (zeros n)) ≡ []
zeros_empty n = no_entries (seg_view (zeros n)) (zeros_page n) (seg_view (zeros n)).pages 0
