-- Demand 3: when two segments are alike, and when the same calls have left them so.
use Rattle.std.specs.Prelude.{ℕ, ◌+◌, ◌*◌, ◌/◌, ◌<◌, ◌≡◌, true, false, List, [], ◌∷◌, length}
use Rattle.store.specs.Numbers.{cut}
use Rattle.store.specs.Page.{view, fresh, count, bytes_at}
use Rattle.store.specs.Segment.{seg_view, page_of, Result, read_step, locate_step}
use Rattle.store.specs.Scan.{scan_step}

-- "equal slot entries and equal record bytes, with equal headers on pages in use": headers by their 12 bytes, entries below the count by
-- their 8; fresh in both, with either header, or in neither
pub data AlikePage (p q : List ℕ) : Type 0 where
  both_fresh : fresh (view p) ≡ true → fresh (view q) ≡ true → AlikePage p q
  both_used : fresh (view p) ≡ false → fresh (view q) ≡ false → cut p 0 12 ≡ cut q 0 12
      → ((k : ℕ) → k < count p → cut p (12 + 8 * k) 8 ≡ cut q (12 + 8 * k) 8) → ((k : ℕ) → k < count p → bytes_at p k ≡ bytes_at q k)
      → AlikePage p q

-- "two .. segments of equally many pages .. differing in any other bytes"
pub record Alike (s t : List ℕ) : Type 0 where
  pub long : length s ≡ length t
  pub pages : (p : ℕ) → p < length s / 16384 → AlikePage (page_of s p) (page_of t p)

-- the companion: entries by kind and values, so that free slots may differ in the bits that are ignored on reading
pub record AlikeByKind (s t : List ℕ) : Type 0 where
  pub long : length s ≡ length t
  pub seen : seg_view s ≡ seg_view t

-- alike, with equal "record bytes and scans": by any id, and from any place; and each record lies at the same place
pub record AlikeToRead (s t : List ℕ) : Type 0 where
  pub alike : Alike s t
  pub reads : (i : ℕ) → read_step s i ≡ read_step t i
  pub places : (i : ℕ) → locate_step s i ≡ locate_step t i
  pub scans : (p k : ℕ) → scan_step s p k ≡ scan_step t p k

-- "equal answers, ids, refusals .. and leave the two alike in the same sense"; with equal inventories
pub record Same (like : List ℕ → List ℕ → Type 0) (a b : Result) : Type 0 where
  pub answer : a.answer ≡ b.answer
  pub id : a.id ≡ b.id
  pub inv : a.inv ≡ b.inv
  pub seg : like a.seg b.seg

abbrev pub AllSame : (List ℕ → List ℕ → Type 0) → List Result → List Result → Type 0
AllSame like [] [] = Unit {0}
AllSame like [] (b ∷ bs) = ⊥
AllSame like (a ∷ xs) [] = ⊥
AllSame like (a ∷ xs) (b ∷ bs) = Same like a b × AllSame like xs bs
