-- What is done to the slots of a page, one after another.
use Prim.Native.Nat.{ℕ, ◌+◌, ◌-◌, ◌*◌, ◌^◌, ◌≤◌, ◌<◌}
use mathlib.Core.Path.{◌≡◌, refl, sym, ap, ◌∙◌}
use mathlib.Core.Bool.{Bool, true, false, cond, not}
use mathlib.Core.List.{List}
use native.Mathlib.Omega.{arith}
use native.Mathlib.Numerals.{add-one}
use native.Mathlib.Decide.{dec_lt}
use lib.ListN.{length, drop, get_or, set, replicate, length-set, length-replicate, get_or-replicate, get_or-eq_default}
use lib.Seq.{get_or-take, get_or-drop, get_or-set_same, get_or-set_other}
use borrow.Author.Count.{below_more}
use Rattle.store.specs.Numbers.{cut, be, all}
use Rattle.store.specs.Slots.{slot_of, is_record}
use Rattle.store.specs.Page.{view, sound}
use Rattle.store.specs.Segment.{page_of}
use Rattle.store.specs.Repair.{standing, keeps, deed, changes}
use Rattle.store.proofs.Laws.Cases.{by_test, never}
use Rattle.store.proofs.Laws.SoundPage.{and_in, all_at, past_free}
use Rattle.store.proofs.Laws.Segments.{length_page}
use Rattle.store.specs.declared.Deed.{Deed}
use Rattle.store.specs.declared.Deed.TheVariants.{Stays, RecordFreed}
use Rattle.store.specs.declared.Slot.{Slot}
use Rattle.store.specs.declared.Slot.TheVariants.{Ordinary, Free}
use Rattle.layout.proofs.Numbers.{num4}
use Rattle.layout.proofs.Codec.{counted_slot, of_ordinary, of_free}
use Rattle.page_repair.specs.Kept.{judged, CountedPage, Judged}
use Rattle.segment_judge.specs.Words.{UsedPageOn, UsedOn, Deeds}
use Rattle.segment_judge.proofs.HoldLaws.{sound_keeps}
use Rattle.segment_judge.proofs.DeedLaws.{deed_ordinary, deed_free}

-- ---- a page in use and its slots

pub slot_used : (s : List ℕ) (p n k : ℕ) → UsedPageOn s p n → k < n → UsedOn s p k
slot_used s p n k h l = record { within = h.within; counted = omega (arith, h.is); few = omega (arith, h.is, h.few) }

-- what is asked of the page
pub row_asks : (s : List ℕ) (p n : ℕ) (q : List ℕ) → q ≡ page_of s p → UsedPageOn s p n
    → CountedPage q (view q).slot_count × (n ≤ (view q).slot_count)
row_asks s p n q e h =
    let c : (view q).slot_count ≡ (view (page_of s p)).slot_count = ap (λ (r : List ℕ). (view r).slot_count) e in
    (record { counted = refl; few = omega (arith, h.is, h.few) }, omega (arith, h.is))

-- ---- a row of n: the first k are told, the others are what the page tells of their records, and those behind stay

pub record Half (s : List ℕ) (p n k : ℕ) (ds : List Deed) : Type 0 where
  pub long : length ds ≡ 2046
  pub done : (j : ℕ) → j < k → get_or ds j Stays ≡ deed (standing s) p j
  pub left : (j : ℕ) → k ≤ j → j < n → get_or ds j Stays ≡ judged (view (page_of s p)) j
  pub rest : (j : ℕ) → n ≤ j → get_or ds j Stays ≡ Stays

all_stay_at : (j : ℕ) → get_or (replicate 2046 Stays) j Stays ≡ Stays
all_stay_at j = go (dec_lt j 2046)
  where
    go : Dec (j < 2046) → get_or (replicate 2046 Stays) j Stays ≡ Stays
    go (yes l) = get_or-replicate 2046 j Stays Stays l
    go (no l) = get_or-eq_default (replicate 2046 Stays) Stays {n = j} (omega (arith, length-replicate {A = Deed} 2046 Stays))

module _ (s : List ℕ) (p n : ℕ) (h : UsedPageOn s p n) where
  pub half_none : (q : List ℕ) (ds : List Deed) → q ≡ page_of s p → Judged (view q) n (replicate 2046 Stays) ds → Half s p n 0 ds
  half_none q ds e w =
      record {
        long = w.long ∙ length-replicate {A = Deed} 2046 Stays;
        done = λ j l. absurd (omega arith);
        left = λ j a l. w.told j l ∙ ap (λ (r : List ℕ). judged (view r) j) e;
        rest = λ j l. w.rest j l ∙ all_stay_at j;
      }

  pub half_more : (k : ℕ) (ds : List Deed) (r : Deed) → Half s p n k ds → k < n → r ≡ deed (standing s) p k
      → Half s p n (k + 1) (set ds k r)
  half_more k ds r w l e =
      record {
        long = length-set ds k r ∙ w.long;
        done = below_more (λ j. get_or (set ds k r) j Stays ≡ deed (standing s) p j) k
            (λ j m. get_or-set_other ds k j r Stays (λ d. omega arith) ∙ w.done j m)
            (get_or-set_same ds k r Stays (omega (arith, w.long, h.few)) ∙ e);
        left = λ j m b. get_or-set_other ds k j r Stays (λ d. omega arith) ∙ w.left j (omega arith) b;
        rest = λ j m. get_or-set_other ds k j r Stays (λ d. omega arith) ∙ w.rest j m;
      }

  pub half_all : (ds : List Deed) → Half s p n n ds → Deeds (deed (standing s) p) ds
  half_all ds w = record { each = λ j. each j (dec_lt j n) }
    where
      each : (j : ℕ) → Dec (j < n) → get_or ds j Stays ≡ deed (standing s) p j
      each j (yes l) = w.done j l
      each j (no l) = w.rest j (omega arith) ∙ deed_free s p j (sym (past_free (page_of s p) j (omega (arith, h.is))))

-- ---- no slot changes

abbrev pub stay : List ℕ → ℕ → ℕ → Bool
stay s p j = not (changes (deed (standing s) p j))

module _ (s : List ℕ) (p k : ℕ) where
  pub stay_more : all k (stay s p) ≡ true → changes (deed (standing s) p k) ≡ false → all (k + 1) (stay s p) ≡ true
  stay_more h e = rw add-one (and_in (stay s p k) (all k (stay s p)) (ap not e) h)

  pub stay_fails : (n : ℕ) → k < n → changes (deed (standing s) p k) ≡ true → false ≡ all n (stay s p)
  stay_fails n l e = go (all n (stay s p)) refl
    where
      go : (b : Bool) → all n (stay s p) ≡ b → false ≡ b
      go true h = never (all_at n (stay s p) h k l) (ap not e)
      go false h = refl

-- on a sound page no record is freed for where it lies
pub sound_judged : (s : List ℕ) (p k : ℕ) → UsedOn s p k → sound (view (page_of s p)) ≡ true → judged (view (page_of s p)) k ≡ Stays
sound_judged s p k used ok =
    by_test (λ (d : Deed). d ≡ Stays) (is_record ((view (page_of s p)).at k)) (cond (keeps (view (page_of s p)) k) Stays RecordFreed) Stays
    (λ r. ap (λ (b : Bool). cond b Stays RecordFreed) (sound_keeps (page_of s p) k (length_page s p used.within) ok used.counted r)) (λ r. refl)

-- on a sound page an entry that begins below a redirect's stays
module _ (s : List ℕ) (p k : ℕ) (used : UsedOn s p k) (ok : sound (view (page_of s p)) ≡ true) (bytes : (i : ℕ) → get_or s i 0 < 256) where
  whole : length (page_of s p) ≡ 16384
  whole = length_page s p used.within

  byte : (i : ℕ) → i < 16384 → get_or (page_of s p) i 0 < 256
  byte i l = rw (get_or-take 16384 (drop (p * 16384) s) i 0 l, get_or-drop (p * 16384) s i 0) (bytes (p * 16384 + i))

  low_half : (at : ℕ) → at + 4 ≤ 16384 → be (cut (page_of s p) at 4) < 2 ^ 32
  low_half at l =
      omega (
        arith,
        num4 at (page_of s p) (omega (arith, whole)),
        byte at (omega arith),
        byte (at + 1) (omega arith),
        byte (at + 2) (omega arith),
        byte (at + 3) (omega arith),
      )

  pub low_stays : (o : ℕ) → o ≡ be (cut (page_of s p) (12 + 8 * k) 4) → o < 2 * 2 ^ 30 → changes (deed (standing s) p k) ≡ false
  low_stays o e h = go (dec_lt o (2 ^ 30))
    where
      l : ℕ
      l = be (cut (page_of s p) (12 + 8 * k + 4) 4)

      is : (x : Slot) → slot_of (o * 2 ^ 32 + l) ≡ x → x ≡ (view (page_of s p)).at k
      is x q = sym q ∙ counted_slot (page_of s p) k o l (omega (arith, whole, used.counted, used.few)) used.counted e refl

      small : l < 2 ^ 32
      small = low_half (12 + 8 * k + 4) (omega (arith, used.counted, used.few))

      go : Dec (o < 2 ^ 30) → changes (deed (standing s) p k) ≡ false
      go (yes x) = ap changes (sym (deed_ordinary s p k o l (is (Ordinary o l) (of_ordinary o l o small x refl))) ∙ sound_judged s p k used ok)
      go (no x) = ap changes (sym (deed_free s p k (is Free (of_free o l (o - 2 ^ 30) small (omega arith) (omega arith)))))
