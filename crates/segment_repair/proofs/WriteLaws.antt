-- A page written: what the bytes become, and which entries are told.
use Prim.Native.Nat.{ℕ, zero, suc, ◌+◌, ◌*◌, ◌/◌, ◌%◌, ◌≤◌, ◌<◌}
use mathlib.Core.Path.{◌≡◌, refl, sym, ap, subst, ◌∙◌}
use mathlib.Core.Bool.{Bool, true, false, cond, not, not-not}
use mathlib.Core.List.{List, [], ◌∷◌, ◌++◌, append-nil}
use mathlib.Core.Logic.{⊎_elim}
use native.Mathlib.Omega.{arith}
use native.Mathlib.Nat.{zero-add}
use lib.ListN.{length, take, drop, length-append}
use Rattle.std.proofs.Common.{drop-drop}
use Rattle.store.specs.Numbers.{put, zeros, all}
use Rattle.store.specs.Page.{View, view, fresh, sound}
use Rattle.store.specs.Segment.{SegView, page_of}
use Rattle.store.specs.Repair.{
  standing,
  lost,
  deed,
  changes,
  slot_entries,
  same_head,
  mended_by,
  put_mended,
  page_bytes,
  page_entries,
  seg_bytes,
  seg_entries,
  Entry,
  entry,
  words,
}
use Rattle.store.specs.Laws.Lent.{Within}
use Rattle.store.proofs.Laws.Cases.{lt_or_le}
use Rattle.store.proofs.Laws.RepairMixed.{mixed_length, mixed_sound, mixed_next, told_next}
use Rattle.store.proofs.Laws.Numbers.{put_own, put_nil, put_parts}
use Rattle.store.proofs.Laws.Segments.{length_page}
use Rattle.store.proofs.Laws.Repair.{standing_page}
use Rattle.store.proofs.Laws.RepairBytes.{page_length}
use Rattle.store.proofs.Laws.RepairQuiet.{lost_bytes, lost_entries, fresh_bytes, fresh_entries, used_bytes, used_entries, quiet_page}
use Rattle.store.proofs.Laws.RepairQuiet.{quiet_written}
use Rattle.store.specs.declared.Deed.{Deed}
use Rattle.layout.specs.Run.{head_of}
use Rattle.page_repair.specs.Kept.{CountedPage}
use Rattle.page_repair.specs.Mended.{deeds_of, CodableBy}
use Rattle.segment_judge.specs.Words.{Known, UsedPageOn, Deeds}
use Rattle.segment_repair.specs.Words.{Written}
use Rattle.segment_repair.proofs.CountLaws.{deeds_are, codable_deeds}
use Rattle.segment_repair.proofs.TellLaws.{put_more}

-- page p of s as the code lends it to be written: the segment is split in front of it, and it is the first page of the rest
pub record Lends (s : List ℕ) (p : ℕ) (front rest page : List ℕ) : Type 0 where
  pub before : front ≡ take (p * 16384) s
  pub behind : rest ≡ drop (p * 16384) s
  pub first : page ≡ take 16384 rest

pub lent_is : {s : List ℕ} {p : ℕ} {front rest page : List ℕ} → Lends s p front rest page → page ≡ page_of s p
lent_is l = l.first ∙ ap (take 16384) l.behind

module _ (s : List ℕ) (p : ℕ) (fits : Within s p) where
  -- another page in its place
  lent_back : {front rest page : List ℕ} → Lends s p front rest page → (out : List ℕ) → out ≡ page_bytes (standing s) p (page_of s p)
      → front ++ (out ++ drop 16384 rest) ≡ put s (p * 16384) (page_bytes (standing s) p (page_of s p))
  lent_back l out e =
      let n : length out ≡ 16384 = ap length e ∙ page_length (standing s) p (page_of s p) ∙ length_page s p fits in
      rw (l.before, l.behind, drop-drop) (sym (put_parts s (p * 16384) out (omega (arith, n)) ∙ rw n)) ∙ ap (put s (p * 16384)) e

  -- ---- a page that is lost

  zero_head : head_of 0 0 0 0 ≡ zeros 12
  unfolding head_of
  zero_head = refl

  pub written_lost : lost (view (page_of s p)) ≡ true → {front rest page : List ℕ} → Lends s p front rest page → (l l' out : List ℕ) (at : ℕ)
      → out ≡ put page 0 (head_of 0 0 0 0) → l' ≡ put l (3 * at) (words (entry p 65535 5 ∷ []))
      → Written s (front ++ (out ++ drop 16384 rest)) l l' p at (at + 1)
  written_lost h lends l l' out at e f =
      let g : lost ((standing s).page p) ≡ true = ap lost (standing_page s p) ∙ h in
      let es = lost_entries (standing s) p g in
      record {
        seg = lent_back lends out (e ∙ ap (λ (q : List ℕ). put q 0 (head_of 0 0 0 0)) (lent_is lends) ∙ ap (put (page_of s p) 0) zero_head
            ∙ sym (lost_bytes (standing s) p g (page_of s p)));
        list = f ∙ ap (λ (x : List Entry). put l (3 * at) (words x)) (sym es);
        told = ap (λ (x : List Entry). at + length x) (sym es);
      }

  -- and there is room for its entry
  pub room_lost : lost (view (page_of s p)) ≡ true → (at m : ℕ) → 3 * (at + length (page_entries (standing s) p)) ≤ m → 3 * at + 3 ≤ m
  room_lost h at m r = omega (arith, ap length (lost_entries (standing s) p (ap lost (standing_page s p) ∙ h)))

  -- ---- a page that is fresh

  pub written_fresh : fresh (view (page_of s p)) ≡ true → (l : List ℕ) (at : ℕ) → Written s s l l p at at
  written_fresh h l at =
      let g : fresh ((standing s).page p) ≡ true = ap fresh (standing_page s p) ∙ h in
      let es = fresh_entries (standing s) p g in
      record {
        seg = sym (ap (put s (p * 16384)) (fresh_bytes (standing s) p g (page_of s p)) ∙ put_own s (p * 16384) 16384 fits);
        list = sym (ap (λ (x : List Entry). put l (3 * at) (words x)) es ∙ put_nil l (3 * at));
        told = omega (arith, ap length es);
      }

  -- ---- a page in use that is sound, and of which no slot changes

  pub written_quiet : (n : ℕ) → UsedPageOn s p n → sound (view (page_of s p)) ≡ true → all n (λ k. not (changes (deed (standing s) p k))) ≡ true
      → (l : List ℕ) (at : ℕ) → Written s s l l p at at
  unfolding standing
  written_quiet n h e q l at =
      let some : 0 < (view (page_of s p)).slot_count = omega (arith, h.is, h.some) in
      let none = subst (λ (k : ℕ). all k (λ j. not (changes (deed (standing s) p j))) ≡ true) h.is q in
      let es = (quiet_page s p fits e some none).0 in
      record {
        seg = sym (ap (put s (p * 16384)) (quiet_written s p fits e some none (page_of s p)) ∙ put_own s (p * 16384) 16384 fits);
        list = sym (ap (λ (x : List Entry). put l (3 * at) (words x)) es ∙ put_nil l (3 * at));
        told = omega (arith, ap length es);
      }

-- ---- a page in use

abbrev pub head_same : (ℕ → Deed) → View → Bool
head_same d v = same_head v (mended_by d v)

module _ (s : List ℕ) (p n : ℕ) (h : UsedPageOn s p n) (ds : List Deed) (js : Deeds (deed (standing s) p) ds) where
  same_deeds : deeds_of ds ≡ deed (standing s) p
  same_deeds = deeds_are (deed (standing s) p) ds js

  count_is : n ≡ ((standing s).page p).slot_count
  count_is = h.is ∙ ap (λ (v : View). v.slot_count) (sym (standing_page s p))

  entries_are : page_entries (standing s) p ≡ slot_entries (deeds_of ds) p n ++ cond (head_same (deeds_of ds) (view (page_of s p))) [] (entry p 65535 4 ∷ [])
  entries_are =
      rw (same_deeds, count_is, ← standing_page s p) (used_entries (standing s) p (omega (arith, count_is, h.some)) (omega (arith, count_is, h.few)))

  pub room_slots : (at m : ℕ) → 3 * (at + length (page_entries (standing s) p)) ≤ m → 3 * (at + length (slot_entries (deeds_of ds) p n)) ≤ m
  room_slots at m r = omega (arith, simp length-append at (ap length entries_are))

  -- q is the page as it is lent
  module _ {q : List ℕ} (e : q ≡ page_of s p) where
    pub lent_asks : CountedPage q n × CodableBy (deeds_of ds) (view q)
    lent_asks = (record { counted = h.is ∙ ap (λ (x : List ℕ). (view x).slot_count) (sym e); few = h.few }, codable_deeds h js e)

    -- whether its header is written
    pub head_told : {r : Bool} → r ≡ not (head_same (deeds_of ds) (view q)) → not r ≡ head_same (deeds_of ds) (view (page_of s p))
    head_told f = ap not f ∙ not-not (head_same (deeds_of ds) (view q)) ∙ ap (λ (x : List ℕ). head_same (deeds_of ds) (view x)) e

  module _ {front rest page : List ℕ} (lends : Lends s p front rest page) where
    written_seg : (out : List ℕ) → out ≡ put_mended (deeds_of ds) (view page) page
        → front ++ (out ++ drop 16384 rest) ≡ put s (p * 16384) (page_bytes (standing s) p (page_of s p))
    written_seg out e =
        lent_back s p h.within lends out
        (e ∙ rw (lent_is lends, same_deeds, ← standing_page s p)
        (sym (used_bytes (standing s) p (omega (arith, count_is, h.some)) (omega (arith, count_is, h.few)) (page_of s p))))

    -- the header stays
    pub written_slots : true ≡ head_same (deeds_of ds) (view (page_of s p)) → (l l' out : List ℕ) (at next : ℕ)
        → out ≡ put_mended (deeds_of ds) (view page) page
        → next ≡ at + length (slot_entries (deeds_of ds) p n)
        → l' ≡ put l (3 * at) (words (slot_entries (deeds_of ds) p n))
        → Written s (front ++ (out ++ drop 16384 rest)) l l' p at next
    written_slots b l l' out at next e f g =
        let es : page_entries (standing s) p ≡ slot_entries (deeds_of ds) p n =
        entries_are ∙ rw (← b) (append-nil (slot_entries (deeds_of ds) p n)) in
        record {
          seg = written_seg out e;
          list = g ∙ ap (λ (x : List Entry). put l (3 * at) (words x)) (sym es);
          told = f ∙ ap (λ (x : List Entry). at + length x) (sym es);
        }

  -- the header is written
  module _ (b : false ≡ head_same (deeds_of ds) (view (page_of s p))) where
    all_told : page_entries (standing s) p ≡ slot_entries (deeds_of ds) p n ++ (entry p 65535 4 ∷ [])
    all_told = entries_are ∙ rw (← b) refl

    pub room_head : (at next m : ℕ) → next ≡ at + length (slot_entries (deeds_of ds) p n) → 3 * (at + length (page_entries (standing s) p)) ≤ m
        → 3 * next + 3 ≤ m
    room_head at next m e r = omega (arith, simp length-append at (ap length all_told))

    pub written_head : {front rest page : List ℕ} → Lends s p front rest page → (l l' l'' out : List ℕ) (at next : ℕ)
        → out ≡ put_mended (deeds_of ds) (view page) page
        → next ≡ at + length (slot_entries (deeds_of ds) p n)
        → l' ≡ put l (3 * at) (words (slot_entries (deeds_of ds) p n))
        → l'' ≡ put l' (3 * next) (words (entry p 65535 4 ∷ []))
        → Written s (front ++ (out ++ drop 16384 rest)) l l'' p at (next + 1)
    written_head lends l l' l'' out at next e f g k =
        record {
          seg = written_seg lends out e;
          list = k ∙ rw (g, f, all_told) (put_more l at (slot_entries (deeds_of ds) p n) (entry p 65535 4 ∷ []));
          told = rw (all_told, length-append) (omega arith);
        }

-- ---- page by page: those below p are written, the others are as before

segs_more : (u : SegView) (k n : ℕ) → k ≤ n → length (seg_entries u k) ≤ length (seg_entries u n)
unfolding seg_entries
segs_more u k zero h = let e : k ≡ 0 = omega arith in rw e (omega arith)
segs_more u k (suc n) h = ⊎_elim
    (λ l. let e : k ≡ suc n = omega arith in rw e (omega arith))
    (λ l. rw length-append (omega (arith, segs_more u k n l)))
    (lt_or_le n k)

pub none_told : (u : SegView) → seg_entries u 0 ≡ []
unfolding seg_entries
none_told u = refl

pub none_written : (u : SegView) (s : List ℕ) → seg_bytes u 0 s ≡ s
unfolding seg_bytes
none_written u s = refl

module _ (s : List ℕ) (whole : length s % 16384 ≡ 0) (p : ℕ) (l : p < length s / 16384) where
  pub mixed_known : (bits : List ℕ) → Known s bits → Known (seg_bytes (standing s) p s) bits
  mixed_known bits k =
      let e = mixed_length s whole p l in
      record {
        few = rw e k.few;
        told = λ q h m. let j : q < length s / 16384 = rw e at h in mixed_sound s whole p l q j (k.told q j m);
      }

  pub mixed_within : Within (seg_bytes (standing s) p s) p
  mixed_within = omega (arith, mixed_length s whole p l)

  pub mixed_room : (at m : ℕ) → at ≡ length (seg_entries (standing s) p) → 3 * length (seg_entries (standing s) (length s / 16384)) ≤ m
      → 3 * (at + length (page_entries (standing (seg_bytes (standing s) p s)) p)) ≤ m
  mixed_room at m e r =
      omega (arith, simp length-append at (ap length (told_next s whole p l)), segs_more (standing s) (p + 1) (length s / 16384) (omega arith))

  pub mixed_turn : (l₀ l₁ l₂ s' : List ℕ) (at next : ℕ) → Written (seg_bytes (standing s) p s) s' l₁ l₂ p at next → at ≡ length (seg_entries (standing s) p)
      → l₁ ≡ put l₀ 0 (words (seg_entries (standing s) p))
      → (s' ≡ seg_bytes (standing s) (p + 1) s) × (l₂ ≡ put l₀ 0 (words (seg_entries (standing s) (p + 1))))
      × (next ≡ length (seg_entries (standing s) (p + 1)))
  mixed_turn l₀ l₁ l₂ s' at next w e f = (
    w.seg ∙ mixed_next s whole p l,
    w.list ∙ rw (f, e, ← zero-add (length (seg_entries (standing s) p)))
        (put_more l₀ 0 (seg_entries (standing s) p) (page_entries (standing (seg_bytes (standing s) p s)) p))
        ∙ ap (λ (x : List Entry). put l₀ 0 (words x)) (told_next s whole p l),
    w.told ∙ omega (arith, simp length-append at (ap length (told_next s whole p l))),
  )
