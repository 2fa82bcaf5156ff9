-- Which id a call answers, and which ids are in use. An id is in use (`Rooted`) if its slot is ordinary or a redirect: a target's own id comes
-- and goes with its target, and stands for nothing.
use Rattle.std.specs.Prelude.{ℕ, ◌/◌, ◌<◌, ◌≡◌, refl, List, [], ◌∷◌, true, ◌⊎◌, ◌≢◌, length}
use Rattle.std.proofs.Common.{sym, ap, ◌∙◌, inl, inr, arith}
use Rattle.std.proofs.Math.Path.{subst}
use Rattle.store.specs.Numbers.{page_no}
use Rattle.store.specs.Slots.{is_target}
use Rattle.store.specs.Refusals.{NONE}
use Rattle.store.specs.Segment.{seg_view, Result, result, Read, no_read, read_step}
use Rattle.store.specs.Calls.{Call, insert, allocate, write, resize, erase, called, results, Each, Makes, OfId}
use Rattle.store.specs.SoundSegment.{slot_on, bytes_on, Root, Rooted, SoundSegment}
use Rattle.store.proofs.Laws.Cases.{never}
use Rattle.store.proofs.Laws.Slots.{tag}
use Rattle.store.proofs.Laws.Pairs.{tag_on, look, tag_root, root_looks}
use Rattle.store.proofs.Laws.Plans.{called_plan}
use Rattle.store.proofs.Laws.Refused.{OwnRoot, AnswersId, tested}
use Rattle.store.proofs.Laws.SoundSegment.{seen_sound, seen_pages}
use Rattle.store.proofs.Laws.Unused.{plan_unused}
use Rattle.store.proofs.Laws.Rows.{read_look, call_rows}
use Rattle.store.proofs.Promises.Refused.{length_kept}
use Rattle.store.proofs.Promises.Sound.{call_right}
use Rattle.store.specs.declared.Slot.{Slot}
use Rattle.store.specs.declared.Slot.TheVariants.{Ordinary, Free, Redirect, Target}

-- a call makes a record, or is of an id
which : (c : Call) → Makes c ⊎ ((i : ℕ) × OfId i c)
which (insert bs) = inl tt
which (allocate n) = inl tt
which (write i bs) = inr (i, refl)
which (resize i n) = inr (i, refl)
which (erase i) = inr (i, refl)

module _ (c : Call) (s v : List ℕ) where
  -- a write, resize or erase that is carried out answers the id that it was called with, and that was in use: for all bytes, damaged ones too
  pub id_own : (i : ℕ) → OfId i c → (called c s v).answer ≡ 0 → ((called c s v).id ≡ i) × Rooted s i
  unfolding result seg_view
  id_own i o =
      subst (λ (r : Result). r.answer ≡ 0 → (r.id ≡ i) × Rooted s i) (sym (called_plan c s v)) (λ e. go c o _ ((tested c s v).id e))
    where
      root : (k j : ℕ) → k ≡ i → OwnRoot (seg_view s) k (slot_on (seg_view s) k) j → (j ≡ i) × Rooted s i
      root k j e h = (h.0 ∙ e, subst (Rooted s) e (record { below = h.1; root = h.2 }))

      go : (d : Call) → OfId i d → (j : ℕ) → AnswersId (seg_view s) d j → (j ≡ i) × Rooted s i
      go (insert bs) e j h = absurd e
      go (allocate n) e j h = absurd e
      go (write k bs) e j h = root k j e h
      go (resize k n) e j h = root k j e h
      go (erase k) e j h = root k j e h

  module _ (h : SoundSegment s v) where
    -- an id that insert or allocate hands out was not in use: its slot was free, or past the count
    pub id_unused : Makes c → (called c s v).answer ≡ 0 → slot_on (seg_view s) (called c s v).id ≡ Free
    unfolding result
    id_unused m =
        subst (λ (r : Result). r.answer ≡ 0 → slot_on (seg_view s) r.id ≡ Free) (sym (called_plan c s v))
        (rw (h.whole, h.page) (plan_unused c s v m (seen_sound s v h)))

    -- so a call that is not of the id of a record does not answer it
    pub id_other : (i : ℕ) → Rooted s i → (OfId i c → ⊥) → (called c s v).answer ≡ 0 → i ≢ (called c s v).id
    id_other i x n a e = go (which c)
      where
        go : Makes c ⊎ ((k : ℕ) × OfId k c) → ⊥
        go (inl m) = subst Root (id_unused m a) (subst (λ (j : ℕ). Root (slot_on (seg_view s) j)) e x.root)
        go (inr k) = n (subst (λ (j : ℕ). OfId j c) (sym (e ∙ (id_own k.0 k.1 a).0)) k.1)

    -- an id that was not in use and that the call does not hand out as a new one is not in use afterwards
    pub unused_stays : (j : ℕ) → (Rooted s j → ⊥) → (Makes c → (called c s v).answer ≡ 0 → j ≢ (called c s v).id) → Rooted (called c s v).seg j → ⊥
    unused_stays j n new x = n ((call_rows c s v h).made j x (λ a. go a (which c)))
      where
        go : (called c s v).answer ≡ 0 → Makes c ⊎ ((k : ℕ) × OfId k c) → j ≢ (called c s v).id
        go a (inl m) = new m a
        go a (inr k) = λ e. let o = id_own k.0 k.1 a in n (subst (Rooted s) (sym (e ∙ o.0)) o.1)

    -- an id whose slot is free after an insert or allocate was free before it
    pub free_before : Makes c → (j : ℕ) → page_no j < length s / 16384 → slot_on (seg_view (called c s v).seg) j ≡ Free → slot_on (seg_view s) j ≡ Free
    free_before m j l f = go (slot_on (seg_view s) j) refl
      where
        -- it is of no id, so what is in use stays so, and a redirect stays as it is
        own : (d : Call) (i : ℕ) → Makes d → OfId i d → ⊥
        own (insert bs) i n o = o
        own (allocate n) i k o = o
        own (write k bs) i n o = n
        own (resize k n) i x o = x
        own (erase k) i n o = n

        other : (i : ℕ) → Rooted s i → (called c s v).answer ≡ 0 → i ≢ (called c s v).id
        other i x = id_other i x (own c i m)

        used : Rooted s j → ⊥
        used x = subst Root f ((call_rows c s v h).others j x (other j x)).0.root

        named : (x : Slot) → tag x ≡ Redirect j → x ≡ Redirect j
        named (Ordinary o k) e = let z : ◌≡◌ {A = ℕ} 0 1 = cc in absurd (omega arith)
        named Free e = e
        named (Redirect t) e = e
        named (Target o k) e = let z : ◌≡◌ {A = ℕ} 0 1 = cc in absurd (omega arith)

        target : is_target (slot_on (seg_view s) j) ≡ true → ⊥
        target t =
            let n = h.pairs.targets j (subst (λ (m : ℕ). page_no j < m) (sym (seen_pages s)) l) t in
            let x : Rooted s n.by =
            record { below = subst (λ (m : ℕ). page_no n.by < m) (seen_pages s) n.below; root = subst Root (sym n.names) tt } in
            let r = call_rows c s v h in
            let y = (r.others n.by x (other n.by x)).0 in
            let z = (called c s v).seg in
            let q = (call_right c s v h).sound.pairs.redirects n.by j (subst (λ (m : ℕ). page_no n.by < m) (sym (seen_pages z)) y.below)
            (named (slot_on (seg_view z) n.by) (r.tags n.by x (other n.by x) ∙ ap tag n.names)) in
            never q.target (ap is_target f)

        go : (x : Slot) → slot_on (seg_view s) j ≡ x → slot_on (seg_view s) j ≡ Free
        go (Ordinary o k) e = absurd (used (record { below = l; root = subst Root (sym e) tt }))
        go Free e = e
        go (Redirect t) e = absurd (used (record { below = l; root = subst Root (sym e) tt }))
        go (Target o k) e = absurd (target (ap is_target e))

-- what an id that is not in use reads as, on a page of the segment: 5, unless it is a target's own
pub unused_reads : (s v : List ℕ) → SoundSegment s v → (j : ℕ) → page_no j < length s / 16384 → (Rooted s j → ⊥)
    → (read_step s j ≡ no_read NONE) ⊎ (is_target (slot_on (seg_view s) j) ≡ true)
unused_reads s v h j l n = go (slot_on (seg_view s) j) refl
  where
    go : (x : Slot) → slot_on (seg_view s) j ≡ x → (read_step s j ≡ no_read NONE) ⊎ (is_target (slot_on (seg_view s) j) ≡ true)
    go (Ordinary o k) e = absurd (n (record { below = l; root = subst Root (sym e) tt }))
    go Free e = inl (read_look s v h j l ∙ ap (λ (x : Slot). look (bytes_on (seg_view s)) j (tag x)) e)
    go (Redirect t) e = absurd (n (record { below = l; root = subst Root (sym e) tt }))
    go (Target o k) e = inr (ap is_target e)

-- so an id that reads 5 and that the call does not hand out reads 5 afterwards, unless it has become a target's own
pub none_stays : (c : Call) (s v : List ℕ) → SoundSegment s v → (j : ℕ) → page_no j < length s / 16384 → read_step s j ≡ no_read NONE
    → (Makes c → (called c s v).answer ≡ 0 → j ≢ (called c s v).id)
    → (read_step (called c s v).seg j ≡ no_read NONE) ⊎ (is_target (slot_on (seg_view (called c s v).seg) j) ≡ true)
none_stays c s v h j l e new =
    unused_reads (called c s v).seg (called c s v).inv (call_right c s v h).sound j
    (subst (λ (n : ℕ). page_no j < n / 16384) (sym (length_kept c s v)) l) (unused_stays c s v h j (λ x. go x.root) new)
  where
    go : Root (slot_on (seg_view s) j) → ⊥
    go r =
        let z = ap (λ (d : Read). d.answer) (sym e ∙ read_look s v h j l) in
        let a = root_looks (bytes_on (seg_view s)) j (tag_on (seg_view s) j) ((tag_root (slot_on (seg_view s) j)).0 r) in
        absurd (omega arith)

-- over any sequence of calls, of which none answers it
pub unused_throughout : (cs : List Call) (s v : List ℕ) → SoundSegment s v → (j : ℕ) → (Rooted s j → ⊥)
    → Each (λ r. r.answer ≡ 0 → j ≢ r.id) (results cs s v) → Each (λ r. Rooted r.seg j → ⊥) (results cs s v)
unused_throughout [] s v h j n a = tt
unused_throughout (c ∷ cs) s v h j n a =
    let m = unused_stays c s v h j n (λ x. a.0) in
    (m, unused_throughout cs (called c s v).seg (called c s v).inv (call_right c s v h).sound j m a.1)
