-- What is done to a slot, kind by kind; and to all slots of a page.
use Prim.Native.Nat.{ℕ, ◌+◌, ◌*◌, ◌≤◌, ◌<◌}
use mathlib.Core.Path.{◌≡◌, refl, sym, ap, subst, ◌∙◌}
use mathlib.Core.Bool.{Bool, true, false, cond}
use mathlib.Core.List.{List}
use native.Mathlib.Omega.{arith}
use Rattle.store.specs.Numbers.{cut, be, id_of, page_no, slot_no}
use Rattle.store.specs.Slots.{is_record, is_target}
use Rattle.store.specs.Page.{View, view}
use Rattle.store.specs.Segment.{page_of}
use Rattle.store.specs.Repair.{standing, keeps, holds, named, deed_by, deed, changes}
use Rattle.store.proofs.Laws.Cases.{never}
use Rattle.store.proofs.Laws.Repair.{standing_page}
use Rattle.store.specs.declared.Deed.{Deed}
use Rattle.store.specs.declared.Deed.TheVariants.{Stays, RecordFreed, RedirectFreed, MadeOrdinary}
use Rattle.store.specs.declared.Slot.{Slot}
use Rattle.store.specs.declared.Slot.TheVariants.{Ordinary, Free, Redirect, Target}
use Rattle.page_repair.specs.Kept.{judged}
use Rattle.segment_judge.specs.Words.{UsedOn, KeptTarget}
use Rattle.segment_judge.proofs.HoldLaws.{kept_inside, back_is}

-- ---- one slot

module _ (s : List ℕ) (p k : ℕ) where
  pub deed_is : (x : Slot) → x ≡ (view (page_of s p)).at k → deed (standing s) p k ≡ deed_by (standing s) p k x
  unfolding deed standing
  deed_is x e = ap (deed_by (standing s) p k) (sym e)

  -- what its page tells of a record
  told : (x : Slot) → x ≡ (view (page_of s p)).at k → is_record x ≡ true
      → judged (view (page_of s p)) k ≡ cond (keeps ((standing s).page p) k) Stays RecordFreed
  told x e r =
      ap (λ (b : Bool). cond b (cond (keeps (view (page_of s p)) k) Stays RecordFreed) Stays) (ap is_record (sym e) ∙ r)
      ∙ ap (λ (v : View). cond (keeps v k) Stays RecordFreed) (sym (standing_page s p))

  pub deed_ordinary : (o l : ℕ) → Ordinary o l ≡ (view (page_of s p)).at k → judged (view (page_of s p)) k ≡ deed (standing s) p k
  deed_ordinary o l e = told (Ordinary o l) e refl ∙ sym (deed_is (Ordinary o l) e)

  pub deed_free : Free ≡ (view (page_of s p)).at k → Stays ≡ deed (standing s) p k
  deed_free e = sym (deed_is Free e)

  module _ (t : ℕ) (e : Redirect t ≡ (view (page_of s p)).at k) (r : Bool) (h : r ≡ holds (standing s) (id_of p k) t) where
    by_holds : (b : Bool) → r ≡ b → cond b Stays RedirectFreed ≡ deed (standing s) p k
    by_holds b q = ap (λ (c : Bool). cond c Stays RedirectFreed) (sym q ∙ h) ∙ sym (deed_is (Redirect t) e)

    pub deed_holds : r ≡ true → Stays ≡ deed (standing s) p k
    deed_holds q = by_holds true q

    pub deed_loose : r ≡ false → RedirectFreed ≡ deed (standing s) p k
    deed_loose q = by_holds false q

  module _ (o l : ℕ) (e : Target o l ≡ (view (page_of s p)).at k) where
    by_keeps : (b : Bool) → keeps ((standing s).page p) k ≡ b
        → cond b (cond (named (standing s) (id_of p k)) Stays MadeOrdinary) RecordFreed ≡ deed (standing s) p k
    by_keeps b q =
        ap (λ (c : Bool). cond c (cond (named (standing s) (id_of p k)) Stays MadeOrdinary) RecordFreed) (sym q)
        ∙ sym (deed_is (Target o l) e)

    module _ (f : Deed) (g : f ≡ judged (view (page_of s p)) k) where
      pub deed_freed : changes f ≡ true → RecordFreed ≡ deed (standing s) p k
      deed_freed n = go (keeps ((standing s).page p) k) refl
        where
          go : (b : Bool) → keeps ((standing s).page p) k ≡ b → RecordFreed ≡ deed (standing s) p k
          go true q = never n (ap changes (g ∙ told (Target o l) e refl ∙ ap (λ (b : Bool). cond b Stays RecordFreed) q))
          go false q = by_keeps false q

      pub stays_kept : changes f ≡ false → keeps ((standing s).page p) k ≡ true
      stays_kept z = go (keeps ((standing s).page p) k) refl
        where
          go : (b : Bool) → keeps ((standing s).page p) k ≡ b → b ≡ true
          go true q = refl
          go false q = never (ap changes (g ∙ told (Target o l) e refl ∙ ap (λ (b : Bool). cond b Stays RecordFreed) q)) z

    module _ (kept : keeps ((standing s).page p) k ≡ true) where
      pub target_inside : (8 ≤ l) × (o + l ≤ 16384)
      target_inside = kept_inside ((standing s).page p) k o l (ap (λ (v : View). v.at k) (standing_page s p) ∙ sym e) kept

      module _ (r : Bool) (h : r ≡ named (standing s) (id_of p k)) where
        by_named : (b : Bool) → r ≡ b → cond b Stays MadeOrdinary ≡ deed (standing s) p k
        by_named b q = ap (λ (c : Bool). cond c Stays MadeOrdinary) (sym q ∙ h) ∙ by_keeps true kept

        pub deed_named : r ≡ true → Stays ≡ deed (standing s) p k
        deed_named q = by_named true q

        pub deed_made : r ≡ false → MadeOrdinary ≡ deed (standing s) p k
        deed_made q = by_named false q

-- the target of id t at slot c of page a: what the test of its redirect asks
abbrev Asks : List ℕ → ℕ → ℕ → ℕ → ℕ → ℕ → ℕ → Type 0
Asks s t o l b a c =
    UsedOn s a c → Target o l ≡ (view (page_of s a)).at c → keeps ((standing s).page a) c ≡ true → b ≡ be (cut s (a * 16384 + o) 8) → KeptTarget s t b

asks : (s : List ℕ) (t o l b : ℕ) → Asks s t o l b (page_no t) (slot_no t)
asks s t o l b h e k q =
    let g : ((standing s).page (page_no t)).at (slot_no t) ≡ Target o l = ap (λ (v : View). v.at (slot_no t)) (standing_page s (page_no t)) ∙ sym e in
    record {
      below = omega (arith, h.within);
      few = h.few;
      target = ap is_target g;
      keeps = ap (λ (v : View). keeps v (slot_no t)) (sym (standing_page s (page_no t))) ∙ k;
      back = sym (back_is s t o l b g k q);
    }

pub named_asks : (s : List ℕ) (p k o l b : ℕ) → Asks s (id_of p k) o l b p k
named_asks s p k o l b h =
    let i : ℕ = id_of p k in
    let small : k < 65536 = omega (arith, h.counted, h.few) in
    let pn : page_no i ≡ p = omega arith in
    let sn : slot_no i ≡ k = omega arith in
    subst (λ (a : ℕ). Asks s i o l b a k) pn (subst (λ (c : ℕ). Asks s i o l b (page_no i) c) sn (asks s i o l b)) h
