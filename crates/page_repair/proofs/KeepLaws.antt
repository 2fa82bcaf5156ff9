-- Which records are kept, as the code finds it: how a record lies, one slot's turn, and what is noted of all.
use Prim.Native.Nat.{ℕ, suc, ◌+◌, ◌*◌, ◌≤◌, ◌<◌}
use mathlib.Core.Path.{◌≡◌, refl, sym, ap, subst, ◌∙◌}
use mathlib.Core.Bool.{Bool, true, false, cond, not, ◌||◌, ◌&&◌}
use mathlib.Core.List.{List}
use mathlib.Core.Logic.{◌⊎◌, inl, inr}
use native.Mathlib.Omega.{arith}
use native.Mathlib.Numerals.{add-one}
use lib.ListN.{length, get_or, set, replicate, length-set}
use lib.Seq.{get_or-set_same, get_or-set_other}
use lib.Dec.{eqb, leb}
use borrow.Author.Count.{below_more}
use borrow.Author.Tests.{leb-true, eq-eqb}
use Rattle.store.specs.Slots.{off, len, is_record, is_target}
use Rattle.store.specs.Page.{View}
use Rattle.store.specs.Repair.{lies_in, lies, kept_below, is_in, keeps}
use Rattle.store.proofs.Laws.Cases.{never, or_in, or_out}
use Rattle.store.proofs.Laws.SoundPage.{and_both}
use Rattle.store.proofs.Laws.RepairPage.{good, in_good, in_cons}
use Rattle.store.proofs.Laws.RepairKept.{kept_more, kept_same, keeps_good, clear_is, clear_by, good_in, good_is}
use Rattle.store.specs.declared.Deed.{Deed}
use Rattle.store.specs.declared.Deed.TheVariants.{Stays, RecordFreed}
use Rattle.store.specs.declared.Slot.{Slot}
use Rattle.page_check.specs.Fit.{Runs}
use Rattle.page_check.specs.Map.{Clear, Claimed, Marked}
use Rattle.page_check.proofs.MapLaws.{blank, claimed_none}
use Rattle.page_check.proofs.MarkLaws.{marked_none, marked_more, apart_before, clear_apart}
use Rattle.page_repair.specs.Kept.{KeptIn, KeptMarks, judged, Judged}

-- ---- how a record lies

module _ (c : ℕ) (x : Slot) where
  pub lies_high : lies_in c x ≡ true → off x + len x ≤ 16384
  lies_high e = leb-true (off x + len x) 16384 (and_both (leb (off x + len x) 16384)
      ((not (is_target x) || leb 8 (len x)) && (eqb (len x) 0 || leb (12 + 8 * c) (off x))) e).0

-- the run that is read of an entry
pub runs_at : (c o l : ℕ) (x y : Slot) → x ≡ y → o ≡ off x → l ≡ len x → lies_in c y ≡ true → Runs y 16384 o l
runs_at c o l x y e eo el h = record {
  size = el ∙ ap len e;
  down = omega (arith, ap off e, ap len e, lies_high c y h);
  start = λ _. eo ∙ ap off e;
}

-- ---- one slot's turn

fails : (b : Bool) → (b ≡ true → ⊥) → b ≡ false
fails true f = absurd (f refl)
fails false f = refl

pub marks_none : (v : View) → KeptMarks v 0 (replicate 256 0)
marks_none v = marked_none v (KeptIn v 0) (replicate 256 0) blank (λ j h. omega (arith, (in_good v 0 j h).0))

-- what is noted of slot k, and the map then
abbrev Turned : View → ℕ → Deed → List ℕ → Type 0
Turned v k d w = (d ≡ judged v k) × KeptMarks v (k + 1) w

module _ (v : View) (k : ℕ) (u : List ℕ) (below : k < v.slot_count) (m : KeptMarks v k u) where
  marks_same : good v k ≡ false → KeptMarks v (k + 1) u
  marks_same g = rw (add-one k) (subst (λ (js : List ℕ). Marked v (λ j. is_in j js ≡ true) u) (sym (kept_same v k g)) m)

  pub no_record : is_record (v.at k) ≡ false → Turned v k Stays u
  no_record r = (
    sym (ap (λ (b : Bool). cond b (cond (keeps v k) Stays RecordFreed) Stays) r),
    marks_same (fails (good v k) (λ g. never (good_is v k g).0 r)),
  )

  module _ (r : is_record (v.at k) ≡ true) where
    freed : good v k ≡ false → Turned v k RecordFreed u
    freed g = (sym (λ i. cond (r i) (cond ((keeps_good v k below ∙ g) i) Stays RecordFreed) Stays), marks_same g)

    pub lies_ill : lies v k ≡ false → Turned v k RecordFreed u
    lies_ill l = freed (fails (good v k) (λ g. never (good_is v k g).1 l))

    module _ (o l : ℕ) (run : Runs (v.at k) 16384 o l) where
      pub overlaps : (Clear u o (o + l) → ⊥) → Turned v k RecordFreed u
      overlaps n = freed (fails (good v k)
          (λ g. n (clear_apart v (KeptIn v k) k 16384 o l u m run (clear_is v k (good_is v k g).2))))

      pub claims : lies v k ≡ true → (w : List ℕ) → Claimed u w o (o + l) → Turned v k Stays w
      claims h w c = (
        sym (λ i. cond (r i) (cond ((keeps_good v k below ∙ g) i) Stays RecordFreed) Stays),
        rw (add-one k) (marked_more v (KeptIn v k) k 16384 o l u m run (KeptIn v (suc k)) out
            (λ j e. ap (is_in j) (kept_more v k g) ∙ or_out (eqb j k) (is_in j (kept_below v k)) e)
            (ap (is_in k) (kept_more v k g) ∙ or_in (eqb k k) (is_in k (kept_below v k)) (eq-eqb k k refl)) w c),
      )
        where
          g : good v k ≡ true
          g = good_in v k r h (clear_by v k (apart_before v (KeptIn v k) k 16384 o l u m run c.clear))

          turned : {A B : Type 0} → A ⊎ B → B ⊎ A
          turned (inl x) = inr x
          turned (inr x) = inl x

          out : (j : ℕ) → KeptIn v (suc k) j → KeptIn v k j ⊎ (j ≡ k)
          out j e = turned (in_cons j k (kept_below v k) (sym (ap (is_in j) (kept_more v k g)) ∙ e))

      pub no_bytes : lies v k ≡ true → l ≡ 0 → Turned v k Stays u
      no_bytes h e = claims h u (claimed_none u o (o + l) (omega arith))

-- ---- all slots

pub judged_none : (v : View) (a : List Deed) → Judged v 0 a a
judged_none v a = record { long = refl; told = λ k h. absurd (omega arith); rest = λ k h. refl }

pub judged_more : (v : View) (k : ℕ) (d : Deed) (a b : List Deed) → Judged v k a b → k < length b → d ≡ judged v k → Judged v (k + 1) a (set b k d)
judged_more v k d a b s h e = record {
  long = length-set b k d ∙ s.long;
  told = below_more (λ j. get_or (set b k d) j Stays ≡ judged v j) k (λ j l. get_or-set_other b k j d Stays (omega arith) ∙ s.told j l)
      (get_or-set_same b k d Stays h ∙ e);
  rest = λ j l. get_or-set_other b k j d Stays (omega arith) ∙ s.rest j (omega arith);
}
