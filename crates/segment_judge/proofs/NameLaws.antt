-- "a target that no kept redirect names", test by test: the one at its back id.
use Prim.Native.Nat.{ℕ, ◌<◌}
use mathlib.Core.Path.{◌≡◌, refl, sym, ap, subst, ◌∙◌}
use mathlib.Core.Bool.{Bool, true, false}
use mathlib.Core.List.{List}
use mathlib.Core.Logic.{◌≢◌}
use native.Mathlib.Omega.{arith}
use native.Mathlib.Decide.{ℕ_discrete}
use lib.Dec.{eqb}
use borrow.Author.Tests.{eq-eqb, ne_eqb}
use Rattle.store.specs.Numbers.{page_no, slot_no}
use Rattle.store.specs.Page.{View, view}
use Rattle.store.specs.Segment.{page_of}
use Rattle.store.specs.SoundSegment.{slot_on}
use Rattle.store.specs.Repair.{standing, keeps, named}
use Rattle.store.proofs.Laws.RepairPage.{keeps_is}
use Rattle.store.proofs.Laws.RepairPairs.{Holds, KeptRedirect, named_is, named_in}
use Rattle.store.proofs.Laws.Repair.{standing_pages, standing_page}
use Rattle.store.specs.declared.Slot.{Slot}
use Rattle.store.specs.declared.Slot.TheVariants.{Free, Redirect}
use Rattle.segment_judge.specs.Words.{KeptTarget, Apart}
use Rattle.segment_judge.proofs.HoldLaws.{not_lost, counted, stands_view, count_standing, apart}

module _ (s : List ℕ) (t b : ℕ) (kt : KeptTarget s t b) where
  not_named : (KeptRedirect (standing s) b t → ⊥) → false ≡ named (standing s) t
  not_named n = go (named (standing s) t) refl
    where
      go : (c : Bool) → named (standing s) t ≡ c → false ≡ c
      go true e = absurd (n (subst (λ (a : ℕ). KeptRedirect (standing s) a t) (sym kt.back) (named_is (standing s) t e)))
      go false e = refl

  pub name_lost : (Apart s t b → ⊥) → false ≡ named (standing s) t
  name_lost n = not_named (λ x. n (apart s b t x.below (λ e. x.holds.other (sym e)) x.whole))

  pub name_other : (x : Slot) → slot_on (standing s) b ≡ x → ((j : ℕ) → x ≢ Redirect j) → false ≡ named (standing s) t
  name_other x e n = not_named (λ y. n t (sym e ∙ y.is))

  module _ (h : Apart s t b) where
    pub name_by : (j : ℕ) → slot_on (standing s) b ≡ Redirect j → eqb j t ≡ named (standing s) t
    name_by j e = go (ℕ_discrete j t)
      where
        taken : (view (page_of s (page_no b))).at (slot_no b) ≡ Free → ⊥
        taken f = let g = stands_view s b (Redirect j) e in let z : ◌≡◌ {A = ℕ} 0 1 = cc in omega arith

        used : slot_no b < ((standing s).page (page_no b)).slot_count
        used = omega (arith, count_standing s b, counted (page_of s (page_no b)) (slot_no b) taken)

        kept : keeps ((standing s).page (page_no t)) (slot_no t) ≡ true
        kept = ap (λ (v : View). keeps v (slot_no t)) (standing_page s (page_no t)) ∙ kt.keeps

        holding : Holds (standing s) b t
        holding =
            record {
              below = omega (arith, kt.below, standing_pages s);
              whole =
                  not_lost ((standing s).page (page_no t)) (slot_no t) (keeps_is ((standing s).page (page_no t)) (slot_no t) kept).below
                  (omega (arith, count_standing s t, kt.few));
              keeps = kept;
              target = kt.target;
              other = λ q. h.other (sym q);
              back = sym kt.back;
            }

        go : Dec (j ≡ t) → eqb j t ≡ named (standing s) t
        go (yes d) =
            eq-eqb j t d
            ∙ sym (named_in (standing s) b t
            (record {
              below = omega (arith, h.below, standing_pages s);
              whole = not_lost ((standing s).page (page_no b)) (slot_no b) used (omega (arith, h.few, count_standing s b));
              is = e ∙ ap (λ (x : ℕ). Redirect x) d;
              holds = holding;
            }))
        go (no d) = ne_eqb j t d ∙ not_named (λ y. d (let g = e in let f = y.is in cc))
