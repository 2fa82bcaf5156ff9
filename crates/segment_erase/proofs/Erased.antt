-- Erase: what the code did is what the plan says.
use Prim.Native.Nat.{ℕ, ◌/◌}
use mathlib.Core.Path.{◌≡◌, refl, sym, ap, ◌∙◌}
use mathlib.Core.Bool.{true, false, ◌&&◌}
use mathlib.Core.List.{List, [], ◌∷◌}
use mathlib.Core.Logic.{◌≢◌}
use native.Mathlib.Omega.{arith}
use lib.ListN.{length}
use Rattle.store.specs.Numbers.{page_no, slot_no}
use Rattle.store.specs.Slots.{is_free}
use Rattle.store.specs.Page.{view, sound}
use Rattle.store.specs.PageSteps.{erase}
use Rattle.store.specs.Refusals.{DONE, number_of}
use Rattle.store.specs.Inventory.{update}
use Rattle.store.specs.Segment.{seg_view, page_of, size_ok, inv_ok, OnPage, on, carried_on, carried, refuse, result, root_of, by_root, points_back}
use Rattle.store.specs.Segment.{erase_by, erase_plan, erase_step}
use Rattle.store.specs.Answers.{outcome}
use Rattle.store.specs.Laws.Lent.{TakenOn}
use Rattle.store.proofs.Laws.Calls.{back_ok}
use Rattle.std.specs.Prelude.{Ok, Err}
use Rattle.std.specs.Prelude.{Result as ResultOf}
use Rattle.store.specs.declared.Slot.{Slot}
use Rattle.store.specs.declared.Slot.TheVariants.{Ordinary, Redirect}
use Rattle.store.specs.declared.Refusal.{Refusal}
use Rattle.store.specs.declared.Refusal.TheVariants as refusal
use Rattle.segment_pages.proofs.Root.{back_taken}
use Rattle.segment_steps.proofs.After.{Took, took_length, Left, left_own, left_other, left_update, still, next_took, erase_on_page}

-- the step that frees the slot of the id i, as it stands in s
abbrev pub erasing : List ℕ → ℕ → OnPage
erasing s i = on (page_no i) (erase ((seg_view s).page (page_no i)) (slot_no i))

pub took_erasing : (s : List ℕ) (i : ℕ) → TakenOn s (page_no i) (slot_no i) → (t : List ℕ) → t ≡ carried_on (erasing s i) s → Took s (erasing s i) t
took_erasing s i h t e = record { exact = erase_on_page s (page_no i) (slot_no i) h; is = e }

module _ (s v : List ℕ) where
  pub refused_is : (r : Refusal) → outcome (Err r) s v ≡ result s (refuse v (number_of r))
  unfolding result
  refused_is r = refl

  module _ (i : ℕ) where
    -- ---- 1, then as the id's own page answers

    pub step_size : (size_ok s && inv_ok v) ≡ false → outcome (Err refusal.Size) s v ≡ erase_step s v i
    unfolding erase_step result
    step_size e = rw e

    pub step_by : (size_ok s && inv_ok v) ≡ true → (r : ResultOf Slot Refusal) → root_of (seg_view s) i ≡ r
        → result s (by_root (refuse v) (erase_by (seg_view s) v i) r) ≡ erase_step s v i
    unfolding erase_step erase_plan
    step_by ok r e = sym (rw (ok, e))

    -- ---- an ordinary slot

    pub by_ordinary : (t w : List ℕ) → Took s (erasing s i) t → w ≡ update v (length t / 16384) (page_no i) (view (page_of t (page_no i))).free_space
        → outcome (Ok i) t w ≡ result s (erase_by (seg_view s) v i (Ordinary 0 0))
    unfolding result
    by_ordinary t w x ew =
        let e = erasing s i in
        let told = left_update s t (page_no i) e.plan.after (left_own s e t x) (took_length s e t x) v w ew in
        λ z. record { answer = DONE; id = i; seg = x.is z; inv = told z }

    -- ---- a redirect: 4 (target), or two pages

    module _ (j : ℕ) where
      pub by_damaged : points_back (seg_view s) i j ≡ false → outcome (Err refusal.Damaged) s v ≡ result s (erase_by (seg_view s) v i (Redirect j))
      unfolding result
      by_damaged e = rw e

      module _ (back : points_back (seg_view s) i j ≡ true) (t : List ℕ) (x : Took s (erasing s i) t) where
        away : page_no j ≢ page_no i
        away = (back_ok s i j back).2

        -- the root's step did not touch the target's page
        pub still_taken : TakenOn t (page_no j) (slot_no j)
        still_taken =
            let h = back_taken s i j back in
            let e = erasing s i in
            record {
              whole = omega (arith, took_length s e t x, h.whole);
              sound = still s e t x (page_no j) away (λ u. sound u ≡ true) h.sound;
              taken = still s e t x (page_no j) away (λ u. is_free (u.at (slot_no j)) ≡ false) h.taken;
            }

        -- both carried out, which leaves r
        module _ (r : List ℕ) (er : r ≡ carried_on (erasing t j) t) where
          took : Took t (erasing s j) r
          took =
              next_took s (erasing s i) t x (page_no j) away (λ u. erase u (slot_no j)) (erase_on_page s (page_no j) (slot_no j) (back_taken s i j back)) r er

          pub target_left : Left r (page_no j) (erasing s j).plan.after
          target_left = left_own t (erasing s j) r took

          pub root_left : Left r (page_no i) (erasing s i).plan.after
          root_left = left_other t (erasing s j) r took (page_no i) (λ e. away (sym e)) (erasing s i).plan.after (left_own s (erasing s i) t x)

          pub both_length : length r ≡ length s
          both_length = took_length t (erasing s j) r took ∙ took_length s (erasing s i) t x

          pub by_redirect : (w y : List ℕ) → w ≡ update v (length r / 16384) (page_no j) (view (page_of r (page_no j))).free_space
              → y ≡ update w (length r / 16384) (page_no i) (view (page_of r (page_no i))).free_space
              → outcome (Ok i) r y ≡ result s (erase_by (seg_view s) v i (Redirect j))
          unfolding result
          by_redirect w y ew ey =
              let f = left_update s r (page_no j) (erasing s j).plan.after target_left both_length v w ew in
              let g = left_update s r (page_no i) (erasing s i).plan.after root_left both_length w y ey in
              let h : r ≡ carried (erasing s i ∷ erasing s j ∷ []) s = took.is ∙ ap (carried_on (erasing s j)) x.is in
              rw back (λ z. record {
                answer = DONE;
                id = i;
                seg = h z;
                inv = (g ∙ ap (λ (m : List ℕ). update m (seg_view s).pages (page_no i) (erasing s i).plan.after.free_space) f) z;
              })
