-- "Moving home frees the target": what the code did is what the plan says.
use Prim.Native.Nat.{ℕ, ◌*◌, ◌/◌, ◌≤◌, ◌<◌}
use mathlib.Core.Path.{◌≡◌, refl, sym, ap, ◌∙◌}
use mathlib.Core.Bool.{cond}
use mathlib.Core.List.{List, [], ◌∷◌}
use lib.ListN.{length}
use lib.Dec.{ltb, leb}
use borrow.Author.Tests.{le-leb, lt-leb, le-ltb, lt-ltb}
use native.Mathlib.Decide.{dec_le}
use native.Mathlib.Omega.{arith}
use Rattle.store.specs.Numbers.{put, page_no, slot_no}
use Rattle.store.specs.Slots.{is_target}
use Rattle.store.specs.Page.{View, view}
use Rattle.store.specs.PageSteps.{Plan, erase, filled, Relocated, refused, moved, relocate, relocate_by}
use Rattle.store.specs.Inventory.{update, found_in}
use Rattle.store.specs.Segment.{seg_view, page_of, OnPage, on, carried_on, carried, result, at_home}
use Rattle.store.specs.Answers.{outcome}
use Rattle.store.specs.Laws.Lent.{TakenOn}
use Rattle.store.specs.declared.Slot.{Slot}
use Rattle.store.specs.declared.Slot.TheVariants.{Redirect}
use Rattle.std.specs.Prelude.{Ok}
use Rattle.page_relocate.specs.Words.{page_moved, was_moved, refilled}
use Rattle.segment_pages.proofs.Root.{root_taken}
use Rattle.segment_steps.proofs.After.{Took, left_own, next_took}
use Rattle.segment_moves.proofs.Moved.{MovedTo, moved_to, took_filled, no_target}
use Rattle.segment_forward.specs.Words.{Follows}
use Rattle.segment_forward.proofs.Steps.{taken_still, two_length, first_left, BothLeft, told_both, old_step, old_away, old_taken, old_exact}

-- "From a redirect: needs the full size free"
fits_so : (free n : ℕ) (a : Plan) → was_moved (cond (ltb free n) refused (moved a)) ≡ leb n free
fits_so free n a = go (dec_le n free)
  where
    go : Dec (n ≤ free) → was_moved (cond (ltb free n) refused (moved a)) ≡ leb n free
    go (yes h) = rw (le-ltb free n h, le-leb n free h)
    go (no h) = let l : free < n = omega arith in rw (lt-ltb free n l, lt-leb n free l)

pub home_is : (v : View) (k n j : ℕ) → v.at k ≡ Redirect j → was_moved (relocate v k n) ≡ leb n v.free_space
unfolding relocate
home_is v k n j here = ap (λ (x : Slot). was_moved (relocate_by x v k n)) here ∙ fits_so v.free_space n _

-- t is what the step on the root's page left, where there is room
module _ (s : List ℕ) (i n : ℕ) (bs : List ℕ) (j : ℕ) (h : Follows s i j) (room : n ≤ ((seg_view s).page (page_no i)).free_space) (size : length bs ≡ n)
    (t : List ℕ)
    (et : t ≡ put s (page_no i * 16384) (page_moved (refilled (relocate ((seg_view s).page (page_no i)) (slot_no i) n) (slot_no i) bs)
    (page_of s (page_no i)))) where
  abbrev root : View
  root = (seg_view s).page (page_no i)

  home : MovedTo (relocate root (slot_no i) n)
  home = moved_to (relocate root (slot_no i) n) (home_is root (slot_no i) n j h.root.entry ∙ le-leb n root.free_space room)

  abbrev home_step : OnPage
  home_step = on (page_no i) (filled home.to (slot_no i) bs)

  home_took : Took s home_step t
  home_took =
      took_filled s (page_no i) (slot_no i) (root_taken s i (Redirect j) h.root refl) n
      (no_target (root.at (slot_no i)) n (ap is_target h.root.entry)) home.to home.is bs size t et

  pub home_asks : TakenOn t (page_no j) (slot_no j)
  home_asks = taken_still s home_step t home_took (page_no j) (old_away s i j h.back) (slot_no j) (old_taken s i j h.back)

  -- the target is freed, which leaves r
  module _ (r : List ℕ) (er : r ≡ carried_on (on (page_no j) (erase ((seg_view t).page (page_no j)) (slot_no j))) t) where
    abbrev old : OnPage
    old = old_step s i j h.back

    left_behind : Took t old r
    left_behind =
        next_took s home_step t home_took (page_no j) (old_away s i j h.back) (λ u. erase u (slot_no j)) (old_exact s i j h.back) r er

    pub home_left : BothLeft s r (page_no i) (page_no j)
    home_left =
        record {
          long = two_length s home_step old t r home_took left_behind (old_away s i j h.back);
          within = (h.root.whole, (old_taken s i j h.back).whole);
          one = home_step.plan.after;
          first = first_left s home_step old t r home_took left_behind (old_away s i j h.back);
          two = old.plan.after;
          second = left_own t old r left_behind;
        }

    pub home_done : (v w y : List ℕ) → w ≡ update v (length r / 16384) (page_no i) (view (page_of r (page_no i))).free_space
        → y ≡ update w (length r / 16384) (page_no j) (view (page_of r (page_no j))).free_space
        → outcome (Ok i) r y ≡ result s (at_home found_in (seg_view s) v i n (λ b. bs) j [] (relocate root (slot_no i) n))
    unfolding result home_left
    home_done v w y ew ey =
        let e : r ≡ carried (home_step ∷ old ∷ []) s = left_behind.is ∙ ap (carried_on old) home_took.is in
        let g = told_both s v r (page_no i) (page_no j) home_left w y ew ey in
        let d : outcome (Ok i) r y ≡ result s (at_home found_in (seg_view s) v i n (λ b. bs) j [] (moved home.to)) =
        λ z. record { answer = 0; id = i; seg = e z; inv = g z } in
        d ∙ ap (λ (x : Relocated). result s (at_home found_in (seg_view s) v i n (λ b. bs) j [] x)) (sym home.is)
