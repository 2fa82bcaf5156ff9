-- Steps on several pages, taken in the code's order, and what the inventory is told of them.
use Prim.Native.Nat.{ℕ, ◌/◌, ◌≤◌}
use mathlib.Core.Path.{◌≡◌, sym, ap, ◌∙◌}
use mathlib.Core.Bool.{true, false}
use mathlib.Core.List.{List, [], ◌∷◌}
use mathlib.Core.Logic.{◌≢◌}
use native.Mathlib.Omega.{arith}
use lib.ListN.{length}
use Rattle.store.specs.Numbers.{page_no, slot_no}
use Rattle.store.specs.Slots.{is_free}
use Rattle.store.specs.Page.{View, view, sound}
use Rattle.store.specs.PageSteps.{erase}
use Rattle.store.specs.Inventory.{update}
use Rattle.store.specs.Segment.{seg_view, page_of, OnPage, on, carried_on, carried, points_back}
use Rattle.store.specs.Laws.Lent.{Within, TakenOn}
use Rattle.store.proofs.Laws.Segments.{ExactOn, exact_skip}
use Rattle.store.proofs.Laws.Calls.{back_ok}
use Rattle.segment_pages.proofs.Root.{back_taken}
use Rattle.segment_steps.proofs.After.{Took, took_length, Left, left_own, left_other, left_room, left_update, still, carried_swap}
use Rattle.segment_steps.proofs.After.{erase_on_page}

-- ---- after one step, on another page

module _ (s : List ℕ) (e : OnPage) (t : List ℕ) (x : Took s e t) (p : ℕ) (away : p ≢ e.on) where
  pub taken_still : (k : ℕ) → TakenOn s p k → TakenOn t p k
  taken_still k h =
      record {
        whole = omega (arith, took_length s e t x, h.whole);
        sound = still s e t x p away (λ u. sound u ≡ true) h.sound;
        taken = still s e t x p away (λ u. is_free (u.at k) ≡ false) h.taken;
      }

-- ---- two steps: e, then g on another page

module _ (s : List ℕ) (e g : OnPage) (t r : List ℕ) (x : Took s e t) (z : Took t g r) (away : g.on ≢ e.on) where
  pub two_length : length r ≡ length s
  two_length = took_length t g r z ∙ took_length s e t x

  pub first_left : Left r e.on e.plan.after
  first_left = left_other t g r z e.on (λ q. away (sym q)) e.plan.after (left_own s e t x)

  -- in the other order
  module _ (y : ExactOn s g) where
    pub carried_two : r ≡ carried (g ∷ e ∷ []) s
    carried_two = z.is ∙ ap (carried_on g) x.is ∙ carried_swap s e g x.exact y away

    -- and h on a third page
    module _ (h : OnPage) (q : List ℕ) (w : Took r h q) (yh : ExactOn s h) (off_first : h.on ≢ e.on) (off_second : h.on ≢ g.on) where
      pub carried_three : q ≡ carried (g ∷ h ∷ e ∷ []) s
      carried_three =
          w.is
          ∙ ap (carried_on h) carried_two
          ∙ carried_swap (carried_on g s) e h (exact_skip s g e y x.exact (λ c. away (sym c))) (exact_skip s g h y yh off_second) off_first

-- ---- the inventory: told of page p, and then of page q, as the steps left them

pub record BothLeft (s r : List ℕ) (p q : ℕ) : Type 0 where
  pub long : length r ≡ length s
  pub within : Within s p × Within s q
  pub one : View
  pub first : Left r p one
  pub two : View
  pub second : Left r q two

module _ (s v r : List ℕ) (p q : ℕ) (h : BothLeft s r p q) where
  pub asks_first : Within r p × ((view (page_of r p)).free_space ≤ 16372)
  asks_first = (omega (arith, h.long, h.within.0), left_room r p h.one h.first)

  pub asks_second : Within r q × ((view (page_of r q)).free_space ≤ 16372)
  asks_second = (omega (arith, h.long, h.within.1), left_room r q h.two h.second)

  pub told_both : (w y : List ℕ) → w ≡ update v (length r / 16384) p (view (page_of r p)).free_space
      → y ≡ update w (length r / 16384) q (view (page_of r q)).free_space
      → y ≡ update (update v (seg_view s).pages p h.one.free_space) (seg_view s).pages q h.two.free_space
  told_both w y ew ey =
      left_update s r q h.two h.second h.long w y ey
      ∙ ap (λ (m : List ℕ). update m (seg_view s).pages q h.two.free_space) (left_update s r p h.one h.first h.long v w ew)

-- ---- the old target at j, which the root's redirect names

module _ (s : List ℕ) (i j : ℕ) (back : points_back (seg_view s) i j ≡ true) where
  abbrev pub old_step : OnPage
  old_step = on (page_no j) (erase ((seg_view s).page (page_no j)) (slot_no j))

  pub old_away : page_no j ≢ page_no i
  old_away = (back_ok s i j back).2

  pub old_taken : TakenOn s (page_no j) (slot_no j)
  old_taken = back_taken s i j back

  pub old_exact : ExactOn s old_step
  old_exact = erase_on_page s (page_no j) (slot_no j) old_taken
