-- Forwarding: what the code did after the search is what the plan says.
use Prim.Native.Nat.{ℕ, ◌+◌, ◌/◌, ◌^◌, ◌≤◌, ◌<◌}
use mathlib.Core.Path.{◌≡◌, refl, sym, ap, ◌∙◌}
use mathlib.Core.Bool.{Bool, true, false, not, cond, ◌||◌}
use mathlib.Core.List.{List, [], ◌++◌}
use mathlib.Core.Logic.{◌≢◌}
use native.Mathlib.Omega.{arith}
use lib.ListN.{length}
use lib.Dec.{eqb}
use borrow.Author.Tests.{eqb-false, not-false}
use Rattle.store.specs.Numbers.{to_be, id_of, page_no, slot_no}
use Rattle.store.specs.Page.{view, sound}
use Rattle.store.specs.PageSteps.{Plan, Alloc, no_room, got, allocate, erase, erase_for_redirect}
use Rattle.store.specs.Inventory.{found_in, update}
use Rattle.store.specs.Segment.{seg_view, page_of, OnPage, on, carried_on, Result, result, Found, nowhere, found, taken, find, find_on}
use Rattle.store.specs.Segment.{forwarded, forwarded_again}
use Rattle.store.specs.Answers.{outcome}
use Rattle.store.specs.Refusals.{number_of}
use Rattle.store.specs.Laws.Lent.{Within, SoundOn, TakenOn}
use Rattle.store.proofs.Laws.Segments.{ExactOn}
use Rattle.store.proofs.Laws.Calls.{by_test, NamedOk, named_ok}
use Rattle.store.proofs.Laws.SoundSegment.{seen_pages}
use Rattle.std.specs.Prelude.{Option, Some, None, Ok, Err}
use Rattle.std.specs.Prelude.{Result as ResultOf}
use Rattle.store.proofs.Laws.Roots.{refusal_some}
use Rattle.store.specs.declared.Slot.TheVariants.{Redirect}
use Rattle.store.specs.declared.Refusal.{Refusal}
use Rattle.slotted_page.specs.Words.{target_plan, redirect_plan}
use Rattle.segment_steps.proofs.After.{Took, took_length, left_own, left_other, next_took, third_took, small_id}
use Rattle.segment_moves.proofs.Moved.{target_on_page}
use Rattle.segment_moves.proofs.Moved.{for_redirect_on_page, redirect_on_page, target_length}
use Rattle.segment_pages.proofs.Root.{root_sound}
use Rattle.segment_forward.specs.Words.{Follows, root_or_old, new_target}
use Rattle.segment_forward.proofs.Steps.{taken_still, two_length, first_left, carried_two, carried_three, BothLeft, told_both}
use Rattle.segment_forward.proofs.Steps.{old_step, old_away, old_taken, old_exact}
use Rattle.segment_forward.proofs.Search.{got_small, placing}

-- ---- what the search answered: refused, or a target at k

-- what is known of a page found; a refusal has a number
abbrev FoundBy : List ℕ → ℕ → (ℕ → Bool) → Found → Type 0
FoundBy s m ex (nowhere a) = 0 < a
FoundBy s m ex (found q j a) = SoundOn s q × (ex q ≡ false) × (allocate ((seg_view s).page q) m ≡ got j a)

found_by : (s v : List ℕ) (m : ℕ) (ex : ℕ → Bool) → FoundBy s m ex (find found_in (seg_view s) v m ex)
unfolding find
found_by s v m ex = go (found_in v (seg_view s).pages (m + 8)) (named_ok v (seg_view s).pages (m + 8))
  where
    go : (x : Option ℕ) → NamedOk (seg_view s).pages x → FoundBy s m ex (find_on (seg_view s) m ex x)
    go None h = omega arith
    go (Some p) h =
        by_test (FoundBy s m ex) (not (sound ((seg_view s).page p))) (nowhere 4) (cond (ex p) (nowhere 8) (taken p (allocate ((seg_view s).page p) m)))
        (λ f. omega arith)
        (λ f. by_test (FoundBy s m ex) (ex p) (nowhere 8) (taken p (allocate ((seg_view s).page p) m)) (λ x. omega arith)
        (λ x. at_place (allocate ((seg_view s).page p) m) refl (not-false (sound ((seg_view s).page p)) f) x))
      where
        at_place : (a : Alloc) → allocate ((seg_view s).page p) m ≡ a → sound ((seg_view s).page p) ≡ true → ex p ≡ false → FoundBy s m ex (taken p a)
        at_place no_room e f x = omega arith
        at_place (got k a) e f x = (record { whole = omega (arith, seen_pages s, h); sound = f }, x, e)

-- the target is at k, and its page step left t
pub record Placed (s : List ℕ) (i : ℕ) (bs : List ℕ) (ex : ℕ → Bool) (f : Found) (k : ℕ) (t : List ℕ) : Type 0 where
  pub plan : Plan
  pub is : f ≡ found (page_no k) (slot_no k) plan
  pub whole : Within s (page_no k)
  pub took : Took s (on (page_no k) (target_plan (slot_no k) plan (to_be 8 i ++ bs))) t
  pub away : ex (page_no k) ≡ false
  pub small : k < 2 ^ 62

module _ (s v : List ℕ) (i n : ℕ) (bs : List ℕ) (t : List ℕ) where
  -- a refusal of the search is one of the forwarding
  module _ (y : Refusal) where
    no_refusal : {A : Type 0} → number_of y ≡ 0 → A
    no_refusal e = absurd (refusal_some y e)

    pub forward_refused : (f : Found) → outcome (Err y) t v ≡ result s (new_target v i bs f)
        → outcome (Err y) t v ≡ result s (forwarded (seg_view s) v i n (λ o. bs) [] f)
    unfolding result
    forward_refused (nowhere a) e = e
    forward_refused (found q j a) e = no_refusal (ap (λ (r : Result). r.answer) e)

    pub again_refused : (j : ℕ) (f : Found) → outcome (Err y) t v ≡ result s (new_target v i bs f)
        → outcome (Err y) t v ≡ result s (forwarded_again (seg_view s) v i n (λ o. bs) j [] f)
    unfolding result
    again_refused j (nowhere a) e = e
    again_refused j (found q k a) e = no_refusal (ap (λ (r : Result). r.answer) e)

  pub placed_at : (few : length s / 16384 ≤ 32527) (size : length bs ≡ n) (ex : ℕ → Bool) (y : ResultOf ℕ Refusal) (k : ℕ) → y ≡ Ok k
      → outcome y t v ≡ placing s v i n bs ex
      → Placed s i bs ex (find found_in (seg_view s) v (n + 8) ex) k t
  unfolding result
  placed_at few size ex y k is e = go (find found_in (seg_view s) v (n + 8) ex) (found_by s v (n + 8) ex)
      (ap (λ (x : ResultOf ℕ Refusal). outcome x t v) (sym is) ∙ e)
    where
      go : (f : Found) → FoundBy s (n + 8) ex f → outcome (Ok k) t v ≡ result s (new_target v i bs f) → Placed s i bs ex f k t
      go (nowhere a) o e = let z : 0 ≡ a = ap (λ (r : Result). r.answer) e in absurd (omega arith)
      go (found q j a) o e =
          let ek : k ≡ id_of q j = ap (λ (r : Result). r.id) e in
          let et : t ≡ carried_on (on q (target_plan j a (to_be 8 i ++ bs))) s = ap (λ (r : Result). r.seg) e in
          let l = got_small s q o.0 (n + 8) j a o.2 in
          let p : page_no k ≡ q = omega (arith, ek, l) in
          let m : slot_no k ≡ j = omega (arith, ek, l) in
          record {
            plan = a;
            is = rw (p, m);
            whole = rw p o.0.whole;
            took = rw (p, m) (record {
              exact = target_on_page s q o.0 (n + 8) j a o.2 (omega arith) (to_be 8 i ++ bs) (target_length i bs n size);
              is = et;
            });
            away = rw p o.1;
            small = omega (arith, ek, small_id s q o.0 (n + 8) j a o.2 few);
          }

-- ---- done: the new target's page is written first, since the root's slot names its slot

-- the id that the plan writes into the root's slot
whole_id : (k : ℕ) → k ≡ id_of (page_no k) (slot_no k)
whole_id k = omega arith

-- what the search left of t, and the root's page as the step there asks for it
module _ (s : List ℕ) (i : ℕ) (bs : List ℕ) (j : ℕ) (f : Found) (k : ℕ) (t : List ℕ) (o : Placed s i bs (root_or_old i j) f k t) where
  abbrev pub new_step : OnPage
  new_step = on (page_no k) (target_plan (slot_no k) o.plan (to_be 8 i ++ bs))

  others : (page_no i ≢ page_no k) × (page_no j ≢ page_no k)
  others = apart (eqb (page_no k) (page_no i)) (eqb (page_no k) (page_no j)) refl refl o.away
    where
      apart : (a b : Bool) → eqb (page_no k) (page_no i) ≡ a → eqb (page_no k) (page_no j) ≡ b → (a || b) ≡ false → (page_no i ≢ page_no k)
          × (page_no j ≢ page_no k)
      apart true b x y z = let c : ◌≡◌ {A = ℕ} 0 1 = cc in absurd (omega arith)
      apart false b x y z = (λ e. eqb-false (page_no k) (page_no i) x (sym e), λ e. eqb-false (page_no k) (page_no j) (y ∙ z) (sym e))

  pub placed_id : id_of (page_no k) (slot_no k) < 2 ^ 62
  placed_id = omega (arith, o.small)

  pub root_asks : TakenOn s (page_no i) (slot_no i) → TakenOn t (page_no i) (slot_no i)
  root_asks = taken_still s new_step t o.took (page_no i) others.0 (slot_no i)

  -- the first forwarding: the root's step left r
  module _ (taken : TakenOn s (page_no i) (slot_no i)) (r : List ℕ)
      (er : r ≡ carried_on (on (page_no i) (erase_for_redirect ((seg_view t).page (page_no i)) (slot_no i) k)) t) where
    abbrev pub root_step : OnPage
    root_step = on (page_no i) (erase_for_redirect ((seg_view s).page (page_no i)) (slot_no i) (id_of (page_no k) (slot_no k)))

    root_exact : ExactOn s root_step
    root_exact = for_redirect_on_page s (page_no i) (slot_no i) taken (id_of (page_no k) (slot_no k)) placed_id

    root_took : Took t root_step r
    root_took =
        next_took s new_step t o.took (page_no i) others.0 (λ u. erase_for_redirect u (slot_no i) (id_of (page_no k) (slot_no k))) root_exact r
        (er ∙ ap (λ (m : ℕ). carried_on (on (page_no i) (erase_for_redirect ((seg_view t).page (page_no i)) (slot_no i) m)) t) (whole_id k))

    pub forward_left : BothLeft s r (page_no i) (page_no k)
    forward_left =
        record {
          long = two_length s new_step root_step t r o.took root_took others.0;
          within = (taken.whole, o.whole);
          one = root_step.plan.after;
          first = left_own t root_step r root_took;
          two = new_step.plan.after;
          second = first_left s new_step root_step t r o.took root_took others.0;
        }

    pub forward_done : (v : List ℕ) (n : ℕ) (w y : List ℕ) → w ≡ update v (length r / 16384) (page_no i) (view (page_of r (page_no i))).free_space
        → y ≡ update w (length r / 16384) (page_no k) (view (page_of r (page_no k))).free_space
        → outcome (Ok i) r y ≡ result s (forwarded (seg_view s) v i n (λ b. bs) [] f)
    unfolding result forward_left
    forward_done v n w y ew ey =
        let h = carried_two s new_step root_step t r o.took root_took others.0 root_exact in
        let g = told_both s v r (page_no i) (page_no k) forward_left w y ew ey in
        let d : outcome (Ok i) r y ≡ result s (forwarded (seg_view s) v i n (λ b. bs) [] (found (page_no k) (slot_no k) o.plan)) =
        λ z. record { answer = 0; id = i; seg = h z; inv = g z } in
        d ∙ ap (λ (x : Found). result s (forwarded (seg_view s) v i n (λ b. bs) [] x)) (sym o.is)

-- ---- the second forwarding: the root's entry names the new target, which left r

module _ (s : List ℕ) (i : ℕ) (bs : List ℕ) (j : ℕ) (f : Found) (k : ℕ) (t : List ℕ) (o : Placed s i bs (root_or_old i j) f k t)
    (follows : Follows s i j) (r : List ℕ)
    (er : r ≡ carried_on (on (page_no i) (redirect_plan ((seg_view t).page (page_no i)) (slot_no i) k)) t) where
  abbrev fresh_step : OnPage
  fresh_step = new_step s i bs j f k t o

  abbrev entry_step : OnPage
  entry_step = on (page_no i) (redirect_plan ((seg_view s).page (page_no i)) (slot_no i) (id_of (page_no k) (slot_no k)))

  abbrev old : OnPage
  old = old_step s i j follows.back

  apart : (page_no i ≢ page_no k) × (page_no j ≢ page_no k)
  apart = others s i bs j f k t o

  off_root : page_no j ≢ page_no i
  off_root = old_away s i j follows.back

  entry_exact : ExactOn s entry_step
  entry_exact =
      redirect_on_page s (page_no i) (slot_no i) (root_sound s i (Redirect j) follows.root) j follows.root.entry
      (id_of (page_no k) (slot_no k)) (placed_id s i bs j f k t o)

  entry_took : Took t entry_step r
  entry_took =
      next_took s fresh_step t o.took (page_no i) apart.0 (λ u. redirect_plan u (slot_no i) (id_of (page_no k) (slot_no k))) entry_exact r
      (er ∙ ap (λ (m : ℕ). carried_on (on (page_no i) (redirect_plan ((seg_view t).page (page_no i)) (slot_no i) m)) t) (whole_id k))

  -- neither step touched the old target's page
  pub again_asks : TakenOn r (page_no j) (slot_no j)
  again_asks =
      taken_still t entry_step r entry_took (page_no j) off_root (slot_no j)
      (taken_still s fresh_step t o.took (page_no j) apart.1 (slot_no j) (old_taken s i j follows.back))

  -- the old one is freed, which leaves q
  module _ (q : List ℕ) (eq : q ≡ carried_on (on (page_no j) (erase ((seg_view r).page (page_no j)) (slot_no j))) r) where
    freed : Took r old q
    freed =
        third_took s fresh_step t o.took entry_step r entry_took (page_no j) apart.1 off_root (λ u. erase u (slot_no j))
        (old_exact s i j follows.back) q eq

    pub again_left : BothLeft s q (page_no j) (page_no k)
    again_left =
        record {
          long = took_length r old q freed ∙ two_length s fresh_step entry_step t r o.took entry_took apart.0;
          within = ((old_taken s i j follows.back).whole, o.whole);
          one = old.plan.after;
          first = left_own r old q freed;
          two = fresh_step.plan.after;
          second = left_other r old q freed (page_no k) (λ e. apart.1 (sym e)) fresh_step.plan.after
              (first_left s fresh_step entry_step t r o.took entry_took apart.0);
        }

    pub again_done : (v : List ℕ) (n : ℕ) (w y : List ℕ) → w ≡ update v (length q / 16384) (page_no j) (view (page_of q (page_no j))).free_space
        → y ≡ update w (length q / 16384) (page_no k) (view (page_of q (page_no k))).free_space
        → outcome (Ok i) q y ≡ result s (forwarded_again (seg_view s) v i n (λ b. bs) j [] f)
    unfolding result again_left
    again_done v n w y ew ey =
        let h = carried_three s fresh_step entry_step t r o.took entry_took apart.0 entry_exact old q freed
        (old_exact s i j follows.back) apart.1 off_root in
        let g = told_both s v q (page_no j) (page_no k) again_left w y ew ey in
        let d : outcome (Ok i) q y ≡ result s (forwarded_again (seg_view s) v i n (λ b. bs) j [] (found (page_no k) (slot_no k) o.plan)) =
        λ z. record { answer = 0; id = i; seg = h z; inv = g z } in
        d ∙ ap (λ (x : Found). result s (forwarded_again (seg_view s) v i n (λ b. bs) j [] x)) (sym o.is)
