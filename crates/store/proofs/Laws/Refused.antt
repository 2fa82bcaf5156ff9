-- For all bytes, damaged ones too: a plan that is refused has no step and the inventory as it was, its answer is one of 0 to 8, one that is
-- carried out has the id that it was lent, and the inventory is as long as it was.
use Rattle.std.specs.Prelude.{ℕ, ◌+◌, ◌≤◌, ◌<◌, ◌≡◌, Bool, true, false, cond, not, ◌&&◌, ◌||◌, List, [], ◌≢◌, length, eqb, ltb, leb}
use Rattle.std.proofs.Math.Path.{refl}
use Rattle.std.proofs.Common.{ap, ◌∙◌, arith, leb-true}
use Rattle.store.specs.Numbers.{page_no, slot_no}
use Rattle.store.specs.Page.{sound}
use Rattle.store.specs.PageSteps.{Alloc, no_room, got, allocate, Relocated, refused, moved, relocate}
use Rattle.store.specs.Inventory.{found_in, update}
use Rattle.store.specs.Refusals.{SIZE, NOPAGE, LONG, DAMAGED, NONE, FORWARDED}
use Rattle.store.specs.Segment.{SegView, seg_view, size_ok, inv_ok, OnPage, Out, done, refuse, refuse_if, Found, nowhere}
use Rattle.store.specs.Segment.{found, taken, find_on, find, inserted, insert_plan, points_back, forwarded, from_ordinary, forwarded_again, at_target}
use Rattle.store.specs.Segment.{at_home, store_by, store_plan, erase_by, erase_plan}
use Rattle.store.specs.Calls.{Call, insert, allocate as allocate_call, write, resize, erase}
use Rattle.store.specs.SoundSegment.{slot_on, Root}
use Rattle.store.proofs.Laws.Cases.{never}
use Rattle.store.proofs.Laws.SoundPage.{and_both}
use Rattle.store.proofs.Laws.Roots.{by_root_lem}
use Rattle.store.proofs.Laws.Calls.{by_test}
use Rattle.store.proofs.Laws.Segments.{planned}
use Rattle.store.proofs.Laws.Plans.{plan_of}
use Rattle.store.proofs.Laws.Settled.{length_update}
use Rattle.std.specs.Prelude.{Option, Some, None}
use Rattle.store.specs.declared.Slot.{Slot}
use Rattle.store.specs.declared.Slot.TheVariants.{Ordinary, Free, Redirect, Target}

-- ---- what holds of every plan

-- the numbers of the refusals
abbrev pub refusal_no : ℕ → Bool
refusal_no a = ltb 0 a && leb a 8

-- P is of the id that is answered
pub record RefusedOrDone (v : List ℕ) (P : ℕ → Type 0) (o : Out) : Type 0 where
  pub keeps : o.answer ≢ 0 → (o.steps ≡ []) × (o.inv ≡ v)
  pub most : o.answer ≤ 8
  pub id : o.answer ≡ 0 → P o.id
  pub long : length o.inv ≡ length v

module _ (v : List ℕ) (P : ℕ → Type 0) where
  refusal : (a : ℕ) → refusal_no a ≡ true → RefusedOrDone v P (refuse v a)
  refusal a h = record { keeps = λ n. (refl, refl); most = leb-true a 8 (and_both (ltb 0 a) (leb a 8) h).1; id = λ e. never h (ap refusal_no e); long = refl }

  -- one page is told to the inventory, or two
  told_once : (i : ℕ) (es : List OnPage) (n p r : ℕ) → P i → RefusedOrDone v P (done i es (update v n p r))
  told_once i es n p r own = record { keeps = λ e. absurd (e refl); most = omega arith; id = λ e. own; long = length_update v n p r }

  told_twice : (i : ℕ) (es : List OnPage) (n p r m q t : ℕ) → P i → RefusedOrDone v P (done i es (update (update v n p r) m q t))
  told_twice i es n p r m q t own =
      record {
        keeps = λ e. absurd (e refl);
        most = omega arith;
        id = λ e. own;
        long = length_update (update v n p r) m q t ∙ length_update v n p r;
      }

  refuse_if_lem : (b : Bool) (a : ℕ) (o : Out) → refusal_no a ≡ true → RefusedOrDone v P o → RefusedOrDone v P (refuse_if b v a o)
  refuse_if_lem true a o h k = refusal a h
  refuse_if_lem false a o h k = k

-- ---- a place

abbrev NumberMost : Found → Type 0
NumberMost (nowhere a) = refusal_no a ≡ true
NumberMost (found p k a) = Unit {0}

taken_most : (p : ℕ) (a : Alloc) → NumberMost (taken p a)
taken_most p no_room = refl
taken_most p (got k a) = tt

find_most : (u : SegView) (v : List ℕ) (m : ℕ) (ex : ℕ → Bool) → NumberMost (find found_in u v m ex)
unfolding find
find_most u v m ex = go (found_in v u.pages (m + 8))
  where
    go : (n : Option ℕ) → NumberMost (find_on u m ex n)
    go None = refl
    go (Some p) =
        by_test NumberMost (not (sound (u.page p))) (nowhere 4) (cond (ex p) (nowhere 8) (taken p (allocate (u.page p) m)))
        (λ e. refl)
        (λ e. by_test NumberMost (ex p) (nowhere 8) (taken p (allocate (u.page p) m)) (λ x. refl)
        (λ x. taken_most p (allocate (u.page p) m)))

-- ---- the plans

-- the id answered is i, of a root
abbrev pub OwnRoot : SegView → ℕ → Slot → ℕ → Type 0
OwnRoot u i x j = (j ≡ i) × (page_no i < u.pages) × Root x

module _ (u : SegView) (v : List ℕ) where
  inserted_keeps : (bs : List ℕ) (f : Found) → NumberMost f → RefusedOrDone v (λ j. Unit {0}) (inserted u v bs f)
  inserted_keeps bs (nowhere a) h = refusal v _ a h
  inserted_keeps bs (found p k a) h = told_once v _ _ _ _ _ _ tt

  insert_plan_lem : (bs : List ℕ) → RefusedOrDone v (λ j. Unit {0}) (insert_plan found_in u v bs)
  unfolding insert_plan
  insert_plan_lem bs = refuse_if_lem v _ (ltb 16364 (length bs)) LONG _ refl
      (inserted_keeps bs (find found_in u v (length bs) (λ p. false)) (find_most u v (length bs) (λ p. false)))

  module _ (i size : ℕ) (new : List ℕ → List ℕ) where
    module _ (P : ℕ → Type 0) (own : P i) where
      forwarded_keeps : (old : List ℕ) (f : Found) → NumberMost f → RefusedOrDone v P (forwarded u v i size new old f)
      forwarded_keeps old (nowhere a) h = refusal v P a h
      forwarded_keeps old (found q j a) h = told_twice v P _ _ _ _ _ _ _ _ own

      ordinary_keeps : (old : List ℕ) (r : Relocated) → RefusedOrDone v P (from_ordinary found_in u v i size new old r)
      ordinary_keeps old (moved a) = told_once v P _ _ _ _ _ own
      ordinary_keeps old refused = let ex : ℕ → Bool = λ p. eqb p (page_no i) in
          forwarded_keeps old (find found_in u v (size + 8) ex) (find_most u v (size + 8) ex)

      again_keeps : (t : ℕ) (old : List ℕ) (f : Found) → NumberMost f → RefusedOrDone v P (forwarded_again u v i size new t old f)
      again_keeps t old (nowhere a) h = refusal v P a h
      again_keeps t old (found q j a) h = told_twice v P _ _ _ _ _ _ _ _ own

      target_keeps : (t : ℕ) (old : List ℕ) (r : Relocated) → RefusedOrDone v P (at_target found_in u v i size new t old r)
      target_keeps t old (moved a) = told_once v P _ _ _ _ _ own
      target_keeps t old refused = let ex : ℕ → Bool = λ p. eqb p (page_no i) || eqb p (page_no t) in
          again_keeps t old (find found_in u v (size + 8) ex) (find_most u v (size + 8) ex)

      home_keeps : (t : ℕ) (old : List ℕ) (r : Relocated) → RefusedOrDone v P (at_home found_in u v i size new t old r)
      home_keeps t old (moved a) = told_twice v P _ _ _ _ _ _ _ _ own
      home_keeps t old refused = target_keeps t old (relocate (u.page (page_no t)) (slot_no t) (size + 8))

    by_slot : page_no i < u.pages → (x : Slot) → RefusedOrDone v (OwnRoot u i x) (store_by found_in u v i size new x)
    by_slot l (Ordinary o k) = ordinary_keeps _ (refl, l, tt) _ (relocate (u.page (page_no i)) (slot_no i) size)
    by_slot l Free = refusal v _ NONE refl
    by_slot l (Redirect t) =
        refuse_if_lem v _ (not (points_back u i t)) DAMAGED _ refl
        (home_keeps _ (refl, l, tt) t _ (relocate (u.page (page_no i)) (slot_no i) size))
    by_slot l (Target o k) = refusal v _ FORWARDED refl

    store_plan_lem : RefusedOrDone v (OwnRoot u i (slot_on u i)) (store_plan found_in u v i size new)
    unfolding store_plan
    store_plan_lem =
        refuse_if_lem v _ (ltb 16364 size) LONG _ refl
        (by_root_lem (RefusedOrDone v (OwnRoot u i (slot_on u i))) u i (refuse v) (store_by found_in u v i size new)
        (λ e. refusal v _ NOPAGE refl) (λ e f. refusal v _ DAMAGED refl) (λ e f. by_slot e (slot_on u i)))

  erase_by_lem : (i : ℕ) → page_no i < u.pages → (x : Slot) → RefusedOrDone v (OwnRoot u i x) (erase_by u v i x)
  erase_by_lem i l (Ordinary o k) = told_once v _ _ _ _ _ _ (refl, l, tt)
  erase_by_lem i l Free = refusal v _ NONE refl
  erase_by_lem i l (Redirect t) = refuse_if_lem v _ (not (points_back u i t)) DAMAGED _ refl (told_twice v _ _ _ _ _ _ _ _ _ (refl, l, tt))
  erase_by_lem i l (Target o k) = refusal v _ FORWARDED refl

  erase_plan_lem : (i : ℕ) → RefusedOrDone v (OwnRoot u i (slot_on u i)) (erase_plan u v i)
  unfolding erase_plan
  erase_plan_lem i =
      by_root_lem (RefusedOrDone v (OwnRoot u i (slot_on u i))) u i (refuse v) (erase_by u v i) (λ e. refusal v _ NOPAGE refl)
      (λ e f. refusal v _ DAMAGED refl) (λ e f. erase_by_lem i e (slot_on u i))

-- what is known of the id that a call answers
abbrev pub AnswersId : SegView → Call → ℕ → Type 0
AnswersId u (insert bs) j = Unit {0}
AnswersId u (allocate_call n) j = Unit {0}
AnswersId u (write i bs) j = OwnRoot u i (slot_on u i) j
AnswersId u (resize i n) j = OwnRoot u i (slot_on u i) j
AnswersId u (erase i) j = OwnRoot u i (slot_on u i) j

call_plan : (u : SegView) (v : List ℕ) (c : Call) → RefusedOrDone v (AnswersId u c) (plan_of c v u)
call_plan u v (insert bs) = insert_plan_lem u v bs
call_plan u v (allocate_call n) = refuse_if_lem v _ (ltb 16364 n) LONG _ refl (insert_plan_lem u v _)
call_plan u v (write i bs) = store_plan_lem u v i _ _
call_plan u v (resize i n) = store_plan_lem u v i _ _
call_plan u v (erase i) = erase_plan_lem u v i

-- ---- the five writing calls

module _ (c : Call) (s v : List ℕ) where
  pub tested : RefusedOrDone v (AnswersId (seg_view s) c) (planned (plan_of c v) v s)
  tested = refuse_if_lem v _ (not (size_ok s && inv_ok v)) SIZE _ refl (call_plan (seg_view s) v c)
