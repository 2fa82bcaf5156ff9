-- A relocated record's bytes: the old ones, cut off or filled up with zeros, are what the plan writes.
use mathlib.Core.Path.{◌≡◌, refl, sym, ap, ◌∙◌, subst}
use mathlib.Core.Bool.{true, false}
use mathlib.Core.List.{List, [], ◌∷◌, ◌++◌}
use mathlib.Core.Logic.{inr}
use Prim.Native.Nat.{ℕ, ◌+◌, ◌-◌, ◌*◌, ◌≤◌, ◌<◌}
use native.Mathlib.Omega.{arith}
use lib.ListN.{length, take, drop, length-append}
use lib.Seq.{take-take, take_all}
use lib.Dec.{ltb, eqb}
use borrow.Author.Tests.{ltb-true, ltb-false, eqb-true, eqb-false, le-ltb}
use Rattle.store.specs.Numbers.{put, cut, zeros, fit}
use Rattle.store.specs.Slots.{slot_bytes, off, len, is_record, placed}
use Rattle.store.specs.Page.{View, view}
use Rattle.store.specs.Answers.{given_place, allotted}
use Rattle.store.specs.PageSteps.{Edit, commit, run, with_head, stay, make_room, gap, move_under, parked, shrunk, resized, relocate_by, relocate, got}
use Rattle.store.specs.PageSteps.{Relocated, refused, moved}
use Rattle.store.proofs.Laws.Numbers.{put_nil, put_own, put_over, put_swap, length_put, cut_apart, cut_same}
use Rattle.store.proofs.Laws.Views.{upd_same}
use Rattle.store.specs.Laws.Lent.{UsedSlot}
use Rattle.store.proofs.Laws.Calls.{by_test}
use Rattle.store.proofs.Laws.Exact.{length_run}
use Rattle.store.proofs.Laws.Compactify.{placed_is}
use Rattle.store.proofs.Laws.Relocate.{Answered, relocate_answer}
use Rattle.store.proofs.Laws.Fit.{length_fit, fit_cut, fit_filled, fit_none, fit_add}
use Rattle.store.specs.declared.Slot.{Slot}
use Rattle.store.specs.declared.Slot.TheVariants.{Ordinary, Free, Redirect, Target}
use Rattle.page_places.specs.Words.{place_at}
use Rattle.layout.specs.Run.{head_of}
use Rattle.store.proofs.Laws.Writes.{write_append}
use Rattle.page_compactify.proofs.PackLaws.{shown_bytes}
use Rattle.slotted_page.specs.Words.{unfilled, page_bare, place_of, page_after}
use Rattle.page_relocate.specs.Words.{shrink_plan, grow_plan, alloc_of, page_moved, was_moved, refilled}
use Rattle.page_places.proofs.PlaceLaws.{given_is}
use Rattle.page_places.proofs.BareLaws.{commit_writes, run_bare}
use Rattle.slotted_page.proofs.FillLaws.{Ends, Ended, ends_by, commit_ends, written_done, fill_done}
use Rattle.page_relocate.proofs.MovedLaws.{moved_done, refused_done, refilled_done}
use Rattle.std.specs.Prelude.{Option, Some, None}
use Rattle.std.specs.Option.{is_some}
use Rattle.store.specs.declared.Place.{Place}

length_head : (c f d n : ℕ) → length (head_of c f d n) ≡ 12
unfolding head_of
length_head c f d n = refl

-- a record is not touched by the header and a slot's entry
cut_past : (p : List ℕ) (k c f d r o n : ℕ) (x : Slot) → (0 < n → 20 + 8 * k ≤ o)
    → cut (put (put p 0 (head_of c f d r)) (12 + 8 * k) (slot_bytes x)) o n ≡ cut p o n
cut_past p k c f d r o n x h =
    cut_apart (put p 0 (head_of c f d r)) (12 + 8 * k) (slot_bytes x) o n (λ b w. inr (omega (arith, h w)))
    ∙ cut_apart p 0 (head_of c f d r) o n (λ b w. inr (omega (arith, h w, length_head c f d r)))

-- the front of what was written, written again
put_front : (p : List ℕ) (i : ℕ) (a b x : List ℕ) → length a ≡ length x → put (put p i (a ++ b)) i x ≡ put p i (x ++ b)
put_front p i a b x e =
    ap (λ (q : List ℕ). put q i x) (write_append i a b p) ∙ put_swap (put p i a) i (i + length a) x b (omega arith)
    ∙ ap (λ (q : List ℕ). put q (i + length a) b) (put_over p i a x (omega arith)) ∙ rw e (sym (write_append i x b p))

long_record : (x : Slot) → 0 < len x → is_record x ≡ true
long_record (Ordinary o l) h = refl
long_record Free h = absurd (omega arith)
long_record (Redirect i) h = absurd (omega arith)
long_record (Target o l) h = refl

module _ (p : List ℕ) (k n : ℕ) (used : UsedSlot p k) where
  v : View
  v = view p

  old : List ℕ
  old = fit n (v.bytes k)

  past : (m : ℕ) → m ≤ len (v.at k) → 0 < m → 20 + 8 * k ≤ off (v.at k)
  unfolding v
  past m h z = omega (arith, used.sound.low k (omega arith), used.sound.dir)

  no_bytes : (i : ℕ) → v.at k ≡ Redirect i → v.bytes k ≡ []
  unfolding v
  no_bytes i e = sym (shown_bytes p k) ∙ rw e

  -- ---- what the plan writes

  same_ended : n ≡ len (v.at k) → Ends p k old [] v
  unfolding v old
  same_ended e =
      let f : fit n (v.bytes k) ≡ cut p (off (v.at k)) (len (v.at k)) = fit_cut n (v.bytes k) (omega (arith, used.sound.lens k))
      ∙ take_all n (v.bytes k) (omega (arith, used.sound.lens k)) ∙ sym (shown_bytes p k) in
      ends_by p k old [] v (sym (rw f (put_own p (off (v.at k)) (len (v.at k)) (omega (arith, used.sound.high k)))))

  less_ended : n < len (v.at k) → Ends p k old (shrink_plan v k n).edits (shrunk v k n)
  unfolding v old
  less_ended h =
      let f : take n (v.bytes k) ≡ fit n (v.bytes k) = sym (fit_cut n (v.bytes k) (omega (arith, used.sound.lens k))) in
      subst (λ (bs : List ℕ). Ends p k bs (shrink_plan v k n).edits (shrunk v k n)) f
      (commit_ends p [] (with_head v v.slot_count v.first_free v.data_start (v.free_space + (len (v.at k) - n))) k
      (placed (v.at k) (off (v.at k)) n) (take n (v.bytes k)))

  more_ended : Ends p k old (grow_plan v k n).edits (grow_plan v k n).after
  unfolding v old
  more_ended =
      let w : View = (make_room (parked v k) n).after in
      commit_ends p (commit k (parked v k) ∷ (make_room (parked v k) n).edits)
      (with_head w w.slot_count w.first_free (w.data_start - n) (w.free_space - n)) k (placed (v.at k) (w.data_start - n) n) old

  home_ended : (i : ℕ) → v.at k ≡ Redirect i → Ends p k old (move_under v k (Ordinary 0 0) n (zeros n)).edits (move_under v k (Ordinary 0 0) n (zeros n)).after
  unfolding v old
  home_ended i e =
      let w : View = (make_room v n).after in
      let f : zeros n ≡ fit n (v.bytes k) = sym (fit_none n) ∙ ap (fit n) (sym (no_bytes i e)) in
      subst (λ (bs : List ℕ). Ends p k bs (move_under v k (Ordinary 0 0) n (zeros n)).edits (move_under v k (Ordinary 0 0) n (zeros n)).after) f
      (commit_ends p (make_room v n).edits (with_head w w.slot_count w.first_free (w.data_start - n) (w.free_space - n)) k
      (Ordinary (w.data_start - n) n) (zeros n))

  -- ---- the cases of relocate

  relocate_cases : (P : Relocated → Type 0) → P refused → (n ≡ len (v.at k) → P (moved (stay v)))
      → (n < len (v.at k) → P (moved (shrink_plan v k n))) → (len (v.at k) < n → n - len (v.at k) ≤ v.free_space → P (moved (grow_plan v k n)))
      → ((i : ℕ) → v.at k ≡ Redirect i → n ≤ v.free_space → P (moved (move_under v k (Ordinary 0 0) n (zeros n)))) → P (relocate v k n)
  unfolding relocate
  relocate_cases P none same less more home = go (v.at k) refl
    where
      sized : P (resized v k n)
      sized =
          by_test P (eqb n (len (v.at k))) (moved (stay v)) _ (λ e. same (eqb-true n (len (v.at k)) e))
          (λ e. by_test P (ltb n (len (v.at k))) (moved (shrink_plan v k n)) _ (λ l. less (ltb-true n (len (v.at k)) l))
          (λ l. by_test P (ltb v.free_space (n - len (v.at k))) refused (moved (grow_plan v k n)) (λ r. none)
          (λ r. more (omega (arith, eqb-false n (len (v.at k)) e, ltb-false n (len (v.at k)) l)) (ltb-false v.free_space (n - len (v.at k)) r))))

      go : (x : Slot) → v.at k ≡ x → P (relocate_by x v k n)
      go (Ordinary o l) e = sized
      go Free e = none
      go (Redirect i) e = by_test P (ltb v.free_space n) refused (moved (move_under v k (Ordinary 0 0) n (zeros n))) (λ r. none)
          (λ r. home i e (ltb-false v.free_space n r))
      go (Target o l) e = sized

  relocate_ended : Ended p (fit n ((view p).bytes k)) (alloc_of k (relocate (view p) k n))
  unfolding v old
  relocate_ended = relocate_cases (λ r. Ended p old (alloc_of k r)) tt same_ended less_ended (λ h r. more_ended) (λ i e r. home_ended i e)

  -- "refused if growth exceeds free space"
  pub relocate_refused : len ((view p).at k) < n → (view p).free_space < n - len ((view p).at k) → relocate (view p) k n ≡ refused
  unfolding v
  relocate_refused h g = relocate_cases (λ r. r ≡ refused) refl (λ e. absurd (omega arith)) (λ l. absurd (omega arith)) (λ l r. absurd (omega arith))
      (λ i e r. absurd (omega (arith, ap len e)))

  -- a size that is not larger: the record's bytes stand there
  stands_less : n < len (v.at k) → run (unfilled (shrink_plan v k n).edits) p ≡ run (shrink_plan v k n).edits p
  unfolding v old
  stands_less h =
      let o : ℕ = off (v.at k) in
      let y : Slot = placed (v.at k) o n in
      let u : View = with_head v v.slot_count v.first_free v.data_start (v.free_space + (len (v.at k) - n)) in
      let q : List ℕ = run (unfilled (shrink_plan v k n).edits) p in
      let b = run_bare [] u k y (take n (v.bytes k)) p in
      let l : length q ≡ 16384 = ap length b ∙ length_put (put p 0 (head_of u.slot_count u.first_free u.data_start u.free_space)) (12 + 8 * k)
      (slot_bytes y) ∙ length_put p 0 (head_of u.slot_count u.first_free u.data_start u.free_space) ∙ used.whole in
      let e : cut q o n ≡ old =
      ap (λ (z : List ℕ). cut z o n) b ∙ cut_past p k u.slot_count u.first_free u.data_start u.free_space o n y (past n (omega arith))
      ∙ sym (take-take n (len (v.at k)) (drop o p) (omega arith)) ∙ ap (take n) (shown_bytes p k)
      ∙ sym (fit_cut n (v.bytes k) (omega (arith, used.sound.lens k))) in
      let a : off ((shrunk v k n).at k) ≡ o = ap off (upd_same v.at k y) ∙ (placed_is (v.at k) o n (long_record (v.at k) (omega arith))).off in
      sym ((less_ended h).written ∙ rw (a, ← e) (put_own q o n (omega (arith, used.sound.high k))))

  stands_home : (i : ℕ) → v.at k ≡ Redirect i → n ≤ len (v.at k)
      → run (unfilled (move_under v k (Ordinary 0 0) n (zeros n)).edits) p ≡ run (move_under v k (Ordinary 0 0) n (zeros n)).edits p
  unfolding v old
  stands_home i e h =
      let z : n ≡ 0 = omega (arith, ap len e) in
      let f : old ≡ [] = sym (sym (fit_none n) ∙ ap (fit n) (sym (no_bytes i e))) ∙ ap zeros z in
      sym ((home_ended i e).written ∙ rw f (put_nil _ _))

  pub stands : n ≤ len ((view p).at k) → page_bare (alloc_of k (relocate (view p) k n)) p ≡ page_after (alloc_of k (relocate (view p) k n)) p
  unfolding v
  stands h = relocate_cases (λ r. page_bare (alloc_of k r) p ≡ page_after (alloc_of k r) p) refl (λ e. refl) stands_less (λ l r. absurd (omega arith))
      (λ i e r. stands_home i e h)

  -- a larger size that the gap holds: the old bytes stand where they stood
  stays_more : n ≤ gap v → len (v.at k) < n → cut (run (unfilled (grow_plan v k n).edits) p) (off (v.at k)) (len (v.at k)) ≡ v.bytes k
  unfolding v old
  stays_more g h =
      let o : ℕ = off (v.at k) in
      let l : ℕ = len (v.at k) in
      let w : View = (make_room (parked v k) n).after in
      let es : List Edit = commit k (parked v k) ∷ (make_room (parked v k) n).edits in
      let t : ltb (gap v) n ≡ false = le-ltb (gap v) n g in
      let y : Slot = placed (v.at k) (w.data_start - n) n in
      let q : List ℕ = put (put p 0 (head_of v.slot_count v.first_free v.data_start (v.free_space + l))) (12 + 8 * k) (slot_bytes (Redirect 0)) in
      let r : run es p ≡ q = rw t (commit_writes (with_head v v.slot_count v.first_free v.data_start (v.free_space + l)) k (Redirect 0) [] p
      ∙ put_nil q 0) in
      ap (λ (z : List ℕ). cut z o l) (run_bare es (with_head w w.slot_count w.first_free (w.data_start - n) (w.free_space - n)) k y old p)
      ∙ cut_past (run es p) k w.slot_count w.first_free (w.data_start - n) (w.free_space - n) o l y (past l (omega arith))
      ∙ ap (λ (z : List ℕ). cut z o l) r
      ∙ cut_past p k v.slot_count v.first_free v.data_start (v.free_space + l) o l (Redirect 0) (past l (omega arith)) ∙ shown_bytes p k

  pub stays : n ≤ gap (view p) → len ((view p).at k) ≤ n
      → cut (page_bare (alloc_of k (relocate (view p) k n)) p) (off ((view p).at k)) (len ((view p).at k)) ≡ (view p).bytes k
  unfolding v
  stays g h =
      relocate_cases (λ r. cut (page_bare (alloc_of k r) p) (off (v.at k)) (len (v.at k)) ≡ v.bytes k) (shown_bytes p k) (λ e. shown_bytes p k)
      (λ l. absurd (omega arith)) (λ l r. stays_more g l)
      (λ i e r. ap (λ (x : Slot). cut (page_bare (got k (move_under v k (Ordinary 0 0) n (zeros n))) p) (off x) (len x)) e ∙ sym (no_bytes i e))

  -- ---- what the code leaves, once it has the place: slot j, offset d, and the page q₁ without the bytes

  abbrev R : Relocated
  R = relocate (view p) k n

  module _ (j d : ℕ) (q₁ q₂ : List ℕ) (e : given_place (place_at j d) ≡ allotted (alloc_of k (relocate (view p) k n)))
      (e₁ : q₁ ≡ page_bare (alloc_of k (relocate (view p) k n)) p) where
    there : place_at j d ≡ place_of (alloc_of k (relocate (view p) k n))
    there = given_is (place_at j d) (alloc_of k R) e

    pub bytes_done_lem : (bs : List ℕ) → length bs ≡ n → q₂ ≡ put q₁ d bs
        → (q₂ ≡ page_moved (refilled (relocate (view p) k n) k bs) p) × (true ≡ was_moved (relocate (view p) k n))
    bytes_done_lem bs l e₂ = refilled_done k p q₂ R j d bs there
        (fill_done j d (fit n ((view p).bytes k)) p q₁ q₂ (alloc_of k R) bs relocate_ended (l ∙ sym (length_fit n ((view p).bytes k))) there e₁ e₂)

    pub old_done : q₂ ≡ put q₁ d (fit n ((view p).bytes k)) → (q₂ ≡ page_moved (relocate (view p) k n) p) × (true ≡ was_moved (relocate (view p) k n))
    old_done e₂ = moved_done k p q₂ R j d there (written_done j d (fit n ((view p).bytes k)) p q₁ q₂ (alloc_of k R) relocate_ended there e₁ e₂)

    -- the old bytes moved from o, and zeros behind them
    pub grow_done : (o l : ℕ) (q₃ : List ℕ) → o ≡ off ((view p).at k) → l ≡ len ((view p).at k) → l ≤ n → n ≤ gap (view p)
        → q₂ ≡ put q₁ d (cut q₁ o l) → q₃ ≡ put q₂ (d + l) (zeros (n - l)) → q₃ ≡ put q₁ d (fit n ((view p).bytes k))
    grow_done o l q₃ eo el h g e₂ e₃ =
        let bs : List ℕ = (view p).bytes k in
        let b : length bs ≡ l = used.sound.lens k ∙ sym el in
        let a : cut q₁ o l ≡ bs = rw (e₁, eo, el) (stays g (omega arith)) in
        e₃ ∙ rw (e₂, a, fit_filled n bs (omega arith), ← b) (sym (write_append d bs (zeros (n - length bs)) q₁))

  -- a size that is not larger: moved or refused, there is nothing more to write
  pub settle_done : (r : Option Place) (q : List ℕ) → given_place r ≡ allotted (alloc_of k (relocate (view p) k n))
      → q ≡ page_bare (alloc_of k (relocate (view p) k n)) p → n ≤ len ((view p).at k)
      → (q ≡ page_moved (relocate (view p) k n) p) × (is_some r ≡ was_moved (relocate (view p) k n))
  settle_done (Some x) q e e₁ h = moved_done k p q R x.slot x.offset (there x.slot x.offset q q e e₁) (e₁ ∙ stands h)
  settle_done None q e e₁ h = refused_done p q k R e e₁

  -- the same with the bytes written again: the plan's own
  same_bytes_lem : (r : Relocated) (own : List ℕ) → Ended p own (alloc_of k r) → page_moved r p ≡ page_moved (refilled r k own) p
  same_bytes_lem refused own h = refl
  same_bytes_lem (moved a) own h = h.written ∙ sym (h.fills own refl)

  pub again_done : page_moved (relocate (view p) k n) p ≡ page_moved (refilled (relocate (view p) k n) k (fit n ((view p).bytes k))) p
  again_done = same_bytes_lem R (fit n ((view p).bytes k)) relocate_ended

  -- the old bytes, saved to the front of z
  pub saved_old : (o l : ℕ) (z z' : List ℕ) → o ≡ off ((view p).at k) → l ≡ len ((view p).at k) → l ≤ length z → z' ≡ put z 0 (cut p o l)
      → take l z' ≡ (view p).bytes k
  saved_old o l z z' eo el h e =
      let b : cut p o l ≡ (view p).bytes k = rw (eo, el) (shown_bytes p k) in
      ap (take l) e ∙ cut_same z 0 (cut p o l) l (ap length b ∙ used.sound.lens k ∙ sym el) (omega arith) ∙ b

-- a target relocated to m more than its 8 bytes, on the page q: x in place of these 8
pub record Kept (p : List ℕ) (k m : ℕ) (r : Relocated) (q : List ℕ) : Type 0 where
  pub whole : length q ≡ 16384
  pub counted : (k < (view q).slot_count) × (k < 2046)
  pub high : off ((view q).at k) + 8 ≤ 16384
  pub done : (x z : List ℕ) → length x ≡ 8 → z ≡ put q (off ((view q).at k)) x → z ≡ page_moved (refilled r k (x ++ fit m (drop 8 ((view p).bytes k)))) p

kept_by : (p : List ℕ) (k m : ℕ) (r : Relocated) (q : List ℕ) → length p ≡ 16384 → Ended p (fit (8 + m) ((view p).bytes k)) (alloc_of k r)
    → Answered p (view p) k (8 + m) r
    → true ≡ was_moved r → q ≡ page_moved r p → Kept p k m r q
kept_by p k m refused q whole f a e e₁ = let z : ◌≡◌ {A = ℕ} 0 1 = cc in absurd (omega arith)
kept_by p k m (moved a) q whole f h e e₁ =
    let w : View = a.after in
    let t : view q ≡ w = ap view e₁ ∙ h.exact.seen in
    let bs : List ℕ = (view p).bytes k in
    let b : List ℕ = run (unfilled a.edits) p in
    let o : ℕ = off (w.at k) in
    record {
      whole = ap length e₁ ∙ length_run a.edits p ∙ whole;
      counted = rw t (h.inside, omega (arith, h.inside, h.exact.sound.few));
      high = rw t (omega (arith, h.exact.sound.high k, h.size));
      done = λ x z l e₂.
          let own : List ℕ = x ++ fit m (drop 8 bs) in
          e₂ ∙ rw (t, e₁, f.written, fit_add 8 m bs) (put_front b o (fit 8 bs) (fit m (drop 8 bs)) x (length_fit 8 bs ∙ sym l))
          ∙ sym (f.fills own (length-append x (fit m (drop 8 bs)) ∙ omega (arith, length_fit m (drop 8 bs), length_fit (8 + m) bs)));
    }

pub target_kept : (p : List ℕ) (k m : ℕ) (q : List ℕ) → UsedSlot p k
    → q ≡ page_moved (relocate (view p) k (m + 8)) p → true ≡ was_moved (relocate (view p) k (m + 8)) → Kept p k m (relocate (view p) k (m + 8)) q
target_kept p k m q used e₁ e =
    let c : m + 8 ≡ 8 + m = omega arith in
    rw c
    (kept_by p k m (relocate (view p) k (8 + m)) q used.whole (relocate_ended p k (8 + m) used)
    (relocate_answer p (view p) used.whole refl used.sound k used.counted (8 + m) (λ t. omega arith))
    (rw c at e) (rw c at e₁))
