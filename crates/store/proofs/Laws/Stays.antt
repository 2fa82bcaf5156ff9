-- From a sound segment each plan leaves one: redirects and targets paired, the inventory true; and no plan answers 4 or 8. Over what is seen of
-- the segment and the inventory alone.
use Rattle.std.specs.Prelude.{ℕ, ◌+◌, ◌-◌, ◌*◌, ◌^◌, ◌≤◌, ◌<◌, Bool, true, cond, not}
use Rattle.std.specs.Prelude.{◌||◌, List, [], ◌∷◌, ◌++◌, ◌⊎◌, ◌≢◌, length, take, drop, eqb, ltb}
use Rattle.std.proofs.Math.Path.{◌≡◌, refl}
use Rattle.std.proofs.Common.{sym, ap, ◌∙◌, subst, ⊎_elim, arith, eq-eqb, ne_eqb, lt-ltb, eqb-true}
use Rattle.std.proofs.Math.Bool.{false}
use Rattle.std.proofs.Math.Decide.{ℕ_discrete, dec_lt}
use Rattle.std.proofs.lemmas.Bool.{eqb-false}
use Rattle.store.specs.Numbers.{be, to_be, zeros, upd, sum, page_no, slot_no, id_of}
use Rattle.store.proofs.Laws.Roots.{by_sound_root}
use Rattle.store.proofs.Laws.Slots.{tag}
use Rattle.store.specs.Slots.{off, len, is_free, is_target, placed}
use Rattle.store.specs.Page.{View, sound}
use Rattle.store.specs.PageSteps.{move, Plan, with_slot, Alloc, no_room, got, erase_for_redirect, Relocated, refused, moved, relocate, filled, plan}
use Rattle.store.specs.PageSteps.{allocate, erase}
use Rattle.store.specs.Inventory.{class_of, entry_for, Truth, update, found_in}
use Rattle.store.specs.Refusals.{DONE, NOPAGE, LONG, DAMAGED, STALE}
use Rattle.store.specs.Segment.{SegView, OnPage, on, Out, done, refuse, Found, nowhere, found, taken, find_on, need_for, find, inserted}
use Rattle.store.specs.Segment.{insert_plan, points_back, targeted, forwarded, from_ordinary, forwarded_again, at_target, at_home, from_redirect}
use Rattle.store.specs.Segment.{store_by, store_plan, erase_by, erase_plan, Read, no_read}
use Rattle.store.proofs.Laws.Numbers.{be_to_be}
use Rattle.store.proofs.Laws.Classes.{class_low, class_top, class_mono}
use Rattle.store.proofs.Laws.Truth.{truth_by}
use Rattle.store.specs.Laws.Views.{Sound}
use Rattle.store.proofs.Laws.SoundPage.{sound_test}
use Rattle.store.proofs.Laws.Segments.{settled_on, settled}
use Rattle.store.proofs.Laws.Calls.{by_test, target_taken, named_tells}
use Rattle.store.proofs.Laws.Cases.{never, or_true, or_false}
use Rattle.store.proofs.Laws.OneSlot.{cost_most}
use Rattle.store.proofs.Laws.Changes.{Writes, Headed, Changes, retag, fill_changes, alloc_changes, AllocChanges, erase_changes, redirect_changes}
use Rattle.store.proofs.Laws.Changes.{entry_changes, Relocates, relocate_changes}
use Rattle.store.specs.SoundSegment.{slot_on, bytes_on, Root, nibble_of, classes}
use Rattle.store.proofs.Laws.Pairs.{PairOk, Pairs, tag_on, tag_target, moves_by, Moves, look, row_at, Plain, pairs_one, pairs_target}
use Rattle.store.proofs.Laws.Pairs.{pairs_home, pairs_again, pairs_forward}
use Rattle.store.proofs.Laws.Settled.{page_else, tags_step, bytes_step, classes_step, classes_same, classes_bounded, changed_bounded}
use Rattle.store.proofs.Laws.Settled.{changed_swap, update_true, length_update}
use Rattle.std.specs.Prelude.{Option, Some, None}
use Rattle.store.specs.declared.Slot.{Slot}
use Rattle.store.specs.declared.Slot.TheVariants.{Ordinary, Free, Redirect, Target}

-- ---- what holds of a plan

-- the page is left in use, and what it was not in use before is written: entries and header
pub record StepOk (v : View) (a : Plan) : Type 0 where
  pub used : 0 < a.after.slot_count
  pub writes : (j : ℕ) → j < a.after.slot_count → (j < v.slot_count) ⊎ Writes j a.edits
  pub header : (0 < v.slot_count) ⊎ Headed a.edits

abbrev pub AllSteps : SegView → List OnPage → Type 0
AllSteps u [] = Unit {0}
AllSteps u (e ∷ es) = StepOk (u.page e.on) e.plan × AllSteps (settled_on e u) es

-- w is what the answer's id reads as after a call that is carried out
pub record Stays (u : SegView) (v : List ℕ) (w : Read) (o : Out) : Type 0 where
  pub steps : AllSteps u o.steps
  pub pairs : Pairs u.pages (tag_on (settled o.steps u)) (bytes_on (settled o.steps u))
  pub own : o.answer ≡ 0 → look (bytes_on (settled o.steps u)) o.id (tag_on (settled o.steps u) o.id) ≡ w
  pub others : (j : ℕ) → page_no j < u.pages → (o.answer ≡ 0 → j ≢ o.id) → Root (tag_on u j)
      → (tag_on (settled o.steps u) j ≡ tag_on u j)
      × (look (bytes_on (settled o.steps u)) j (tag_on (settled o.steps u) j) ≡ look (bytes_on u) j (tag_on u j))
  pub plain : o.answer ≡ 0 → is_target (tag_on (settled o.steps u) o.id) ≡ false
  pub rows : (j : ℕ) → page_no j < u.pages → (o.answer ≡ 0 → j ≢ o.id)
      → row_at (bytes_on (settled o.steps u)) j (tag_on (settled o.steps u) j) ≡ row_at (bytes_on u) j (tag_on u j)
  pub below : o.answer ≡ 0 → page_no o.id < u.pages
  pub truth : Truth (classes (settled o.steps u)) u.pages o.inv
  pub long : length o.inv ≡ length v
  pub whole : o.answer ≢ 4
  pub current : o.answer ≢ 8

abbrev pub wrote : List ℕ → Read
wrote bs = record { answer = 0; bytes = bs }

-- the record's bytes before
abbrev pub old_bytes : SegView → ℕ → List ℕ
old_bytes u i = (look (bytes_on u) i (tag_on u i)).bytes

step_ok : (v : View) (k : ℕ) (x : Slot) (bs : List ℕ) (a : Plan) → Changes v k x bs a → StepOk v a
step_ok v k x bs a c = record { used = c.used; writes = c.writes; header = c.header }

pub counted : (v : View) → Sound v → (k : ℕ) → is_free (v.at k) ≡ false → k < v.slot_count
counted v s k f = go (dec_lt k v.slot_count)
  where
    go : Dec (k < v.slot_count) → k < v.slot_count
    go (yes l) = l
    go (no l) =
        let e : is_free (v.at k) ≡ true = ap is_free (s.past k (omega arith)) in
        let z : ◌≡◌ {A = ℕ} 0 1 = cc in absurd (omega arith)

pub id_of_lem : (i : ℕ) → id_of (page_no i) (slot_no i) ≡ i
id_of_lem i = omega arith

pub page_of_lem : (p k : ℕ) → k < 65536 → page_no (id_of p k) ≡ p
page_of_lem p k h = omega arith

pub slot_no_of : (p k : ℕ) → k < 65536 → slot_no (id_of p k) ≡ k
slot_no_of p k h = omega arith

back_read : (i : ℕ) (xs : List ℕ) → i < 256 ^ 8 → be (take 8 (to_be 8 i ++ xs)) ≡ i
back_read i xs h = be_to_be 8 h

-- neither 0, nor one of the two refusals that a sound segment does not give
abbrev pub fine : ℕ → Bool
fine a = not (eqb a DONE || eqb a DAMAGED || eqb a STALE)

-- what is known of what is seen of a sound segment, and of its inventory
pub record Seen (u : SegView) (v : List ℕ) : Type 0 where
  pub sounds : (p : ℕ) → Sound (u.page p)
  pub few : u.pages ≤ 32527
  pub one : length v ≡ 16384
  pub pairs : Pairs u.pages (tag_on u) (bytes_on u)
  pub truth : Truth (classes u) u.pages v

module _ (u : SegView) (v : List ℕ) (seen : Seen u v) where
  -- a refusal that a sound segment may give
  pub refusal : (w : Read) (a : ℕ) → fine a ≡ true → Stays u v w (refuse v a)
  refusal w a f = record {
    steps = tt;
    pairs = seen.pairs;
    own = λ e. never f (ap fine e);
    others = λ j l n r. (refl, refl);
    plain = λ e. never f (ap fine e);
    rows = λ j l n. refl;
    below = λ e. never f (ap fine e);
    truth = seen.truth;
    long = refl;
    whole = λ e. never f (ap fine e);
    current = λ e. never f (ap fine e);
  }

  -- a plan that is carried out: steps that are right, an inventory that is true, and what they make of the ids
  carried_out_lem : (w : Read) (i : ℕ) → page_no i < u.pages → (es : List OnPage) (x : List ℕ) → AllSteps u es → Truth (classes (settled es u)) u.pages x
      → length x ≡ length v → Moves u.pages (tag_on u) (bytes_on u) (tag_on (settled es u)) (bytes_on (settled es u)) i w → Stays u v w (done i es x)
  carried_out_lem w i at_id_lem es x steps inv long g =
      record {
        steps = steps;
        pairs = g.pairs;
        own = λ e. g.own;
        others = λ j l n r. g.others j l (n refl) r;
        plain = λ e. g.plain;
        rows = λ j l n. g.rows j l (n refl);
        below = λ e. at_id_lem;
        truth = inv;
        long = long;
        whole = λ e. omega arith;
        current = λ e. omega arith;
      }

  -- ---- one, two and three steps

  module _ (w : Read) (i : ℕ) (at_id_lem : page_no i < u.pages) (p k : ℕ) (x : Slot) (bs : List ℕ) (a : Plan) (below : p < u.pages)
      (c : Changes (u.page p) k x bs a) (d : ℕ) (is : id_of p k ≡ d) where
    truth1 : Truth (classes (settled_on (on p a) u)) u.pages (update v u.pages p a.after.free_space)
    truth1 =
        truth_by _ (classes (settled_on (on p a) u)) u.pages _ (sym (classes_step u p a below c.used))
        (update_true (classes u) u.pages seen.few v seen.one (classes_bounded u) seen.truth p a.after.free_space below)

    one_step : Moves u.pages (tag_on u) (bytes_on u) (upd (tag_on u) d x) (upd (bytes_on u) d bs) i w
        → Stays u v w (done i (on p a ∷ []) (update v u.pages p a.after.free_space))
    one_step h =
        carried_out_lem w i at_id_lem (on p a ∷ []) _ (step_ok (u.page p) k x bs a c, tt) truth1 (length_update v u.pages p a.after.free_space)
        (moves_by u.pages (tag_on u) (bytes_on u) _ _ _ _ i w (tags_step u p k x bs a c d is) (bytes_step u p k x bs a c d is) h)

    module _ (q j : ℕ) (y : Slot) (cs : List ℕ) (b : Plan) (below' : q < u.pages) (c' : Changes (u.page q) j y cs b) (n : q ≢ p) (d' : ℕ)
        (is' : id_of q j ≡ d') where
      next : Changes ((settled_on (on p a) u).page q) j y cs b
      next = subst (λ (w : View). Changes w j y cs b) (sym (page_else u p a c.used q n)) c'

      tags2 : tag_on (settled_on (on q b) (settled_on (on p a) u)) ≡ upd (upd (tag_on u) d x) d' y
      tags2 = tags_step (settled_on (on p a) u) q j y cs b next d' is' ∙ ap (λ (T : ℕ → Slot). upd T d' y) (tags_step u p k x bs a c d is)

      bytes2 : bytes_on (settled_on (on q b) (settled_on (on p a) u)) ≡ upd (upd (bytes_on u) d bs) d' cs
      bytes2 = bytes_step (settled_on (on p a) u) q j y cs b next d' is' ∙ ap (λ (B : ℕ → List ℕ). upd B d' cs) (bytes_step u p k x bs a c d is)

      classes2 : classes (settled_on (on q b) (settled_on (on p a) u))
          ≡ upd (upd (classes u) p (class_of (16372 - a.after.free_space))) q (class_of (16372 - b.after.free_space))
      classes2 =
          classes_step (settled_on (on p a) u) q b below' c'.used
          ∙ ap (λ (f : ℕ → ℕ). upd f q (class_of (16372 - b.after.free_space))) (classes_step u p a below c.used)

      steps2 : AllSteps u (on p a ∷ on q b ∷ [])
      steps2 = (step_ok (u.page p) k x bs a c, (step_ok ((settled_on (on p a) u).page q) j y cs b next, tt))

      inv_two : (f : ℕ → ℕ) → f ≡ classes u → (w : List ℕ) → length w ≡ 16384 → Truth f u.pages w → (r s : ℕ)
          → Truth (upd (upd (classes u) p (class_of (16372 - r))) q (class_of (16372 - s))) u.pages (update (update w u.pages p r) u.pages q s)
      inv_two f e w o t r s =
          update_true (upd (classes u) p (class_of (16372 - r))) u.pages seen.few (update w u.pages p r) (length_update w u.pages p r ∙ o)
          (changed_bounded (classes u) p (16372 - r) (classes_bounded u))
          (update_true (classes u) u.pages seen.few w o (classes_bounded u) (truth_by f (classes u) u.pages w e t) p r below) q s below'

      two_steps : Moves u.pages (tag_on u) (bytes_on u) (upd (upd (tag_on u) d x) d' y) (upd (upd (bytes_on u) d bs) d' cs) i w
          → Stays u v w (done i (on p a ∷ on q b ∷ []) (update (update v u.pages p a.after.free_space) u.pages q b.after.free_space))
      two_steps h =
          carried_out_lem w i at_id_lem (on p a ∷ on q b ∷ []) _ steps2
          (truth_by _ (classes (settled_on (on q b) (settled_on (on p a) u))) u.pages _ (sym classes2)
          (inv_two (classes u) refl v seen.one seen.truth a.after.free_space b.after.free_space))
          (length_update (update v u.pages p a.after.free_space) u.pages q b.after.free_space
          ∙ length_update v u.pages p a.after.free_space)
          (moves_by u.pages (tag_on u) (bytes_on u) _ _ _ _ i w tags2 bytes2 h)

      -- the second page is updated first
      two_swapped : Moves u.pages (tag_on u) (bytes_on u) (upd (upd (tag_on u) d x) d' y) (upd (upd (bytes_on u) d bs) d' cs) i w
          → Stays u v w (done i (on p a ∷ on q b ∷ []) (update (update v u.pages q b.after.free_space) u.pages p a.after.free_space))
      two_swapped h =
          carried_out_lem w i at_id_lem (on p a ∷ on q b ∷ []) _ steps2
          (truth_by _ (classes (settled_on (on q b) (settled_on (on p a) u))) u.pages _
          (sym (classes2 ∙ changed_swap (classes u) p q (class_of (16372 - a.after.free_space)) (class_of (16372 - b.after.free_space)) n))
          (update_true (upd (classes u) q (class_of (16372 - b.after.free_space))) u.pages seen.few (update v u.pages q b.after.free_space)
          (length_update v u.pages q b.after.free_space ∙ seen.one)
          (changed_bounded (classes u) q (16372 - b.after.free_space) (classes_bounded u))
          (update_true (classes u) u.pages seen.few v seen.one (classes_bounded u)
          seen.truth q b.after.free_space below') p a.after.free_space below))
          (length_update (update v u.pages q b.after.free_space) u.pages p a.after.free_space
          ∙ length_update v u.pages q b.after.free_space)
          (moves_by u.pages (tag_on u) (bytes_on u) _ _ _ _ i w tags2 bytes2 h)

      -- the first page keeps its free space and is not updated
      module _ (was : 0 < (u.page p).slot_count) (kept : a.after.free_space ≡ (u.page p).free_space) (r m : ℕ) (z : Slot) (ds : List ℕ) (g : Plan)
          (below'' : r < u.pages) (c'' : Changes (u.page r) m z ds g)
          (n1 : r ≢ p) (n2 : r ≢ q) (d'' : ℕ) (is'' : id_of r m ≡ d'') where
        last : Changes ((settled_on (on q b) (settled_on (on p a) u)).page r) m z ds g
        last =
            subst (λ (w : View). Changes w m z ds g)
            (sym (page_else (settled_on (on p a) u) q b c'.used r n2 ∙ page_else u p a c.used r n1)) c''

        three_steps : Moves u.pages (tag_on u) (bytes_on u) (upd (upd (upd (tag_on u) d x) d' y) d'' z) (upd (upd (upd (bytes_on u) d bs) d' cs) d'' ds) i w
            → Stays u v w (done i (on p a ∷ on q b ∷ on r g ∷ []) (update (update v u.pages q b.after.free_space) u.pages r g.after.free_space))
        three_steps h =
            let u2 : SegView = settled_on (on q b) (settled_on (on p a) u) in
            let cl : classes (settled_on (on r g) u2)
            ≡ upd (upd (classes u) q (class_of (16372 - b.after.free_space))) r (class_of (16372 - g.after.free_space)) =
            classes_step u2 r g below'' c''.used
            ∙ ap (λ (f : ℕ → ℕ). upd f r (class_of (16372 - g.after.free_space)))
            (classes_step (settled_on (on p a) u) q b below' c'.used
            ∙ ap (λ (f : ℕ → ℕ). upd f q (class_of (16372 - b.after.free_space))) (classes_same u p a was c.used kept)) in
            let tg : tag_on (settled_on (on r g) u2) ≡ upd (upd (upd (tag_on u) d x) d' y) d'' z =
            tags_step u2 r m z ds g last d'' is'' ∙ ap (λ (T : ℕ → Slot). upd T d'' z) tags2 in
            let bt : bytes_on (settled_on (on r g) u2) ≡ upd (upd (upd (bytes_on u) d bs) d' cs) d'' ds =
            bytes_step u2 r m z ds g last d'' is'' ∙ ap (λ (B : ℕ → List ℕ). upd B d'' ds) bytes2 in
            carried_out_lem w i at_id_lem (on p a ∷ on q b ∷ on r g ∷ []) _ (steps2.0, (steps2.1.0, (step_ok (u2.page r) m z ds g last, tt)))
            (truth_by _ (classes (settled_on (on r g) u2)) u.pages _ (sym cl)
            (update_true (upd (classes u) q (class_of (16372 - b.after.free_space))) u.pages seen.few
            (update v u.pages q b.after.free_space) (length_update v u.pages q b.after.free_space ∙ seen.one)
            (changed_bounded (classes u) q (16372 - b.after.free_space) (classes_bounded u))
            (update_true (classes u) u.pages seen.few v seen.one (classes_bounded u)
            seen.truth q b.after.free_space below') r g.after.free_space below''))
            (length_update (update v u.pages q b.after.free_space) u.pages r g.after.free_space
            ∙ length_update v u.pages q b.after.free_space)
            (moves_by u.pages (tag_on u) (bytes_on u) _ _ _ _ i w tg bt h)

  -- ---- the page that a true inventory names has room to spare

  abbrev NamedRoomy : ℕ → Option ℕ → Type 0
  NamedRoomy need None = Unit {0}
  NamedRoomy need (Some p) = (p < u.pages) × (need ≤ (u.page p).free_space) × (0 < (u.page p).slot_count → need < (u.page p).free_space)

  roomy_page : (p need : ℕ) → need ≤ 16372 → p < u.pages → classes u p ≤ entry_for need
      → (need ≤ (u.page p).free_space) × (0 < (u.page p).slot_count → need < (u.page p).free_space)
  roomy_page p need h l c = go (ℕ_discrete (u.page p).slot_count 0) (dec_lt need (u.page p).free_space)
    where
      nibble : nibble_of (u.page p) ≤ entry_for need
      nibble = rw (lt-ltb p u.pages l) at c

      go : Dec ((u.page p).slot_count ≡ 0) → Dec (need < (u.page p).free_space)
          → (need ≤ (u.page p).free_space) × (0 < (u.page p).slot_count → need < (u.page p).free_space)
      go (yes e) d =
          let t : (u.page p).free_space + 8 * 0 + sum 0 (λ j. len ((u.page p).at j)) ≡ 16372 = rw e at (seen.sounds p).sums in
          (omega arith, λ q. absurd (omega arith))
      go (no e) (yes d) = (omega arith, λ q. d)
      go (no e) (no d) =
          let m : class_of (16372 - (u.page p).free_space) ≤ entry_for need = rw (ne_eqb (u.page p).slot_count 0 e) at nibble in
          absurd (omega (arith, class_mono (16372 - need) (16372 - (u.page p).free_space) (omega arith), class_low (16372 - need)))

  named_roomy : (need : ℕ) → NamedRoomy need (found_in v u.pages need)
  named_roomy need = go (found_in v u.pages need) refl
    where
      go : (m : Option ℕ) → found_in v u.pages need ≡ m → NamedRoomy need m
      go None e = tt
      go (Some p) e =
          let n = named_tells v u.pages need p e in
          let low = seen.truth.entries (entry_for need) (omega (arith, class_top (16372 - need), class_low (16372 - need))) in
          let y = roomy_page p need n.most n.below (subst (λ (q : ℕ). classes u q ≤ entry_for need) n.entry
          (low.here (subst (λ (q : ℕ). q < u.pages) (sym n.entry) n.below))) in
          (n.below, y.0, y.1)

  abbrev FoundFits : ℕ → (ℕ → Bool) → Found → Type 0
  FoundFits m ex (nowhere a) = a ≡ 7
  FoundFits m ex (found q j a) =
      (q < u.pages) × (ex q ≡ false) × ((u.page q).at j ≡ Free) × Changes (u.page q) j (Ordinary 0 m) (zeros m) a × (len (a.after.at j) ≡ m)

  find_fits : (m : ℕ) (ex : ℕ → Bool) → ((q : ℕ) → ex q ≡ true → (0 < (u.page q).slot_count) × ((u.page q).free_space ≤ need_for m))
      → FoundFits m ex (find found_in u v m ex)
  unfolding find
  find_fits m ex out = go (found_in v u.pages (need_for m)) (named_roomy (need_for m))
    where
      placed_in : (p : ℕ) → p < u.pages → ex p ≡ false → need_for m ≤ (u.page p).free_space → (a : Alloc) → AllocChanges (u.page p) (seen.sounds p) m a
          → FoundFits m ex (taken p a)
      placed_in p l x r no_room h = absurd (omega (arith, (cost_most (u.page p) m).0))
      placed_in p l x r (got k a) h = (l, x, h.0, h.1, h.2)

      go : (n : Option ℕ) → NamedRoomy (need_for m) n → FoundFits m ex (find_on u m ex n)
      go None h = refl
      go (Some p) h =
          by_test (FoundFits m ex) (not (sound (u.page p))) (nowhere 4) (cond (ex p) (nowhere 8) (taken p (allocate (u.page p) m)))
          (λ e. let y = sound_test (u.page p) (seen.sounds p) in let f : not (sound (u.page p)) ≡ false = ap not y in let z : ◌≡◌ {A = ℕ} 0 1 = cc in
          absurd (omega arith))
          (λ e. by_test (FoundFits m ex) (ex p) (nowhere 8) (taken p (allocate (u.page p) m))
          (λ x. absurd (omega (arith, (out p x).1, h.2 (out p x).0)))
          (λ x. placed_in p h.0 x h.1 (allocate (u.page p) m) (alloc_changes (u.page p) (seen.sounds p) m)))

  free_slot : (q j : ℕ) → j < 65536 → (u.page q).at j ≡ Free → slot_on u (id_of q j) ≡ Free
  free_slot q j l e = (λ i. (u.page (page_of_lem q j l i)).at (slot_no_of q j l i)) ∙ e

  free_tag : (q j : ℕ) → j < 65536 → (u.page q).at j ≡ Free → tag_on u (id_of q j) ≡ Free
  free_tag q j l e = ap tag (free_slot q j l e)

  -- ---- insert and allocate

  pub insert_stays : (bs : List ℕ) → Stays u v (wrote bs) (insert_plan found_in u v bs)
  unfolding insert_plan
  insert_stays bs =
      by_test (Stays u v (wrote bs)) (ltb 16364 (length bs)) (refuse v 3) (inserted u v bs (find found_in u v (length bs) (λ p. false)))
      (λ e. refusal (wrote bs) 3 refl)
      (λ e. go (find found_in u v (length bs) (λ p. false)) (find_fits (length bs) (λ p. false) (λ q x. let z : ◌≡◌ {A = ℕ} 0 1 = cc in absurd (omega arith))))
    where
      go : (f : Found) → FoundFits (length bs) (λ p. false) f → Stays u v (wrote bs) (inserted u v bs f)
      go (nowhere a) o = refusal (wrote bs) a (ap fine o)
      go (found q j a) o =
          let c = fill_changes (u.page q) j (Ordinary 0 (length bs)) (zeros (length bs)) a o.3 bs in
          one_step (wrote bs) (id_of q j) (subst (λ (p : ℕ). p < u.pages) (sym (page_of_lem q j o.3.small)) o.0) q j (Ordinary 0 (length bs)) bs
          (filled a j bs) o.0 c (id_of q j) refl
          (pairs_one u.pages (tag_on u) (bytes_on u) seen.pairs (id_of q j) (Ordinary 0 (length bs)) bs (wrote bs)
          (subst Plain (sym (free_tag q j o.3.small o.2)) tt) tt refl)

  -- an id that is handed out was free
  pub insert_new : (bs : List ℕ) → (insert_plan found_in u v bs).answer ≡ 0 → slot_on u (insert_plan found_in u v bs).id ≡ Free
  unfolding insert_plan
  insert_new bs =
      by_test (λ (o : Out). o.answer ≡ 0 → slot_on u o.id ≡ Free) (ltb 16364 (length bs)) (refuse v 3)
      (inserted u v bs (find found_in u v (length bs) (λ p. false))) (λ e x. absurd (omega arith))
      (λ e. go (find found_in u v (length bs) (λ p. false)) (find_fits (length bs) (λ p. false) (λ q x. let z : ◌≡◌ {A = ℕ} 0 1 = cc in absurd (omega arith))))
    where
      go : (f : Found) → FoundFits (length bs) (λ p. false) f → (inserted u v bs f).answer ≡ 0 → slot_on u (inserted u v bs f).id ≡ Free
      go (nowhere a) o x = absurd (omega arith)
      go (found q j a) o x = free_slot q j o.3.small o.2

  -- ---- a redirect of a sound segment leads to its target

  module _ (i t : ℕ) (below : page_no i < u.pages) (here : slot_on u i ≡ Redirect t) where
    partner : PairOk u.pages (tag_on u) (bytes_on u) i (Redirect t)
    partner = subst (PairOk u.pages (tag_on u) (bytes_on u) i) (ap tag here) (seen.pairs i below)

    is_target_lem : is_target (slot_on u t) ≡ true
    is_target_lem = sym (tag_target (slot_on u t)) ∙ partner.2

    pub points_back_lem : points_back u i t ≡ true
    points_back_lem =
        rw (
          lt-ltb (page_no t) u.pages partner.0,
          ne_eqb (page_no t) (page_no i) partner.1,
          sound_test (u.page (page_no t)) (seen.sounds (page_no t)),
          is_target_lem,
          eq-eqb (be (take 8 ((u.page (page_no t)).bytes (slot_no t)))) i partner.3,
        )

    target_used : is_free (slot_on u t) ≡ false
    target_used = target_taken (slot_on u t) is_target_lem

    target_counted : slot_no t < (u.page (page_no t)).slot_count
    target_counted = counted (u.page (page_no t)) (seen.sounds (page_no t)) (slot_no t) target_used

    root_taken : is_free (slot_on u i) ≡ false
    root_taken = ap is_free here

    root_counted : slot_no i < (u.page (page_no i)).slot_count
    root_counted = counted (u.page (page_no i)) (seen.sounds (page_no i)) (slot_no i) root_taken

    target_erased : Changes (u.page (page_no t)) (slot_no t) Free [] (erase (u.page (page_no t)) (slot_no t))
    target_erased = erase_changes (u.page (page_no t)) (seen.sounds (page_no t)) (slot_no t) target_counted target_used

    placed_target : (m : ℕ) → placed (slot_on u t) 0 m ≡ Target 0 m
    placed_target m = go (slot_on u t) is_target_lem
      where
        go : (x : Slot) → is_target x ≡ true → placed x 0 m ≡ Target 0 m
        go (Ordinary o l) e = let z : ◌≡◌ {A = ℕ} 0 1 = cc in absurd (omega arith)
        go Free e = let z : ◌≡◌ {A = ℕ} 0 1 = cc in absurd (omega arith)
        go (Redirect i) e = let z : ◌≡◌ {A = ℕ} 0 1 = cc in absurd (omega arith)
        go (Target o l) e = refl

  -- ---- erase

  pub erase_stays : (i : ℕ) → Stays u v (no_read 5) (erase_plan u v i)
  unfolding erase_plan
  erase_stays i =
      by_sound_root (Stays u v (no_read 5)) u i (refuse v) (erase_by u v i) (sound_test r (seen.sounds (page_no i)))
      (λ e. refusal (no_read 5) NOPAGE refl) (λ l. go l (r.at (slot_no i)) refl)
    where
      r : View
      r = u.page (page_no i)

      go : page_no i < u.pages → (x : Slot) → r.at (slot_no i) ≡ x → Stays u v (no_read 5) (erase_by u v i x)
      go l (Ordinary o k) e =
          one_step (no_read 5) i l (page_no i) (slot_no i) Free [] (erase r (slot_no i)) l
          (erase_changes r (seen.sounds (page_no i)) (slot_no i) (counted r (seen.sounds (page_no i)) (slot_no i) (ap is_free e)) (ap is_free e)) i
          (id_of_lem i)
          (pairs_one u.pages (tag_on u) (bytes_on u) seen.pairs i Free [] (no_read 5) (subst Plain (sym (ap tag e)) tt) tt refl)
      go l Free e = refusal (no_read 5) 5 refl
      go l (Redirect t) e =
          by_test (Stays u v (no_read 5)) (not (points_back u i t)) (refuse v 4)
          (done i (on (page_no i) (erase r (slot_no i)) ∷ on (page_no t) (erase (u.page (page_no t)) (slot_no t)) ∷ [])
          (update (update v u.pages (page_no t) (erase (u.page (page_no t)) (slot_no t)).after.free_space) u.pages (page_no i)
          (erase r (slot_no i)).after.free_space))
          (λ f. let y : not (points_back u i t) ≡ false = ap not (points_back_lem i t l e) in let z : ◌≡◌ {A = ℕ} 0 1 = cc in absurd (omega arith))
          (λ f.
          two_swapped (no_read 5) i l (page_no i) (slot_no i) Free [] (erase r (slot_no i)) l
          (erase_changes r (seen.sounds (page_no i)) (slot_no i) (root_counted i t l e) (root_taken i t l e)) i (id_of_lem i)
          (page_no t) (slot_no t) Free [] (erase (u.page (page_no t)) (slot_no t)) (partner i t l e).0 (target_erased i t l e) (partner i t l e).1 t
          (id_of_lem t)
          (pairs_home u.pages (tag_on u) (bytes_on u) seen.pairs i t l (ap tag e) Free [] (no_read 5) tt refl))
      go l (Target o k) e = refusal (no_read 5) 6 refl

  -- ---- write and resize

  module _ (i size : ℕ) (new : List ℕ → List ℕ) (below : page_no i < u.pages) where
    small_id : i < 256 ^ 8
    small_id = omega arith

    target_new : (old : List ℕ) (q j : ℕ) (a : Plan) (n : ℕ) → Changes (u.page q) j (Ordinary 0 n) (zeros n) a
        → Changes (u.page q) j (Target 0 (len (a.after.at j))) (to_be 8 i ++ new old) (targeted u v i size new j a old)
    target_new old q j a n c =
        retag (u.page q) j (Ordinary 0 n) (zeros n) a c (Target (off (a.after.at j)) (len (a.after.at j))) (to_be 8 i ++ new old)
        (move j (with_slot a.after j (Target (off (a.after.at j)) (len (a.after.at j))) (to_be 8 i ++ new old)))

    module _ (taken : is_free (slot_on u i) ≡ false) where
      inside : slot_no i < (u.page (page_no i)).slot_count
      inside = counted (u.page (page_no i)) (seen.sounds (page_no i)) (slot_no i) taken

      forwarded_stays : Plain (tag_on u i) → (old : List ℕ) (f : Found) → FoundFits (size + 8) (λ p. eqb p (page_no i)) f
          → Stays u v (wrote (new old)) (forwarded u v i size new old f)
      forwarded_stays plain old (nowhere a) o = refusal (wrote (new old)) a (ap fine o)
      forwarded_stays plain old (found q j a) o =
          let n : q ≢ page_no i = eqb-false q (page_no i) o.1 in
          let h = o.3.small in
          two_steps (wrote (new old)) i below (page_no i) (slot_no i) (Redirect (id_of q j)) []
          (erase_for_redirect (u.page (page_no i)) (slot_no i) (id_of q j)) below
          (redirect_changes (u.page (page_no i)) (seen.sounds (page_no i)) (slot_no i) inside taken (id_of q j)) i (id_of_lem i)
          q j (Target 0 (len (a.after.at j))) (to_be 8 i ++ new old) (targeted u v i size new j a old) o.0
          (target_new old q j a (size + 8) o.3) n (id_of q j) refl
          (pairs_forward u.pages (tag_on u) (bytes_on u) seen.pairs i (id_of q j) (len (a.after.at j)) (to_be 8 i ++ new old) below
          (subst (λ (p : ℕ). p < u.pages) (sym (page_of_lem q j h)) o.0)
          (λ e. n (sym (page_of_lem q j h) ∙ e)) plain (free_tag q j h o.2) (back_read i (new old) small_id))

      ordinary_stays : (o l : ℕ) → slot_on u i ≡ Ordinary o l → (old : List ℕ) (r : Relocated)
          → Relocates (u.page (page_no i)) (seen.sounds (page_no i)) (slot_no i) inside taken size r
          → Stays u v (wrote (new old)) (from_ordinary found_in u v i size new old r)
      ordinary_stays o l e old (moved a) m =
          one_step (wrote (new old)) i below (page_no i) (slot_no i) (placed (slot_on u i) 0 size) (new old) (filled a (slot_no i) (new old)) below
          (m (new old)) i (id_of_lem i)
          (pairs_one u.pages (tag_on u) (bytes_on u) seen.pairs i (placed (slot_on u i) 0 size) (new old) (wrote (new old))
          (subst Plain (sym (ap tag e)) tt) (subst Plain (sym (ap (λ (x : Slot). placed x 0 size) e)) tt)
          (ap (λ (x : Slot). look (λ m. new old) i (placed x 0 size)) e))
      ordinary_stays o l e old refused m =
          forwarded_stays (subst Plain (sym (ap tag e)) tt) old (find found_in u v (size + 8) (λ p. eqb p (page_no i)))
          (find_fits (size + 8) (λ p. eqb p (page_no i))
          (λ q x. subst (λ (p : ℕ). (0 < (u.page p).slot_count) × ((u.page p).free_space ≤ size + 8 + 8)) (sym (eqb-true q (page_no i) x))
          (omega (arith, inside), omega arith)))

      module _ (t : ℕ) (here : slot_on u i ≡ Redirect t) where
        again_stays : (old : List ℕ) (f : Found) → FoundFits (size + 8) (λ p. eqb p (page_no i) || eqb p (page_no t)) f
            → Stays u v (wrote (new old)) (forwarded_again u v i size new t old f)
        again_stays old (nowhere a) o = refusal (wrote (new old)) a (ap fine o)
        again_stays old (found q j a) o =
            let n = or_false (eqb q (page_no i)) (eqb q (page_no t)) o.1 in
            let ni : q ≢ page_no i = eqb-false q (page_no i) n.0 in
            let nt : q ≢ page_no t = eqb-false q (page_no t) n.1 in
            let h = o.3.small in
            let r : View = u.page (page_no i) in
            three_steps (wrote (new old)) i below (page_no i) (slot_no i) (Redirect (id_of q j)) []
            (plan (move (slot_no i) (with_slot r (slot_no i) (Redirect (id_of q j)) []) ∷ []) (with_slot r (slot_no i) (Redirect (id_of q j)) [])) below
            (entry_changes r (seen.sounds (page_no i)) (slot_no i) inside taken (Redirect (id_of q j)) []
            (move (slot_no i) (with_slot r (slot_no i) (Redirect (id_of q j)) []))) i (id_of_lem i)
            (page_no t) (slot_no t) Free [] (erase (u.page (page_no t)) (slot_no t)) (partner i t below here).0 (target_erased i t below here)
            (partner i t below here).1 t (id_of_lem t)
            (omega (arith, inside)) refl
            q j (Target 0 (len (a.after.at j))) (to_be 8 i ++ new old) (targeted u v i size new j a old) o.0
            (target_new old q j a (size + 8) o.3) ni nt (id_of q j) refl
            (pairs_again u.pages (tag_on u) (bytes_on u) seen.pairs i t below (ap tag here) (id_of q j) (len (a.after.at j)) (to_be 8 i ++ new old)
            (subst (λ (p : ℕ). p < u.pages) (sym (page_of_lem q j h)) o.0) (λ e. ni (sym (page_of_lem q j h) ∙ e))
            (λ e. nt (sym (page_of_lem q j h) ∙ ap page_no e)) (free_tag q j h o.2)
            (back_read i (new old) small_id))

        at_target_stays : (old : List ℕ) → (u.page (page_no i)).free_space < size → (r : Relocated)
            → Relocates (u.page (page_no t)) (seen.sounds (page_no t)) (slot_no t) (target_counted i t below here) (target_used i t below here) (size + 8) r
            → Stays u v (wrote (new old)) (at_target found_in u v i size new t old r)
        at_target_stays old short (moved a) m =
            let bs : List ℕ = to_be 8 i ++ new old in
            one_step (wrote (new old)) i below (page_no t) (slot_no t) (Target 0 (size + 8)) bs (filled a (slot_no t) bs) (partner i t below here).0
            (subst (λ (x : Slot). Changes (u.page (page_no t)) (slot_no t) x bs (filled a (slot_no t) bs)) (placed_target i t below here (size + 8))
            (m bs)) t (id_of_lem t)
            (pairs_target u.pages (tag_on u) (bytes_on u) seen.pairs i t below (ap tag here) (size + 8) bs (back_read i (new old) small_id))
        at_target_stays old short refused m =
            again_stays old (find found_in u v (size + 8) (λ p. eqb p (page_no i) || eqb p (page_no t)))
            (find_fits (size + 8) (λ p. eqb p (page_no i) || eqb p (page_no t))
            (λ q x.
            ⊎_elim
            (λ y. subst (λ (p : ℕ). (0 < (u.page p).slot_count) × ((u.page p).free_space ≤ size + 8 + 8)) (sym (eqb-true q (page_no i) y))
            (omega (arith, inside), omega arith))
            (λ y. subst (λ (p : ℕ). (0 < (u.page p).slot_count) × ((u.page p).free_space ≤ size + 8 + 8)) (sym (eqb-true q (page_no t) y))
            (omega (arith, target_counted i t below here), omega arith))
            (or_true (eqb q (page_no i)) (eqb q (page_no t)) x)))

        home_stays : (old : List ℕ) (r : Relocated) → Relocates (u.page (page_no i)) (seen.sounds (page_no i)) (slot_no i) inside taken size r
            → Stays u v (wrote (new old)) (at_home found_in u v i size new t old r)
        home_stays old (moved a) m =
            two_steps (wrote (new old)) i below (page_no i) (slot_no i) (placed (slot_on u i) 0 size) (new old) (filled a (slot_no i) (new old)) below
            (m (new old)) i (id_of_lem i)
            (page_no t) (slot_no t) Free [] (erase (u.page (page_no t)) (slot_no t)) (partner i t below here).0 (target_erased i t below here)
            (partner i t below here).1 t (id_of_lem t)
            (pairs_home u.pages (tag_on u) (bytes_on u) seen.pairs i t below (ap tag here) (placed (slot_on u i) 0 size) (new old) (wrote (new old))
            (subst Plain (sym (ap (λ (x : Slot). placed x 0 size) here)) tt)
            (ap (λ (x : Slot). look (λ m. new old) i (placed x 0 size)) here))
        home_stays old refused m =
            at_target_stays old m (relocate (u.page (page_no t)) (slot_no t) (size + 8))
            (relocate_changes (u.page (page_no t)) (seen.sounds (page_no t)) (slot_no t) (target_counted i t below here) (target_used i t below here)
            (size + 8))

  pub store_stays : (i size : ℕ) (new : List ℕ → List ℕ) → Stays u v (wrote (new (old_bytes u i))) (store_plan found_in u v i size new)
  unfolding store_plan
  store_stays i size new =
      by_test (Stays u v (wrote (new (old_bytes u i)))) (ltb 16364 size) (refuse v LONG) _
      (λ d. refusal (wrote (new (old_bytes u i))) LONG refl)
      (λ d. by_sound_root (Stays u v (wrote (new (old_bytes u i)))) u i (refuse v) (store_by found_in u v i size new) (sound_test r (seen.sounds (page_no i)))
      (λ e. refusal (wrote (new (old_bytes u i))) NOPAGE refl)
      (λ l. go l (r.at (slot_no i)) refl))
    where
      r : View
      r = u.page (page_no i)

      go : page_no i < u.pages → (x : Slot) → r.at (slot_no i) ≡ x → Stays u v (wrote (new (old_bytes u i))) (store_by found_in u v i size new x)
      go l (Ordinary o k) e =
          let y : is_free (slot_on u i) ≡ false = ap is_free e in
          let b : old_bytes u i ≡ r.bytes (slot_no i) = ap (λ (x : Slot). (look (bytes_on u) i (tag x)).bytes) e in
          subst (λ (z : List ℕ). Stays u v (wrote (new z)) (store_by found_in u v i size new (Ordinary o k))) (sym b)
          (ordinary_stays i size new l y o k e (r.bytes (slot_no i)) (relocate r (slot_no i) size)
          (relocate_changes r (seen.sounds (page_no i)) (slot_no i) (inside i size new l y) y size))
      go l Free e = refusal (wrote (new (old_bytes u i))) 5 refl
      go l (Redirect t) e =
          by_test (Stays u v (wrote (new (old_bytes u i)))) (not (points_back u i t)) (refuse v 4) (from_redirect found_in u v i size new t)
          (λ f. let y : not (points_back u i t) ≡ false = ap not (points_back_lem i t l e) in let z : ◌≡◌ {A = ℕ} 0 1 = cc in absurd (omega arith))
          (λ f.
          let y : is_free (slot_on u i) ≡ false = ap is_free e in
          let b : old_bytes u i ≡ drop 8 ((u.page (page_no t)).bytes (slot_no t)) = ap (λ (x : Slot). (look (bytes_on u) i (tag x)).bytes) e in
          subst (λ (z : List ℕ). Stays u v (wrote (new z)) (from_redirect found_in u v i size new t)) (sym b)
          (home_stays i size new l y t e (drop 8 ((u.page (page_no t)).bytes (slot_no t))) (relocate r (slot_no i) size)
          (relocate_changes r (seen.sounds (page_no i)) (slot_no i) (inside i size new l y) y size)))
      go l (Target o k) e = refusal (wrote (new (old_bytes u i))) 6 refl
