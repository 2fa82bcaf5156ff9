-- What is known of a segment after page steps, for the calls that take several.
use Prim.Native.Nat.{ℕ, suc, ◌+◌, ◌*◌, ◌/◌, ◌^◌, ◌≤◌, ◌<◌}
use mathlib.Core.Path.{◌≡◌, refl, sym, ap, subst, ◌∙◌}
use mathlib.Core.Bool.{true, ◌&&◌}
use mathlib.Core.List.{List}
use mathlib.Core.Logic.{◌≢◌}
use native.Mathlib.Omega.{arith}
use native.Mathlib.Decide.{dec_lt}
use lib.ListN.{length}
use borrow.Author.Tests.{eqb-true}
use Rattle.store.specs.Numbers.{put, id_of}
use Rattle.store.specs.Page.{View, view}
use Rattle.store.specs.PageSteps.{opened, run, Plan, erase, Alloc, no_room, got, allocate}
use Rattle.store.specs.Inventory.{Room, update}
use Rattle.store.specs.Segment.{seg_view, page_of, OnPage, on, carried_on, size_ok, inv_ok}
use Rattle.store.proofs.Laws.Numbers.{length_put, put_own, put_swap}
use Rattle.store.proofs.Laws.Exact.{length_run}
use Rattle.store.proofs.Laws.Segments.{length_page, page_same, page_other, ExactOn, exact_skip}
use Rattle.store.specs.Laws.Lent.{SoundOn, TakenOn}
use Rattle.store.proofs.Laws.Calls.{PageOk, page_ok, erase_on, AllocOk, alloc_ok}
use Rattle.store.proofs.Laws.SoundPage.{and_both}
use Rattle.store.proofs.Laws.SoundSegment.{seen_page, seen_pages, sized}
use Rattle.store.specs.declared.Place.{Place}
use Rattle.std.specs.Prelude.{Option, Some, None}
use Rattle.segment_steps.specs.Words.{Sizes}
use Rattle.slotted_page.specs.Words.{page_after, place_at, place_of, target_at}

-- ---- sizes

pub sizes : (s v : List ℕ) → (size_ok s && inv_ok v) ≡ true → Sizes s v
sizes s v e =
    let a = and_both (size_ok s) (inv_ok v) e in
    record { few = (sized s a.0).few; one = eqb-true (length v) 16384 a.1 }

-- the inventory has room for the pages, of a segment as long and an inventory as long as those tested
pub sizes_room : (s v t w : List ℕ) → Sizes s v → length t ≡ length s → length w ≡ length v → Room w (length t / 16384)
sizes_room s v t w z l m = record { entries = omega (arith, z.one); pages = omega (arith, z.few, z.one) }

-- ---- one step

-- the page step e was carried out on s, and left t
pub record Took (s : List ℕ) (e : OnPage) (t : List ℕ) : Type 0 where
  pub exact : ExactOn s e
  pub is : t ≡ carried_on e s

-- what stands on page p, with a free space that an inventory can be told
pub record Left (t : List ℕ) (p : ℕ) (w : View) : Type 0 where
  pub seen : view (page_of t p) ≡ w
  pub room : w.free_space ≤ 16372

pub left_room : (t : List ℕ) (p : ℕ) (w : View) → Left t p w → (view (page_of t p)).free_space ≤ 16372
left_room t p w h = omega (arith, ap (λ (v : View). v.free_space) h.seen, h.room)

module _ (s : List ℕ) (e : OnPage) (x : ExactOn s e) where
  ran : List ℕ
  ran = run e.plan.edits (page_of s e.on)

  ran_whole : length ran ≡ 16384
  unfolding ran
  ran_whole = length_run e.plan.edits (page_of s e.on) ∙ length_page s e.on x.inside

  else_where : (q : ℕ) → q ≢ e.on → page_of (carried_on e s) q ≡ page_of s q
  unfolding ran
  else_where = page_other s e.on ran ran_whole

module _ (s : List ℕ) (e : OnPage) (t : List ℕ) (x : Took s e t) where
  pub took_length : length t ≡ length s
  took_length = ap length x.is ∙ length_put s (e.on * 16384) (run e.plan.edits (page_of s e.on))

  -- the step's page is left as its plan says
  pub left_own : Left t e.on e.plan.after
  unfolding ran
  left_own =
      record {
        seen = ap (λ (l : List ℕ). view (page_of l e.on)) x.is
            ∙ ap view (page_same s e.on (ran s e x.exact) (ran_whole s e x.exact) x.exact.inside) ∙ x.exact.exact.seen;
        room = omega (arith, x.exact.exact.sound.sums);
      }

  -- another page is as it was
  module _ (q : ℕ) (away : q ≢ e.on) where
    pub other_page : page_of t q ≡ page_of s q
    other_page = ap (λ (l : List ℕ). page_of l q) x.is ∙ else_where s e x.exact q away

    pub other_seen : (seg_view t).page q ≡ (seg_view s).page q
    other_seen = seen_page t q ∙ ap (λ (l : List ℕ). opened (view l)) other_page ∙ sym (seen_page s q)

    pub left_other : (w : View) → Left s q w → Left t q w
    left_other w h = record { seen = ap view other_page ∙ h.seen; room = h.room }

    -- what a step there asks of t, and what it leaves, are what the plans say of s
    pub still : (P : View → Type 0) → P ((seg_view s).page q) → P ((seg_view t).page q)
    still P = subst P (sym other_seen)

    pub next_took : (f : View → Plan) → ExactOn s (on q (f ((seg_view s).page q))) → (w : List ℕ) → w ≡ carried_on (on q (f ((seg_view t).page q))) t
        → Took t (on q (f ((seg_view s).page q))) w
    next_took f y w ew =
        record {
          exact = subst (λ (l : List ℕ). ExactOn l (on q (f ((seg_view s).page q)))) (sym x.is)
              (exact_skip s e (on q (f ((seg_view s).page q))) x.exact y away);
          is = ew ∙ ap (λ (v : View). carried_on (on q (f v)) t) other_seen;
        }

-- a third step, on a third page
module _ (s : List ℕ) (e : OnPage) (t : List ℕ) (x : Took s e t) (f : OnPage) (r : List ℕ) (y : Took t f r) (q : ℕ) (n : q ≢ e.on) (m : q ≢ f.on) where
  pub third_took : (g : View → Plan) → ExactOn s (on q (g ((seg_view s).page q))) → (w : List ℕ) → w ≡ carried_on (on q (g ((seg_view r).page q))) r
      → Took r (on q (g ((seg_view s).page q))) w
  third_took g z w ew =
      let h : OnPage = on q (g ((seg_view s).page q)) in
      let on_t : ExactOn t h = subst (λ (l : List ℕ). ExactOn l h) (sym x.is) (exact_skip s e h x.exact z n) in
      record {
        exact = subst (λ (l : List ℕ). ExactOn l h) (sym y.is) (exact_skip t f h y.exact on_t m);
        is = ew ∙ ap (λ (v : View). carried_on (on q (g v)) r) (other_seen t f r y q m ∙ other_seen s e t x q n);
      }

-- ---- which way a step went, from what it answered

pub record GotAt (x : Alloc) (j : ℕ) : Type 0 where
  pub to : Plan
  pub is : x ≡ got j to

abbrev slot_in : Option Place → ℕ
slot_in (Some x) = suc x.slot
slot_in None = 0

pub got_at : (x : Alloc) (j o : ℕ) → place_of x ≡ place_at j o → GotAt x j
got_at no_room j o e = let z : 0 ≡ suc j = ap slot_in e in absurd (omega arith)
got_at (got k a) j o e = let z : suc k ≡ suc j = ap slot_in e in let y : k ≡ j = omega arith in record { to = a; is = ap (λ (i : ℕ). got i a) y }

pub got_none : (x : Alloc) → place_of x ≡ None → x ≡ no_room
got_none no_room e = refl
got_none (got k a) e = let z : suc k ≡ 0 = ap slot_in e in absurd (omega arith)

-- ---- steps by name: on a slot that is not free

module _ (s : List ℕ) (p k : ℕ) (h : TakenOn s p k) where
  page : PageOk s p k
  page = page_ok s p k h.whole h.sound h.taken

  pub erase_on_page : ExactOn s (on p (erase ((seg_view s).page p) k))
  erase_on_page = erase_on s p k page h.taken

-- a new place of n bytes on a sound page, fresh or in use
module _ (s : List ℕ) (p : ℕ) (h : SoundOn s p) (n j : ℕ) (a : Plan) (way : allocate ((seg_view s).page p) n ≡ got j a) where
  pub place_made : AllocOk (page_of s p) n (got j a)
  unfolding seg_view
  place_made = subst (AllocOk (page_of s p) n) way (alloc_ok (page_of s p) n (length_page s p h.whole) h.sound)

  -- its id can stand in a redirect
  pub small_id : length s / 16384 ≤ 32527 → id_of p j < 2 ^ 62
  small_id few = omega (arith, h.whole, place_made.1, place_made.0.sound.few)

-- ---- a step refused leaves the segment as it was

module _ (s : List ℕ) (p : ℕ) (fits : p * 16384 + 16384 ≤ length s) (t : List ℕ) where
  pub no_room_same : (n : ℕ) → allocate ((seg_view s).page p) n ≡ no_room → (bs : List ℕ)
      → t ≡ put s (p * 16384) (page_after (target_at (allocate ((seg_view s).page p) n) bs) (page_of s p)) → t ≡ s
  no_room_same n way bs e =
      e ∙ ap (λ (x : Alloc). put s (p * 16384) (page_after (target_at x bs) (page_of s p))) way ∙ put_own s (p * 16384) 16384 fits

-- ---- two steps on different pages, in either order

pub carried_swap : (s : List ℕ) (e f : OnPage) → ExactOn s e → ExactOn s f → f.on ≢ e.on → carried_on f (carried_on e s) ≡ carried_on e (carried_on f s)
unfolding ran
carried_swap s e f x y n =
    ap (λ (l : List ℕ). put (carried_on e s) (f.on * 16384) (run f.plan.edits l)) (else_where s e x f.on n)
    ∙ swap (dec_lt e.on f.on)
    ∙ ap (λ (l : List ℕ). put (carried_on f s) (e.on * 16384) (run e.plan.edits l)) (sym (else_where s f y e.on (λ z. n (sym z))))
  where
    a : List ℕ
    a = ran s e x

    b : List ℕ
    b = ran s f y

    swap : Dec (e.on < f.on) → put (put s (e.on * 16384) a) (f.on * 16384) b ≡ put (put s (f.on * 16384) b) (e.on * 16384) a
    swap (yes l) = sym (put_swap s (e.on * 16384) (f.on * 16384) a b (omega (arith, ran_whole s e x)))
    swap (no l) = put_swap s (f.on * 16384) (e.on * 16384) b a (omega (arith, ran_whole s f y))

-- ---- the inventory, told of a page that the steps left

pub left_update : (s t : List ℕ) (p : ℕ) (u : View) → Left t p u → length t ≡ length s → (v w : List ℕ)
    → w ≡ update v (length t / 16384) p (view (page_of t p)).free_space → w ≡ update v (seg_view s).pages p u.free_space
left_update s t p u h l v w e =
    e ∙ ap (λ (x : View). update v (length t / 16384) p x.free_space) h.seen
    ∙ ap (λ (n : ℕ). update v n p u.free_space) (ap (λ (m : ℕ). m / 16384) l ∙ sym (seen_pages s))
