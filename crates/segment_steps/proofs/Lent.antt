-- One page of the segment lent on from its middle, to be written: what the borrow checker says of it, in the words of the plans.
use Prim.Native.Nat.{ℕ, ◌+◌, ◌*◌, ◌≤◌, ◌<◌}
use mathlib.Core.Path.{◌≡◌, refl, sym, ap, ◌∙◌}
use mathlib.Core.Bool.{true}
use mathlib.Core.List.{List, ◌++◌}
use native.Mathlib.Omega.{arith}
use lib.ListN.{length, take, drop}
use Rattle.std.proofs.Common.{drop-drop, Option, Some, MutBor}
use Rattle.std.specs.Array.{IsFirstChunk}
use Rattle.std.specs.Prelude.{MatchOption}
use Rattle.store.specs.Numbers.{put}
use Rattle.store.specs.Page.{View, view, sound}
use Rattle.store.specs.PageSteps.{run, Plan, Alloc, no_room, got}
use Rattle.store.specs.Segment.{seg_view, page_of, on, carried_on}
use Rattle.store.proofs.Laws.Numbers.{put_parts}
use Rattle.store.proofs.Laws.Exact.{length_run}
use Rattle.store.proofs.Laws.Segments.{length_page}
use Rattle.store.specs.Laws.Lent.{UsedSlot, TakenOn}
use Rattle.store.proofs.Laws.Calls.{page_ok}
use Rattle.store.proofs.Laws.SoundSegment.{seen_page, sound_closed}
use Rattle.slotted_page.specs.Words.{unfilled, page_bare}

-- a page with a place made on it is as long as it was
pub length_bare : (a : Alloc) (q : List ℕ) → length (page_bare a q) ≡ length q
length_bare no_room q = refl
length_bare (got k a) q = length_run (unfilled a.edits) q

-- page p of s as the code lends it to be written: the segment is split in front of it, and it is the first page of the rest
pub record Lends (s : List ℕ) (p : ℕ) (front rest page : List ℕ) : Type 0 where
  pub before : front ≡ take (p * 16384) s
  pub behind : rest ≡ drop (p * 16384) s
  pub first : page ≡ take 16384 rest

-- as the split and the first page of the rest tell it
pub lends : {s : List ℕ} {p : ℕ} {front rest : List ℕ} {chunk : Option (MutBor (List ℕ))} {page : MutBor (List ℕ)}
    → front ≡ take (p * 16384) s → rest ≡ drop (p * 16384) s → MatchOption chunk (length rest < 16384) (λ y. IsFirstChunk rest y.now 16384)
    → chunk ≡ Some page → Lends s p front rest page.now
lends f b cases e = record { before = f; behind = b; first = (rw e at cases).same }

module _ {s : List ℕ} {p : ℕ} {front rest page : List ℕ} (l : Lends s p front rest page) (fits : p * 16384 + 16384 ≤ length s) where
  pub lent_is : page ≡ page_of s p
  lent_is = l.first ∙ ap (take 16384) l.behind

  -- another page in its place
  pub lent_back : (out : List ℕ) → length out ≡ 16384 → front ++ (out ++ drop 16384 rest) ≡ put s (p * 16384) out
  lent_back out n = rw (l.before, l.behind, drop-drop) (sym (put_parts s (p * 16384) out (omega (arith, n)) ∙ rw n))

  pub lent_sound : sound ((seg_view s).page p) ≡ true → sound (view page) ≡ true
  lent_sound h = rw lent_is (sound_closed (view (page_of s p)) (ap sound (sym (seen_page s p)) ∙ h))

  -- `see` is how the step's contract looks at its page: `view` where it is in use, as opened where it may be fresh
  module _ (see : List ℕ → View) (seen : see (page_of s p) ≡ (seg_view s).page p) where
    -- what the step answers from the page
    pub lent_answer : {A : Type 0} (g : View → A) (r : A) → r ≡ g (see page) → r ≡ g ((seg_view s).page p)
    lent_answer g r e = e ∙ ap g (ap see lent_is ∙ seen)

    -- what it leaves, with the page back in its place
    pub lent_step : (f : View → List ℕ → List ℕ) → ((v : View) (q : List ℕ) → length (f v q) ≡ length q) → (out : List ℕ) → out ≡ f (see page) page
        → front ++ (out ++ drop 16384 rest) ≡ put s (p * 16384) (f ((seg_view s).page p) (page_of s p))
    lent_step f keeps out e =
        let g : out ≡ f ((seg_view s).page p) (page_of s p) = e ∙ ap (λ (q : List ℕ). f (see q) q) lent_is ∙ ap (λ (v : View). f v (page_of s p)) seen in
        lent_back out (ap length g ∙ keeps ((seg_view s).page p) (page_of s p) ∙ length_page s p fits) ∙ ap (put s (p * 16384)) g

    -- the same of a step with one plan
    pub lent_plan : (f : View → Plan) (out : List ℕ) → out ≡ run (f (see page)).edits page
        → front ++ (out ++ drop 16384 rest) ≡ carried_on (on p (f ((seg_view s).page p))) s
    lent_plan f = lent_step (λ v q. run (f v).edits q) (λ v q. length_run (f v).edits q)

-- a page with a slot that is not free, as the steps on that slot ask for it
pub lent_taken : {s : List ℕ} {p : ℕ} {front rest page : List ℕ} → Lends s p front rest page → (k : ℕ) → TakenOn s p k → UsedSlot page k
lent_taken {s} {p} l k h =
    let o = page_ok s p k h.whole h.sound h.taken in
    rw (lent_is l h.whole) (record { whole = length_page s p h.whole; sound = rw o.seen o.sound; counted = rw o.seen o.counted })
