-- What is known of a segment after the steps that write and resize take.
use Prim.Native.Nat.{ℕ, ◌+◌, ◌*◌, ◌^◌, ◌≤◌, ◌<◌}
use mathlib.Core.Path.{◌≡◌, refl, sym, ap, subst, ◌∙◌}
use mathlib.Core.Bool.{Bool, true, false}
use mathlib.Core.List.{List, [], ◌∷◌, ◌++◌}
use native.Mathlib.Omega.{arith}
use lib.ListN.{length, drop, length-append}
use Rattle.store.specs.Numbers.{put, to_be}
use Rattle.store.specs.Slots.{off, len, is_free, is_target}
use Rattle.store.specs.Page.{View, view}
use Rattle.store.specs.PageSteps.{move, Plan, plan, stay, with_slot, filled, erase_for_redirect, got, allocate}
use Rattle.store.specs.PageSteps.{Relocated, refused, moved, relocate}
use Rattle.store.specs.Segment.{seg_view, page_of, on}
use Rattle.store.proofs.Laws.Numbers.{put_own}
use Rattle.store.proofs.Laws.Exact.{exact_then, length_run}
use Rattle.store.proofs.Laws.Segments.{length_page, ExactOn}
use Rattle.store.proofs.Laws.OneSlot.{redirect_exact}
use Rattle.store.proofs.Laws.Relocate.{fill_exact, retype_exact, relocate_answer, Answered, Moved}
use Rattle.store.specs.Laws.Lent.{SoundOn, TakenOn}
use Rattle.store.proofs.Laws.Calls.{PageOk, page_ok, shows_ok}
use Rattle.store.specs.declared.Slot.{Slot}
use Rattle.store.specs.declared.Slot.TheVariants.{Redirect, Target}
use Rattle.slotted_page.specs.Words.{target_plan, redirect_plan}
use Rattle.page_relocate.specs.Words.{page_moved, was_moved, refilled}
use Rattle.segment_steps.proofs.Lent.{Lends, lent_step, lent_answer}
use Rattle.segment_steps.proofs.After.{Took, place_made}

-- ---- one page lent on: the slot's record at another size

-- a page is as long after a relocate as it was
length_moved : (r : Relocated) (q : List ℕ) → length (page_moved r q) ≡ length q
length_moved refused q = refl
length_moved (moved a) q = length_run a.edits q

module _ {s : List ℕ} {p : ℕ} {front rest page : List ℕ} (l : Lends s p front rest page) (k : ℕ) (h : TakenOn s p k) where
  -- the slot's record at another size n: what is left and answered, where the bytes written are told from the page
  pub lent_moved : (n : ℕ) (bs : View → List ℕ) (out : List ℕ) (r : Bool)
      → (out ≡ page_moved (refilled (relocate (view page) k n) k (bs (view page))) page) × (r ≡ was_moved (relocate (view page) k n))
      → (front ++ (out ++ drop 16384 rest)
      ≡ put s (p * 16384) (page_moved (refilled (relocate ((seg_view s).page p) k n) k (bs ((seg_view s).page p))) (page_of s p)))
      × (r ≡ was_moved (relocate ((seg_view s).page p) k n))
  lent_moved n bs out r e =
      let o = page_ok s p k h.whole h.sound h.taken in (
        lent_step l h.whole view o.seen (λ (v : View) (q : List ℕ). page_moved (refilled (relocate v k n) k (bs v)) q)
            (λ (v : View) (q : List ℕ). length_moved (refilled (relocate v k n) k (bs v)) q) out e.0,
        lent_answer l h.whole view o.seen (λ (v : View). was_moved (relocate v k n)) r e.1,
      )

-- ---- which way it went, from what it answered

pub record MovedTo (r : Relocated) : Type 0 where
  pub to : Plan
  pub is : r ≡ moved to

pub moved_to : (r : Relocated) → was_moved r ≡ true → MovedTo r
moved_to refused e = let z : ◌≡◌ {A = ℕ} 0 1 = cc in absurd (omega arith)
moved_to (moved a) e = record { to = a; is = refl }

pub not_moved : (r : Relocated) → was_moved r ≡ false → r ≡ refused
not_moved refused e = refl
not_moved (moved a) e = let z : ◌≡◌ {A = ℕ} 0 1 = cc in absurd (omega arith)

-- ---- steps by name: on a slot that is not free

module _ (s : List ℕ) (p k : ℕ) (h : TakenOn s p k) where
  page : PageOk s p k
  page = page_ok s p k h.whole h.sound h.taken

  pub for_redirect_on_page : (id : ℕ) → id < 2 ^ 62 → ExactOn s (on p (erase_for_redirect ((seg_view s).page p) k id))
  for_redirect_on_page id small =
      record {
        inside = h.whole;
        exact =
            redirect_exact ((seg_view s).page p) page.sound k page.counted h.taken id small (page_of s p) (shows_ok s p k page);
      }

  -- the slot's record at another size n, with these bytes; "a target has length 8 or more"
  module _ (n : ℕ) (target : is_target (((seg_view s).page p).at k) ≡ true → 8 ≤ n) where
    moves : Answered (page_of s p) ((seg_view s).page p) k n (relocate ((seg_view s).page p) k n)
    moves = relocate_answer (page_of s p) ((seg_view s).page p) (length_page s p h.whole) page.seen page.sound k page.counted n target

    module _ (a : Plan) (way : relocate ((seg_view s).page p) k n ≡ moved a) (bs : List ℕ) (size : length bs ≡ n) where
      filled_on_page : ExactOn s (on p (filled a k bs))
      filled_on_page =
          let m : Moved (page_of s p) ((seg_view s).page p) k n a = subst (Answered (page_of s p) ((seg_view s).page p) k n) way moves in
          record {
            inside = h.whole;
            exact =
                fill_exact (page_of s p) a (length_page s p h.whole) m.exact k m.inside m.free bs (size ∙ sym m.size);
          }

      pub took_filled : (t : List ℕ) → t ≡ put s (p * 16384) (page_moved (refilled (relocate ((seg_view s).page p) k n) k bs) (page_of s p))
          → Took s (on p (filled a k bs)) t
      took_filled t e = record { exact = filled_on_page; is = e ∙ ap (λ (r : Relocated). put s (p * 16384) (page_moved (refilled r k bs) (page_of s p))) way }

-- what is no target's may have any size
pub no_target : (x : Slot) (n : ℕ) → is_target x ≡ false → is_target x ≡ true → 8 ≤ n
no_target x n e f = let z : ◌≡◌ {A = ℕ} 0 1 = cc in absurd (omega arith)

-- "A target's record begins with 8 bytes, the big-endian id of its root, and its length counts them."
pub target_length : (id : ℕ) (bs : List ℕ) (n : ℕ) → length bs ≡ n → length (to_be 8 id ++ bs) ≡ n + 8
target_length id bs n e = length-append (to_be 8 id) bs ∙ omega (arith, e)

-- the entry of a redirect names another id
module _ (s : List ℕ) (p k : ℕ) (h : SoundOn s p) (i : ℕ) (here : ((seg_view s).page p).at k ≡ Redirect i) (id : ℕ) (small : id < 2 ^ 62) where
  pub redirect_on_page : ExactOn s (on p (redirect_plan ((seg_view s).page p) k id))
  redirect_on_page =
      let o = page_ok s p k h.whole h.sound (ap is_free here) in
      record {
        inside = h.whole;
        exact = retype_exact (page_of s p) (stay ((seg_view s).page p)) (length_page s p h.whole) (record { seen = o.seen; sound = o.sound }) k
            o.counted (ap is_free here) (Redirect id)
            (sym (ap off here)) (sym (ap len here)) refl small (λ e. let z : ◌≡◌ {A = ℕ} 0 1 = cc in omega arith) [] refl;
      }

-- a new target of n bytes on a sound page, fresh or in use
module _ (s : List ℕ) (p : ℕ) (h : SoundOn s p) (n j : ℕ) (a : Plan) (way : allocate ((seg_view s).page p) n ≡ got j a) where
  module _ (long : 8 ≤ n) (bs : List ℕ) (size : length bs ≡ n) where
    pub target_on_page : ExactOn s (on p (target_plan j a bs))
    target_on_page =
        let w = a.after in
        let o = place_made s p h n j a way in
        let high : off (w.at j) + len (w.at j) ≤ 16384 = o.0.sound.high j in
        record {
          inside = h.whole;
          exact = exact_then (page_of s p) a (λ u. let x = with_slot u j (Target (off (u.at j)) (len (u.at j))) bs in plan (move j x ∷ []) x)
              (retype_exact (page_of s p) a (length_page s p h.whole) o.0 j o.1 o.2 (Target (off (w.at j)) (len (w.at j))) refl refl refl
              (omega arith, omega arith)
              (λ e. omega (arith, o.3)) bs (size ∙ sym o.3));
        }

-- ---- a step refused leaves the segment as it was

module _ (s : List ℕ) (p : ℕ) (fits : p * 16384 + 16384 ≤ length s) (t : List ℕ) where
  pub refused_same : (k n : ℕ) → relocate ((seg_view s).page p) k n ≡ refused → (bs : List ℕ)
      → t ≡ put s (p * 16384) (page_moved (refilled (relocate ((seg_view s).page p) k n) k bs) (page_of s p)) → t ≡ s
  refused_same k n way bs e =
      e ∙ ap (λ (r : Relocated). put s (p * 16384) (page_moved (refilled r k bs) (page_of s p))) way ∙ put_own s (p * 16384) 16384 fits
