-- Erase against the store's plans: each law takes what the calls of a function ensure, and ends in `run plan.edits p`.
use mathlib.Core.Path.{◌≡◌, sym, ◌∙◌}
use mathlib.Core.List.{List, []}
use Prim.Native.Nat.{ℕ, ◌+◌, ◌-◌, ◌*◌, min}
use native.Mathlib.Omega.{arith}
use Rattle.store.specs.Numbers.{put}
use Rattle.store.specs.Slots.{slot_bytes, len}
use Rattle.store.specs.Page.{View}
use Rattle.store.specs.PageSteps.{run, with_head, pruned, start_without, erase_for_redirect, erase}
use Rattle.store.proofs.Laws.Numbers.{put_nil}
use Rattle.store.specs.declared.Slot.TheVariants.{Free, Redirect}
use Rattle.layout.specs.Run.{head_of}
use Rattle.page_places.proofs.BareLaws.{commit_writes}

pub erase_done : (v : View) (k c n m lo : ℕ) (p q : List ℕ)
    → c ≡ v.slot_count → n ≡ v.free_space → m ≡ pruned v k → lo ≡ min v.first_free k
    → q ≡ put (put p 0 (head_of (c - m) lo (start_without v k) (n + 8 * m + len (v.at k)))) (12 + 8 * k) (slot_bytes Free)
    → q ≡ run (erase v k).edits p
unfolding erase
erase_done v k c n m lo p q ec en em ew e =
    let w : View = with_head v (v.slot_count - pruned v k) (min v.first_free k) (start_without v k) (v.free_space + len (v.at k) + 8 * pruned v k) in
    let y : n + 8 * m + len (v.at k) ≡ n + len (v.at k) + 8 * m = omega arith in
    e ∙ rw (y, ec, en, em, ew) (sym (commit_writes w k Free [] p ∙ put_nil _ 0))

pub redirect_done : (v : View) (k id c f n : ℕ) (p q : List ℕ) → c ≡ v.slot_count → f ≡ v.first_free → n ≡ v.free_space
    → q ≡ put (put p 0 (head_of c f (start_without v k) (n + len (v.at k)))) (12 + 8 * k) (slot_bytes (Redirect id))
    → q ≡ run (erase_for_redirect v k id).edits p
unfolding erase_for_redirect
redirect_done v k id c f n p q ec ef en e =
    let w : View = with_head v v.slot_count v.first_free (start_without v k) (v.free_space + len (v.at k)) in
    e ∙ rw (ec, ef, en) (sym (commit_writes w k (Redirect id) [] p ∙ put_nil _ 0))
