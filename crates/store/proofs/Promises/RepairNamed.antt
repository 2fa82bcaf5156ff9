-- "a target that no kept redirect names": the definition asks the redirect at the target's back id alone (Repair `named`). That is the same as
-- asking every redirect: only the one at the back id can be kept by this target.
use Rattle.std.specs.Prelude.{ℕ, ◌<◌, ◌≡◌, true, false}
use Rattle.store.specs.Numbers.{page_no}
use Rattle.store.specs.Segment.{SegView}
use Rattle.store.specs.SoundSegment.{slot_on, back_id}
use Rattle.store.specs.Repair.{lost, holds, named}
use Rattle.store.specs.declared.Slot.TheVariants.{Redirect}
use Rattle.store.proofs.Laws.RepairPairs.{holds_is, holds_in, named_is, named_in}

-- a kept redirect names t: that of id `by`, on a page below n that is not lost
pub record NamedKept (u : SegView) (t : ℕ) : Type 0 where
  pub by : ℕ
  pub below : page_no by < u.pages
  pub whole : lost (u.page (page_no by)) ≡ false
  pub names : slot_on u by ≡ Redirect t
  pub kept : holds u by t ≡ true

pub named_only : (u : SegView) (t : ℕ) → named u t ≡ true → NamedKept u t
named_only u t e =
    let k = named_is u t e in
    record { by = back_id u t; below = k.below; whole = k.whole; names = k.is; kept = holds_in u (back_id u t) t k.holds }

pub named_if : (u : SegView) (t : ℕ) → NamedKept u t → named u t ≡ true
named_if u t k = named_in u k.by t (record { below = k.below; whole = k.whole; is = k.names; holds = holds_is u k.by t k.kept })
