-- Making room against the store's plan.
use mathlib.Core.Path.{◌≡◌, refl}
use mathlib.Core.Bool.{true}
use mathlib.Core.List.{List}
use Prim.Native.Nat.{ℕ, ◌≤◌, ◌<◌}
use native.Mathlib.Omega.{arith}
use lib.ListN.{length}
use lib.Dec.{ltb}
use borrow.Author.Tests.{lt-ltb}
use Rattle.store.specs.Page.{view}
use Rattle.store.specs.PageSteps.{run, gap, compactify}
use Rattle.store.specs.Laws.Views.{Sound}
use Rattle.store.proofs.Laws.Compactify.{compact_exact, compact_keeps, compact_gap}
use Rattle.page_compactify.specs.Room.{Roomed}

pub room_made : (p : List ℕ) (n r : ℕ) → length p ≡ 16384 → Sound (view p) → (q : List ℕ) → n ≤ (view p).free_space → gap (view p) < n
    → q ≡ run (compactify (view p)).edits p → r ≡ (compactify (view p)).after.data_start → Roomed n p q r
room_made p n r whole s q h g e b =
    let x = (compact_exact p (view p) whole refl s).sound in
    let k = compact_keeps (view p) s in
    let t : ltb (gap (view p)) n ≡ true = lt-ltb (gap (view p)) n g in
    record { is = rw t e; begins = rw t b; low = omega (arith, x.dir, k.slot_count, compact_gap (view p) s); high = omega (arith, x.start≤) }
