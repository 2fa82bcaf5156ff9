use mathlib.Core.List.{List}
use Prim.Native.Nat.{ℕ, ◌≤◌}
use mathlib.Core.Path.{◌≡◌}
use lib.ListN.{length, drop}
use Rattle.store.specs.Page.{view}
use Rattle.store.specs.PageSteps.{pack, run}
use Rattle.page_compactify.specs.Keys.{slots_of}
use Rattle.page_compactify.proofs.PackLaws.{ToPack}
use Rattle.page_compactify.proofs.compact.pack.Given as goal

-- the page and the data start that the whole plan leads to
abbrev pub planned : List ℕ → List ℕ → List ℕ
planned p es = run (pack (slots_of es) 16384 (view p)).edits p

abbrev pub start : List ℕ → List ℕ → ℕ
start p es = (pack (slots_of es) 16384 (view p)).after.data_start

-- the records of the keys from the index on are still to be packed under d
abbrev pub invariant-loop-e : goal.invariant-loop-e
invariant-loop-e l = ToPack (drop l.e-index l.keys) l.d l.page (planned l.initial.page l.keys) (start l.initial.page l.keys) × (l.d ≤ 16384)
    × (length l.page ≡ 16384)
