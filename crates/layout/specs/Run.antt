-- What the leaves read and write, in the store's own words: `cut`, `put`, `be`, `to_be`.
use Rattle.std.specs.Prelude.{◌≡◌, List, ◌++◌, ℕ, ◌^◌, ◌≤◌, ◌<◌, length}
use Rattle.store.specs.Numbers.{cut, be, to_be}
use Rattle.store.specs.Page.{view}

-- what a reader of w bytes finds
pub record Read (w at : ℕ) (p : List ℕ) (r : ℕ) : Type 0 where
  pub is : r ≡ be (cut p at w)
  pub small : r < 256 ^ w

-- the header's twelve bytes; shut, so that provers see one atom
unfoldable pub head_of : ℕ → ℕ → ℕ → ℕ → List ℕ
head_of c f d n = to_be 2 c ++ (to_be 2 f ++ (to_be 4 d ++ to_be 4 n))

-- the first n slots of a page are there: they are counted, and no more than a page can have
pub record Counted (p : List ℕ) (n : ℕ) : Type 0 where
  pub whole : length p ≡ 16384
  pub counted : n ≤ (view p).slot_count
  pub few : n ≤ 2046
