-- Room on a page.
use Rattle.std.specs.Prelude.{◌≡◌, List, ℕ, ◌+◌, ◌*◌, ◌≤◌}
use Rattle.store.specs.Page.{view}
use Rattle.store.specs.PageSteps.{run, make_room}

-- what making room for n bytes leaves: the page q, with data start r
pub record Roomed (n : ℕ) (p q : List ℕ) (r : ℕ) : Type 0 where
  pub is : q ≡ run (make_room (view p) n).edits p
  pub begins : r ≡ (make_room (view p) n).after.data_start
  pub low : 12 + 8 * (view p).slot_count + n ≤ r
  pub high : r ≤ 16384
