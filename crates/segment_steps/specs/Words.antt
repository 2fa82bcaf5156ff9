-- The words of the contracts: a page as a call sees it, and what a step on it leaves of the segment.
use Rattle.std.specs.Prelude.{ℕ, ◌*◌, ◌/◌, ◌≤◌, ◌≡◌, List, length}
use Rattle.store.specs.Numbers.{put}
use Rattle.store.specs.Page.{View}
use Rattle.store.specs.PageSteps.{Alloc}
use Rattle.store.specs.Segment.{page_of, seg_view}
use Rattle.slotted_page.specs.Words.{page_bare}

-- sizes that were tested
pub record Sizes (s v : List ℕ) : Type 0 where
  pub few : length s / 16384 ≤ 32527
  pub one : length v ≡ 16384

abbrev pub seen : List ℕ → ℕ → View
seen s p = (seg_view s).page p

-- a place has been made on page p; the record's bytes are still to be written
abbrev pub allocated_on : List ℕ → ℕ → Alloc → List ℕ
allocated_on s p a = put s (p * 16384) (page_bare a (page_of s p))
