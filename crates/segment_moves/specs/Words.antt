-- What a relocate on a page leaves of the segment.
use Rattle.std.specs.Prelude.{ℕ, ◌*◌, List}
use Rattle.store.specs.Numbers.{put}
use Rattle.store.specs.PageSteps.{Relocated}
use Rattle.store.specs.Segment.{page_of}
use Rattle.page_relocate.specs.Words.{page_moved}

-- a record of page p has been relocated
abbrev pub relocated_on : List ℕ → ℕ → Relocated → List ℕ
relocated_on s p r = put s (p * 16384) (page_moved r (page_of s p))
