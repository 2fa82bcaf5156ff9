-- Words for the place of a new record, before its bytes are written.
use Rattle.std.specs.Prelude.{List, [], ◌∷◌, ℕ, ◌+◌, ◌*◌, ◌≤◌, Option, Some, None}
use Rattle.store.specs.Slots.{off}
use Rattle.store.specs.PageSteps.{Edit, head, move, commit, fill, run, with_slot, Alloc, no_room, got}
use Rattle.store.specs.declared.Place.{Place}

-- what is left to do once room is made for a record: the plan's last edit but for its bytes
abbrev pub bare : Edit → Edit
bare (head v) = head v
bare (move k v) = move k (with_slot v k (v.at k) [])
bare (commit k v) = commit k (with_slot v k (v.at k) [])
bare (fill k v) = fill k (with_slot v k (v.at k) [])

abbrev pub unfilled : List Edit → List Edit
unfilled [] = []
unfilled (e ∷ []) = bare e ∷ []
unfilled (e ∷ f ∷ es) = e ∷ unfilled (f ∷ es)

-- the page then, and the place: a refusal has no edit
abbrev pub page_bare : Alloc → List ℕ → List ℕ
page_bare no_room p = p
page_bare (got k a) p = run (unfilled a.edits) p

abbrev pub place_at : ℕ → ℕ → Option Place
place_at k o = Some (record { slot = k; offset = o })

abbrev pub place_of : Alloc → Option Place
place_of no_room = None
place_of (got k a) = place_at k (off (a.after.at k))

-- the record lies in the page, and past its entry
abbrev pub Inside : Option Place → ℕ → Type 0
Inside (Some x) n = x.offset + n ≤ 16384
Inside None n = Unit {0}

abbrev pub PastEntry : Option Place → Type 0
PastEntry (Some x) = 20 + 8 * x.slot ≤ x.offset
PastEntry None = Unit {0}
