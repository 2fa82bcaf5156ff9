-- Words for the contracts of relocate: its plans by name, what it leaves and answers.
use Rattle.std.specs.Prelude.{List, [], ◌∷◌, Bool, true, false, cond, ℕ, ◌+◌, ◌-◌, ◌*◌, ltb}
use Rattle.store.specs.Numbers.{put, zeros, fit}
use Rattle.layout.specs.Run.{head_of}
use Rattle.store.specs.Slots.{slot_bytes, placed}
use Rattle.store.specs.Page.{View}
use Rattle.store.specs.PageSteps.{commit, Plan, run, filled, and_then, make_room, move_under, shrunk, parked, Alloc, no_room, got, Relocated}
use Rattle.store.specs.PageSteps.{refused, moved, plan}
use Rattle.store.specs.declared.Slot.{Slot}
use Rattle.store.specs.declared.Slot.TheVariants.{Ordinary}

abbrev pub shrink_plan : View → ℕ → ℕ → Plan
shrink_plan v k n = plan (commit k (shrunk v k n) ∷ []) (shrunk v k n)

abbrev pub grow_plan : View → ℕ → ℕ → Plan
grow_plan v k n = and_then (plan (commit k (parked v k) ∷ []) (parked v k)) (λ w. move_under w k (v.at k) n (fit n (v.bytes k)))

abbrev pub home_of : View → ℕ → ℕ → Relocated
home_of v k n = cond (ltb v.free_space n) refused (moved (move_under v k (Ordinary 0 0) n (zeros n)))

-- as the place that slot k's record gets
abbrev pub alloc_of : ℕ → Relocated → Alloc
alloc_of k refused = no_room
alloc_of k (moved a) = got k a

-- room is made, and slot k's entry is a record of kind s just under data start; its bytes are not written yet
unfoldable pub under_page : View → ℕ → Slot → ℕ → List ℕ → List ℕ
under_page v k s n p =
    let w = (make_room v n).after in
    put (put (run (make_room v n).edits p) 0 (head_of w.slot_count w.first_free (w.data_start - n) (w.free_space - n))) (12 + 8 * k)
    (slot_bytes (placed s (w.data_start - n) n))

-- ---- what it leaves and answers

abbrev pub page_moved : Relocated → List ℕ → List ℕ
page_moved refused p = p
page_moved (moved a) p = run a.edits p

abbrev pub was_moved : Relocated → Bool
was_moved refused = false
was_moved (moved a) = true

-- slot k's record gets these bytes where it stands then
abbrev pub refilled : Relocated → ℕ → List ℕ → Relocated
refilled refused k bs = refused
refilled (moved a) k bs = moved (filled a k bs)
