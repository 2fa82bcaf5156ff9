use mathlib.Core.Path.{◌≡◌, sym, subst, ◌∙◌}
use mathlib.Core.Bool.{false}
use mathlib.Core.List.{◌++◌}
use Prim.Native.Nat.{◌+◌, ◌/◌}
use native.Mathlib.Omega.{arith}
use lib.ListN.{length}
use Rattle.std.specs.Prelude.{Some}
use Rattle.store.specs.Numbers.{to_be, fit}
use Rattle.store.specs.PageSteps.{allocate}
use Rattle.store.specs.Inventory.{found_in}
use Rattle.store.specs.Segment.{seg_view}
use Rattle.store.proofs.Laws.Fit.{length_fit}
use Rattle.store.specs.Laws.Lent.{Within, SoundOn}
use Rattle.slotted_page.specs.Words.{place_at, place_of, PastEntry}
use Rattle.slotted_page.proofs.FillLaws.{given_is}
use Rattle.segment_moves.proofs.Moved.{target_length}
use Rattle.segment_steps.proofs.Lent.{lends}
use Rattle.segment_steps.proofs.Written.{none_written, target_written}
use Rattle.segment_forward.specs.Words.{root_or_old}
use Rattle.segment_forward.proofs.Search.{named_fits, named_short, place_full, place_damaged, place_excluded, place_no_room}
use Rattle.segment_forward.proofs.Search.{place_taken, is_root_lem, is_old, is_other}
use Rattle.segment_forward.proofs.place_target.Goals.{After-allocate_on, Else-page-old, Else-not-page_sound, In-Some, In-Some-allocate_on}
use Rattle.segment_forward.proofs.place_target.Goals.{then-page-id-via-then-page-id, then-page-id-via-else-page-id+then-page-old}
use Rattle.segment_forward.proofs.place_target.Goals as goal

-- what the inventory named, and what the tests of that page told
named_here : (c : In-Some) → let a = c.args in found_in a.inventory.now (length a.segment.now / 16384) (a.size + 16) ≡ Some c.in-Some.page
named_here c = sym c.find_page.ensures ∙ c.in-Some.is

fits_here : (c : In-Some) → Within c.args.segment.now c.in-Some.page
fits_here c = let a = c.args in named_fits a.segment.now a.inventory.now a.size _ (named_here c)

sound_here : (c : Else-not-page_sound) → SoundOn c.args.segment.now c.in-Some.page
sound_here c = record { whole = fits_here (goal.at.Else-not-page_sound c).In-Some; sound = sym c.page_sound.ensures ∙ c.if-not-page_sound.false }

away_here : (c : Else-page-old) → let a = c.args in root_or_old a.id a.old c.in-Some.page ≡ false
away_here c =
    let a = c.args in
    is_other a.id a.old _ c.if-page-id.false c.if-page-old.false

-- the place that the page answered, and what the segment is once the target stands there
place_of_lem : (c : After-allocate_on) → let a = c.args in
    c.allocate_on.result ≡ place_of (allocate ((seg_view a.segment.now).page c.in-Some.page) (a.size + 8))
place_of_lem c = given_is c.allocate_on.result _ c.allocate_on.ensures.1

place_here : (c : In-Some-allocate_on) → let a = c.args in
    place_of (allocate ((seg_view a.segment.now).page c.in-Some.page) (a.size + 8))
    ≡ place_at c.in-Some-allocate_on.place.slot c.in-Some-allocate_on.place.offset
place_here c = sym (place_of_lem (goal.at.In-Some-allocate_on c).After-allocate_on) ∙ c.in-Some-allocate_on.is

pub returns-in_default : goal.returns-in_default
returns-in_default c =
    let a = c.args in
    place_full a.segment.now a.inventory.now a.id a.size (fit a.size a.bytes.now) (root_or_old a.id a.old) (sym c.find_page.ensures ∙ c.in_default.is)

pub page_sound-requires : goal.page_sound-requires
page_sound-requires c = fits_here (goal.at.page_sound-requires c).In-Some

pub returns-then-not-page_sound : goal.returns-then-not-page_sound
returns-then-not-page_sound c =
    let a = c.args in
    place_damaged a.segment.now a.inventory.now a.id a.size (fit a.size a.bytes.now) (root_or_old a.id a.old) _
    (named_here (goal.at.returns-then-not-page_sound c).In-Some) (sym c.page_sound.ensures ∙ c.if-not-page_sound.true)

pub returns-then-page-id : goal.returns-then-page-id
returns-then-page-id c =
    let a = c.args in
    place_excluded a.segment.now a.inventory.now a.id a.size (fit a.size a.bytes.now) (root_or_old a.id a.old) _
    (named_here (goal.at.returns-then-page-id c).In-Some) (sym c.page_sound.ensures ∙ c.if-not-page_sound.false)
    (elim c.then-page-id.branch [
      | then-page-id-via-then-page-id w ↦ is_root_lem a.id a.old _ w.if-page-id.true
      | then-page-id-via-else-page-id+then-page-old w ↦ is_old a.id a.old _ w.if-page-old.true
    ])

pub allocate_on-requires : goal.allocate_on-requires
allocate_on-requires c =
    let a = c.args in
    let h = named_short a.segment.now a.inventory.now a.size _ (named_here (goal.at.allocate_on-requires c).In-Some) in
    record { sound_on = sound_here (goal.at.allocate_on-requires c).Else-not-page_sound; size_bound = omega (arith, h) }

pub returns-in_default-allocate_on : goal.returns-in_default-allocate_on
returns-in_default-allocate_on c =
    let a = c.args in
    let s = a.segment.now in
    let bs = fit a.size a.bytes.now in
    let ok = sound_here (goal.at.returns-in_default-allocate_on c).Else-not-page_sound in
    let e = sym (place_of_lem (goal.at.returns-in_default-allocate_on c).After-allocate_on) ∙ c.in_default-allocate_on.is in
    place_no_room s a.inventory.now a.id a.size bs (root_or_old a.id a.old) _ (named_here (goal.at.returns-in_default-allocate_on c).In-Some) ok.sound
    (away_here (goal.at.returns-in_default-allocate_on c).Else-page-old)
    c.allocate_on.new.segment
    (none_written s _ ok (a.size + 8) c.allocate_on.new.segment c.allocate_on.ensures.0 e (to_be 8 a.id ++ bs)).1 e

pub overflow_mul-page : goal.overflow_mul-page
overflow_mul-page c = omega (arith, fits_here (goal.at.overflow_mul-page c).In-Some, c.requires.sizes.few)

pub split_at_mut-rest-requires : goal.split_at_mut-rest-requires
split_at_mut-rest-requires c = omega (arith, fits_here (goal.at.split_at_mut-rest-requires c).In-Some, c.allocate_on.auto.segment)

pub unwrap-requires : goal.unwrap-requires
unwrap-requires c =
    c.first_chunk_mut.ensures.variant.1
    (omega (arith, c.split_at_mut-rest.ensures.back_len, c.allocate_on.auto.segment, fits_here (goal.at.unwrap-requires c).In-Some))

pub returns : goal.returns
returns c =
    let split = c.split_at_mut-rest.ensures in
    let l = lends split.front split.back c.first_chunk_mut.ensures.cases c.unwrap.ensures in
    let a = c.args in
    let bs = fit a.size a.bytes.now in
    place_taken a.segment.now a.inventory.now a.id a.size bs (root_or_old a.id a.old) _
    (named_here (goal.at.returns c).In-Some) (sound_here (goal.at.returns c).Else-not-page_sound).sound (away_here (goal.at.returns c).Else-page-old) _
    (target_written a.segment.now _ (sound_here (goal.at.returns c).Else-not-page_sound) (a.size + 8) c.allocate_on.new.segment
    c.allocate_on.ensures.0 _ _ (place_here (goal.at.returns c).In-Some-allocate_on)
    (to_be 8 a.id ++ bs) (target_length a.id bs a.size (length_fit a.size a.bytes.now)) c.write_target.new.page
    l (subst PastEntry c.in-Some-allocate_on.is c.allocate_on.ensures.3) c.write_target.ensures)
    _ _ (place_here (goal.at.returns c).In-Some-allocate_on)
