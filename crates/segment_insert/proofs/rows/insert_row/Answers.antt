use mathlib.Core.Path.{sym, ap, ◌∙◌}
use Rattle.std.proofs.lemmas.Result.{err_from_is_err_and}
use Rattle.store.specs.Segment.{Result, insert_step}
use Rattle.store.specs.Laws.Lent.{SoundOn}
use Rattle.segment_steps.proofs.After.{sizes}
use Rattle.segment_insert.proofs.Placed.{on_damaged}
use Rattle.segment_insert.proofs.KnownLaws.{still_known}
use Rattle.segment_insert.proofs.rows.insert_row.Goals.{Else-not-known_sound}
use Rattle.segment_insert.proofs.rows.insert_row.Given as given
use Rattle.segment_insert.proofs.rows.insert_row.Goals as goal

-- the page that the inventory names is sound
sound_here : (g : given.Over) (c : Else-not-known_sound g) → SoundOn c.args.segment.now c.in_ok-page.page
sound_here g c = record { whole = c.in_ok-page.ensures.0; sound = sym c.known_sound.ensures.0 ∙ c.if-not-known_sound.false }

pub page_for-requires : goal.page_for-requires
page_for-requires g c = c.requires.inventory_value

pub returns-in_err-page : goal.returns-in_err-page
returns-in_err-page g c =
    let e = err_from_is_err_and c.from_residual.result c.from_residual.ensures.1 in
    (rw (e.1, e.2) c.in_err-page.ensures, c.requires.known_sound)

pub known_sound-requires : goal.known_sound-requires
known_sound-requires g c = record { within = c.in_ok-page.ensures.0; known_sound = c.requires.known_sound }

pub returns-then-not-known_sound : goal.returns-then-not-known_sound
returns-then-not-known_sound g c =
    let a = c.args in (
      on_damaged a.segment.now a.inventory.now (g.R.Row.bytes a.row.now) _ (sym c.known_sound.ensures.0 ∙ c.if-not-known_sound.true)
          c.in_ok-page.ensures,
      c.known_sound.ensures.1,
    )

pub insert_sound_at-requires : goal.insert_sound_at-requires
insert_sound_at-requires g c =
    record {
      sizes = sizes c.args.segment.now c.args.inventory.now c.requires.inventory_value;
      sound_on = (sound_here g (goal.at.insert_sound_at-requires g c).Else-not-known_sound, c.in_ok-page.ensures.1);
    }

pub returns : goal.returns
returns g c =
    let a = c.args in (
      ◌∙◌ {c = insert_step a.segment.now a.inventory.now (g.R.Row.bytes a.row.now)} c.insert_sound_at.ensures c.in_ok-page.ensures.2,
      still_known a.segment.now a.inventory.now (g.R.Row.bytes a.row.now) _ (sound_here g (goal.at.returns g c).Else-not-known_sound) _
          (ap (λ (r : Result). r.seg) c.insert_sound_at.ensures) _ c.known_sound.ensures.1,
    )
