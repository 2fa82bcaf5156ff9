use mathlib.Core.Path.{sym, ◌∙◌}
use Rattle.std.proofs.lemmas.Result.{err_from_is_err_and}
use Rattle.segment_steps.proofs.After.{sizes}
use Rattle.segment_insert.proofs.Placed.{row_size, on_damaged}
use Rattle.segment_insert.proofs.insert.Goals as goal

pub returns-then-not-sizes_ok : goal.returns-then-not-sizes_ok
returns-then-not-sizes_ok g c =
    let a = c.args in
    row_size a.segment.now a.inventory.now (g.R.Row.bytes a.row.now) (sym c.sizes_ok.ensures ∙ c.if-not-sizes_ok.true)

pub page_for-requires : goal.page_for-requires
page_for-requires g c = sym c.sizes_ok.ensures ∙ c.if-not-sizes_ok.false

pub returns-in_err-page : goal.returns-in_err-page
returns-in_err-page g c =
    let e = err_from_is_err_and c.from_residual.result c.from_residual.ensures.1 in
    rw (e.1, e.2) c.in_err-page.ensures

pub page_sound-requires : goal.page_sound-requires
page_sound-requires g c = c.in_ok-page.ensures.0

pub returns-then-not-page_sound : goal.returns-then-not-page_sound
returns-then-not-page_sound g c =
    let a = c.args in
    on_damaged a.segment.now a.inventory.now (g.R.Row.bytes a.row.now) _ (sym c.page_sound.ensures ∙ c.if-not-page_sound.true) c.in_ok-page.ensures

pub insert_sound_at-requires : goal.insert_sound_at-requires
insert_sound_at-requires g c =
    record {
      sizes = sizes c.args.segment.now c.args.inventory.now (sym c.sizes_ok.ensures ∙ c.if-not-sizes_ok.false);
      sound_on = (record { whole = c.in_ok-page.ensures.0; sound = sym c.page_sound.ensures ∙ c.if-not-page_sound.false }, c.in_ok-page.ensures.1);
    }

pub returns : goal.returns
returns g c = c.insert_sound_at.ensures ∙ c.in_ok-page.ensures.2
