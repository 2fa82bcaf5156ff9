use mathlib.Core.Path.{sym, ◌∙◌}
use Rattle.store.proofs.Laws.SoundPage.{sound_none}
use Rattle.page_check.proofs.SlotLaws.{not_both}
use Rattle.page_check.proofs.FitLaws.{read_of, sound_header, sound_records, unsound, sound_space}
use Rattle.page_check.proofs.is_sound.Goals as goal

pub returns-then-header-eq0 : goal.returns-then-header-eq0
returns-then-header-eq0 c = c.is_fresh.ensures ∙ sym (sound_none _ (sym c.of-header.ensures.count ∙ c.if-header-eq0.true))

pub returns-then-not-fits : goal.returns-then-not-fits
returns-then-not-fits c =
    let h = read_of c.told-page c.of-header.ensures in
    unsound h c.if-header-eq0.false (λ s. not_both (c.fits.ensures.back (sound_header h s)) c.if-not-fits.true)

pub returns-in-None : goal.returns-in-None
returns-in-None c =
    let h = read_of c.told-page c.of-header.ensures in
    unsound h c.if-header-eq0.false (λ s. c.in-None.ensures (sound_records h s))

pub returns-in-Some : goal.returns-in-Some
returns-in-Some c =
    let h = read_of c.told-page c.of-header.ensures in
    let records = c.in-Some.ensures in
    sound_space h (c.fits.ensures.yes c.if-not-fits.false) records.0 c.if-header-eq0.false _ _ c.of-header.ensures.space records.1
