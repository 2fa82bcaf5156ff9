use mathlib.Core.Path.{sym, ◌∙◌}
use Rattle.slotted_page.proofs.FreshLaws.{init_sound, fresh_done, used_sound, used_done}
use Rattle.slotted_page.proofs.allocate.allocate.Goals.{then-get_slot_count-eq0, else-get_slot_count-eq0}
use Rattle.slotted_page.proofs.allocate.allocate.Goals as goal

pub reserve-requires-clause-used_page : goal.reserve-requires-clause-used_page
reserve-requires-clause-used_page c = elim c.if-get_slot_count-eq0.branch [
  | then-get_slot_count-eq0 w ↦ rw w.page-is (init_sound c.args.page.now w.initialize.new.page c.told-page w.initialize.ensures)
  | else-get_slot_count-eq0 w ↦ rw w.page-is
      (used_sound c.args.page.now (λ e. w.if-get_slot_count-eq0.false (c.get_slot_count.ensures.0 ∙ e)) c.told-page c.requires.0)
]

pub returns : goal.returns
returns c =
    let a = c.args in
    let r = c.reserve in
    elim c.if-get_slot_count-eq0.branch [
      | then-get_slot_count-eq0 w ↦
          let y = fresh_done a.page.now a.size w.initialize.new.page r.new.page r.result
          (sym c.get_slot_count.ensures.0 ∙ w.if-get_slot_count-eq0.true) c.requires.0 c.told-page c.requires.1 w.initialize.ensures
          (rw w.page-is at r.ensures.0, rw w.page-is at r.ensures.1) in (y.0, y.1, r.ensures.2, r.ensures.3)
      | else-get_slot_count-eq0 w ↦
          let y = used_done a.page.now a.size r.new.page r.result (λ e. w.if-get_slot_count-eq0.false (c.get_slot_count.ensures.0 ∙ e))
          (rw w.page-is at r.ensures.0, rw w.page-is at r.ensures.1) in (y.0, y.1, r.ensures.2, r.ensures.3)
    ]
