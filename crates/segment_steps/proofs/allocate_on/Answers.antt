use mathlib.Core.Path.{sym}
use mathlib.Core.List.{List}
use Prim.Native.Nat.{ℕ}
use Rattle.store.specs.Page.{View, view}
use Rattle.store.specs.PageSteps.{opened, allocate}
use Rattle.store.proofs.Laws.SoundSegment.{seen_page}
use Rattle.store.specs.Answers.{allotted}
use Rattle.slotted_page.specs.Words.{page_bare}
use Rattle.segment_steps.proofs.Lent.{lends, length_bare, lent_sound, lent_answer, lent_step}
use Rattle.segment_steps.proofs.allocate_on.Goals as goal

pub allocate-requires : goal.allocate-requires
allocate-requires c =
    let split = c.split_at_mut-rest.ensures in
    let l = lends split.front split.back c.first_chunk_mut.ensures.cases c.unwrap.ensures in
    (lent_sound l c.requires.sound_on.whole c.requires.sound_on.sound, c.requires.size_bound)

pub returns : goal.returns
returns c =
    let split = c.split_at_mut-rest.ensures in
    let l = lends split.front split.back c.first_chunk_mut.ensures.cases c.unwrap.ensures in
    let w = c.requires.sound_on.whole in
    let seen = sym (seen_page c.args.segment.now c.args.p) in
    let n = c.args.size in
    let x = c.allocate in
    let see : List ℕ → View = λ q. opened (view q) in (
      lent_step l w see seen (λ (v : View) (q : List ℕ). page_bare (allocate v n) q) (λ (v : View) (q : List ℕ). length_bare (allocate v n) q)
          x.new.page x.ensures.0,
      lent_answer l w see seen (λ (v : View). allotted (allocate v n)) _ x.ensures.1,
      x.ensures.2,
      x.ensures.3,
    )
