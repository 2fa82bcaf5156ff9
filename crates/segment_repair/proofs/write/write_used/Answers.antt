use Prim.Native.Nat.{ℕ}
use mathlib.Core.Path.{◌≡◌, sym, subst, ◌∙◌}
use mathlib.Core.Bool.{true, not}
use mathlib.Core.List.{List}
use Rattle.store.specs.Numbers.{all}
use Rattle.store.specs.Page.{view, sound}
use Rattle.store.specs.Segment.{page_of}
use Rattle.store.specs.Repair.{standing, deed, changes}
use Rattle.segment_repair.proofs.WriteLaws.{written_quiet}
use Rattle.segment_repair.proofs.write.write_used.Goals as goal

pub is_sound-requires : goal.is_sound-requires
is_sound-requires c = rw c.new-judge.ensures c.requires.known.1.within

pub all_stay-requires : goal.all_stay-requires
all_stay-requires c = (rw c.new-judge.ensures c.requires.known.1, c.is_sound.ensures c.if-is_sound.true)

pub returns-then-all_stay : goal.returns-then-all_stay
returns-then-all_stay c =
    let a = c.args in
    let used = c.requires.known.1 in
    let e = c.new-judge.ensures in
    written_quiet a.segment.now a.p used.within a.n used
    (subst (λ (s : List ℕ). sound (view (page_of s a.p)) ≡ true) e (c.is_sound.ensures c.if-is_sound.true))
    (subst (λ (s : List ℕ). all a.n (λ k. not (changes (deed (standing s) a.p k))) ≡ true) e (sym c.all_stay.ensures ∙ c.if-all_stay.true))
    a.entries.now a.at
