use Prim.Native.Nat.{ℕ, ◌/◌}
use mathlib.Core.Path.{◌≡◌, sym, ap, subst, ◌∙◌}
use mathlib.Core.List.{List}
use native.Mathlib.Omega.{arith}
use lib.ListN.{length}
use Rattle.store.specs.Numbers.{put}
use Rattle.store.specs.Repair.{standing, Entry, words}
use Rattle.store.proofs.Laws.Numbers.{put_nil}
use Rattle.segment_repair.specs.Words.{Written}
use Rattle.segment_repair.proofs.WriteLaws.{none_told, none_written, mixed_known, mixed_within, mixed_room, mixed_turn}
use Rattle.segment_repair.proofs.write.write_pages.Goals as goal

pub loop-p-init : goal.loop-p-init
loop-p-init c =
    let s = c.args.segment.now in
    let l = c.args.entries.now in (
      sym (none_written (standing s) s),
      sym (ap (λ (x : List Entry). put l 0 (words x)) (none_told (standing s)) ∙ put_nil l 0),
      sym (ap length (none_told (standing s))),
    )

pub write_page-at-requires : goal.write_page-at-requires
write_page-at-requires c =
    let s = c.args.segment.now in
    let i = c.loop-p.invariant in
    let p = c.loop-p.p in
    let k = mixed_known s c.requires.1 p c.loop-p-test.true c.args.sound.now c.requires.0 in
    let w = mixed_within s c.requires.1 p c.loop-p-test.true in
    let r = mixed_room s c.requires.1 p c.loop-p-test.true c.loop-p.at (length c.args.entries.now) i.2 c.requires.2 in
    rw i.0 (record { known = (k, w); p_in_bounds = omega (arith, r, c.loop-p.auto.entries) })

pub loop-p-preserved : goal.loop-p-preserved
loop-p-preserved c =
    let s = c.args.segment.now in
    let i = c.loop-p.invariant in
    let p = c.loop-p.p in
    let l = c.loop-p.entries in
    let at = c.loop-p.at in
    let e = c.write_page-at in
    let l' = e.new.entries in
    let d = subst (λ (q : List ℕ). Written q e.new.segment l l' p at e.result) i.0 e.ensures in
    mixed_turn s c.requires.1 p c.loop-p-test.true c.args.entries.now l l' e.new.segment at e.result d i.2 i.1

pub returns : goal.returns
returns c =
    let i = c.loop-p.invariant in
    let e : length c.args.segment.now / 16384 ≡ c.loop-p.p = omega arith in
    rw e (i.0, i.1, i.2)
