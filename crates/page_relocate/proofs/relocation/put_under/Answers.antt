use mathlib.Core.Path.{ap}
use Prim.Native.Nat.{ℕ, ◌-◌}
use native.Mathlib.Omega.{arith}
use Rattle.page_relocate.proofs.RelocationLaws.{under_made}
use Rattle.page_relocate.proofs.relocation.put_under.Goals as goal

pub returns : goal.returns
returns c =
    let a = c.args in
    let h = c.of-h in (
      under_made a.page.now a.k a.size h.result.count h.result.first h.result.space
          c.make_room.result a.s c.placed_slot.result c.make_room.new.page c.commit.new.page c.requires.used_slot.sound
          h.ensures.count h.ensures.first h.ensures.space c.make_room.ensures c.placed_slot.ensures.0 c.commit.ensures,
      ap (λ (x : ℕ). x - a.size) c.make_room.ensures.begins,
      omega (arith, c.make_room.ensures),
    )
