-- What contracts cite of proofs/Laws/Slots.antt.
use Rattle.std.specs.Prelude.{◌^◌, ◌<◌}
use Rattle.store.specs.declared.Slot.{Slot}
use Rattle.store.specs.declared.Slot.TheVariants.{Ordinary, Free, Redirect, Target}

-- the values fit their bits
abbrev pub Codable : Slot → Type 0
Codable (Ordinary o l) = (o < 2 ^ 30) × (l < 2 ^ 32)
Codable Free = Unit {0}
Codable (Redirect i) = i < 2 ^ 62
Codable (Target o l) = (o < 2 ^ 30) × (l < 2 ^ 32)
