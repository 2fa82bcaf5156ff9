-- What contracts cite of proofs/Laws/Edits.antt.
use Rattle.std.specs.Prelude.{◌+◌, ◌≤◌, ◌<◌, ◌⊎◌}
use Rattle.store.specs.Slots.{off, len}
use Rattle.store.specs.declared.Slot.{Slot}

-- two records, where both are of positive length: one ends before the other starts
abbrev pub Apart : Slot → Slot → Type 0
Apart a b = 0 < len a → 0 < len b → (off a + len a ≤ off b) ⊎ (off b + len b ≤ off a)
