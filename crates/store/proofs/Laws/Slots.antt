-- The slot codec's facts: an entry that is written is read back, whatever its kind.
use Rattle.std.specs.Prelude.{ℕ, ◌+◌, ◌*◌, ◌/◌, ◌%◌, ◌^◌, ◌<◌, ◌≡◌, refl}
use Rattle.std.proofs.Common.{ap, ◌∙◌, arith}
use Rattle.store.specs.Numbers.{be}
use Rattle.store.specs.Slots.{kind_no, low_no, slot_word, slot_bytes, of_kind, slot_of, off, len}
use Rattle.store.proofs.Laws.Numbers.{be_to_be}
use Rattle.store.specs.declared.Slot.{Slot}
use Rattle.store.specs.declared.Slot.TheVariants.{Ordinary, Free, Redirect, Target}
use Rattle.store.specs.Laws.Slots.{Codable}

pub codable_position : (s : Slot) → Codable s → off s + len s < 8589934592
codable_position (Ordinary o l) c = omega arith
codable_position Free c = omega arith
codable_position (Redirect i) c = omega arith
codable_position (Target o l) c = omega arith

-- once over the kind
kind_low : (k w : ℕ) → w < 2 ^ 62 → ((k * 2 ^ 62 + w) / 2 ^ 62 ≡ k) × ((k * 2 ^ 62 + w) % 2 ^ 62 ≡ w)
kind_low k w h = (omega arith, omega arith)

low_small : (s : Slot) → Codable s → low_no s < 2 ^ 62
low_small (Ordinary o l) c = omega arith
low_small Free c = omega arith
low_small (Redirect i) c = c
low_small (Target o l) c = omega arith

kind_small : (s : Slot) → kind_no s < 4
kind_small (Ordinary o l) = omega arith
kind_small Free = omega arith
kind_small (Redirect i) = omega arith
kind_small (Target o l) = omega arith

of_kind_lem : (s : Slot) → Codable s → of_kind (kind_no s) (low_no s) ≡ s
of_kind_lem (Ordinary o l) c =
    let a : (o * 2 ^ 32 + l) / 2 ^ 32 ≡ o = omega arith in
    let b : (o * 2 ^ 32 + l) % 2 ^ 32 ≡ l = omega arith in
    λ i. Ordinary (a i) (b i)
of_kind_lem Free c = refl
of_kind_lem (Redirect i) c = refl
of_kind_lem (Target o l) c =
    let a : (o * 2 ^ 32 + l) / 2 ^ 32 ≡ o = omega arith in
    let b : (o * 2 ^ 32 + l) % 2 ^ 32 ≡ l = omega arith in
    λ i. Target (a i) (b i)

pub slot_of_no : (s : Slot) → Codable s → slot_of (slot_word s) ≡ s
slot_of_no s c =
    let h = kind_low (kind_no s) (low_no s) (low_small s c) in
    (λ i. of_kind (h.0 i) (h.1 i)) ∙ of_kind_lem s c

pub slot_read_back : (s : Slot) → Codable s → slot_of (be (slot_bytes s)) ≡ s
slot_read_back s c =
    let small : slot_word s < 256 ^ 8 = omega (arith, low_small s c, kind_small s) in
    ap slot_of (be_to_be 8 small) ∙ slot_of_no s c

-- the entry without its offset: kind, length and id
abbrev pub tag : Slot → Slot
tag (Ordinary o l) = Ordinary 0 l
tag Free = Free
tag (Redirect i) = Redirect i
tag (Target o l) = Target 0 l
