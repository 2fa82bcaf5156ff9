-- Document 01, module 2 and "Page and slot layout": the slot codec.
--
-- "The top two bits of a slot tell its kind: 00 ordinary, 01 free, 10 redirect, 11 redirect target. Ordinary and target: offset in
-- 30 bits, length in the last 32. Redirect: the id in the low 62 bits. Free is written as 40 and seven zero bytes; its low bits are
-- ignored on reading."
use Rattle.std.specs.Prelude.{ℕ, zero, suc, ◌+◌, ◌*◌, ◌/◌, ◌%◌, ◌^◌, Bool, true, false, List}
use Rattle.store.specs.Numbers.{to_be}
use Rattle.store.specs.declared.Slot.{Slot}
use Rattle.store.specs.declared.Slot.TheVariants.{Ordinary, Free, Redirect, Target}

-- the top two bits, and the 62 bits below them
abbrev pub kind_no : Slot → ℕ
kind_no (Ordinary o l) = 0
kind_no Free = 1
kind_no (Redirect i) = 2
kind_no (Target o l) = 3

abbrev pub low_no : Slot → ℕ
low_no (Ordinary o l) = o * 2 ^ 32 + l
low_no Free = 0
low_no (Redirect i) = i
low_no (Target o l) = o * 2 ^ 32 + l

-- as one number of 64 bits, and as its 8 bytes
abbrev pub slot_word : Slot → ℕ
slot_word s = kind_no s * 2 ^ 62 + low_no s

abbrev pub slot_bytes : Slot → List ℕ
slot_bytes s = to_be 8 (slot_word s)

-- on reading
abbrev pub of_kind : ℕ → ℕ → Slot
of_kind zero w = Ordinary (w / 2 ^ 32) (w % 2 ^ 32)
of_kind (suc zero) w = Free
of_kind (suc (suc zero)) w = Redirect w
of_kind (suc (suc (suc k))) w = Target (w / 2 ^ 32) (w % 2 ^ 32)

abbrev pub slot_of : ℕ → Slot
slot_of e = of_kind (e / 2 ^ 62) (e % 2 ^ 62)

-- a record's place; a slot that holds none has offset and length 0
abbrev pub off : Slot → ℕ
off (Ordinary o l) = o
off Free = 0
off (Redirect i) = 0
off (Target o l) = o

abbrev pub len : Slot → ℕ
len (Ordinary o l) = l
len Free = 0
len (Redirect i) = 0
len (Target o l) = l

abbrev pub is_free : Slot → Bool
is_free (Ordinary o l) = false
is_free Free = true
is_free (Redirect i) = false
is_free (Target o l) = false

abbrev pub is_target : Slot → Bool
is_target (Ordinary o l) = false
is_target Free = false
is_target (Redirect i) = false
is_target (Target o l) = true

abbrev pub is_record : Slot → Bool
is_record (Ordinary o l) = true
is_record Free = false
is_record (Redirect i) = false
is_record (Target o l) = true

-- the record at another place, of the same kind; what was a redirect becomes ordinary
abbrev pub placed : Slot → ℕ → ℕ → Slot
placed (Ordinary o l) d n = Ordinary d n
placed Free d n = Free
placed (Redirect i) d n = Ordinary d n
placed (Target o l) d n = Target d n
