use native.Mathlib.Omega.{arith}
use Rattle.store.proofs.Laws.Classes.{arm}
use Rattle.free_space_inventory.proofs.class_of.Goals as goal

pub returns-in-0 : goal.returns-in-0
returns-in-0 c = arm 0 0 tt tt _ (omega arith) (omega arith)

pub returns-in-1-to-4093 : goal.returns-in-1-to-4093
returns-in-1-to-4093 c = arm 1 1 tt tt _ (omega arith) (omega arith)

pub returns-in-4094-to-6487 : goal.returns-in-4094-to-6487
returns-in-4094-to-6487 c = arm 2 4094 tt tt _ (omega arith) (omega arith)

pub returns-in-6488-to-8186 : goal.returns-in-6488-to-8186
returns-in-6488-to-8186 c = arm 3 6488 tt tt _ (omega arith) (omega arith)

pub returns-in-8187-to-9503 : goal.returns-in-8187-to-9503
returns-in-8187-to-9503 c = arm 4 8187 tt tt _ (omega arith) (omega arith)

pub returns-in-9504-to-10580 : goal.returns-in-9504-to-10580
returns-in-9504-to-10580 c = arm 5 9504 tt tt _ (omega arith) (omega arith)

pub returns-in-10581-to-11490 : goal.returns-in-10581-to-11490
returns-in-10581-to-11490 c = arm 6 10581 tt tt _ (omega arith) (omega arith)

pub returns-in-11491-to-12279 : goal.returns-in-11491-to-12279
returns-in-11491-to-12279 c = arm 7 11491 tt tt _ (omega arith) (omega arith)

pub returns-in-12280-to-12974 : goal.returns-in-12280-to-12974
returns-in-12280-to-12974 c = arm 8 12280 tt tt _ (omega arith) (omega arith)

pub returns-in-12975-to-13596 : goal.returns-in-12975-to-13596
returns-in-12975-to-13596 c = arm 9 12975 tt tt _ (omega arith) (omega arith)

pub returns-in-13597-to-14159 : goal.returns-in-13597-to-14159
returns-in-13597-to-14159 c = arm 10 13597 tt tt _ (omega arith) (omega arith)

pub returns-in-14160-to-14673 : goal.returns-in-14160-to-14673
returns-in-14160-to-14673 c = arm 11 14160 tt tt _ (omega arith) (omega arith)

pub returns-in-14674-to-15145 : goal.returns-in-14674-to-15145
returns-in-14674-to-15145 c = arm 12 14674 tt tt _ (omega arith) (omega arith)

pub returns-in-15146-to-15583 : goal.returns-in-15146-to-15583
returns-in-15146-to-15583 c = arm 13 15146 tt tt _ (omega arith) (omega arith)

pub returns-in-15584-to-16372 : goal.returns-in-15584-to-16372
returns-in-15584-to-16372 c = arm 14 15584 tt tt _ (omega arith) (omega arith)

pub returns-in_default : goal.returns-in_default
returns-in_default c = arm 14 16373 tt tt _ (omega arith) (omega arith)
