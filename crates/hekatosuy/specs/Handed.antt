-- What a call hands to C: its number, and what stands behind each pointer afterwards.
use Rattle.std.specs.Prelude.{ℕ, ◌^◌, ◌<◌, cond, eqb}
use Rattle.store.specs.Numbers.{id_of}
use Rattle.store.specs.Segment.{Result}
use Rattle.store.specs.Scan.{Scanned}
use Rattle.hekatosuy.specs.declared.Stepped.{Stepped}

-- a new record's id stands behind `id` when the call is carried out; else what stood there, i
abbrev pub with_id : ℕ → Result → Result
with_id i t = record { answer = t.answer; id = cond (eqb t.answer 0) t.id i; seg = t.seg; inv = t.inv }

-- a call on a record that is there hands out no id
abbrev pub without_id : Result → Result
without_id t = record { answer = t.answer; id = 0; seg = t.seg; inv = t.inv }

-- a step of the scan: the next position as one number, 1 or 0 for whether there is a record, and its id and part of the segment
abbrev pub stepped : Scanned → Stepped
stepped t =
    record {
      answer = t.answer;
      position = id_of t.page t.slot;
      found = cond t.some 1 0;
      id = t.id;
      offset = t.part.offset;
      length = t.part.length;
    }

-- a position that one number holds
pub record Positioned (t : Scanned) : Type 0 where
  pub page : t.page < 2 ^ 48
  pub slot : t.slot < 65536
