-- Words for the contracts: the head of a record, the passes over readings, and the rule by its two counts.
use Rattle.std.specs.Prelude.{ℕ, zero, suc, ◌+◌, ◌/◌, ◌%◌, ◌^◌, ◌≡◌, Bool, true, false, Option, Some}
use Rattle.std.specs.Prelude.{None, Result, Ok, Err, cond, ◌&&◌, length, get_or, set, replicate, eqb, ltb, leb}
use mathlib.Core.List.{List, foldl}
use Rattle.std.specs.Int.Bits.{bit_and, bit_or}
use Rattle.store.specs.Numbers.{cut}
use Rattle.store.specs.Page.{sound, view}
use Rattle.store.specs.Records.{records}
use Rattle.store.specs.Segment.{SegView, seg_view}
use Rattle.exchange.specs.Exchange.{readings}
use Rattle.exchange.specs.declared.parts.Part.{Part}
use Rattle.exchange.specs.declared.parts.Part.TheVariants as part
use Rattle.polishing.specs.Polishing.{mirror_of, reading_of, row_of, counted, met, demands_of, rows_named}
use Rattle.store.specs.Report.{all_sound}
use Rattle.polishing.specs.declared.RuleRefusal.{RuleRefusal}
use Rattle.polishing.specs.declared.RuleRefusal.TheVariants as refusal
use Rattle.polishing.specs.declared.heads.Row.{Row}
use Rattle.polishing.specs.declared.wanted.Wanted.{Wanted}
use Rattle.polishing.specs.declared.rows.Marks.{Marks}
use Rattle.polishing.specs.declared.rule.Edition.{Edition}
use Rattle.polishing.specs.declared.rule.Edition.TheVariants as edition
use Rattle.polishing.specs.declared.rule.Demands.{Demands}
use Rattle.polishing.specs.declared.rule.Counts.{Counts}

-- ---- heads

-- a page that is sound, to be read
abbrev pub SoundPage : List ℕ → Type 0
SoundPage p = (length p ≡ 16384) × (sound (view p) ≡ true)

-- reading and row of a record of mirror m
abbrev pub head_of : ℕ → List ℕ → Option Row
head_of m b = cond (eqb (mirror_of b) m) (Some (record { reading = reading_of b; row = row_of b })) None

-- of what a slot is in the exchange file: of a reading alone
abbrev pub part_head : ℕ → List ℕ → Part → Option Row
part_head m p (part.Reading o n) = head_of m (cut p o n)
part_head m p part.Passed = None
part_head m p part.Nothing = None

-- ---- the first pass: the windows that have a record, 64 reading numbers each

abbrev pub with_mark : List Bool → Option Row → List Bool
with_mark ws (Some h) = set ws (h.reading / 64) true
with_mark ws None = ws

-- over records, and of a segment
abbrev pub windows_over : ℕ → List Bool → List (List ℕ) → List Bool
windows_over m ws bs = foldl (λ (w : List Bool) (b : List ℕ). with_mark w (head_of m b)) ws bs

abbrev pub windows_of : ℕ → SegView → List Bool
windows_of m u = windows_over m (replicate 1024 false) (readings (records u))

-- they are marked, if the pages are sound
abbrev pub Marked : ℕ → SegView → Option (List Bool) → Type 0
Marked m u (Some ws) = (all_sound u ≡ true) × (ws ≡ windows_of m u)
Marked m u None = all_sound u ≡ false

-- ---- a window's pass: which rows are there, and which readings are spoiled

-- row k of reading r: one that is there already and one from `rows` on spoil their reading
abbrev pub with_row : ℕ → Marks → ℕ → ℕ → Marks
with_row rows x r k =
    let b = 2 ^ (r % 64) in
    let old = get_or x.map k 0 in
    cond (leb rows k) (record { map = x.map; spoiled = bit_or x.spoiled b })
    (record { map = set x.map k (bit_or old b); spoiled = bit_or x.spoiled (bit_and old b) })

-- a head counts if it is of the window
abbrev pub with_head : Wanted → Marks → Option Row → Marks
with_head w x (Some h) = cond (eqb (h.reading / 64) w.window) (with_row w.rows x h.reading h.row) x
with_head w x None = x

abbrev pub marks_over : Wanted → Marks → List (List ℕ) → Marks
marks_over w x bs = foldl (λ (y : Marks) (b : List ℕ). with_head w y (head_of w.mirror b)) x bs

-- the bits that a word and the first n words of the map have in common
abbrev pub in_rows : ℕ → List ℕ → ℕ → ℕ
in_rows zero u a = a
in_rows (suc n) u a = bit_and (in_rows n u a) (get_or u n 0)

-- ---- the rule by its two counts

-- "below 32,768 (as mounted)", "at or above it (turned)"
abbrev pub mounted : (ℕ → Bool) → ℕ
mounted w = counted w 0 32768

abbrev pub turned : (ℕ → Bool) → ℕ
turned w = counted w 32768 32768

abbrev pub met_by : Demands → ℕ → ℕ → Bool
met_by d a b = leb d.all (a + b) && (leb d.mounted a && leb d.turned b)

-- the edition's number, and the edition of a number
abbrev pub edition_number : Edition → ℕ
edition_number edition.First = 1
edition_number edition.Second = 2

abbrev pub EditionOf : ℕ → Result Edition RuleRefusal → Type 0
EditionOf n (Ok e) = n ≡ edition_number e
EditionOf n (Err r) = (r ≡ refusal.Rule) × (leb 1 n && leb n 2 ≡ false)

-- a refusal of a segment of right size by the rows or by a page
abbrev pub RefusedBy : List ℕ → ℕ → RuleRefusal → Type 0
RefusedBy s rows refusal.Rule = rows_named rows ≡ false
RefusedBy s rows refusal.Damaged = (rows_named rows ≡ true) × (all_sound (seg_view s) ≡ false)
RefusedBy s rows refusal.Size = ⊥
RefusedBy s rows refusal.Room = ⊥

-- these are the edition's demands, whatever is whole
abbrev pub Says : ℕ → Demands → Type 0
Says e d = (w : ℕ → Bool) → met w (demands_of e) ≡ met_by d (mounted w) (turned w)

-- n more of window w: as mounted below window 512
pub record WithWindow (c : Counts) (w n : ℕ) (r : Counts) : Type 0 where
  pub mounted : r.mounted ≡ c.mounted + cond (ltb w 512) n 0
  pub turned : r.turned ≡ c.turned + cond (ltb w 512) 0 n
