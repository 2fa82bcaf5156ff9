-- Document 01, "Page and slot layout": what a page says, and when it is sound.
--
-- `view p` is what can be seen of a page: its header's four numbers, the entry of each slot and the bytes of each record.
use Rattle.std.specs.Prelude.{ℕ, ◌+◌, ◌*◌, Bool, true, cond, not, ◌&&◌, ◌||◌, List, [], ◌∷◌, eqb, ltb, leb}
use Rattle.store.specs.Numbers.{cut, be, all, sum}
use Rattle.store.specs.Slots.{slot_of, off, len, is_free, is_target}
use Rattle.store.specs.declared.Slot.{Slot}
use Rattle.store.specs.declared.Slot.TheVariants.{Free}

-- ---- what is seen of a page

-- A slot at or past the count is seen as free, and a slot that holds no record has no bytes.
pub record View : Type 0 where
  pub slot_count : ℕ
  pub first_free : ℕ
  pub data_start : ℕ
  pub free_space : ℕ
  pub at : ℕ → Slot
  pub bytes : ℕ → List ℕ

-- "Header: slot count (u16 at 0), first free slot (u16 at 2), data start (u32 at 4), free space (u32 at 8). Slot k lies at 12 + 8k."
abbrev pub count : List ℕ → ℕ
count p = be (cut p 0 2)

abbrev pub slot_at : List ℕ → ℕ → Slot
slot_at p k = cond (ltb k (count p)) (slot_of (be (cut p (12 + 8 * k) 8))) Free

abbrev pub bytes_at : List ℕ → ℕ → List ℕ
bytes_at p k = cut p (off (slot_at p k)) (len (slot_at p k))

unfoldable pub view : List ℕ → View
view p =
    record { slot_count = count p; first_free = be (cut p 2 2); data_start = be (cut p 4 4); free_space = be (cut p 8 4); at = slot_at p; bytes = bytes_at p }

-- ---- sound page

-- count, first free, data start and free space are these
abbrev pub header_is : View → ℕ → ℕ → ℕ → ℕ → Bool
header_is v count first start free =
    eqb v.slot_count count && (eqb v.first_free first && (eqb v.data_start start && eqb v.free_space free))

-- Document 02, Ask 3: "a page is fresh only if its 12 header bytes are all zero or are exactly the initialised header." Its other bytes
-- don't matter.
abbrev pub fresh : View → Bool
fresh v = header_is v 0 0 0 0 || header_is v 0 0 16384 16372

-- "count at most 2,046"
abbrev pub count_fits : View → Bool
count_fits v = leb v.slot_count 2046

-- "first free is the lowest free slot, or the count if none is free"
abbrev pub first_is_lowest : View → Bool
first_is_lowest v = leb v.first_free v.slot_count && (is_free (v.at v.first_free) && all v.first_free (λ j. not (is_free (v.at j))))

-- "12 + 8 × count ≤ data start ≤ 16,384"
abbrev pub past_directory : View → Bool
past_directory v = leb (12 + 8 * v.slot_count) v.data_start

abbrev pub start_fits : View → Bool
start_fits v = past_directory v && leb v.data_start 16384

-- "every record of positive length lies between data start and 16,384 .. a record of length 0 has an offset of at most 16,384; a
-- target has length 8 or more"
abbrev pub lies_well : View → ℕ → Bool
lies_well v k =
    cond (eqb (len (v.at k)) 0) (leb (off (v.at k)) 16384) (leb v.data_start (off (v.at k)) && leb (off (v.at k) + len (v.at k)) 16384)
    && (not (is_target (v.at k)) || leb 8 (len (v.at k)))

abbrev pub records_lie_well : View → Bool
records_lie_well v = all v.slot_count (lies_well v)

-- "and overlaps no other": two different records of positive length
abbrev pub apart : View → ℕ → ℕ → Bool
apart v i j =
    eqb i j || eqb (len (v.at i)) 0 || eqb (len (v.at j)) 0
    || leb (off (v.at i) + len (v.at i)) (off (v.at j)) || leb (off (v.at j) + len (v.at j)) (off (v.at i))

abbrev pub records_apart : View → Bool
records_apart v = all v.slot_count (λ i. all v.slot_count (apart v i))

-- "free space = 16,372 − 8 × count − the sum of all ordinary and target lengths"
abbrev pub space_adds_up : View → Bool
space_adds_up v = eqb (v.free_space + 8 * v.slot_count + sum v.slot_count (λ k. len (v.at k))) 16372

-- "Any other page with count 0 is not sound": with no slot the tests above leave data start open
abbrev pub used_or_initial : View → Bool
used_or_initial v = leb 1 v.slot_count || eqb v.data_start 16384

abbrev pub sound_tests : List (View → Bool)
sound_tests = count_fits ∷ first_is_lowest ∷ start_fits ∷ records_lie_well ∷ records_apart ∷ space_adds_up ∷ used_or_initial ∷ []

abbrev pub passes : List (View → Bool) → View → Bool
passes [] v = true
passes (t ∷ ts) v = t v && passes ts v

unfoldable pub sound : View → Bool
sound v = fresh v || passes sound_tests v
