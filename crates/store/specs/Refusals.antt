-- Document 01, "Answers by number": each number with its name, and above it when it is "Given exactly when". The definitions say the names.
--
-- "Order: 1, 3, 2, 4 (root), 5, 6, 4 (target), 7, 4 (new page), 8."
use Rattle.std.specs.Prelude.{ℕ}
use Rattle.store.specs.declared.Refusal.{Refusal}
use Rattle.store.specs.declared.Refusal.TheVariants.{Size, NoPage, Long, Damaged, NoRecord, Forwarded, Full, Stale}

-- "the call is carried out"
abbrev pub DONE : ℕ
DONE = 0

-- "segment not 0 to 32,527 whole pages, or, where the call is lent one, inventory not 16,384 bytes"
abbrev pub SIZE : ℕ
SIZE = 1

-- "the id's page is n or more"
abbrev pub NOPAGE : ℕ
NOPAGE = 2

-- "new size above 16,364"
abbrev pub LONG : ℕ
LONG = 3

-- "a page to be touched is not sound, or a redirect to be followed lacks its target on another page pointing back"
abbrev pub DAMAGED : ℕ
DAMAGED = 4

-- "slot at or past the count, or free"
abbrev pub NONE : ℕ
NONE = 5

-- "write, resize or erase by a target's own id"
abbrev pub FORWARDED : ℕ
FORWARDED = 6

-- "need above 16,372, or the inventory entry read is n or more"
abbrev pub FULL : ℕ
FULL = 7

-- "the page named is the root's or old target's, or allocate finds no room there"
abbrev pub STALE : ℕ
STALE = 8

-- Document 02, Ask 1: "when a figure would pass 2^64 − 1"
abbrev pub TALLY : ℕ
TALLY = 9

-- Document 02, Ask 2: "when the lengths don't sum to the bytes or the id places are fewer than the rows"
abbrev pub LIST : ℕ
LIST = 10

-- Document 02, Ask 4: "when the entry list is too short for all changes"; Ask 7: "when the lent place is too short"
abbrev pub ROOM : ℕ
ROOM = 11

-- the number of each refusal of the code
abbrev pub number_of : Refusal → ℕ
number_of Size = SIZE
number_of NoPage = NOPAGE
number_of Long = LONG
number_of Damaged = DAMAGED
number_of NoRecord = NONE
number_of Forwarded = FORWARDED
number_of Full = FULL
number_of Stale = STALE
