-- The worked examples of the exchange file, by computation. A is 52 54 00 00 00 07 00 01 00 02 00 03 AA BB CC (mirror 7, reading 1, row 2, three bytes), B is
-- 52 54 00 00 00 07 00 01 00 03 00 00 (row 3, no data). First those that hold whatever the pages hold, each for all of them; then 1 byte by byte, and
-- the others on what is seen of the pages.
use Rattle.std.specs.Prelude.{ℕ, ◌*◌, ◌/◌, ◌≤◌, ◌<◌, ◌≡◌, true, cond, not, ◌&&◌, List, [], ◌∷◌, ◌++◌, length, replicate}
use Rattle.std.proofs.Math.Path.{refl}
use Rattle.std.proofs.Common.{ap}
use Rattle.std.proofs.Math.ListN.{take, drop}
use Rattle.store.specs.Numbers.{cut, to_be, zeros, id_of}
use Rattle.store.specs.Page.{View, view, sound}
use Rattle.store.specs.PageSteps.{apply, compactify, allocate, relocate, erase_for_redirect}
use Rattle.store.specs.Inventory.{class_of, nibble_at, set_nibble, entry_at, set_entry, first_from, next_page, run_end, set_from, pulled_back}
use Rattle.store.specs.Inventory.{moved_on, updated, update, found_in}
use Rattle.store.specs.Refusals.{DONE, LONG, DAMAGED}
use Rattle.store.specs.Segment.{SegView, seg_view, page_of, size_ok, inv_ok, result, find, insert_plan, store_plan, write_plan, root_of, insert_step}
use Rattle.store.specs.ManyRows.{insert_all}
use Rattle.store.specs.Records.{records}
use Rattle.store.specs.Report.{all_sound}
use Rattle.store.proofs.Laws.SoundPage.{and_in}
use Rattle.store.proofs.Promises.Blank.{blank_sound}
use Rattle.store.proofs.Promises.Examples.{State, start, did, then}
use Rattle.store.proofs.Promises.ManyRowsExamples.{Seen, all_seen, fresh_pages, blank_rows}
use Rattle.exchange.specs.Exchange.{MARK, SHORT, holds, first_record, parse, Import, import_step, Export, no_export, export_of, export_step}
use Rattle.exchange.specs.FileTold.{no_import, file_written}
use Rattle.exchange.proofs.Laws.Parse.{held}
use Rattle.exchange.proofs.Laws.Export.{at_damage}
use Rattle.exchange.proofs.Promises.Import.{file_refused, import_fold, import_empty}

-- a record of mirror 7 and reading 1: its row, the length told, and data
abbrev pub record7 : ℕ → ℕ → List ℕ → List ℕ
record7 row n bs = 0x52 ∷ 0x54 ∷ 0 ∷ 0 ∷ 0 ∷ 7 ∷ 0 ∷ 1 ∷ 0 ∷ row ∷ to_be 2 n ++ bs

abbrev pub A : List ℕ
A = record7 2 3 (0xAA ∷ 0xBB ∷ 0xCC ∷ [])

abbrev pub B : List ℕ
B = record7 3 0 []

-- ---- whatever the pages hold

module _ (s v : List ℕ) (sizes : (size_ok s && inv_ok v) ≡ true) where
  -- 2. An empty file: 0, 0
  pub example_2 : import_step s v [] ≡ no_import DONE s v
  example_2 = import_empty s v sizes

  -- 3. A and the first 11 bytes of B: 13
  pub example_3 : import_step s v (A ++ take 11 B) ≡ no_import SHORT s v
  unfolding parse
  example_3 = file_refused s v (A ++ take 11 B) SHORT sizes refl

  -- 4. 11 bytes, the second 53: 13
  pub example_4 : import_step s v (0x52 ∷ 0x53 ∷ take 9 (drop 2 B)) ≡ no_import SHORT s v
  unfolding parse
  example_4 = file_refused s v (0x52 ∷ 0x53 ∷ take 9 (drop 2 B)) SHORT sizes refl

  -- 5. B with second byte 53 and length FF FF: 12
  pub example_5 : import_step s v (0x52 ∷ 0x53 ∷ drop 2 (record7 3 0xFFFF [])) ≡ no_import MARK s v
  unfolding parse
  example_5 = file_refused s v (0x52 ∷ 0x53 ∷ drop 2 (record7 3 0xFFFF [])) MARK sizes refl

  -- 6. B with length 16,357: 3
  pub example_6 : import_step s v (record7 3 16357 []) ≡ no_import LONG s v
  unfolding parse
  example_6 = file_refused s v (record7 3 16357 []) LONG sizes refl

  -- 7. B with length 16,356 and 16,355 bytes of data: 13
  pub example_7 : import_step s v (record7 3 16356 (zeros 16355)) ≡ no_import SHORT s v
  unfolding parse
  example_7 = file_refused s v (record7 3 16356 (zeros 16355)) SHORT sizes refl

-- 12. "n = 2, page 1 all zero but its count 1; export into no bytes": 4, and both numbers 0
pub example_12 : (s : List ℕ) → size_ok s ≡ true → 1 < length s / 16384 → page_of s 1 ≡ 0 ∷ 1 ∷ zeros 16382 → export_step s [] ≡ no_export DAMAGED []
unfolding sound view
example_12 s e l q = at_damage s [] e (record { on = 1; below = l; unsound = ap (λ (p : List ℕ). sound (view p)) q })

-- ---- into one page of zeros

-- the answer, the records told, the page's header and first slot, and its last 11 bytes
pub left : Import → List ℕ
left r = r.answer ∷ r.inserted ∷ cut r.seg 0 20 ++ drop 16373 r.seg

-- header and slot of a page with A's record alone, and that record
abbrev alone_a : List ℕ
alone_a =
    0 ∷ 1 ∷ 0 ∷ 1 ∷ 0 ∷ 0 ∷ 0x3F ∷ 0xF5 ∷ 0 ∷ 0 ∷ 0x3F ∷ 0xE1 ∷ 0 ∷ 0 ∷ 0x3F ∷ 0xF5 ∷ 0 ∷ 0 ∷ 0 ∷ 0x0B
    ∷ 0 ∷ 0 ∷ 0 ∷ 7 ∷ 0 ∷ 1 ∷ 0 ∷ 2 ∷ 0xAA ∷ 0xBB ∷ 0xCC ∷ []

-- 1. A: 0, 1
pub example_1 : left (import_step (zeros 16384) (zeros 16384) A) ≡ 0 ∷ 1 ∷ alone_a
unfolding left import_step parse insert_all view sound apply compactify allocate class_of nibble_at set_nibble entry_at set_entry first_from next_page run_end
    set_from pulled_back moved_on updated update found_in seg_view result find insert_plan insert_step
example_1 = refl

-- ---- on what is seen of the pages

-- import into n pages of zeros, of a file that is read: the fold over the plans (the store's Promises/ManyRowsExamples)
pub import_seen : (n : ℕ) → n ≤ 32527 → (f : List ℕ) (rs : List (List ℕ)) → parse f ≡ holds rs
    → let r = import_step (zeros (n * 16384)) (zeros 16384) f in let q = all_seen (fresh_pages n) (zeros 16384) rs in
    (r.answer ≡ q.answer) × (r.inserted ≡ q.inserted) × (seg_view r.seg ≡ q.seen)
import_seen n few f rs e =
    let b = blank_sound n few in
    let q = blank_rows n few rs in
    rw (import_fold (zeros (n * 16384)) (zeros 16384) f rs (and_in (size_ok (zeros (n * 16384))) (inv_ok (zeros 16384)) b.whole b.page) e)
    (ap (λ (x : Seen). x.answer) q, ap (λ (x : Seen). x.inserted) q, ap (λ (x : Seen). x.seen) q)

-- export, where the size is right
unfoldable pub export_seen : SegView → List ℕ → Export
export_seen u p = cond (not (all_sound u)) (no_export DAMAGED p) (export_of (records u) p)

pub export_seen_lem : (s p : List ℕ) → size_ok s ≡ true → export_step s p ≡ export_seen (seg_view s) p
unfolding export_step export_seen
export_seen_lem s p e = rw e

-- a file into one page: the answer, the records told, and the page's count, first free, data start and free space
pub in_one : List ℕ → Seen
in_one f = all_seen (fresh_pages 1) (zeros 16384) (held (parse f))

pub told : Seen → List ℕ
told r =
    let v : View = r.seen.page 0 in
    r.answer ∷ r.inserted ∷ v.slot_count ∷ v.first_free ∷ v.data_start ∷ v.free_space ∷ []

-- 8. B with length 16,356 and as many bytes of data: 0, 1, and free space 0. 9. A, then row 3 with 12,263 bytes of data, then A: 7, 1, and only the first
-- A is in
pub imports : List (List ℕ)
imports = told (in_one (record7 3 16356 (zeros 16356))) ∷ told (in_one (A ++ (record7 3 12263 (zeros 12263) ++ A))) ∷ []

pub example_8_9 : imports ≡ (0 ∷ 1 ∷ 1 ∷ 1 ∷ 20 ∷ 0 ∷ []) ∷ (7 ∷ 1 ∷ 1 ∷ 1 ∷ 0x3FF5 ∷ 0x3FE1 ∷ []) ∷ []
unfolding imports in_one told parse fresh_pages all_seen sound compactify allocate class_of nibble_at set_nibble entry_at set_entry first_from next_page
    run_end set_from
    pulled_back moved_on updated update found_in find insert_plan
example_8_9 = refl

-- 10, 11. n = 2 with A's record, a record of 7 bytes and B's record; into 30 bytes of EE, and into 26
pub on_ten : SegView → List Export
on_ten u = export_seen u (replicate 30 0xEE) ∷ export_seen u (replicate 26 0xEE) ∷ []

pub example_10_11 : on_ten (all_seen (fresh_pages 2) (zeros 16384) (first_record A ∷ zeros 7 ∷ first_record B ∷ [])).seen
    ≡ record { answer = 0; length = 27; passed = 1; place = A ++ (B ++ replicate 3 0xEE) }
    ∷ record { answer = 11; length = 27; passed = 1; place = replicate 26 0xEE } ∷ []
unfolding on_ten export_seen fresh_pages all_seen sound compactify allocate class_of nibble_at set_nibble entry_at set_entry first_from next_page run_end
    set_from
    pulled_back moved_on updated update found_in find insert_plan
example_10_11 = refl

-- rows into a segment, and a write to one of them
pub stored : State → List (List ℕ) → State
stored s [] = s
stored s (b ∷ bs) = stored (then s (λ u v. insert_plan found_in u v b)) bs

pub written : State → ℕ → List ℕ → SegView
written s i bs = (then s (λ u v. write_plan found_in u v i bs)).seen

-- 13. Document 01's n = 3 case, "records filled with 11 and the one written with 22": 16,004 + 12,004 + 5,004 bytes; "the forwarded record comes last,
-- without its back id"
pub moved : SegView
moved = written (stored (start 3) (replicate 16000 0x11 ∷ replicate 100 0x11 ∷ replicate 12000 0x11 ∷ [])) (id_of 1 0) (replicate 5000 0x22)

pub begins : Export → List ℕ
begins r = r.answer ∷ r.length ∷ r.passed ∷ cut r.place 0 12 ++ (cut r.place 16004 12 ++ cut r.place 28008 12)

pub example_13 : begins (export_seen moved (zeros 33012))
    ≡ 0 ∷ 33012 ∷ 0 ∷ (0x52 ∷ 0x54 ∷ replicate 8 0x11 ++ to_be 2 15992)
    ++ ((0x52 ∷ 0x54 ∷ replicate 8 0x11 ++ to_be 2 11992) ++ (0x52 ∷ 0x54 ∷ replicate 8 0x22 ++ (0x13 ∷ 0x80 ∷ [])))
unfolding begins moved stored written export_seen start did then sound compactify allocate erase_for_redirect relocate class_of nibble_at set_nibble
    entry_at set_entry
    first_from next_page run_end set_from pulled_back moved_on updated update found_in find insert_plan store_plan root_of
example_13 = refl

-- 14. "one page: insert 11 bytes, insert 20, write 12,271 to (0,1); export": 0; 12,290, 0. 15. "import of 14's file into one zero page": 7, 1; "a round trip
-- may be refused even with as many pages"
pub grown : SegView
grown = written (stored (start 1) (zeros 11 ∷ zeros 20 ∷ [])) (id_of 0 1) (zeros 12271)

pub again : Export → List ℕ
again r = r.answer ∷ r.length ∷ r.passed ∷ told (in_one (file_written r))

pub example_14_15 : again (export_seen grown (zeros 12290)) ≡ 0 ∷ 12290 ∷ 0 ∷ 7 ∷ 1 ∷ 1 ∷ 1 ∷ 0x3FF5 ∷ 0x3FE1 ∷ []
unfolding again grown stored written in_one told export_seen parse start did then fresh_pages all_seen sound compactify allocate erase_for_redirect
    relocate class_of
    nibble_at set_nibble entry_at set_entry first_from next_page run_end set_from pulled_back moved_on updated update found_in find insert_plan store_plan
    root_of
example_14_15 = refl
