-- Export, `export_step` (document 02, "Bench exchange file"): "Export writes the records in scan order" to a place that is lent. When each answer is given,
-- what it tells, and what the place is afterwards; and that the file is one that import reads. For all segments, damaged ones too, and all places. Export
-- only reads the segment.
use Rattle.std.specs.Prelude.{ℕ, ◌+◌, ◌≤◌, ◌<◌, ◌≡◌, refl, true, false, ◌&&◌, List, [], ◌++◌, ◌↔◌, ◌≢◌, ◌⊎◌, length, drop}
use Rattle.std.proofs.Common.{sym, ap, ◌∙◌, inl, inr, arith, zero-add}
use Rattle.std.proofs.lemmas.List.{length-map}
use Rattle.store.specs.Refusals.{DONE, SIZE, DAMAGED, ROOM}
use Rattle.store.specs.Segment.{size_ok, inv_ok}
use Rattle.store.specs.SoundSegment.{PagesSound}
use Rattle.store.specs.ManyRows.{insert_all}
use Rattle.store.specs.Records.{Entry, scan_all, rows_in}
use Rattle.store.specs.ReportTold.{Damage}
use Rattle.store.proofs.Laws.Cases.{never}
use Rattle.store.proofs.Laws.Numbers.{length_put, cut_same, put_parts}
use Rattle.store.proofs.Laws.Report.{sound_each, damaged}
use Rattle.exchange.specs.Exchange.{holds, parse, without_ids, import_step, Export, no_export, export_step}
use Rattle.exchange.specs.FileTold.{readings_in, passed_in, file_in, with_numbers, file_written, of_insert}
use Rattle.exchange.proofs.Laws.Export.{on_size, at_damage, at_room, at_done, by_export}
use Rattle.exchange.proofs.Laws.Room.{file_fits}
use Rattle.exchange.proofs.Laws.Readings.{scan_read, passed_sum}
use Rattle.exchange.proofs.Promises.Format.{reads_back}
use Rattle.exchange.proofs.Promises.Import.{import_fold, read_answers}

module _ (s p : List ℕ) where
  -- ---- "1, then 4 for a page that is not sound, then 11 when the lent place is too short"

  pub answers : let a = (export_step s p).answer in (a ≡ DONE) ⊎ (a ≡ SIZE) ⊎ (a ≡ DAMAGED) ⊎ (a ≡ ROOM)
  answers =
      by_export s p (λ (r : Export). (r.answer ≡ DONE) ⊎ (r.answer ≡ SIZE) ⊎ (r.answer ≡ DAMAGED) ⊎ (r.answer ≡ ROOM)) (λ e. inr (inl refl))
      (λ e d. inr (inr (inl refl))) (λ e h l. inr (inr (inr refl))) (λ e h l. inl refl)

  -- 1 exactly if the segment is not 0 to 32,527 whole pages
  pub size_exactly : ((export_step s p).answer ≡ SIZE) ↔ (size_ok s ≡ false)
  size_exactly = (
    by_export s p (λ (r : Export). r.answer ≡ SIZE → size_ok s ≡ false) (λ e z. e) (λ e d z. absurd (omega arith)) (λ e h l z. absurd (omega arith))
        (λ e h l z. absurd (omega arith)),
    λ e. ap (λ (r : Export). r.answer) (on_size s p e),
  )

  -- "4 in export, wherever the page lies, wins over 11": exactly if some page is not sound, whatever the place
  pub damaged_exactly : ((export_step s p).answer ≡ DAMAGED) ↔ ((size_ok s ≡ true) × Damage s)
  damaged_exactly = (
    by_export s p (λ (r : Export). r.answer ≡ DAMAGED → (size_ok s ≡ true) × Damage s) (λ e z. absurd (omega arith)) (λ e d z. (e, d))
        (λ e h l z. absurd (omega arith)) (λ e h l z. absurd (omega arith)),
    λ x. ap (λ (r : Export). r.answer) (at_damage s p x.0 x.1),
  )

  -- 11 exactly if every page is sound and the file is longer than the place
  pub room_exactly : ((export_step s p).answer ≡ ROOM) ↔ ((size_ok s ≡ true) × PagesSound s × (length p < length (file_in s)))
  room_exactly = (
    by_export s p (λ (r : Export). r.answer ≡ ROOM → (size_ok s ≡ true) × PagesSound s × (length p < length (file_in s))) (λ e z. absurd (omega arith))
        (λ e d z. absurd (omega arith)) (λ e h l z. (e, h, l)) (λ e h l z. absurd (omega arith)),
    λ x. ap (λ (r : Export). r.answer) (at_room s p x.0 x.1 x.2),
  )

  -- 0 exactly if it is not
  pub done_exactly : ((export_step s p).answer ≡ DONE) ↔ ((size_ok s ≡ true) × PagesSound s × (length (file_in s) ≤ length p))
  done_exactly = (
    by_export s p (λ (r : Export). r.answer ≡ DONE → (size_ok s ≡ true) × PagesSound s × (length (file_in s) ≤ length p)) (λ e z. absurd (omega arith))
        (λ e d z. absurd (omega arith)) (λ e h l z. absurd (omega arith)) (λ e h l z. (e, h, l)),
    λ x. ap (λ (r : Export). r.answer) (at_done s p x.0 x.1 x.2),
  )

  -- ---- what it tells

  -- "On 1 and 4 both numbers are 0"
  pub told_none : size_ok s ≡ false → export_step s p ≡ no_export SIZE p
  told_none = on_size s p

  pub told_damage : size_ok s ≡ true → Damage s → export_step s p ≡ no_export DAMAGED p
  told_damage = at_damage s p

  -- on 0 and 11: "the length that the file has, and how many records it passes"
  pub told : size_ok s ≡ true → PagesSound s → let r = export_step s p in (r.length ≡ length (file_in s)) × (r.passed ≡ passed_in s)
  told e h =
      by_export s p (λ (r : Export). (r.length ≡ length (file_in s)) × (r.passed ≡ passed_in s)) (λ f. never e f)
      (λ f d. never (sound_each s h) (damaged s d)) (λ f k l. (refl, refl)) (λ f k l. (refl, refl))

  -- ---- the place

  -- "it writes nothing then": on a refusal no byte changes
  pub kept : (export_step s p).answer ≢ DONE → (export_step s p).place ≡ p
  kept =
      by_export s p (λ (r : Export). r.answer ≢ DONE → r.place ≡ p) (λ e n. refl) (λ e d n. refl) (λ e h l n. refl) (λ e h l n. absurd (n refl))

  pub place_long : length (export_step s p).place ≡ length p
  place_long =
      by_export s p (λ (r : Export). length r.place ≡ length p) (λ e. refl) (λ e d. refl) (λ e h l. refl) (λ e h l. length_put p 0 (file_in s))

  -- "on sound pages the file is `file_of` of the scan's records of 8 bytes or more", "and the place keeps every byte from there on"
  pub written : (export_step s p).answer ≡ DONE → (export_step s p).place ≡ file_in s ++ drop (export_step s p).length p
  written z =
      let x = done_exactly.0 z in
      rw (at_done s p x.0 x.1 x.2)
      (put_parts p 0 (file_in s) (omega (arith, x.2)) ∙ ap (λ (n : ℕ). file_in s ++ drop n p) (zero-add (length (file_in s))))

  -- so the bytes written are the file
  pub file_written_lem : (export_step s p).answer ≡ DONE → file_written (export_step s p) ≡ file_in s
  file_written_lem z =
      let x = done_exactly.0 z in
      rw (at_done s p x.0 x.1 x.2) (cut_same p 0 (file_in s) (length (file_in s)) refl (omega (arith, x.2)))

-- "So a caller who lends an empty place learns the length": with no room it is 11 with both numbers, or 0 if the file has no bytes
module _ (s : List ℕ) (size : size_ok s ≡ true) (pages : PagesSound s) where
  pub no_room_lem : 0 < length (file_in s) → export_step s [] ≡ with_numbers ROOM s []
  no_room_lem = at_room s [] size pages

  pub nothing_to_write : length (file_in s) ≡ 0 → export_step s [] ≡ with_numbers DONE s []
  nothing_to_write e = at_done s [] size pages (omega arith)

-- both numbers are the same whatever the place
pub asked : (s p q : List ℕ) → let a = export_step s p in let b = export_step s q in (a.length ≡ b.length) × (a.passed ≡ b.passed)
asked s p q =
    by_export s p (λ (r : Export). (r.length ≡ (export_step s q).length) × (r.passed ≡ (export_step s q).passed)) (λ e. rw (on_size s q e) (refl, refl))
    (λ e d. rw (at_damage s q e d) (refl, refl)) (λ e h l. same e h) (λ e h l. same e h)
  where
    same : size_ok s ≡ true → PagesSound s → (length (file_in s) ≡ (export_step s q).length) × (passed_in s ≡ (export_step s q).passed)
    same e h = let t = told s q e h in (sym t.0, sym t.1)

-- "passed is the number of the others": the file's records and those passed over are the scan's
pub all_told : (s : List ℕ) → length (readings_in s) + passed_in s ≡ length (scan_all s)
all_told s = passed_sum (rows_in (scan_all s)) ∙ length-map (scan_all s) (λ (e : Entry). e.bytes)

-- ---- "a place as long as the segment always suffices"

-- "the file's length is at most the segment's"
pub file_short : (s : List ℕ) → size_ok s ≡ true → PagesSound s → length (file_in s) ≤ length s
unfolding scan_all
file_short = file_fits

-- "export never answers 11 with such a place"
pub room_enough : (s p : List ℕ) → length s ≤ length p → (export_step s p).answer ≢ ROOM
room_enough s p l z = let x = (room_exactly s p).0 z in omega (arith, x.2, file_short s x.0 x.1)

-- ---- "An export is never refused as a file"

module _ (s p : List ℕ) (done : (export_step s p).answer ≡ DONE) where
  -- it is read as the readings that were written
  pub export_read : parse (file_written (export_step s p)) ≡ holds (readings_in s)
  export_read =
      let x = (done_exactly s p).0 done in
      ap parse (file_written_lem s p done) ∙ reads_back (readings_in s) (scan_read s x.0 x.1)

  module _ (t v : List ℕ) (sizes : (size_ok t && inv_ok v) ≡ true) where
    -- so import of it, into any segment, is Ask 2 with the readings as its rows
    pub export_imported : import_step t v (file_written (export_step s p)) ≡ without_ids (insert_all t v (readings_in s))
    export_imported = import_fold t v (file_written (export_step s p)) (readings_in s) sizes export_read

    -- "import of it answers none of 3, 12, 13": it is 0, 4, 7 or 8
    pub export_accepted : of_insert (import_step t v (file_written (export_step s p))).answer ≡ true
    export_accepted = read_answers t v (file_written (export_step s p)) (readings_in s) sizes export_read
