-- "Importing an export into an all-zero segment and inventory, whenever the import answers 0, gives the same readings, each as often as before; ids and
-- order may differ" (document 02, "Bench exchange file"). Of every segment that can be exported: that export answers 0 is enough, and its redirects and
-- targets may be paired or not.
use Rattle.std.specs.Prelude.{ℕ, ◌+◌, ◌*◌, ◌≤◌, ◌≡◌, List, ◌⊎◌, length}
use Rattle.std.proofs.Common.{ap, ◌∙◌, arith, take_all}
use Rattle.store.specs.Numbers.{zeros}
use Rattle.store.specs.Refusals.{DONE, FULL}
use Rattle.store.specs.Records.{Entry, scan_all, rows_in, times, times_in}
use Rattle.store.specs.SoundSegment.{SoundSegment}
use Rattle.store.proofs.Promises.Blank.{blank_sound, blank_list}
use Rattle.exchange.specs.Exchange.{import_step, export_step}
use Rattle.exchange.specs.FileTold.{readings_in, file_written}
use Rattle.exchange.proofs.Laws.Readings.{readings_times}
use Rattle.exchange.proofs.Promises.Export.{export_read}
use Rattle.exchange.proofs.Promises.Import.{done_tells, read_done, import_fits, import_adds}

module _ (s p : List ℕ) (done : (export_step s p).answer ≡ DONE) where
  -- into a sound segment in use: "the records join those there"
  pub export_joins : (t v : List ℕ) → SoundSegment t v → (import_step t v (file_written (export_step s p))).answer ≡ DONE
      → (x : List ℕ) → 8 ≤ length x → times_in x (import_step t v (file_written (export_step s p))).seg ≡ times_in x t + times_in x s
  export_joins t v h ok x l =
      let q = export_read s p done in
      let f : List ℕ = file_written (export_step s p) in
      let n = (read_done t v f (readings_in s) (done_tells t v f ok).0 q).0 ok in
      import_adds t v f h (readings_in s) q x
      ∙ ap (λ (rs : List (List ℕ)). times_in x t + times x rs) (take_all (import_step t v f).inserted (readings_in s) (omega arith))
      ∙ ap (λ (k : ℕ). times_in x t + k) (readings_times x l (rows_in (scan_all s)))

  -- with too few pages, "or where the class table leaves a page unused, the import answers 7", and no other refusal
  pub export_fits : (t v : List ℕ) → SoundSegment t v → let a = (import_step t v (file_written (export_step s p))).answer in (a ≡ DONE) ⊎ (a ≡ FULL)
  export_fits t v h = import_fits t v (file_written (export_step s p)) h (readings_in s) (export_read s p done)

  -- into n pages of zeros
  pub round_trip : (n : ℕ) → n ≤ 32527 → let r = import_step (zeros (n * 16384)) (zeros 16384) (file_written (export_step s p)) in
      r.answer ≡ DONE → (x : List ℕ) → 8 ≤ length x → times_in x r.seg ≡ times_in x s
  round_trip n few ok x l =
      omega (
        arith,
        export_joins (zeros (n * 16384)) (zeros 16384) (blank_sound n few) ok x l,
        ap (λ (es : List Entry). times x (rows_in es)) (blank_list (n * 16384)),
      )
