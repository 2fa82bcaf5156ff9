-- Import, `import_step` (document 02, "Bench exchange file"): "Import reads the file through before inserting anything, then goes on as Ask 2 does, without
-- id places", the fold `insert_all` of the store (its Promises/ManyRows). For all segments and inventories, damaged ones too, and all files; at the end
-- what more holds from a sound segment.
use Rattle.std.specs.Prelude.{ℕ, ◌+◌, ◌≤◌, ◌≡◌, refl, Bool, true, false, ◌&&◌, List, [], ◌++◌, ◌↔◌, ◌≢◌, ◌⊎◌, length, take, drop}
use Rattle.std.proofs.Common.{sym, ap, ◌∙◌, subst, inl, inr, ⊎_elim, arith, take-append-drop}
use Rattle.store.specs.Numbers.{Bytes, In}
use Rattle.store.specs.Refusals.{DONE, SIZE, LONG, FULL}
use Rattle.store.specs.Segment.{size_ok, inv_ok, read_step}
use Rattle.store.specs.ManyRows.{Rows, insert_all}
use Rattle.store.specs.Records.{times, times_in}
use Rattle.store.specs.SoundSegment.{Rooted, SoundSegment}
use Rattle.store.proofs.Laws.Cases.{never}
use Rattle.store.proofs.Laws.Numbers.{in_left}
use Rattle.store.proofs.Laws.SoundPage.{and_in}
use Rattle.store.proofs.Laws.ManyRows.{no_row_lem, counted, cut_joined, cut_refused, told_alone}
use Rattle.store.proofs.Promises.ManyRows.{rows_long, rows_sized}
use Rattle.store.proofs.Promises.ManyRowsSound.{rows_sound}
use Rattle.store.proofs.Promises.Counts.{insert_all_adds, insert_all_answers}
use Rattle.exchange.specs.Exchange.{MARK, SHORT, wrong, holds, parse, file_of, Import, without_ids, import_step}
use Rattle.exchange.specs.FileTold.{no_import, then_import, of_insert}
use Rattle.exchange.proofs.Laws.Import.{by_sizes, by_file, by_import, rows_short}
use Rattle.exchange.proofs.Promises.Format.{reads_back, parsed_good, empty_file, files_read, refused_by}

-- a file's refusals are 3, 12 and 13
at_least : (f : List ℕ) (a : ℕ) → parse f ≡ wrong a → LONG ≤ a
at_least f a q = ⊎_elim (λ e. omega arith) (λ x. ⊎_elim (λ e. omega arith) (λ e. omega arith) x) (refused_by f a q)

module _ (s v f : List ℕ) where
  -- ---- "Refusals: 1, then .. all before any insert; then each insert's own."

  -- "1 before the file is looked at"
  pub size_refused : (size_ok s && inv_ok v) ≡ false → import_step s v f ≡ no_import SIZE s v
  size_refused = by_sizes s v f

  -- "where it gives a number, that is the answer and nothing changes"
  pub file_refused : (a : ℕ) → (size_ok s && inv_ok v) ≡ true → parse f ≡ wrong a → import_step s v f ≡ no_import a s v
  file_refused a e = by_file s v f e (wrong a)

  -- "where `parse f` gives `rs`, import is the fold over `rs`"
  pub import_fold : (rs : List (List ℕ)) → (size_ok s && inv_ok v) ≡ true → parse f ≡ holds rs → import_step s v f ≡ without_ids (insert_all s v rs)
  import_fold rs e = by_file s v f e (holds rs)

  -- a file that is read is answered by 0, 4, 7 or 8
  pub read_answers : (rs : List (List ℕ)) → (size_ok s && inv_ok v) ≡ true → parse f ≡ holds rs → of_insert (import_step s v f).answer ≡ true
  read_answers rs e q = rw (import_fold rs e q) (rows_short rs s v e (parsed_good f rs q))

  -- so every answer is one of 0, 1, 3, 4, 7, 8, 12 and 13
  pub import_answers : let a = (import_step s v f).answer in (a ≡ SIZE) ⊎ (a ≡ LONG) ⊎ (a ≡ MARK) ⊎ (a ≡ SHORT) ⊎ (of_insert a ≡ true)
  import_answers =
      by_import s v f (λ (r : Import). (r.answer ≡ SIZE) ⊎ (r.answer ≡ LONG) ⊎ (r.answer ≡ MARK) ⊎ (r.answer ≡ SHORT) ⊎ (of_insert r.answer ≡ true))
      (λ e. inl refl) (λ a e q. inr (⊎_elim inl (λ x. inr (⊎_elim inl (λ y. inr (inl y)) x)) (refused_by f a q)))
      (λ rs e q. inr (inr (inr (inr (rows_short rs s v e (parsed_good f rs q))))))

  -- "import's refusals by 1, 3, 12, 13 change nothing": no record has gone in, and segment and inventory are as they were
  pub kept : let r = import_step s v f in of_insert r.answer ≡ false → r ≡ no_import r.answer s v
  kept =
      by_import s v f (λ (r : Import). of_insert r.answer ≡ false → r ≡ no_import r.answer s v) (λ e z. refl) (λ a e q z. refl)
      (λ rs e q z. never (rows_short rs s v e (parsed_good f rs q)) z)

  -- 1 exactly if a size is wrong
  pub size_exactly : ((import_step s v f).answer ≡ SIZE) ↔ ((size_ok s && inv_ok v) ≡ false)
  size_exactly = (
    by_import s v f (λ (r : Import). r.answer ≡ SIZE → (size_ok s && inv_ok v) ≡ false) (λ e z. e) (λ a e q z. absurd (omega (arith, at_least f a q)))
        (λ rs e q z. never (rows_short rs s v e (parsed_good f rs q)) (ap of_insert z)),
    λ e. ap (λ (r : Import). r.answer) (size_refused e),
  )

  -- 3, 12 or 13 exactly if the sizes are right and that is what the file gives
  pub file_exactly : (a : ℕ) → a ≢ SIZE → of_insert a ≡ false → ((import_step s v f).answer ≡ a) ↔ (((size_ok s && inv_ok v) ≡ true) × (parse f ≡ wrong a))
  file_exactly a n o = (
    by_import s v f (λ (r : Import). r.answer ≡ a → ((size_ok s && inv_ok v) ≡ true) × (parse f ≡ wrong a)) (λ e z. absurd (n (sym z)))
        (λ b e q z. (e, q ∙ ap wrong z)) (λ rs e q z. never (rows_short rs s v e (parsed_good f rs q)) (ap of_insert z ∙ o)),
    λ x. ap (λ (r : Import). r.answer) (file_refused a x.0 x.1),
  )

  -- 0 exactly if the sizes are right, the file is read (`done_tells`), and all of its records went in (`read_done`)
  pub done_tells : (import_step s v f).answer ≡ DONE → ((size_ok s && inv_ok v) ≡ true) × ((rs : List (List ℕ)) × (parse f ≡ holds rs))
  done_tells =
      by_import s v f (λ (r : Import). r.answer ≡ DONE → ((size_ok s && inv_ok v) ≡ true) × ((rs : List (List ℕ)) × (parse f ≡ holds rs)))
      (λ e z. absurd (omega arith)) (λ a e q z. absurd (omega (arith, at_least f a q))) (λ rs e q z. (e, (rs, q)))

  pub read_done : (rs : List (List ℕ)) → (size_ok s && inv_ok v) ≡ true → parse f ≡ holds rs
      → ((import_step s v f).answer ≡ DONE) ↔ ((import_step s v f).inserted ≡ length rs)
  read_done rs e q = rw (import_fold rs e q) ((counted rs s v).whole, (counted rs s v).done)

  -- there are never more than the file has
  pub read_few : (rs : List (List ℕ)) → (size_ok s && inv_ok v) ≡ true → parse f ≡ holds rs → (import_step s v f).inserted ≤ length rs
  read_few rs e q = rw (import_fold rs e q) (counted rs s v).few

  -- ---- segment and inventory

  -- neither becomes longer or shorter
  pub import_long : let r = import_step s v f in (length r.seg ≡ length s) × (length r.inv ≡ length v)
  import_long =
      by_import s v f (λ (r : Import). (length r.seg ≡ length s) × (length r.inv ≡ length v)) (λ e. (refl, refl)) (λ a e q. (refl, refl))
      (λ rs e q. rows_long rs s v)

  -- "those stay", and nothing beyond the records told: the file of the records that went in answers 0, and leaves the same
  pub import_told : (rs : List (List ℕ)) → (size_ok s && inv_ok v) ≡ true → parse f ≡ holds rs → let r = import_step s v f in
      import_step s v (file_of (take r.inserted rs)) ≡ record { answer = DONE; inserted = r.inserted; seg = r.seg; inv = r.inv }
  import_told rs e q =
      rw (import_fold rs e q)
      (let n : ℕ = (insert_all s v rs).inserted in
      by_file s v (file_of (take n rs)) e (holds (take n rs))
      (reads_back (take n rs) (λ x i. parsed_good f rs q x (subst (In x) (take-append-drop n rs) (in_left x (take n rs) (drop n rs) i))))
      ∙ ap without_ids (told_alone rs s v))

-- "An empty file answers 0"; nothing changes
pub import_empty : (s v : List ℕ) → (size_ok s && inv_ok v) ≡ true → import_step s v [] ≡ no_import DONE s v
import_empty s v e = import_fold s v [] [] e empty_file ∙ ap without_ids (no_row_lem s v)

-- ---- two files

module _ (s v f g : List ℕ) (bytes : Bytes f) (rs ts : List (List ℕ)) (first : parse f ≡ holds rs) (rest : parse g ≡ holds ts) where
  -- the first answers 0: importing both end to end is importing one and then the other
  pub imports_joined : let r = import_step s v f in r.answer ≡ DONE → import_step s v (f ++ g) ≡ then_import r (import_step r.seg r.inv g)
  imports_joined d =
      let e = (done_tells s v f d).0 in
      let q = import_fold s v f rs e first in
      let r : Rows = insert_all s v rs in
      import_fold s v (f ++ g) (rs ++ ts) e (files_read f g rs ts bytes first rest)
      ∙ ap without_ids (cut_joined rs ts s v (ap (λ (x : Import). x.answer) (sym q) ∙ d))
      ∙ ap (then_import (without_ids r)) (sym (import_fold r.seg r.inv g ts (rows_sized rs s v e) rest))
      ∙ ap (λ (x : Import). then_import x (import_step x.seg x.inv g)) (sym q)

  -- it doesn't: the rest is not tried
  pub imports_stop : (import_step s v f).answer ≢ DONE → import_step s v (f ++ g) ≡ import_step s v f
  imports_stop n = go (size_ok s && inv_ok v) refl
    where
      go : (b : Bool) → (size_ok s && inv_ok v) ≡ b → import_step s v (f ++ g) ≡ import_step s v f
      go false e = size_refused s v (f ++ g) e ∙ sym (size_refused s v f e)
      go true e =
          let q = import_fold s v f rs e first in
          import_fold s v (f ++ g) (rs ++ ts) e (files_read f g rs ts bytes first rest)
          ∙ ap without_ids (cut_refused rs ts s v (λ z. n (ap (λ (x : Import). x.answer) q ∙ z))) ∙ sym q

-- ---- from a sound segment

module _ (s v f : List ℕ) (h : SoundSegment s v) where
  -- it stays sound, whatever the file
  pub import_sound : let r = import_step s v f in SoundSegment r.seg r.inv
  import_sound = by_import s v f (λ (r : Import). SoundSegment r.seg r.inv) (λ e. h) (λ a e q. h) (λ rs e q. (rows_sound rs s v h).sound)

  -- "Import into a segment in use is allowed: the records join those there": each id in use reads as before
  pub import_others : (j : ℕ) → Rooted s j → let r = import_step s v f in Rooted r.seg j × (read_step r.seg j ≡ read_step s j)
  import_others j x =
      by_import s v f (λ (r : Import). Rooted r.seg j × (read_step r.seg j ≡ read_step s j)) (λ e. (x, refl)) (λ a e q. (x, refl))
      (λ rs e q. (rows_sound rs s v h).others j x)

  module _ (rs : List (List ℕ)) (read : parse f ≡ holds rs) where
    fold : import_step s v f ≡ without_ids (insert_all s v rs)
    fold = import_fold s v f rs (and_in (size_ok s) (inv_ok v) h.whole h.page) read

    -- a file that is read is answered by 0, or by 7 for want of room
    pub import_fits : ((import_step s v f).answer ≡ DONE) ⊎ ((import_step s v f).answer ≡ FULL)
    import_fits = rw fold (insert_all_answers rs s v h (λ x i. (parsed_good f rs read x i).short))

    -- the records told are in the scan, each as often as in the file, and nothing else is added or gone
    pub import_adds : (x : List ℕ) → times_in x (import_step s v f).seg ≡ times_in x s + times x (take (import_step s v f).inserted rs)
    import_adds x = rw fold (insert_all_adds x rs s v h)
