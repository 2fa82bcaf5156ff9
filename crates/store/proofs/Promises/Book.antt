-- The store as a book of ids and rows (document 02, Ask 13): from a sound segment, the scan lists each entry of the book once, and a call changes at
-- most one row of it, that of the id which it answers.
use Rattle.std.specs.Prelude.{ℕ, ◌≡◌, refl, List, ◌⊎◌, ◌≢◌}
use Rattle.std.proofs.Common.{sym, ap, ◌∙◌, subst, inl, inr, arith, eq-eqb, ne_eqb}
use Rattle.store.specs.Refusals.{DONE}
use Rattle.store.specs.Segment.{seg_view, Read, read_step}
use Rattle.store.specs.Calls.{Call, insert, allocate, write, resize, erase, called, Makes}
use Rattle.store.specs.Records.{scan_all}
use Rattle.store.specs.SoundSegment.{slot_on, bytes_on, Root, Rooted, SoundSegment}
use Rattle.store.specs.Book.{absent, row, book_of, fit_row, new_row, next_book, Lists}
use Rattle.store.proofs.Laws.Cases.{eq_or_ne}
use Rattle.store.proofs.Laws.Views.{upd_same, upd_other}
use Rattle.store.proofs.Laws.Pairs.{tag_on, tag_root, root_looks}
use Rattle.store.proofs.Laws.Rows.{read_look, call_rows}
use Rattle.store.proofs.Laws.Book.{used_or, book_used, book_absent, all_listed}
use Rattle.store.proofs.Promises.Sound.{call_right}
use Rattle.store.proofs.Promises.Ids.{id_own, id_unused}
use Rattle.store.proofs.Promises.ReadAfterWrite.{reads_as, call_reads, record_rooted}

-- "the scan lists each entry once"
pub scan_lists : (s v : List ℕ) → SoundSegment s v → Lists (book_of s) (scan_all s)
scan_lists = all_listed

-- an id in use reads 0
used_reads : (s v : List ℕ) → SoundSegment s v → (i : ℕ) → Rooted s i → (read_step s i).answer ≡ DONE
used_reads s v h i r =
    ap (λ (d : Read). d.answer) (read_look s v h i r.below)
    ∙ root_looks (bytes_on (seg_view s)) i (tag_on (seg_view s) i) ((tag_root (slot_on (seg_view s) i)).0 r.root)

-- the row of the answer's id, after a call that is carried out
wrote : (c : Call) (s v : List ℕ) → SoundSegment s v → (reads_as c s).answer ≡ DONE → (called c s v).answer ≡ DONE
    → book_of (called c s v).seg (called c s v).id ≡ row (reads_as c s).bytes
wrote c s v h w a =
    book_used (called c s v).seg (called c s v).id (record_rooted c s v h w a) ∙ ap (λ (d : Read). row d.bytes) ((call_reads c s v h).own a)

own_row : (c : Call) (s v : List ℕ) → SoundSegment s v → (called c s v).answer ≡ DONE
    → book_of (called c s v).seg (called c s v).id ≡ new_row c (book_of s)
own_row (insert bs) s v h a = wrote (insert bs) s v h refl a
own_row (allocate n) s v h a = wrote (allocate n) s v h refl a
own_row (write i bs) s v h a = wrote (write i bs) s v h refl a
own_row (resize i n) s v h a = wrote (resize i n) s v h refl a ∙ ap (fit_row n) (sym (book_used s i (id_own (resize i n) s v i refl a).1))
own_row (erase i) s v h a =
    let r = called (erase i) s v in
    book_absent r.seg r.id
    (λ u.
    let z = used_reads r.seg r.inv (call_right (erase i) s v h).sound r.id u in
    let y = ap (λ (d : Read). d.answer) ((call_reads (erase i) s v h).own a) in
    omega arith)

module _ (c : Call) (s v : List ℕ) (h : SoundSegment s v) where
  -- "a call changes no other id's bytes"; "a refused call leaves the map as it stood"; and an id that is not in it stays out
  pub book_others : (j : ℕ) → ((called c s v).answer ≡ DONE → j ≢ (called c s v).id) → book_of (called c s v).seg j ≡ book_of s j
  book_others j n = go (used_or s j)
    where
      go : Rooted s j ⊎ (Rooted s j → ⊥) → book_of (called c s v).seg j ≡ book_of s j
      go (inl r) =
          let y = (call_reads c s v h).others j r n in
          book_used (called c s v).seg j y.0 ∙ ap (λ (d : Read). row d.bytes) y.1 ∙ sym (book_used s j r)
      go (inr f) = book_absent (called c s v).seg j (λ r. f ((call_rows c s v h).made j r n)) ∙ sym (book_absent s j f)

  -- "the last bytes written under that id, resizes and zeros counted, until it is erased": the answer's id has the new row
  pub book_own : (called c s v).answer ≡ DONE → book_of (called c s v).seg (called c s v).id ≡ new_row c (book_of s)
  book_own = own_row c s v h

  -- the book after a call: one row changed, or none where it was refused
  pub book_next : book_of (called c s v).seg ≡ next_book c (called c s v) (book_of s)
  book_next = λ z j. each j (eq_or_ne (called c s v).answer DONE) (eq_or_ne j (called c s v).id) z
    where
      each : (j : ℕ) → ((called c s v).answer ≡ DONE) ⊎ ((called c s v).answer ≢ DONE) → (j ≡ (called c s v).id) ⊎ (j ≢ (called c s v).id)
          → book_of (called c s v).seg j ≡ next_book c (called c s v) (book_of s) j
      each j (inr f) d = rw (ne_eqb (called c s v).answer DONE f) (book_others j (λ e. absurd (f e)))
      each j (inl e) (inl d) =
          rw (eq-eqb (called c s v).answer DONE e) (rw d (book_own e ∙ sym (upd_same (book_of s) (called c s v).id (new_row c (book_of s)))))
      each j (inl e) (inr n) =
          rw (eq-eqb (called c s v).answer DONE e) (book_others j (λ x. n) ∙ sym (upd_other (book_of s) (called c s v).id (new_row c (book_of s)) j n))

  -- "an id handed out by insert or allocate was not in use"
  pub book_unused : Makes c → (called c s v).answer ≡ DONE → book_of s (called c s v).id ≡ absent
  book_unused m e = book_absent s (called c s v).id (λ r. subst Root (id_unused c s v h m e) r.root)
