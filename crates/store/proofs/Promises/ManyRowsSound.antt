-- Many rows in one call, from a sound segment: "sound afterwards, no 4 and no 8, each row reads back by its id, and the ids are pairwise
-- different and were not in use". Of the fold over a list of rows, and of the call.
use Rattle.std.specs.Prelude.{ℕ, ◌/◌, ◌<◌, ◌≡◌, refl, Bool, true, false, ◌&&◌, List, [], ◌∷◌, ◌≢◌, length}
use Rattle.std.proofs.Common.{sym, ap, ◌∙◌, subst, arith}
use Rattle.store.specs.Numbers.{page_no}
use Rattle.store.specs.Refusals.{DONE, DAMAGED, STALE, LIST}
use Rattle.store.specs.Segment.{seg_view, size_ok, inv_ok, Result, insert_step, read_step}
use Rattle.store.specs.Calls.{insert}
use Rattle.store.specs.ManyRows.{Rows, no_row, and_row, insert_all, rows_of, list_ok, insert_rows_step}
use Rattle.store.specs.ManyRowsTold.{given, ReadBack, EachId, NoRepeat, FreeIn}
use Rattle.store.specs.SoundSegment.{slot_on, Root, Rooted, SoundSegment}
use Rattle.store.proofs.Laws.SoundPage.{and_in}
use Rattle.store.proofs.Laws.ManyRows.{by_row, no_row_lem}
use Rattle.store.proofs.Promises.Refused.{length_kept}
use Rattle.store.proofs.Promises.Sound.{call_right}
use Rattle.store.proofs.Promises.Ids.{id_unused, id_other, free_before, unused_stays}
use Rattle.store.proofs.Promises.ReadAfterWrite.{call_reads, record_rooted}
use Rattle.store.proofs.Promises.ManyRows.{rows_long}
use Rattle.store.proofs.Promises.ManyRowsCall.{list_refused, call_fold}

pub record SoundRows (s v : List ℕ) (rows : List (List ℕ)) (r : Rows) : Type 0 where
  -- "sound afterwards, no 4 and no 8"
  pub sound : SoundSegment r.seg r.inv
  pub whole : r.answer ≢ DAMAGED
  pub current : r.answer ≢ STALE
  -- "each row reads back by its id"
  pub reads : ReadBack r.seg r.ids rows
  -- "and the ids are pairwise different and were not in use"; they are now
  pub different : NoRepeat r.ids
  pub new : EachId (FreeIn s) r.ids
  pub used : EachId (Rooted r.seg) r.ids
  -- every id that was in use is so, and reads as before
  pub others : (j : ℕ) → Rooted s j → Rooted r.seg j × (read_step r.seg j ≡ read_step s j)
  -- and no id but those given has come into use
  pub no_other : (j : ℕ) → (Rooted s j → ⊥) → EachId (λ i. j ≢ i) r.ids → Rooted r.seg j → ⊥

each_id : (P Q : ℕ → Type 0) → ((i : ℕ) → P i → Q i) → (is : List ℕ) → EachId P is → EachId Q is
each_id P Q f [] h = tt
each_id P Q f (i ∷ is) h = (f i h.0, each_id P Q f is h.1)

both_ids : (P Q : ℕ → Type 0) (is : List ℕ) → EachId P is → EachId Q is → EachId (λ i. P i × Q i) is
both_ids P Q [] h k = tt
both_ids P Q (i ∷ is) h k = ((h.0, k.0), both_ids P Q is h.1 k.1)

-- one row went in, and the others after it
module _ (s v b : List ℕ) (rows : List (List ℕ)) (h : SoundSegment s v) (e : (insert_step s v b).answer ≡ 0) where
  abbrev t : Result
  t = insert_step s v b

  own : Rooted t.seg t.id
  own = record_rooted (insert b) s v h refl e

  -- an id that is free now is not the one given, and it was free
  unlike : (j : ℕ) → FreeIn t.seg j → t.id ≢ j
  unlike j f q = subst Root f (subst (λ (i : ℕ). Root (slot_on (seg_view t.seg) i)) q own.root)

  then_rows : (r : Rows) → length r.seg ≡ length t.seg → SoundRows t.seg t.inv rows r → SoundRows s v (b ∷ rows) (and_row t.id r)
  then_rows r long k =
      record {
        sound = k.sound;
        whole = k.whole;
        current = k.current;
        reads = ((k.others t.id own).1 ∙ (call_reads (insert b) s v h).own e, k.reads);
        different = (each_id (FreeIn t.seg) (λ j. t.id ≢ j) unlike r.ids k.new, k.different);
        new = (
          id_unused (insert b) s v h tt e,
          each_id (λ j. FreeIn t.seg j × Rooted r.seg j) (FreeIn s)
              (λ j x. free_before (insert b) s v h tt j (subst (λ (n : ℕ). page_no j < n / 16384) (long ∙ length_kept (insert b) s v) x.1.below) x.0)
              r.ids (both_ids (FreeIn t.seg) (Rooted r.seg) r.ids k.new k.used),
        );
        used = ((k.others t.id own).0, k.used);
        others = λ j x.
            let y = (call_reads (insert b) s v h).others j x (id_other (insert b) s v h j x (λ o. o)) in
            let z = k.others j y.0 in
            (z.0, z.1 ∙ y.1);
        no_other = λ j n d x. k.no_other j (unused_stays (insert b) s v h j n (λ m a. d.0)) d.1 x;
      }

-- no row went in
stays : (s v : List ℕ) (rows : List (List ℕ)) (a : ℕ) → SoundSegment s v → a ≢ DAMAGED → a ≢ STALE → SoundRows s v rows (no_row a s v)
stays s v rows a h d c =
    record {
      sound = h;
      whole = d;
      current = c;
      reads = tt;
      different = tt;
      new = tt;
      used = tt;
      others = λ j x. (x, refl);
      no_other = λ j n u x. n x;
    }

pub rows_sound : (rows : List (List ℕ)) (s v : List ℕ) → SoundSegment s v → SoundRows s v rows (insert_all s v rows)
rows_sound [] s v h = subst (SoundRows s v []) (sym (no_row_lem s v)) (stays s v [] DONE h (λ z. omega arith) (λ z. omega arith))
rows_sound (b ∷ rows) s v h =
    let t : Result = insert_step s v b in
    let c = call_right (insert b) s v h in
    by_row s v b rows (SoundRows s v (b ∷ rows))
    (λ e. then_rows s v b rows h e (insert_all t.seg t.inv rows) (rows_long rows t.seg t.inv).0 (rows_sound rows t.seg t.inv c.sound))
    (λ n. stays s v (b ∷ rows) t.answer h c.whole c.current)

-- the call, whatever the list: of the places, those that were written
pub call_sound : (s v bs ls is : List ℕ) → SoundSegment s v → SoundRows s v (rows_of bs ls) (given (insert_rows_step s v bs ls is))
call_sound s v bs ls is h =
    let d : (size_ok s && inv_ok v) ≡ true = and_in (size_ok s) (inv_ok v) h.whole h.page in
    go d (list_ok bs ls is) refl
  where
    go : (size_ok s && inv_ok v) ≡ true → (c : Bool) → list_ok bs ls is ≡ c → SoundRows s v (rows_of bs ls) (given (insert_rows_step s v bs ls is))
    go d true e = subst (SoundRows s v (rows_of bs ls)) (sym (call_fold s v bs ls is d e)) (rows_sound (rows_of bs ls) s v h)
    go d false e =
        subst (SoundRows s v (rows_of bs ls)) (sym (ap given (list_refused s v bs ls is d e)))
        (stays s v (rows_of bs ls) LIST h (λ z. omega arith) (λ z. omega arith))
