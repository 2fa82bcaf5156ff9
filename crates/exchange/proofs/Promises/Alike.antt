-- Demand 3 over the exchange file: "alike segments export the same file", and the same file imported into alike segments, with equal inventories, gives
-- equal answers, records told and inventories and leaves them alike. In the paper's words (`Alike`), import from a sound segment; by what is seen
-- (`AlikeByKind`) of all segments, damaged ones too.
use Rattle.std.specs.Prelude.{ℕ, ◌/◌, ◌%◌, ◌≡◌, refl, Bool, true, false, ◌&&◌, List, length, eqb, leb}
use Rattle.std.proofs.Common.{sym, ◌∙◌}
use Rattle.store.specs.Segment.{size_ok, inv_ok}
use Rattle.store.specs.Alike.{Alike, AlikeByKind, AlikeToRead}
use Rattle.store.specs.SoundSegment.{SoundSegment}
use Rattle.store.specs.ManyRows.{insert_all}
use Rattle.store.specs.ManyRowsTold.{SameRows}
use Rattle.store.proofs.Laws.Alike.{by_size}
use Rattle.store.proofs.Promises.Alike.{read_alike}
use Rattle.store.proofs.Promises.ManyRowsAlike.{rows_demand_3, rows_demand_3_by_kind}
use Rattle.exchange.specs.Exchange.{Parsed, wrong, holds, parse, import_step, export_step}
use Rattle.exchange.specs.FileTold.{SameImports}
use Rattle.exchange.proofs.Promises.Import.{size_refused, file_refused, import_fold}

-- ---- export: the answer's number, both numbers told, and every byte of the place

pub export_same : (s t p : List ℕ) → AlikeByKind s t → export_step s p ≡ export_step t p
unfolding export_step
export_same s t p a = rw (a.seen, a.long)

-- with right size or wrong, with sound pages or damaged ones
pub export_alike : (s t p : List ℕ) → Alike s t → export_step s p ≡ export_step t p
unfolding export_step
export_alike s t p l = by_size s t l _ (export_same s t p) (λ e f. rw (e, f))

-- ---- import

-- once over the sense in which they are alike
same_import : (like : List ℕ → List ℕ → Type 0) (s t v w f : List ℕ) → length s ≡ length t → v ≡ w → like s t
    → ((rs : List (List ℕ)) → SameRows like (insert_all s v rs) (insert_all t w rs)) → SameImports like (import_step s v f) (import_step t w f)
same_import like s t v w f long e x rows = go (size_ok s && inv_ok v) refl (parse f) refl
  where
    m : (size_ok t && inv_ok w) ≡ (size_ok s && inv_ok v)
    m = λ i. (eqb (sym long i % 16384) 0 && leb (sym long i / 16384) 32527) && inv_ok (sym e i)

    go : (b : Bool) → (size_ok s && inv_ok v) ≡ b → (p : Parsed) → parse f ≡ p → SameImports like (import_step s v f) (import_step t w f)
    go false d p q = rw (size_refused s v f d, size_refused t w f (m ∙ d)) (record { answer = refl; inserted = refl; inv = e; seg = x })
    go true d (wrong a) q =
        rw (file_refused s v f a d q, file_refused t w f a (m ∙ d) q) (record { answer = refl; inserted = refl; inv = e; seg = x })
    go true d (holds rs) q =
        let k = rows rs in
        rw (import_fold s v f rs d q, import_fold t w f rs (m ∙ d) q)
        (record { answer = k.answer; inserted = k.inserted; inv = k.inv; seg = k.seg })

-- in the paper's words; reads, places and scans are equal too
pub import_demand_3 : (s t v w f : List ℕ) → SoundSegment s v → Alike s t → v ≡ w → SameImports AlikeToRead (import_step s v f) (import_step t w f)
import_demand_3 s t v w f h l e = same_import AlikeToRead s t v w f l.long e (read_alike s t v h l) (λ rs. rows_demand_3 rs s t v w h l e)

-- by kind and values
pub import_demand_3_by_kind : (s t v w f : List ℕ) → AlikeByKind s t → v ≡ w → SameImports AlikeByKind (import_step s v f) (import_step t w f)
import_demand_3_by_kind s t v w f a e = same_import AlikeByKind s t v w f a.long e a (λ rs. rows_demand_3_by_kind rs s t v w a e)
