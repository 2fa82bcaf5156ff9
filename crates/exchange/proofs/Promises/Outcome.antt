-- Each contract admits a single outcome: the left side of its equation, with what is said of a stop, fixes the answer itself and every byte.
use Rattle.std.specs.Prelude.{ℕ, ◌<◌, ◌≡◌, refl, List, [], ◌∷◌, get_or, Result, Ok, Err}
use Rattle.std.proofs.Common.{sym, ap, ◌∙◌, arith}
use Rattle.store.specs.Refusals.{LONG, number_of}
use Rattle.store.specs.declared.Refusal.{Refusal}
use Rattle.store.specs.declared.Refusal.TheVariants.{Size, NoPage, Long, Damaged, NoRecord, Forwarded, Full, Stale}
use Rattle.exchange.specs.Exchange.{Import, Export}
use Rattle.exchange.specs.Told.{imported, ByInsert, exported}
use Rattle.exchange.specs.declared.ImportRefusal.{ImportRefusal}
use Rattle.exchange.specs.declared.ImportRefusal.TheVariants as import
use Rattle.exchange.specs.declared.Exported.{Exported}
use Rattle.exchange.specs.declared.ExportRefusal.{ExportRefusal}
use Rattle.exchange.specs.declared.ExportRefusal.TheVariants as export

-- ---- import

module _ (r r' : Result ℕ ImportRefusal) (s s' v v' : List ℕ) where
  pub imported_single : ByInsert r → ByInsert r' → imported r s v ≡ imported r' s' v' → (r ≡ r') × (s ≡ s') × (v ≡ v')
  imported_single h h' e = (
    sym (back r s v h) ∙ ap answer e ∙ back r' s' v' h',
    ap (λ (o : Import). o.seg) e,
    ap (λ (o : Import). o.inv) e,
  )
    where
      answer : Import → Result ℕ ImportRefusal
      answer o =
          let n : ℕ = o.inserted in
          get_or
          (Ok n ∷ Err import.Size ∷ Err import.Size ∷ Err import.Long ∷ Err (import.Stopped n Damaged) ∷ Err (import.Stopped n NoRecord)
          ∷ Err (import.Stopped n Forwarded) ∷ Err (import.Stopped n Full) ∷ Err (import.Stopped n Stale) ∷ Err import.Size ∷ Err import.Size
          ∷ Err import.Size ∷ Err import.Mark ∷ Err import.Short ∷ [])
          o.answer (Err import.Size)

      stopped : (a : Refusal) → LONG < number_of a → (n : ℕ) (t w : List ℕ)
          → answer (imported (Err (import.Stopped n a)) t w) ≡ Err (import.Stopped n a)
      stopped Size l n t w = absurd (omega arith)
      stopped NoPage l n t w = absurd (omega arith)
      stopped Long l n t w = absurd (omega arith)
      stopped Damaged l n t w = refl
      stopped NoRecord l n t w = refl
      stopped Forwarded l n t w = refl
      stopped Full l n t w = refl
      stopped Stale l n t w = refl

      back : (a : Result ℕ ImportRefusal) (t w : List ℕ) → ByInsert a → answer (imported a t w) ≡ a
      back (Ok n) t w b = refl
      back (Err import.Size) t w b = refl
      back (Err import.Short) t w b = refl
      back (Err import.Mark) t w b = refl
      back (Err import.Long) t w b = refl
      back (Err (import.Stopped n a)) t w b = stopped a b n t w

-- ---- export

module _ (r r' : Result Exported ExportRefusal) (p p' : List ℕ) where
  pub exported_single : exported r p ≡ exported r' p' → (r ≡ r') × (p ≡ p')
  exported_single e = (
    sym (back r p) ∙ ap answer e ∙ back r' p',
    ap (λ (o : Export). o.place) e,
  )
    where
      answer : Export → Result Exported ExportRefusal
      answer o =
          let x : Exported = record { length = o.length; passed = o.passed } in
          get_or
          (Ok x ∷ Err export.Size ∷ Err export.Size ∷ Err export.Size ∷ Err export.Damaged ∷ Err export.Size ∷ Err export.Size ∷ Err export.Size
          ∷ Err export.Size ∷ Err export.Size ∷ Err export.Size ∷ Err (export.Room x) ∷ [])
          o.answer (Err export.Size)

      back : (a : Result Exported ExportRefusal) (q : List ℕ) → answer (exported a q) ≡ a
      back (Ok x) q = refl
      back (Err export.Size) q = refl
      back (Err export.Damaged) q = refl
      back (Err (export.Room x)) q = refl
