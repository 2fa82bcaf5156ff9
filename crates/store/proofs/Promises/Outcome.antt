-- "Each contract admits a single outcome": the left side of a promise's equation fixes the answer itself, not only its number. Two answers that
-- give the same left side are the same answer, and the bytes left are the same bytes.
use Rattle.std.specs.Prelude.{ℕ, ◌≡◌, refl, cond, List, [], ◌∷◌, get_or, drop, Option, Some, None, Ok, Err}
use Rattle.std.specs.Prelude.{Result as ResultOf}
use Rattle.std.proofs.Common.{sym, ap, ◌∙◌, arith}
use Rattle.store.specs.Segment.{Result, Located}
use Rattle.store.specs.Scan.{Scanned}
use Rattle.store.specs.ManyRows.{Rows}
use Rattle.store.specs.Refusals.{number_of}
use Rattle.store.specs.Answers.{outcome, told, ByRow, located, step_of, scanned_of, repaired, numbers, reported, summed}
use Rattle.store.specs.Answers.{Placed, given_place, NamedPage, named_page}
use Rattle.store.specs.Repair.{Repaired}
use Rattle.store.specs.Report.{Report}
use Rattle.store.specs.ReportTold.{pages_in, fresh_in, slots_in, records_in, record_bytes_in, forwarded_in, free_in}
use Rattle.store.specs.declared.Refusal.{Refusal}
use Rattle.store.specs.declared.Refusal.TheVariants.{Size, NoPage, Long, Damaged, NoRecord, Forwarded, Full, Stale}
use Rattle.store.specs.declared.Place.{Place}
use Rattle.store.specs.declared.Part.{Part}
use Rattle.store.specs.declared.Record.{Record}
use Rattle.store.specs.declared.Step.{Step}
use Rattle.store.specs.declared.ListRefusal.{ListRefusal}
use Rattle.store.specs.declared.ListRefusal.TheVariants as many
use Rattle.store.specs.declared.RepairRefusal.{RepairRefusal}
use Rattle.store.specs.declared.RepairRefusal.TheVariants as repair
use Rattle.store.specs.declared.Tally.{Tally}
use Rattle.store.specs.declared.ReportRefusal.{ReportRefusal}
use Rattle.store.specs.declared.ReportRefusal.TheVariants as fill

-- what can be undone tells two apart
undone : {A B : Type 0} (f : A → B) (back : B → A) → ((x : A) → back (f x) ≡ x) → (x y : A) → f x ≡ f y → x ≡ y
undone f back h x y e = sym (h x) ∙ ap back e ∙ h y

-- the refusal of a number of the first eight
abbrev refusal_at : ℕ → Refusal
refusal_at n = get_or (Size ∷ Size ∷ NoPage ∷ Long ∷ Damaged ∷ NoRecord ∷ Forwarded ∷ Full ∷ Stale ∷ []) n Size

-- an answer from its number: of 0 what is told with it, of any other its refusal
abbrev answer_at : {T : Type 0} → T → ℕ → ResultOf T Refusal
answer_at x n = get_or (Ok x ∷ []) n (Err (refusal_at n))

refused_back : {T : Type 0} (x : T) (r : Refusal) → answer_at x (number_of r) ≡ Err r
refused_back x Size = refl
refused_back x NoPage = refl
refused_back x Long = refl
refused_back x Damaged = refl
refused_back x NoRecord = refl
refused_back x Forwarded = refl
refused_back x Full = refl
refused_back x Stale = refl

-- ---- the calls that write

module _ (r r' : ResultOf ℕ Refusal) (s s' v v' : List ℕ) where
  pub outcome_single : outcome r s v ≡ outcome r' s' v' → (r ≡ r') × (s ≡ s') × (v ≡ v')
  outcome_single e = (
    sym (back r s v) ∙ ap answer e ∙ back r' s' v',
    ap (λ (o : Result). o.seg) e,
    ap (λ (o : Result). o.inv) e,
  )
    where
      answer : Result → ResultOf ℕ Refusal
      answer o = answer_at o.id o.answer

      back : (a : ResultOf ℕ Refusal) (t w : List ℕ) → answer (outcome a t w) ≡ a
      back (Ok i) t w = refl
      back (Err x) t w = refused_back 0 x

-- ---- many rows

module _ (r r' : ResultOf ℕ ListRefusal) (is is' s s' v v' : List ℕ) where
  pub inserted_single : ByRow r → ByRow r' → told r is s v ≡ told r' is' s' v' → (r ≡ r') × (is ≡ is') × (s ≡ s') × (v ≡ v')
  inserted_single h h' e = (
    sym (back r is s v h) ∙ ap answer e ∙ back r' is' s' v' h',
    ap (λ (o : Rows). o.ids) e,
    ap (λ (o : Rows). o.seg) e,
    ap (λ (o : Rows). o.inv) e,
  )
    where
      answer : Rows → ResultOf ℕ ListRefusal
      answer o =
          let n : ℕ = o.inserted in
          get_or
          (Ok n ∷ Err many.Size ∷ Err (many.Stopped n NoPage) ∷ Err (many.Stopped n Long) ∷ Err (many.Stopped n Damaged) ∷ Err (many.Stopped n NoRecord)
          ∷ Err (many.Stopped n Forwarded) ∷ Err (many.Stopped n Full) ∷ Err (many.Stopped n Stale) ∷ [])
          o.answer (Err many.List)

      back : (a : ResultOf ℕ ListRefusal) (js t w : List ℕ) → ByRow a → answer (told a js t w) ≡ a
      back (Ok n) js t w h = refl
      back (Err many.Size) js t w h = refl
      back (Err many.List) js t w h = refl
      back (Err (many.Stopped n Size)) js t w h = absurd (omega arith)
      back (Err (many.Stopped n NoPage)) js t w h = refl
      back (Err (many.Stopped n Long)) js t w h = refl
      back (Err (many.Stopped n Damaged)) js t w h = refl
      back (Err (many.Stopped n NoRecord)) js t w h = refl
      back (Err (many.Stopped n Forwarded)) js t w h = refl
      back (Err (many.Stopped n Full)) js t w h = refl
      back (Err (many.Stopped n Stale)) js t w h = refl

-- ---- a read

pub located_single : (r r' : ResultOf Part Refusal) → located r ≡ located r' → r ≡ r'
located_single = undone located answer back
  where
    answer : Located → ResultOf Part Refusal
    answer d = answer_at d.part d.answer

    back : (r : ResultOf Part Refusal) → answer (located r) ≡ r
    back (Ok d) = refl
    back (Err x) = refused_back _ x

-- ---- a step of a scan of the segment s

pub scanned_single : (s : List ℕ) (r r' : ResultOf Step Refusal) → scanned_of r s ≡ scanned_of r' s → r ≡ r'
scanned_single s = undone (λ r. scanned_of r s) answer back
  where
    record_in : Scanned → Option Record
    record_in d = cond d.some (Some (record { id = d.id; part = d.part })) None

    answer : Scanned → ResultOf Step Refusal
    answer d = answer_at (record { found = record_in d; page = d.page; slot = d.slot }) d.answer

    stepped : (x : Option Record) (p k : ℕ) → answer (step_of x p k s) ≡ Ok (record { found = x; page = p; slot = k })
    stepped (Some x) p k = refl
    stepped None p k = refl

    back : (r : ResultOf Step Refusal) → answer (scanned_of r s) ≡ r
    back (Ok t) = stepped t.found t.page t.slot
    back (Err x) = refused_back _ x

-- ---- inside a call: a place on a page, and a page that the inventory names

pub placed_single : (r r' : Option Place) → given_place r ≡ given_place r' → r ≡ r'
placed_single = undone given_place answer back
  where
    answer : Placed → Option Place
    answer d = get_or (Some (record { slot = d.slot; offset = d.offset }) ∷ []) d.answer None

    back : (r : Option Place) → answer (given_place r) ≡ r
    back (Some x) = refl
    back None = refl

pub named_single : (r r' : Option ℕ) → named_page r ≡ named_page r' → r ≡ r'
named_single = undone named_page answer back
  where
    answer : NamedPage → Option ℕ
    answer d = get_or (Some d.page ∷ []) d.answer None

    back : (r : Option ℕ) → answer (named_page r) ≡ r
    back (Some p) = refl
    back None = refl

-- ---- repair

module _ (r r' : ResultOf ℕ RepairRefusal) (s s' v v' l l' : List ℕ) where
  pub repaired_single : repaired r s v l ≡ repaired r' s' v' l' → (r ≡ r') × (s ≡ s') × (v ≡ v') × (l ≡ l')
  repaired_single e = (
    sym (back r s v l) ∙ ap answer e ∙ back r' s' v' l',
    ap (λ (o : Repaired). o.seg) e,
    ap (λ (o : Repaired). o.inv) e,
    ap (λ (o : Repaired). o.list) e,
  )
    where
      answer : Repaired → ResultOf ℕ RepairRefusal
      answer o = get_or (Ok o.count ∷ Err repair.Size ∷ []) o.answer (Err (repair.Room o.count))

      back : (a : ResultOf ℕ RepairRefusal) (t w m : List ℕ) → answer (repaired a t w m) ≡ a
      back (Ok n) t w m = refl
      back (Err repair.Size) t w m = refl
      back (Err (repair.Room n)) t w m = refl

-- ---- a fill report

abbrev tally_of : List ℕ → Tally
tally_of n =
    record {
      pages = pages_in n;
      fresh_pages = fresh_in n;
      slots = slots_in n;
      records = records_in n;
      record_bytes = record_bytes_in n;
      forwarded = forwarded_in n;
      free_bytes = free_in n;
      classes = drop 7 n;
    }

module _ (r r' : ResultOf (Unit {0}) ReportRefusal) (t t' : Tally) where
  pub reported_single : reported r t ≡ reported r' t' → (r ≡ r') × (t ≡ t')
  reported_single e = (sym (back r t) ∙ ap answer e ∙ back r' t', undone numbers tally_of (λ x. refl) t t' (ap (λ (o : Report). o.tally) e))
    where
      answer : Report → ResultOf (Unit {0}) ReportRefusal
      answer o = get_or (Ok tt ∷ Err fill.Size ∷ Err fill.Size ∷ Err fill.Size ∷ Err fill.Damaged ∷ []) o.answer (Err fill.Tally)

      back : (a : ResultOf (Unit {0}) ReportRefusal) (x : Tally) → answer (reported a x) ≡ a
      back (Ok u) x = refl
      back (Err fill.Size) x = refl
      back (Err fill.Damaged) x = refl
      back (Err fill.Tally) x = refl

-- the same by value: what an `Ok` holds is fixed too, whatever tallies the calls were given
module _ (r r' : ResultOf Tally ReportRefusal) (t t' : Tally) where
  pub summed_single : summed r t ≡ summed r' t' → r ≡ r'
  summed_single e = sym (back r t) ∙ ap answer e ∙ back r' t'
    where
      answer : Report → ResultOf Tally ReportRefusal
      answer o = get_or (Ok (tally_of o.tally) ∷ Err fill.Size ∷ Err fill.Size ∷ Err fill.Size ∷ Err fill.Damaged ∷ []) o.answer (Err fill.Tally)

      back : (a : ResultOf Tally ReportRefusal) (x : Tally) → answer (summed a x) ≡ a
      back (Ok y) x = refl
      back (Err fill.Size) x = refl
      back (Err fill.Damaged) x = refl
      back (Err fill.Tally) x = refl
