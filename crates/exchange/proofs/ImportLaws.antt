-- Laws for import: a record's own refusals, and what is left of a file gives the whole.
use Prim.Native.Nat.{ℕ, zero, suc, ◌+◌, ◌-◌, ◌≤◌, ◌<◌}
use mathlib.Core.Path.{◌≡◌, refl, sym, ap, subst, ◌∙◌}
use mathlib.Core.Bool.{true, ◌&&◌}
use mathlib.Core.List.{List, [], ◌∷◌, ◌++◌}
use mathlib.Core.Logic.{◌≢◌}
use native.Mathlib.Omega.{arith}
use lib.ListN.{length, drop, length-take}
use Rattle.store.specs.Numbers.{cut, to_be}
use Rattle.store.specs.Refusals.{DONE, LONG, number_of}
use Rattle.store.specs.Segment.{size_ok, inv_ok, Result}
use Rattle.store.specs.Segment.{insert_step}
use Rattle.store.specs.ManyRows.{Rows, no_row, and_row, insert_all}
use Rattle.store.specs.Answers.{outcome}
use Rattle.store.specs.Calls.{insert}
use Rattle.store.proofs.Laws.Cases.{never}
use Rattle.store.proofs.Laws.ManyRows.{row_in, row_refused, no_row_lem}
use Rattle.store.proofs.Promises.Refused.{refused_keeps, length_kept, inventory_kept, sizes_kept}
use Rattle.std.specs.Prelude.{Some, Ok, Err}
use Rattle.store.proofs.Laws.Roots.{refusal_some}
use Rattle.store.specs.declared.Refusal.{Refusal}
use Rattle.segment_insert.specs.Words.{KnownSound}
use Rattle.exchange.specs.Exchange.{Parsed, holds, and_record, parse, Import, without_ids, insert_parsed, import_step}
use Rattle.exchange.specs.Told.{imported, ByInsert}
use Rattle.exchange.specs.Words.{follows, Inside, fault_of, fault_number, of_fault}
use Rattle.exchange.specs.FileTold.{of_insert}
use Rattle.exchange.proofs.Laws.Import.{by_file, insert_short}
use Rattle.exchange.proofs.Laws.Parse.{fault_behind, fault_is, held, parse_holds}
use Rattle.exchange.specs.declared.ImportRefusal.TheVariants as import
use Rattle.exchange.specs.declared.format.Fault.{Fault}
use Rattle.exchange.specs.declared.format.Fault.TheVariants as fault
use Rattle.exchange.specs.declared.format.Record.{Record}

-- ---- a record of at most 16,364 bytes is refused by 4, 7 or 8 alone

late : (a : ℕ) → of_insert a ≡ true → a ≢ 0 → LONG < a
late zero o n = absurd (n refl)
late (suc zero) o n = never o refl
late (suc (suc zero)) o n = never o refl
late (suc (suc (suc zero))) o n = never o refl
late (suc (suc (suc (suc a)))) o n = omega arith

-- ---- one record of the fold

-- k records have gone in: then those of r
abbrev pub counted_from : ℕ → Rows → Import
counted_from k r = record { answer = r.answer; inserted = k + r.inserted; seg = r.seg; inv = r.inv }

count_next : (k i : ℕ) (r : Rows) → counted_from k (and_row i r) ≡ counted_from (k + 1) r
count_next k i r = let n : k + (r.inserted + 1) ≡ k + 1 + r.inserted = omega arith in rw n

count_none : (k a : ℕ) (s v : List ℕ) → counted_from k (no_row a s v) ≡ record { answer = a; inserted = k; seg = s; inv = v }
count_none k a s v = let e : k + 0 ≡ k = omega arith in rw e

-- ---- the loop: what is left to do gives the whole

-- k records have gone in, from the segment s₀ and the inventory v₀; the next stands at `at`
pub record FileLeft (s₀ v₀ f s v ks : List ℕ) (at k : ℕ) : Type 0 where
  pub few : k ≤ at
  pub within : at ≤ length f
  pub faultless : fault_of (parse (drop at f)) ≡ DONE
  pub sizes : (size_ok s && inv_ok v) ≡ true
  pub known : KnownSound s ks
  pub seg_long : length s ≡ length s₀
  pub inv_long : length v ≡ length v₀
  pub gives : counted_from k (insert_parsed s v (parse (drop at f))) ≡ without_ids (insert_parsed s₀ v₀ (parse f))

module _ (s₀ v₀ f : List ℕ) where
  -- before the first record
  pub left_all : (ks : List ℕ) → (size_ok s₀ && inv_ok v₀) ≡ true → fault_of (parse f) ≡ DONE → KnownSound s₀ ks → FileLeft s₀ v₀ f s₀ v₀ ks 0 0
  left_all ks h w q =
      let r = insert_parsed s₀ v₀ (parse f) in
      let e : 0 + r.inserted ≡ r.inserted = omega arith in
      record { few = omega arith; within = omega arith; faultless = w; sizes = h; known = q; seg_long = refl; inv_long = refl; gives = rw e }

  module _ (s v ks : List ℕ) (at k : ℕ) (g : FileLeft s₀ v₀ f s v ks at k) where
    -- behind the last
    pub left_none : parse (drop at f) ≡ holds [] → imported (Ok k) s v ≡ without_ids (insert_parsed s₀ v₀ (parse f))
    left_none e =
        sym (count_none k 0 s v) ∙ ap (counted_from k) (sym (no_row_lem s v)) ∙ ap (λ (p : Parsed). counted_from k (insert_parsed s v p)) (sym e) ∙ g.gives

    -- a record stands there
    module _ (r : Record) (is : parse (drop at f) ≡ follows f (Ok (Some r))) (i : Inside f at r.data r.end) (s' v' : List ℕ) where
      abbrev e : ℕ
      e = r.end

      abbrev row : List ℕ
      row = to_be 8 r.head ++ cut f r.data (e - r.data)

      abbrev here : Result
      here = insert_step s v row

      abbrev rest : List (List ℕ)
      rest = held (parse (drop e f))

      still : fault_of (parse (drop e f)) ≡ DONE
      still = sym (fault_behind row (parse (drop e f))) ∙ ap fault_of (sym is) ∙ g.faultless

      whole : counted_from k (insert_all s v (row ∷ rest)) ≡ without_ids (insert_parsed s₀ v₀ (parse f))
      whole = ap (λ (p : Parsed). counted_from k (insert_parsed s v p)) (ap (and_record row) (sym (parse_holds (drop e f) still)) ∙ sym is) ∙ g.gives

      short : length row ≤ 16364
      short = omega (arith, length-take (e - r.data) (drop r.data f), i.short)

      -- it is refused
      pub left_stop : (a : Refusal) → outcome (Err a) s' v' ≡ here
          → (imported (Err (import.Stopped k a)) s' v' ≡ without_ids (insert_parsed s₀ v₀ (parse f))) × (LONG < number_of a)
      left_stop a o =
          let same : number_of a ≡ here.answer = λ j. (o j).answer in
          let q : here.answer ≢ 0 = λ z. refusal_some a (same ∙ z) in
          let kept = refused_keeps (insert row) s v q in
          let seg : s' ≡ s = (λ j. (o j).seg) ∙ kept.0 in
          let inv : v' ≡ v = (λ j. (o j).inv) ∙ kept.1 in (
            (λ j. record { answer = same j; inserted = k; seg = seg j; inv = inv j })
                ∙ sym (count_none k here.answer s v) ∙ ap (counted_from k) (sym (row_refused s v row rest q)) ∙ whole,
            subst (λ (m : ℕ). LONG < m) (sym same) (late here.answer (insert_short s v row g.sizes short) q),
          )

      -- it goes in
      pub left_next : (n : ℕ) → outcome (Ok n) s' v' ≡ here → (ks' : List ℕ) → KnownSound s' ks' → FileLeft s₀ v₀ f s' v' ks' e (k + 1)
      left_next n o ks' w =
          let c = insert row in
          record {
            few = omega (arith, g.few, i.begins, i.long);
            within = i.within;
            faultless = still;
            sizes = (λ j. size_ok (o j).seg && inv_ok (o j).inv) ∙ sizes_kept c s v g.sizes;
            known = w;
            seg_long = (λ j. length (o j).seg) ∙ length_kept c s v ∙ g.seg_long;
            inv_long = (λ j. length (o j).inv) ∙ inventory_kept c s v ∙ g.inv_long;
            gives = ap (λ (p : Parsed). counted_from (k + 1) (insert_parsed s' v' p)) (parse_holds (drop e f) still)
                ∙ sym (count_next k n (insert_all s' v' rest)) ∙ (λ j. counted_from k (and_row (o j).id (insert_all (o j).seg (o j).inv rest)))
                ∙ ap (counted_from k) (sym (row_in s v row rest (λ j. (sym o j).answer))) ∙ whole;
          }

-- ---- the call

module _ (s v f : List ℕ) where
  import_wrong : (size_ok s && inv_ok v) ≡ true → (a : ℕ) → a ≡ fault_of (parse f) → a ≢ 0 → without_ids (no_row a s v) ≡ import_step s v f
  import_wrong e a w n = ap (λ (p : Parsed). without_ids (insert_parsed s v p)) (sym (fault_is (parse f) w n)) ∙ sym (by_file s v f e (parse f) refl)

  -- a fault of the file
  pub import_fault : (size_ok s && inv_ok v) ≡ true → (x : Fault) → fault_number x ≡ fault_of (parse f)
      → (imported (Err (of_fault x)) s v ≡ import_step s v f) × ByInsert (Err (of_fault x))
  import_fault e fault.Short w = (import_wrong e (fault_number fault.Short) w (λ z. omega arith), tt)
  import_fault e fault.Mark w = (import_wrong e (fault_number fault.Mark) w (λ z. omega arith), tt)
  import_fault e fault.Long w = (import_wrong e (fault_number fault.Long) w (λ z. omega arith), tt)
