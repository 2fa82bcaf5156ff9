-- Laws for many rows in one call: the sum of the lengths, one row of the fold, and what is left to do.
use Prim.Native.Nat.{ℕ, zero, suc, ◌+◌, ◌-◌, ◌≤◌, ◌<◌}
use mathlib.Core.Path.{◌≡◌, refl, sym, ap, subst, ◌∙◌}
use mathlib.Core.Bool.{Bool, true, false, ◌&&◌, and-false}
use mathlib.Core.List.{List, ◌∷◌}
use mathlib.Core.Logic.{◌≢◌}
use native.Mathlib.Omega.{arith}
use lib.ListN.{length, take, drop, set, get_or, length-set, drop_of_length-le}
use lib.Seq.{drop-cons, drop-drop}
use lib.Dec.{eqb}
use borrow.Author.Tests.{lt-leb}
use Rattle.store.specs.Numbers.{put}
use Rattle.store.specs.Segment.{Result, size_ok, inv_ok, insert_step}
use Rattle.store.specs.ManyRows.{Rows, no_row, and_row, insert_all, rows_of, total, list_ok, placed}
use Rattle.store.specs.ManyRowsTold.{of_row}
use Rattle.store.specs.Answers.{outcome, told}
use Rattle.store.specs.Refusals.{number_of}
use Rattle.store.proofs.Laws.Roots.{refusal_some}
use Rattle.store.specs.Calls.{insert}
use Rattle.store.proofs.Laws.Cases.{never}
use Rattle.store.proofs.Laws.Numbers.{put_set, put_nil}
use Rattle.store.proofs.Laws.ManyRows.{row_in, row_refused, no_row_lem, insert_own}
use Rattle.store.proofs.Promises.Refused.{refused_keeps, length_kept, inventory_kept, sizes_kept}
use Rattle.std.proofs.Common.{Ok, Err}
use Rattle.store.specs.declared.Refusal.{Refusal}
use Rattle.store.specs.declared.ListRefusal.TheVariants as many
use Rattle.segment_insert.specs.Words.{KnownSound}

-- ---- the lengths from number k on

total_next : (ls : List ℕ) (k : ℕ) → k < length ls → total (drop k ls) ≡ get_or ls k 0 + total (drop (k + 1) ls)
total_next ls k h = let e : k + 1 ≡ suc k = omega arith in rw e (ap total (drop-cons ls k 0 h))

-- ---- a row's own number that is not 0 is above 1

own_above : (a : ℕ) → of_row a ≡ true → a ≢ 0 → 1 < a
own_above zero e n = absurd (n refl)
own_above (suc zero) e n = never e refl
own_above (suc (suc a)) e n = omega arith

-- ---- one row of the fold

-- k rows have gone in, and their ids stand in is: then those of r
abbrev pub placed_from : ℕ → List ℕ → Rows → Rows
placed_from k is r = record { answer = r.answer; inserted = k + r.inserted; ids = put is k r.ids; seg = r.seg; inv = r.inv }

-- its id goes to its place
place_next : (k i : ℕ) (is : List ℕ) (r : Rows) → placed_from k is (and_row i r) ≡ placed_from (k + 1) (set is k i) r
place_next k i is r =
    let e : k + 1 ≡ suc k = omega arith in
    let n : k + (r.inserted + 1) ≡ k + 1 + r.inserted = omega arith in
    rw (n, e, put_set is k i r.ids)

-- no row is left
place_none : (k a : ℕ) (is s v : List ℕ) → placed_from k is (no_row a s v) ≡ record { answer = a; inserted = k; ids = is; seg = s; inv = v }
place_none k a is s v = let e : k + 0 ≡ k = omega arith in rw (e, put_nil is k)

-- ---- the loop: what is left to do gives the whole

abbrev pub rows_from : List ℕ → List ℕ → ℕ → ℕ → List (List ℕ)
rows_from bs ls at k = rows_of (drop at bs) (drop k ls)

-- row k stands at `at`
abbrev pub row : List ℕ → List ℕ → ℕ → ℕ → List ℕ
row bs ls at k = take (at + get_or ls k 0 - at) (drop at bs)

rows_next : (bs ls : List ℕ) (at k : ℕ) → k < length ls → rows_from bs ls at k ≡ row bs ls at k ∷ rows_from bs ls (at + get_or ls k 0) (k + 1)
rows_next bs ls at k h =
    let l = get_or ls k 0 in
    let e : k + 1 ≡ suc k = omega arith in
    let m : at + l - at ≡ l = omega arith in
    rw (e, m) (ap (rows_of (drop at bs)) (drop-cons ls k 0 h) ∙ ap (λ (q : List ℕ). take l (drop at bs) ∷ rows_of q (drop (suc k) ls)) (drop-drop l at bs))

-- k rows have gone in, from the segment s₀, the inventory v₀ and the places is₀; the next stands at `at`
pub record RowsLeft (s₀ v₀ bs ls is₀ s v is ks : List ℕ) (at k : ℕ) : Type 0 where
  pub few : k ≤ length ls
  pub bytes : at + total (drop k ls) ≡ length bs
  pub sizes : (size_ok s && inv_ok v) ≡ true
  pub known : KnownSound s ks
  pub seg_long : length s ≡ length s₀
  pub inv_long : length v ≡ length v₀
  pub places : length is ≡ length is₀
  pub gives : placed_from k is (insert_all s v (rows_from bs ls at k)) ≡ placed is₀ (insert_all s₀ v₀ (rows_of bs ls))

module _ (s₀ v₀ bs ls is₀ : List ℕ) where
  module _ (s v is ks : List ℕ) (at k : ℕ) (g : RowsLeft s₀ v₀ bs ls is₀ s v is ks at k) where
    -- behind the last
    pub left_none : length ls ≤ k → told (Ok k) is s v ≡ placed is₀ (insert_all s₀ v₀ (rows_of bs ls))
    left_none h =
        sym (place_none k 0 is s v) ∙ ap (placed_from k is) (sym (no_row_lem s v))
        ∙ ap (λ (q : List ℕ). placed_from k is (insert_all s v (rows_of (drop at bs) q))) (sym (drop_of_length-le ls h)) ∙ g.gives

    module _ (h : k < length ls) (s' v' : List ℕ) where
      abbrev here : Result
      here = insert_step s v (row bs ls at k)

      abbrev rest : List (List ℕ)
      rest = rows_from bs ls (at + get_or ls k 0) (k + 1)

      whole : placed_from k is (insert_all s v (row bs ls at k ∷ rest)) ≡ placed is₀ (insert_all s₀ v₀ (rows_of bs ls))
      whole = ap (λ (xs : List (List ℕ)). placed_from k is (insert_all s v xs)) (sym (rows_next bs ls at k h)) ∙ g.gives

      -- the row is refused
      pub left_stop : (a : Refusal) → outcome (Err a) s' v' ≡ here
          → (told (Err (many.Stopped k a)) is s' v' ≡ placed is₀ (insert_all s₀ v₀ (rows_of bs ls))) × (1 < number_of a)
      left_stop a e =
          let same : number_of a ≡ here.answer = λ j. (e j).answer in
          let q : here.answer ≢ 0 = λ z. refusal_some a (same ∙ z) in
          let kept = refused_keeps (insert (row bs ls at k)) s v q in
          let seg : s' ≡ s = (λ j. (e j).seg) ∙ kept.0 in
          let inv : v' ≡ v = (λ j. (e j).inv) ∙ kept.1 in (
            (λ j. record { answer = same j; inserted = k; ids = is; seg = seg j; inv = inv j })
                ∙ sym (place_none k here.answer is s v) ∙ ap (placed_from k is) (sym (row_refused s v (row bs ls at k) rest q)) ∙ whole,
            subst (λ (m : ℕ). 1 < m) (sym same) (own_above here.answer (insert_own s v (row bs ls at k) g.sizes) q),
          )

      -- it goes in
      pub left_next : (i : ℕ) → outcome (Ok i) s' v' ≡ here → (ks' : List ℕ) → KnownSound s' ks'
          → RowsLeft s₀ v₀ bs ls is₀ s' v' (set is k i) ks' (at + get_or ls k 0) (k + 1)
      left_next i e ks' w =
          let c = insert (row bs ls at k) in
          record {
            few = omega arith;
            bytes = omega (arith, total_next ls k h, g.bytes);
            sizes = (λ j. size_ok (e j).seg && inv_ok (e j).inv) ∙ sizes_kept c s v g.sizes;
            known = w;
            seg_long = (λ j. length (e j).seg) ∙ length_kept c s v ∙ g.seg_long;
            inv_long = (λ j. length (e j).inv) ∙ inventory_kept c s v ∙ g.inv_long;
            places = length-set is k i ∙ g.places;
            gives = sym (place_next k i is (insert_all s' v' rest)) ∙ (λ j. placed_from k is (and_row (e j).id (insert_all (e j).seg (e j).inv rest)))
                ∙ ap (placed_from k is) (sym (row_in s v (row bs ls at k) rest (λ j. (sym e j).answer))) ∙ whole;
          }

-- ---- the list is refused: too few places, or another sum

module _ (bs ls is : List ℕ) where
  pub no_places : length is < length ls → list_ok bs ls is ≡ false
  no_places l = ap (λ (b : Bool). eqb (total ls) (length bs) && b) (lt-leb (length ls) (length is) l) ∙ and-false (eqb (total ls) (length bs))

  pub no_sum : eqb (total ls) (length bs) ≡ false → list_ok bs ls is ≡ false
  no_sum e = rw e
