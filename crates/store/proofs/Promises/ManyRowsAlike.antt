-- Demand 3 over many rows in one call: two segments that are alike, with equal inventories. The same list gives equal answers, rows told, ids and
-- inventories, and leaves the two alike: in the paper's words from sound segments, by kind and values from all, damaged ones too.
use Rattle.std.specs.Prelude.{ℕ, ◌+◌, ◌/◌, ◌%◌, ◌≡◌, refl, Bool, true, false, ◌&&◌, List, [], ◌∷◌, ◌⊎◌, length, eqb, leb}
use Rattle.std.proofs.Common.{sym, ap, ◌∙◌, subst, inl, inr}
use Rattle.store.specs.Numbers.{put}
use Rattle.store.specs.Segment.{Result, insert_step, size_ok, inv_ok}
use Rattle.store.specs.Calls.{insert}
use Rattle.store.specs.Alike.{Alike, AlikeByKind, AlikeToRead, Same}
use Rattle.store.specs.SoundSegment.{SoundSegment}
use Rattle.store.specs.ManyRows.{Rows, insert_all, rows_of, list_ok, insert_rows_step}
use Rattle.store.specs.ManyRowsTold.{SameRows}
use Rattle.store.proofs.Laws.Cases.{eq_or_ne}
use Rattle.store.proofs.Laws.ManyRows.{no_row_lem, row_in, row_refused, by_size, by_list, rows_placed}
use Rattle.store.proofs.Promises.Sound.{call_right}
use Rattle.store.proofs.Promises.AlikeByKind.{same_call}
use Rattle.store.proofs.Promises.Alike.{call_alike, read_alike}

-- ---- once over the sense in which they are alike: it may ask something of the inventory

module _ (like : List ℕ → List ℕ → List ℕ → Type 0)
    (next : (b s t v : List ℕ) → like v s t → Same (like (insert_step s v b).inv) (insert_step s v b) (insert_step t v b)) where
  same_rows : (rows : List (List ℕ)) (s t v w : List ℕ) → like v s t → v ≡ w
      → SameRows (like (insert_all s v rows).inv) (insert_all s v rows) (insert_all t w rows)
  same_rows [] s t v w x e = rw (no_row_lem s v, no_row_lem t w) (record { answer = refl; inserted = refl; ids = refl; inv = e; seg = x })
  same_rows (b ∷ rows) s t v w x e =
      let y = next b s t v x in
      subst (λ (z : List ℕ). SameRows (like (insert_all s v (b ∷ rows)).inv) (insert_all s v (b ∷ rows)) (insert_all t z (b ∷ rows))) e
      (go y (same_rows rows (insert_step s v b).seg (insert_step t v b).seg (insert_step s v b).inv (insert_step t v b).inv y.seg y.inv)
      (eq_or_ne (insert_step s v b).answer 0))
    where
      p : Result
      p = insert_step s v b

      q : Result
      q = insert_step t v b

      go : Same (like p.inv) p q
          → SameRows (like (insert_all p.seg p.inv rows).inv) (insert_all p.seg p.inv rows) (insert_all q.seg q.inv rows)
          → (p.answer ≡ 0) ⊎ (p.answer ≡ 0 → ⊥)
          → SameRows (like (insert_all s v (b ∷ rows)).inv) (insert_all s v (b ∷ rows)) (insert_all t v (b ∷ rows))
      go y k (inl z) =
          rw (row_in s v b rows z, row_in t v b rows (sym y.answer ∙ z))
          (record {
            answer = k.answer;
            inserted = ap (λ (n : ℕ). n + 1) k.inserted;
            ids = λ i. y.id i ∷ k.ids i;
            inv = k.inv;
            seg = k.seg;
          })
      go y k (inr n) =
          rw (row_refused s v b rows n, row_refused t v b rows (λ z. n (y.answer ∙ z)))
          (record { answer = y.answer; inserted = refl; ids = refl; inv = refl; seg = x })

  module _ (long : (s t v : List ℕ) → like v s t → length s ≡ length t) where
    same_call_rows : (s t v w bs ls is : List ℕ) → like v s t → v ≡ w
        → SameRows (like (insert_rows_step s v bs ls is).inv) (insert_rows_step s v bs ls is) (insert_rows_step t w bs ls is)
    same_call_rows s t v w bs ls is x e =
        subst (λ (z : List ℕ). SameRows (like (insert_rows_step s v bs ls is).inv) (insert_rows_step s v bs ls is) (insert_rows_step t z bs ls is)) e
        (go (size_ok s && inv_ok v) (list_ok bs ls is) refl refl)
      where
        m : (size_ok t && inv_ok v) ≡ (size_ok s && inv_ok v)
        m = ap (λ (n : ℕ). (eqb (n % 16384) 0 && leb (n / 16384) 32527) && inv_ok v) (sym (long s t v x))

        go : (b c : Bool) → (size_ok s && inv_ok v) ≡ b → list_ok bs ls is ≡ c
            → SameRows (like (insert_rows_step s v bs ls is).inv) (insert_rows_step s v bs ls is) (insert_rows_step t v bs ls is)
        go false c d f =
            rw (by_size s v bs ls is d, by_size t v bs ls is (m ∙ d))
            (record { answer = refl; inserted = refl; ids = refl; inv = refl; seg = x })
        go true false d f =
            rw (by_list s v bs ls is d f, by_list t v bs ls is (m ∙ d) f)
            (record { answer = refl; inserted = refl; ids = refl; inv = refl; seg = x })
        go true true d f =
            let k = same_rows (rows_of bs ls) s t v v x refl in
            rw (rows_placed s v bs ls is d f, rows_placed t v bs ls is (m ∙ d) f)
            (record { answer = k.answer; inserted = k.inserted; ids = ap (put is 0) k.ids; inv = k.inv; seg = k.seg })

-- ---- in the paper's words, from a sound segment; reads, places and scans are equal too

abbrev SoundAlike : List ℕ → List ℕ → List ℕ → Type 0
SoundAlike v s t = SoundSegment s v × Alike s t

sound_next : (b s t v : List ℕ) → SoundAlike v s t → Same (SoundAlike (insert_step s v b).inv) (insert_step s v b) (insert_step t v b)
sound_next b s t v x =
    let y = call_alike (insert b) s t v x.0 x.1 in
    record { answer = y.answer; id = y.id; inv = y.inv; seg = ((call_right (insert b) s v x.0).sound, y.seg) }

to_read : (a b : Rows) → SameRows (SoundAlike a.inv) a b → SameRows AlikeToRead a b
to_read a b k =
    record {
      answer = k.answer;
      inserted = k.inserted;
      ids = k.ids;
      inv = k.inv;
      seg = read_alike a.seg b.seg a.inv k.seg.0 k.seg.1;
    }

pub rows_demand_3 : (rows : List (List ℕ)) (s t v w : List ℕ) → SoundSegment s v → Alike s t → v ≡ w
    → SameRows AlikeToRead (insert_all s v rows) (insert_all t w rows)
rows_demand_3 rows s t v w h l e = to_read _ _ (same_rows SoundAlike sound_next rows s t v w (h, l) e)

pub call_demand_3 : (s t v w bs ls is : List ℕ) → SoundSegment s v → Alike s t → v ≡ w
    → SameRows AlikeToRead (insert_rows_step s v bs ls is) (insert_rows_step t w bs ls is)
call_demand_3 s t v w bs ls is h l e =
    to_read _ _ (same_call_rows SoundAlike sound_next (λ p q z x. x.1.long) s t v w bs ls is (h, l) e)

-- ---- by kind and values, from all segments

pub rows_demand_3_by_kind : (rows : List (List ℕ)) (s t v w : List ℕ) → AlikeByKind s t → v ≡ w
    → SameRows AlikeByKind (insert_all s v rows) (insert_all t w rows)
rows_demand_3_by_kind = same_rows (λ v. AlikeByKind) (λ b s t v. same_call (insert b) s t v)

pub call_demand_3_by_kind : (s t v w bs ls is : List ℕ) → AlikeByKind s t → v ≡ w
    → SameRows AlikeByKind (insert_rows_step s v bs ls is) (insert_rows_step t w bs ls is)
call_demand_3_by_kind = same_call_rows (λ v. AlikeByKind) (λ b s t v. same_call (insert b) s t v) (λ s t v x. x.long)
