-- Import: what it answers and leaves, by the sizes and by what is read of the file.
use Rattle.std.specs.Prelude.{ℕ, ◌≤◌, ◌≡◌, refl, Bool, true, false, ◌&&◌, List, [], ◌∷◌, length}
use Rattle.std.proofs.Common.{sym, ap, subst, inl, inr, ⊎_elim}
use Rattle.store.specs.Refusals.{SIZE, DAMAGED, STALE}
use Rattle.store.specs.Segment.{size_ok, inv_ok, insert_step}
use Rattle.store.specs.Calls.{insert}
use Rattle.store.specs.ManyRows.{Rows, insert_all}
use Rattle.store.proofs.Laws.Cases.{eq_or_ne}
use Rattle.store.proofs.Laws.ManyRows.{by_row, no_row_lem, insert_fitted}
use Rattle.store.proofs.Promises.Refused.{sizes_kept}
use Rattle.exchange.specs.Exchange.{Parsed, wrong, holds, parse, Import, without_ids, insert_parsed, import_step}
use Rattle.exchange.specs.FileTold.{Readings, no_import, of_insert}

module _ (s v f : List ℕ) where
  pub by_sizes : (size_ok s && inv_ok v) ≡ false → import_step s v f ≡ no_import SIZE s v
  unfolding import_step
  by_sizes e = rw e

  pub by_file : (size_ok s && inv_ok v) ≡ true → (p : Parsed) → parse f ≡ p → import_step s v f ≡ without_ids (insert_parsed s v p)
  unfolding import_step
  by_file e p q = rw (e, q)

  -- a property of what is left, from each of the three
  pub by_import : (P : Import → Type 0) → ((size_ok s && inv_ok v) ≡ false → P (no_import SIZE s v))
      → ((a : ℕ) → (size_ok s && inv_ok v) ≡ true → parse f ≡ wrong a → P (no_import a s v))
      → ((rs : List (List ℕ)) → (size_ok s && inv_ok v) ≡ true → parse f ≡ holds rs → P (without_ids (insert_all s v rs)))
      → P (import_step s v f)
  by_import P x y z = go (size_ok s && inv_ok v) refl (parse f) refl
    where
      go : (b : Bool) → (size_ok s && inv_ok v) ≡ b → (p : Parsed) → parse f ≡ p → P (import_step s v f)
      go false e p q = subst P (sym (by_sizes e)) (x e)
      go true e (wrong a) q = subst P (sym (by_file e (wrong a) q)) (y a e q)
      go true e (holds rs) q = subst P (sym (by_file e (holds rs) q)) (z rs e q)

-- ---- "(3 can't occur any more)"

pub insert_short : (s v b : List ℕ) → (size_ok s && inv_ok v) ≡ true → length b ≤ 16364 → of_insert (insert_step s v b).answer ≡ true
insert_short s v b h l =
    ⊎_elim (ap of_insert)
    (λ d. ⊎_elim (ap of_insert) (λ t. ⊎_elim (ap of_insert) (ap of_insert) (insert_fitted s v b h l d t)) (eq_or_ne (insert_step s v b).answer STALE))
    (eq_or_ne (insert_step s v b).answer DAMAGED)

pub rows_short : (rows : List (List ℕ)) (s v : List ℕ) → (size_ok s && inv_ok v) ≡ true → Readings rows → of_insert (insert_all s v rows).answer ≡ true
rows_short [] s v h g = rw (no_row_lem s v)
rows_short (b ∷ rows) s v h g =
    by_row s v b rows (λ (r : Rows). of_insert r.answer ≡ true)
    (λ e. rows_short rows (insert_step s v b).seg (insert_step s v b).inv (sizes_kept (insert b) s v h) (λ x i. g x (inr i)))
    (λ n. insert_short s v b h (g b (inl refl)).short)
