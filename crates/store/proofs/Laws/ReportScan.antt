-- Two figures of the report by the scan: the records are as many as the whole scan's list has entries, and the record bytes as many as these hold.
use Rattle.std.specs.Prelude.{ℕ, zero, suc, ◌+◌, ◌-◌, ◌≡◌, refl, Bool, true, false, cond, List, [], ◌∷◌, ◌++◌, map, length, drop}
use Rattle.std.proofs.Common.{sym, ap, ◌∙◌, arith, add-one, length-drop}
use Rattle.store.specs.Numbers.{sum, one}
use Rattle.store.specs.Slots.{len, is_record, is_target}
use Rattle.store.specs.Page.{View}
use Rattle.store.specs.Segment.{SegView}
use Rattle.store.specs.Records.{Entry, entry_of, entries_from, page_entries, pages_entries, entries}
use Rattle.store.specs.Report.{records_of, bytes_in, bytes_of, over}
use Rattle.store.specs.ManyRows.{total}
use Rattle.store.specs.Laws.Views.{Sound}
use Rattle.store.proofs.Laws.Views.{sum_ext}
use Rattle.store.specs.declared.Slot.{Slot}
use Rattle.store.specs.declared.Slot.TheVariants.{Ordinary, Free, Redirect, Target}

-- what is summed from the front is the sum
pub sum_front : (f : ℕ → ℕ) (g : ℕ → ℕ → ℕ) → ((k : ℕ) → g 0 k ≡ 0) → ((m k : ℕ) → g (suc m) k ≡ f k + g m (k + 1)) → (n : ℕ) → g n 0 ≡ sum n f
sum_front f g none more n = omega (arith, from n 0 (omega arith))
  where
    from : (m k : ℕ) → k + m ≡ n → g m k + sum k f ≡ sum n f
    from zero k e = let q : k ≡ n = omega arith in omega (arith, none k, ap (λ (j : ℕ). sum j f) q)
    from (suc m) k e = omega (arith, more m k, from m (k + 1) (omega arith), ap (λ (j : ℕ). sum j f) (add-one k))

-- ---- a number for each entry, summed

abbrev pub tallied : (Entry → ℕ) → List Entry → ℕ
tallied g es = total (map g es)

tallied_append : (g : Entry → ℕ) (l m : List Entry) → tallied g (l ++ m) ≡ tallied g l + tallied g m
tallied_append g [] m = omega arith
tallied_append g (e ∷ l) m = omega (arith, tallied_append g l m)

module _ (g : Entry → ℕ) where
  -- f says of a slot what g says of its entry, and 0 where there is no record
  page_tally : (v : View) (p : ℕ) (f : ℕ → ℕ) → ((k : ℕ) → f k ≡ cond (is_record (v.at k)) (g (entry_of v p k)) 0)
      → tallied g (page_entries v p) ≡ sum v.slot_count f
  page_tally v p f tells = sum_front f (λ m k. tallied g (entries_from m v p k)) (λ k. refl) more v.slot_count
    where
      by : (b : Bool) (e : Entry) (es : List Entry) → tallied g (cond b (e ∷ es) es) ≡ cond b (g e) 0 + tallied g es
      by true e es = refl
      by false e es = omega arith

      more : (m k : ℕ) → tallied g (entries_from (suc m) v p k) ≡ f k + tallied g (entries_from m v p (k + 1))
      more m k = rw (tells k) (by (is_record (v.at k)) (entry_of v p k) (entries_from m v p (k + 1)))

  entries_tally : (u : SegView) (f : View → ℕ → ℕ)
      → ((p k : ℕ) → f (u.page p) k ≡ cond (is_record ((u.page p).at k)) (g (entry_of (u.page p) p k)) 0)
      → over u u.pages (λ v. sum v.slot_count (f v)) ≡ tallied g (entries u)
  entries_tally u f tells =
      sum_ext u.pages (λ p. sum (u.page p).slot_count (f (u.page p))) (λ p. tallied g (page_entries (u.page p) p))
      (λ p l. sym (page_tally (u.page p) p (f (u.page p)) (tells p)))
      ∙ sym (sum_front (λ p. tallied g (page_entries (u.page p) p)) (λ m p. tallied g (pages_entries m u p)) (λ p. refl)
      (λ m p. tallied_append g (page_entries (u.page p) p) (pages_entries m u (p + 1))) u.pages)

-- ---- the two figures

one_each : (es : List Entry) → tallied (λ e. 1) es ≡ length es
one_each [] = refl
one_each (e ∷ es) = omega (arith, one_each es)

-- "records": "what a whole scan gives, one each"
pub records_listed : (u : SegView) → over u u.pages records_of ≡ length (entries u)
records_listed u = entries_tally (λ e. 1) u (λ v k. one (is_record (v.at k))) (λ p k. refl) ∙ one_each (entries u)

-- "record bytes without back ids"
pub bytes_listed : (u : SegView) → ((p : ℕ) → Sound (u.page p)) → over u u.pages bytes_of ≡ tallied (λ e. length e.bytes) (entries u)
bytes_listed u s = entries_tally (λ e. length e.bytes) u bytes_in (λ p k. by ((u.page p).at k) ((u.page p).bytes k) ((s p).lens k))
  where
    by : (x : Slot) (bs : List ℕ) → length bs ≡ len x
        → cond (is_target x) (len x - 8) (len x) ≡ cond (is_record x) (length (cond (is_target x) (drop 8 bs) bs)) 0
    by (Ordinary o l) bs e = sym e
    by Free bs e = refl
    by (Redirect t) bs e = refl
    by (Target o l) bs e = omega (arith, length-drop 8 bs)
