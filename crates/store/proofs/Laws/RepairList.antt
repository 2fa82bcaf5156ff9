-- Repair's entries: a slot without one stays, and how many there can be.
use Rattle.std.specs.Prelude.{ℕ, zero, suc, ◌+◌, ◌*◌, ◌≤◌, ◌<◌, ◌≡◌, refl, Bool, true, false, cond, List, [], ◌∷◌, ◌++◌, length}
use Rattle.std.proofs.Common.{arith, length-append}
use Rattle.store.specs.Numbers.{In}
use Rattle.store.specs.Page.{fresh}
use Rattle.store.specs.Segment.{SegView}
use Rattle.store.specs.Repair.{lost, deed, changes, mended, same_head, same_inv, true_of, Entry, entry, deed_no, slot_entries}
use Rattle.store.specs.Repair.{head_entries, page_entries, seg_entries, inv_entries, entries}
use Rattle.store.specs.declared.Deed.{Deed}
use Rattle.store.specs.declared.Deed.TheVariants.{Stays, RecordFreed, RedirectFreed, MadeOrdinary}
use Rattle.store.proofs.Laws.SoundPage.{fresh_none}
use Rattle.store.proofs.Laws.RepairPage.{used}
use Rattle.store.proofs.Laws.RepairEntries.{entry_in, of_page, of_slot}

pub changes_not : (d : Deed) → changes d ≡ false → d ≡ Stays
changes_not Stays e = refl
changes_not RecordFreed e = let z : ◌≡◌ {A = ℕ} 0 1 = cc in absurd (omega arith)
changes_not RedirectFreed e = let z : ◌≡◌ {A = ℕ} 0 1 = cc in absurd (omega arith)
changes_not MadeOrdinary e = let z : ◌≡◌ {A = ℕ} 0 1 = cc in absurd (omega arith)

-- a slot below the count, on a page that is not lost, without an entry: nothing is done to it
pub untold_stays : (u : SegView) (v : List ℕ) (p k : ℕ) → p < u.pages → lost (u.page p) ≡ false → k < (u.page p).slot_count
    → ((d : ℕ) → In (entry p k d) (entries u v) → ⊥) → changes (deed u p k) ≡ false
untold_stays u v p k l n m h = go (fresh (u.page p)) refl (changes (deed u p k)) refl
  where
    go : (a : Bool) → fresh (u.page p) ≡ a → (b : Bool) → changes (deed u p k) ≡ b → changes (deed u p k) ≡ false
    go true f b e = absurd (omega (arith, fresh_none (u.page p) f))
    go false f false e = e
    go false f true e =
        absurd (h (deed_no (deed u p k)) (entry_in u v (entry p k (deed_no (deed u p k)))
        (of_page p l (of_slot n f (record { slot = k; below = m; changes = e; is = refl })))))

-- ---- how many there can be: one for each slot, one for the header, one for the inventory

slots_most : (u : SegView) (p n : ℕ) → length (slot_entries (deed u p) p n) ≤ n
slots_most u p zero = omega arith
slots_most u p (suc n) =
    let a = length-append (slot_entries (deed u p) p n) (cond (changes (deed u p n)) (entry p n (deed_no (deed u p n)) ∷ []) []) in
    omega (arith, slots_most u p n, one (changes (deed u p n)) (entry p n (deed_no (deed u p n))))
  where
    one : (b : Bool) (e : Entry) → length (cond b (e ∷ []) []) ≤ 1
    one true e = omega arith
    one false e = omega arith

pub page_most : (u : SegView) (p : ℕ) → length (page_entries u p) ≤ 2047
unfolding page_entries
page_most u p = go (lost (u.page p)) refl (fresh (u.page p)) refl
  where
    head : (b : Bool) (e : Entry) → length (cond b [] (e ∷ [])) ≤ 1
    head true e = omega arith
    head false e = omega arith

    go : (a : Bool) → lost (u.page p) ≡ a → (b : Bool) → fresh (u.page p) ≡ b
        → length (cond a (entry p 65535 5 ∷ []) (cond b [] (slot_entries (deed u p) p (u.page p).slot_count ++ head_entries (deed u p) (u.page p) p))) ≤ 2047
    go true l b f = omega arith
    go false l true f = omega arith
    go false l false f =
        let a = length-append (slot_entries (deed u p) p (u.page p).slot_count) (head_entries (deed u p) (u.page p) p) in
        omega (arith, slots_most u p (u.page p).slot_count, head (same_head (u.page p) (mended u p)) (entry p 65535 4), used (u.page p) l f)

pub seg_most : (u : SegView) (n : ℕ) → length (seg_entries u n) ≤ 2047 * n
unfolding seg_entries
seg_most u zero = omega arith
seg_most u (suc n) = let a = length-append (seg_entries u n) (page_entries u n) in omega (arith, seg_most u n, page_most u n)

pub entries_most : (u : SegView) (v : List ℕ) → length (entries u v) ≤ 2047 * u.pages + 1
unfolding entries
entries_most u v =
    let a = length-append (seg_entries u u.pages) (inv_entries u v) in
    omega (arith, seg_most u u.pages, one (same_inv v (true_of u)) (entry u.pages 65536 6))
  where
    one : (b : Bool) (e : Entry) → length (cond b [] (e ∷ [])) ≤ 1
    one true e = omega arith
    one false e = omega arith
