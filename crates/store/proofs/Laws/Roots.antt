-- The id's own page: what is told by its answer.
use Rattle.std.specs.Prelude.{ℕ, ◌≤◌, ◌<◌, ◌≡◌, ◌≢◌, true, false, not, eqb, leb, refl}
use Rattle.std.proofs.Common.{arith, leb-true, leb-false}
use Rattle.std.proofs.lemmas.Bool.{lt-leb, not-true, not-false}
use Rattle.store.specs.Numbers.{page_no, slot_no}
use Rattle.store.specs.Page.{sound}
use Rattle.store.specs.Refusals.{NOPAGE, DAMAGED, number_of}
use Rattle.store.specs.Segment.{SegView, root_of, by_root}
use Rattle.store.proofs.Laws.Cases.{by_test}
use Rattle.std.specs.Prelude.{Result, Ok, Err}
use Rattle.store.specs.declared.Refusal.{Refusal}
use Rattle.store.specs.declared.Refusal.TheVariants.{Size, NoPage, Long, Damaged, NoRecord, Forwarded, Full, Stale}
use Rattle.store.specs.declared.Slot.{Slot}

-- a refusal's number is not that of a call that is carried out
pub refused_no : (r : Refusal) → eqb (number_of r) 0 ≡ false
refused_no Size = refl
refused_no NoPage = refl
refused_no Long = refl
refused_no Damaged = refl
refused_no NoRecord = refl
refused_no Forwarded = refl
refused_no Full = refl
refused_no Stale = refl

pub refusal_some : (r : Refusal) → number_of r ≢ 0
refusal_some r e = let a : eqb (number_of r) 0 ≡ true = rw e refl in let b = refused_no r in let z : ◌≡◌ {A = ℕ} 0 1 = cc in absurd (omega arith)

-- a property of what is done by the id's own page, from its three answers
pub by_root_lem : {A : Type 0} (P : A → Type 0) (s : SegView) (i : ℕ) (f : ℕ → A) (g : Slot → A) → (s.pages ≤ page_no i → P (f NOPAGE))
    → (page_no i < s.pages → sound (s.page (page_no i)) ≡ false → P (f DAMAGED))
    → (page_no i < s.pages → sound (s.page (page_no i)) ≡ true → P (g ((s.page (page_no i)).at (slot_no i))))
    → P (by_root f g (root_of s i))
unfolding root_of
by_root_lem P s i f g none damaged entry =
    by_test (λ (r : Result Slot Refusal). P (by_root f g r)) (leb s.pages (page_no i)) (Err NoPage) _ (λ e. none (leb-true s.pages (page_no i) e))
    (λ e. by_test (λ (r : Result Slot Refusal). P (by_root f g r)) (not (sound (s.page (page_no i)))) (Err Damaged) _
    (λ d. damaged (leb-false s.pages (page_no i) e) (not-true (sound (s.page (page_no i))) d))
    (λ d. entry (leb-false s.pages (page_no i) e) (not-false (sound (s.page (page_no i))) d)))

-- a page that is there and sound answers the entry
pub root_entry : (s : SegView) (i : ℕ) → page_no i < s.pages → sound (s.page (page_no i)) ≡ true
    → root_of s i ≡ Ok ((s.page (page_no i)).at (slot_no i))
unfolding root_of
root_entry s i h e = rw (lt-leb s.pages (page_no i) h, e)

-- the property, where the page is known to be sound if it is there
pub by_sound_root : {A : Type 0} (P : A → Type 0) (s : SegView) (i : ℕ) (f : ℕ → A) (g : Slot → A) → sound (s.page (page_no i)) ≡ true
    → (s.pages ≤ page_no i → P (f NOPAGE)) → (page_no i < s.pages → P (g ((s.page (page_no i)).at (slot_no i))))
    → P (by_root f g (root_of s i))
by_sound_root P s i f g ok none entry =
    by_root_lem P s i f g none (λ l e. let z : ◌≡◌ {A = ℕ} 0 1 = cc in absurd (omega arith)) (λ l e. entry l)
