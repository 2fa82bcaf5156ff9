-- What is counted of a page, by what the page is, and of one page more.
use Prim.Native.Nat.{ℕ, ◌+◌, ◌/◌, ◌≤◌, ◌<◌}
use mathlib.Core.Path.{◌≡◌, refl, sym, ap, ◌∙◌, subst}
use mathlib.Core.Bool.{Bool, true, false, cond, not}
use mathlib.Core.List.{List, [], ◌∷◌}
use mathlib.Core.Logic.{◌≢◌}
use native.Mathlib.Omega.{arith}
use native.Mathlib.Numerals.{add-one}
use lib.ListN.{length, length-append}
use Rattle.store.specs.Numbers.{all, zeros}
use Rattle.store.specs.Page.{View, view, fresh, sound}
use Rattle.store.specs.Inventory.{update}
use Rattle.store.specs.Segment.{SegView, page_of}
use Rattle.store.specs.Repair.{standing, lost, deed, changes, mended, page_after, seg_after, same_head, true_inv, true_of}
use Rattle.store.specs.Repair.{entry, slot_entries, head_entries, page_entries, seg_entries}
use Rattle.store.specs.declared.Deed.{Deed}
use Rattle.store.proofs.Laws.Segments.{length_page}
use Rattle.store.proofs.Laws.RepairPage.{after}
use Rattle.store.proofs.Laws.RepairBytes.{shown_page}
use Rattle.store.proofs.Laws.RepairQuiet.{lost_fresh, lost_entries, fresh_fresh, fresh_entries, used_after, used_fresh, used_space}
use Rattle.store.proofs.Laws.RepairQuiet.{used_entries, quiet_page}
use Rattle.layout.specs.Head.{Heads}
use Rattle.layout.specs.declared.header.Header.{Header}
use Rattle.page_repair.specs.Mended.{deeds_of, CodableBy, Gathered, head_after, head_of_view}
use Rattle.page_repair.proofs.MendLaws.{says_head, says_view, read_head, head_mended, space_after_lem}
use Rattle.segment_judge.specs.Words.{UsedPageOn, Deeds}
use Rattle.std.specs.Prelude.{Some, None}
use Rattle.store.specs.Laws.Lent.{Within}
use Rattle.segment_repair.specs.Words.{StandsAs, CountedAs}
use Rattle.segment_repair.specs.declared.state.State.TheVariants.{Used}
use Rattle.segment_repair.specs.declared.count.Counted.{Counted}
use Rattle.page_repair.specs.declared.mend.Numbers.{Numbers}

-- ---- a page that is not in use afterwards

unused_counted : (u : SegView) (p n : ℕ) → n ≡ length (page_entries u p) → fresh (page_after u p) ≡ true
    → CountedAs u p (record { entries = n; space = None })
unused_counted u p n e f =
    record {
      entries = e;
      space = sym (ap (λ (b : Bool). cond b None (Some (page_after u p).free_space)) f);
      small = λ m g. let z : ◌≡◌ {A = ℕ} 0 1 = cc in omega arith;
    }

-- q is the page's bytes
module _ (s : List ℕ) {p : ℕ} {q : List ℕ} (e : q ≡ page_of s p) where
  pub lost_counted : lost (view q) ≡ true → CountedAs (standing s) p (record { entries = 1; space = None })
  unfolding standing
  lost_counted l =
      let h = ap (λ (x : List ℕ). lost (view x)) (sym e) ∙ l in
      unused_counted (standing s) p 1 (sym (ap length (lost_entries (standing s) p h))) (lost_fresh (standing s) p h)

  pub fresh_counted : fresh (view q) ≡ true → CountedAs (standing s) p (record { entries = 0; space = None })
  unfolding standing
  fresh_counted f =
      let h = ap (λ (x : List ℕ). fresh (view x)) (sym e) ∙ f in
      unused_counted (standing s) p 0 (sym (ap length (fresh_entries (standing s) p h))) (fresh_fresh (standing s) p h)

  -- in use, with n slots
  pub used_page : Within s p → (n : ℕ) → StandsAs (view q) (Used n) → UsedPageOn s p n
  used_page w n h = record { within = w; is = h.0 ∙ ap (λ (x : List ℕ). (view x).slot_count) e; some = h.1; few = h.2 }

-- ---- a page that is

module _ (u : SegView) (p : ℕ) where
  inuse_counted : (n m : ℕ) → n ≡ length (page_entries u p) → m ≡ (page_after u p).free_space → (page_after u p).free_space ≤ 16372
      → fresh (page_after u p) ≡ false
      → CountedAs u p (record { entries = n; space = Some m })
  inuse_counted n m e g l f =
      record {
        entries = e;
        space = ap (λ (x : ℕ). Some x) g ∙ sym (ap (λ (b : Bool). cond b None (Some (page_after u p).free_space)) f);
        small = λ k h. let z : m ≡ k = cc in omega arith;
      }

-- one that is sound, and of which no slot changes
pub quiet_counted : {s : List ℕ} {p n m : ℕ} → UsedPageOn s p n → sound (view (page_of s p)) ≡ true → all n (λ k. not (changes (deed (standing s) p k))) ≡ true
    → m ≡ (view (page_of s p)).free_space → CountedAs (standing s) p (record { entries = 0; space = Some m })
unfolding standing
quiet_counted {s} {p} {n} {m} h e q g =
    let some : 0 < (view (page_of s p)).slot_count = omega (arith, h.is, h.some) in
    let few : (view (page_of s p)).slot_count ≤ 2046 = omega (arith, h.is, h.few) in
    let w = quiet_page s p h.within e some (subst (λ (k : ℕ). all k (λ j. not (changes (deed (standing s) p j))) ≡ true) h.is q) in
    inuse_counted (standing s) p 0 m (sym (ap length w.0)) (g ∙ sym w.1) (used_space (standing s) p some few) w.2

-- ---- a row of what is done to each slot

pub deeds_are : (d : ℕ → Deed) (ds : List Deed) → Deeds d ds → deeds_of ds ≡ d
deeds_are d ds h = λ i k. h.each k i

pub codable_deeds : {s : List ℕ} {p n : ℕ} → UsedPageOn s p n → {ds : List Deed} → Deeds (deed (standing s) p) ds → {q : List ℕ} → q ≡ page_of s p
    → CodableBy (deeds_of ds) (view q)
unfolding standing
codable_deeds {s} {p} w {ds} h {q} e =
    subst (λ (x : List ℕ). CodableBy (deeds_of ds) (view x)) (sym e)
    (subst (λ (d : ℕ → Deed). CodableBy d (view (page_of s p))) (sym (deeds_are (deed (standing s) p) ds h)) own)
  where
    own : CodableBy (deed (standing s) p) (view (page_of s p))
    own k = (after (standing s) p (shown_page (page_of s p) (length_page s p w.within)) k).codable

-- ---- a page gone through in full

module _ (u : SegView) (p : ℕ) (some : 0 < (u.page p).slot_count) (few : (u.page p).slot_count ≤ 2046) (r : Numbers)
    (g : Gathered (deed u p) (u.page p) (u.page p).slot_count r) where
  told : (b : Bool) → same_head (u.page p) (mended u p) ≡ b → length (page_entries u p) ≡ r.changes + length (cond b [] (entry p 65535 4 ∷ []))
  told b e =
      ap length (used_entries u p some few) ∙ length-append (slot_entries (deed u p) p (u.page p).slot_count) (head_entries (deed u p) (u.page p) p)
      ∙ (λ i. sym (g.changes p) i + length (cond (e i) [] (entry p 65535 4 ∷ [])))

  counted_by : (b : Bool) → says_head (head_of_view (u.page p)) (head_after (u.page p) r) ≡ b
      → CountedAs u p (record { entries = r.changes + length (cond b [] (entry p 65535 4 ∷ [])); space = Some (head_after (u.page p) r).space })
  counted_by b e =
      inuse_counted u p (r.changes + length (cond b [] (entry p 65535 4 ∷ []))) (head_after (u.page p) r).space
      (sym (told b (sym (ap (says_head (head_of_view (u.page p))) (head_mended (deed u p) (u.page p) r g) ∙ says_view (deed u p) (u.page p)) ∙ e)))
      (space_after_lem (deed u p) (u.page p) r g ∙ sym (ap (λ (v : View). v.free_space) (used_after u p some few)))
      (used_space u p some few) (used_fresh u p some few)

-- a page in use, gone through in full; q is its bytes, n its count
module _ {s : List ℕ} {p n : ℕ} (h : UsedPageOn s p n) {ds : List Deed} (t : Deeds (deed (standing s) p) ds) {q : List ℕ} (e : q ≡ page_of s p) {r : Numbers}
    (g : Gathered (deeds_of ds) (view q) n r) where
  gathered_is : Gathered (deed (standing s) p) (view (page_of s p)) (view (page_of s p)).slot_count r
  gathered_is =
      subst (λ (m : ℕ). Gathered (deed (standing s) p) (view (page_of s p)) m r) h.is
      (subst (λ (d : ℕ → Deed). Gathered d (view (page_of s p)) n r) (deeds_are (deed (standing s) p) ds t)
      (subst (λ (x : List ℕ). Gathered (deeds_of ds) (view x) n r) e g))

  module _ {x y : Header} (o : Heads y (view q)) (f : x ≡ head_after (view q) r) where
    mended_by_lem : (b : Bool) → b ≡ says_head y x → (m : ℕ) → m ≡ r.changes + length (cond b [] (entry p 65535 4 ∷ []))
        → CountedAs (standing s) p (record { entries = m; space = Some x.space })
    unfolding standing
    mended_by_lem b a m k =
        let z : x ≡ head_after (view (page_of s p)) r = f ∙ ap (λ (v : List ℕ). head_after (view v) r) e in
        let w : y ≡ head_of_view (view (page_of s p)) = read_head o ∙ ap (λ (v : List ℕ). head_of_view (view v)) e in
        subst (λ (w : ℕ × Header). CountedAs (standing s) p (record { entries = w.0; space = Some w.1.space })) (λ i. (sym k i, sym z i))
        (counted_by (standing s) p (omega (arith, h.is, h.some)) (omega (arith, h.is, h.few)) r gathered_is b
        (sym (a ∙ (λ i. says_head (w i) (z i)))))

    pub head_stays : true ≡ says_head y x → CountedAs (standing s) p (record { entries = r.changes; space = Some x.space })
    head_stays a = mended_by_lem true a r.changes (omega arith)

    pub head_anew : false ≡ says_head y x → CountedAs (standing s) p (record { entries = r.changes + 1; space = Some x.space })
    head_anew a = mended_by_lem false a (r.changes + 1) refl

-- ---- one page more

pub entries_more : {u : SegView} {p e : ℕ} {r : Counted} → CountedAs u p r → e ≡ length (seg_entries u p) → e + r.entries ≡ length (seg_entries u (p + 1))
unfolding seg_entries
entries_more {u} {p} {e} {r} c h =
    (λ i. h i + c.entries i) ∙ sym (length-append (seg_entries u p) (page_entries u p)) ∙ sym (ap (λ (k : ℕ). length (seg_entries u k)) (add-one p))

module _ {u : SegView} {p : ℕ} {r : Counted} (c : CountedAs u p r) (n : ℕ) {v : List ℕ} (h : v ≡ true_inv (seg_after u) n p) where
  more : (b : Bool) → fresh (page_after u p) ≡ b
      → true_inv (seg_after u) n (p + 1) ≡ cond b (true_inv (seg_after u) n p) (update (true_inv (seg_after u) n p) n p (page_after u p).free_space)
  unfolding true_inv seg_after
  more b f =
      ap (true_inv (seg_after u) n) (add-one p)
      ∙ ap (λ (x : Bool). cond x (true_inv (seg_after u) n p) (update (true_inv (seg_after u) n p) n p (page_after u p).free_space)) f

  pub true_skips : ((m : ℕ) → r.space ≢ Some m) → v ≡ true_inv (seg_after u) n (p + 1)
  true_skips e = go (fresh (page_after u p)) refl
    where
      go : (b : Bool) → fresh (page_after u p) ≡ b → v ≡ true_inv (seg_after u) n (p + 1)
      go true f = h ∙ sym (more true f)
      go false f = absurd (e (page_after u p).free_space (c.space ∙ ap (λ (b : Bool). cond b None (Some (page_after u p).free_space)) f))

  pub true_more : (m : ℕ) → r.space ≡ Some m → update v n p m ≡ true_inv (seg_after u) n (p + 1)
  true_more m e = go (fresh (page_after u p)) refl
    where
      go : (b : Bool) → fresh (page_after u p) ≡ b → update v n p m ≡ true_inv (seg_after u) n (p + 1)
      go true f = let g = c.space ∙ ap (λ (b : Bool). cond b None (Some (page_after u p).free_space)) f in let z : ◌≡◌ {A = ℕ} 0 1 = cc in absurd (omega arith)
      go false f =
          let g = c.space ∙ ap (λ (b : Bool). cond b None (Some (page_after u p).free_space)) f in
          let z : m ≡ (page_after u p).free_space = cc in
          (λ i. update (h i) n p (z i)) ∙ sym (more false f)

-- no page, and all pages
pub true_none : (w : SegView) (n : ℕ) → zeros 16384 ≡ true_inv w n 0
unfolding true_inv
true_none w n = refl

pub true_all : (s : List ℕ) (p : ℕ) → p ≡ length s / 16384 → true_inv (seg_after (standing s)) (length s / 16384) p ≡ true_of (standing s)
unfolding standing
true_all s p e = ap (true_inv (seg_after (standing s)) (length s / 16384)) e

pub entries_none : (u : SegView) → 0 ≡ length (seg_entries u 0)
unfolding seg_entries
entries_none u = refl
