-- Repair's redirects and targets: those that are left are paired. Over what is seen alone.
use Rattle.std.specs.Prelude.{ℕ, ◌<◌, ◌≡◌, Bool, true, false, cond, not, ◌&&◌, List, ◌≢◌, take, eqb, ltb}
use Rattle.std.proofs.Math.Path.{refl, ap}
use Rattle.std.proofs.Common.{sym, ◌∙◌, arith, eqb-true, ltb-true, lt-ltb, eq-eqb, ne_eqb}
use Rattle.std.proofs.Math.Decide.{dec_lt}
use Rattle.std.proofs.lemmas.Bool.{eqb-false, not-true}
use Rattle.store.specs.Numbers.{be, id_of, page_no, slot_no}
use Rattle.store.specs.Slots.{is_free, is_target}
use Rattle.store.specs.Page.{View, fresh}
use Rattle.store.specs.Segment.{SegView}
use Rattle.store.specs.SoundSegment.{slot_on, bytes_on, back_id, Paired}
use Rattle.store.specs.Repair.{lost, keeps, kept, holds, redirects_to, named, deed_by, deed, slot_done, bytes_done}
use Rattle.store.specs.Repair.{slot_after, bytes_after, mended, emptied, page_after, seg_after, mended_by}
use Rattle.store.specs.declared.Deed.{Deed}
use Rattle.store.specs.declared.Deed.TheVariants.{Stays, RecordFreed, RedirectFreed, MadeOrdinary}
use Rattle.store.proofs.Laws.Cases.{by_test, not_in}
use Rattle.store.proofs.Laws.SoundPage.{and_both, and_in, fresh_none}
use Rattle.store.proofs.Laws.Calls.{target_taken}
use Rattle.store.proofs.Laws.Stays.{id_of_lem}
use Rattle.store.proofs.Laws.RepairPage.{keeps_is, Shown, after}
use Rattle.store.specs.declared.Slot.{Slot}
use Rattle.store.specs.declared.Slot.TheVariants.{Ordinary, Free, Redirect, Target}

-- ---- what the tests tell

pub record Holds (u : SegView) (i t : ℕ) : Type 0 where
  pub below : page_no t < u.pages
  pub whole : lost (u.page (page_no t)) ≡ false
  pub keeps : keeps (u.page (page_no t)) (slot_no t) ≡ true
  pub target : is_target (slot_on u t) ≡ true
  pub other : page_no t ≢ page_no i
  pub back : back_id u t ≡ i

pub holds_is : (u : SegView) (i t : ℕ) → holds u i t ≡ true → Holds u i t
unfolding holds kept
holds_is u i t e =
    let a = and_both (kept u t) _ e in
    let b = and_both (ltb (page_no t) u.pages) (not (lost (u.page (page_no t))) && keeps (u.page (page_no t)) (slot_no t)) a.0 in
    let c = and_both (not (lost (u.page (page_no t)))) (keeps (u.page (page_no t)) (slot_no t)) b.1 in
    let d = and_both (is_target (slot_on u t)) _ a.1 in
    let f = and_both _ _ d.1 in
    record {
      below = ltb-true (page_no t) u.pages b.0;
      whole = not-true (lost (u.page (page_no t))) c.0;
      keeps = c.1;
      target = d.0;
      other = eqb-false (page_no t) (page_no i) (not-true (eqb (page_no t) (page_no i)) f.0);
      back = eqb-true (back_id u t) i f.1;
    }

pub holds_in : (u : SegView) (i t : ℕ) → Holds u i t → holds u i t ≡ true
unfolding holds kept
holds_in u i t h =
    and_in (ltb (page_no t) u.pages && (not (lost (u.page (page_no t))) && keeps (u.page (page_no t)) (slot_no t)))
    (is_target (slot_on u t) && (not (eqb (page_no t) (page_no i)) && eqb (back_id u t) i))
    (and_in (ltb (page_no t) u.pages) (not (lost (u.page (page_no t))) && keeps (u.page (page_no t)) (slot_no t)) (lt-ltb (page_no t) u.pages h.below)
    (and_in (not (lost (u.page (page_no t)))) (keeps (u.page (page_no t)) (slot_no t)) (not_in (lost (u.page (page_no t))) h.whole) h.keeps))
    (and_in (is_target (slot_on u t)) (not (eqb (page_no t) (page_no i)) && eqb (back_id u t) i) h.target
    (and_in (not (eqb (page_no t) (page_no i))) (eqb (back_id u t) i) (not_in (eqb (page_no t) (page_no i)) (ne_eqb (page_no t) (page_no i) h.other))
    (eq-eqb (back_id u t) i h.back)))

redirects_is : (t : ℕ) (x : Slot) → redirects_to t x ≡ true → x ≡ Redirect t
redirects_is t (Ordinary o l) e = let z : ◌≡◌ {A = ℕ} 0 1 = cc in absurd (omega arith)
redirects_is t Free e = let z : ◌≡◌ {A = ℕ} 0 1 = cc in absurd (omega arith)
redirects_is t (Redirect i) e = ap (λ (x : ℕ). Redirect x) (eqb-true i t e)
redirects_is t (Target o l) e = let z : ◌≡◌ {A = ℕ} 0 1 = cc in absurd (omega arith)

-- a kept redirect: of id i, on a page that is not lost, naming t, and holding it
pub record KeptRedirect (u : SegView) (i t : ℕ) : Type 0 where
  pub below : page_no i < u.pages
  pub whole : lost (u.page (page_no i)) ≡ false
  pub is : slot_on u i ≡ Redirect t
  pub holds : Holds u i t

pub named_is : (u : SegView) (t : ℕ) → named u t ≡ true → KeptRedirect u (back_id u t) t
unfolding named
named_is u t e =
    let b : ℕ = back_id u t in
    let x = and_both (ltb (page_no b) u.pages) (not (lost (u.page (page_no b))) && (redirects_to t (slot_on u b) && holds u b t)) e in
    let y = and_both (not (lost (u.page (page_no b)))) (redirects_to t (slot_on u b) && holds u b t) x.1 in
    let z = and_both (redirects_to t (slot_on u b)) (holds u b t) y.1 in
    record {
      below = ltb-true (page_no b) u.pages x.0;
      whole = not-true (lost (u.page (page_no b))) y.0;
      is = redirects_is t (slot_on u b) z.0;
      holds = holds_is u b t z.1;
    }

-- the words: t is named by a kept redirect, wherever that stands
pub named_in : (u : SegView) (i t : ℕ) → KeptRedirect u i t → named u t ≡ true
unfolding named
named_in u i t k =
    let back : back_id u t ≡ i = k.holds.back in
    rw back
    (and_in (ltb (page_no i) u.pages) (not (lost (u.page (page_no i))) && (redirects_to t (slot_on u i) && holds u i t))
    (lt-ltb (page_no i) u.pages k.below)
    (and_in (not (lost (u.page (page_no i)))) (redirects_to t (slot_on u i) && holds u i t) (not_in (lost (u.page (page_no i))) k.whole)
    (and_in (redirects_to t (slot_on u i)) (holds u i t) (ap (redirects_to t) k.is ∙ eq-eqb t t refl) (holds_in u i t k.holds))))

-- ---- what is done by what stands there

redirect_after : (u : SegView) (p k : ℕ) (x : Slot) (t : ℕ) → slot_done (deed_by u p k x) x ≡ Redirect t → (x ≡ Redirect t) × (holds u (id_of p k) t ≡ true)
redirect_after u p k (Ordinary o l) t =
    by_test (λ (d : Deed). slot_done d (Ordinary o l) ≡ Redirect t → (Ordinary o l ≡ Redirect t) × (holds u (id_of p k) t ≡ true))
    (keeps (u.page p) k) Stays RecordFreed
    (λ q e. let z : ◌≡◌ {A = ℕ} 0 1 = cc in absurd (omega arith)) (λ q e. let z : ◌≡◌ {A = ℕ} 0 1 = cc in absurd (omega arith))
redirect_after u p k Free t = λ e. let z : ◌≡◌ {A = ℕ} 0 1 = cc in absurd (omega arith)
redirect_after u p k (Redirect i) t =
    by_test (λ (d : Deed). slot_done d (Redirect i) ≡ Redirect t → (Redirect i ≡ Redirect t) × (holds u (id_of p k) t ≡ true))
    (holds u (id_of p k) i) Stays RedirectFreed
    (λ q e. let w : i ≡ t = cc in (e, ap (holds u (id_of p k)) (sym w) ∙ q)) (λ q e. let z : ◌≡◌ {A = ℕ} 0 1 = cc in absurd (omega arith))
redirect_after u p k (Target o l) t =
    by_test (λ (d : Deed). slot_done d (Target o l) ≡ Redirect t → (Target o l ≡ Redirect t) × (holds u (id_of p k) t ≡ true)) (keeps (u.page p) k)
    (cond (named u (id_of p k)) Stays MadeOrdinary) RecordFreed
    (λ q. by_test (λ (d : Deed). slot_done d (Target o l) ≡ Redirect t → (Target o l ≡ Redirect t) × (holds u (id_of p k) t ≡ true))
    (named u (id_of p k)) Stays MadeOrdinary
    (λ w e. let z : ◌≡◌ {A = ℕ} 0 1 = cc in absurd (omega arith)) (λ w e. let z : ◌≡◌ {A = ℕ} 0 1 = cc in absurd (omega arith)))
    (λ q e. let z : ◌≡◌ {A = ℕ} 0 1 = cc in absurd (omega arith))

target_after : (u : SegView) (p k : ℕ) (x : Slot) → is_target (slot_done (deed_by u p k x) x) ≡ true
    → (is_target x ≡ true) × (keeps (u.page p) k ≡ true) × (named u (id_of p k) ≡ true)
target_after u p k (Ordinary o l) =
    by_test (λ (d : Deed). is_target (slot_done d (Ordinary o l)) ≡ true → (is_target (Ordinary o l) ≡ true) × (keeps (u.page p) k ≡ true)
    × (named u (id_of p k) ≡ true)) (keeps (u.page p) k) Stays RecordFreed
    (λ q e. let z : ◌≡◌ {A = ℕ} 0 1 = cc in absurd (omega arith)) (λ q e. let z : ◌≡◌ {A = ℕ} 0 1 = cc in absurd (omega arith))
target_after u p k Free = λ e. let z : ◌≡◌ {A = ℕ} 0 1 = cc in absurd (omega arith)
target_after u p k (Redirect i) =
    by_test (λ (d : Deed). is_target (slot_done d (Redirect i)) ≡ true → (is_target (Redirect i) ≡ true) × (keeps (u.page p) k ≡ true)
    × (named u (id_of p k) ≡ true)) (holds u (id_of p k) i) Stays RedirectFreed
    (λ q e. let z : ◌≡◌ {A = ℕ} 0 1 = cc in absurd (omega arith)) (λ q e. let z : ◌≡◌ {A = ℕ} 0 1 = cc in absurd (omega arith))
target_after u p k (Target o l) =
    by_test (λ (d : Deed). is_target (slot_done d (Target o l)) ≡ true → (is_target (Target o l) ≡ true) × (keeps (u.page p) k ≡ true)
    × (named u (id_of p k) ≡ true)) (keeps (u.page p) k) (cond (named u (id_of p k)) Stays MadeOrdinary) RecordFreed
    (λ q. by_test (λ (d : Deed). is_target (slot_done d (Target o l)) ≡ true → (is_target (Target o l) ≡ true) × (keeps (u.page p) k ≡ true)
    × (named u (id_of p k) ≡ true)) (named u (id_of p k)) Stays MadeOrdinary
    (λ w e. (refl, q, w)) (λ w e. let z : ◌≡◌ {A = ℕ} 0 1 = cc in absurd (omega arith)))
    (λ q e. let z : ◌≡◌ {A = ℕ} 0 1 = cc in absurd (omega arith))

pub target_stays : (u : SegView) (p k : ℕ) (x : Slot) → is_target x ≡ true → keeps (u.page p) k ≡ true → named u (id_of p k) ≡ true → deed_by u p k x ≡ Stays
target_stays u p k (Ordinary o l) t q w = let z : ◌≡◌ {A = ℕ} 0 1 = cc in absurd (omega arith)
target_stays u p k Free t q w = let z : ◌≡◌ {A = ℕ} 0 1 = cc in absurd (omega arith)
target_stays u p k (Redirect i) t q w = let z : ◌≡◌ {A = ℕ} 0 1 = cc in absurd (omega arith)
target_stays u p k (Target o l) t q w = rw (q, w)

pub redirect_stays : (u : SegView) (p k : ℕ) (x : Slot) (t : ℕ) → x ≡ Redirect t → holds u (id_of p k) t ≡ true → deed_by u p k x ≡ Stays
redirect_stays u p k x t e q = rw (e, q)

-- ---- of an id

-- a page that is not lost and has a slot is in use
pub after_used : (u : SegView) (p k : ℕ) → lost (u.page p) ≡ false → k < (u.page p).slot_count → page_after u p ≡ mended u p
unfolding page_after
after_used u p k l h =
    ap (λ (b : Bool). cond b emptied (cond (fresh (u.page p)) (u.page p) (mended u p))) l
    ∙ by_test (λ (v : View). v ≡ mended u p) (fresh (u.page p)) (u.page p) (mended u p) (λ f. absurd (omega (arith, fresh_none (u.page p) f))) (λ f. refl)

pub mended_at : (u : SegView) (p k : ℕ) → (mended u p).at k ≡ slot_after u p k
unfolding mended_by
mended_at u p k = refl

pub mended_bytes : (u : SegView) (p k : ℕ) → (mended u p).bytes k ≡ bytes_after u p k
unfolding mended_by
mended_bytes u p k = refl

-- a slot that is not free afterwards is on a page in use
pub taken_used : (u : SegView) (p k : ℕ) → Shown (u.page p) → is_free ((page_after u p).at k) ≡ false → (lost (u.page p) ≡ false) × (k < (u.page p).slot_count)
unfolding page_after
taken_used u p k h = go (lost (u.page p)) refl
  where
    free : (x : Slot) → x ≡ Free → is_free x ≡ false → ⊥
    free x e f = let g = ap is_free e in let z : ◌≡◌ {A = ℕ} 0 1 = cc in omega arith

    by : lost (u.page p) ≡ false → (b : Bool) → fresh (u.page p) ≡ b → is_free ((cond b (u.page p) (mended u p)).at k) ≡ false
        → (lost (u.page p) ≡ false) × (k < (u.page p).slot_count)
    by l true f e = absurd (free ((u.page p).at k) (h.past k (omega (arith, fresh_none (u.page p) f))) e)
    by l false f e = (l, below)
      where
        below : k < (u.page p).slot_count
        below = inside (dec_lt k (u.page p).slot_count)
          where
            inside : Dec (k < (u.page p).slot_count) → k < (u.page p).slot_count
            inside (yes q) = q
            inside (no q) = absurd (free ((mended u p).at k) (mended_at u p k ∙ (after u p h k).past (omega arith)) e)

    go : (a : Bool) → lost (u.page p) ≡ a → is_free ((cond a emptied (cond (fresh (u.page p)) (u.page p) (mended u p))).at k) ≡ false
        → (lost (u.page p) ≡ false) × (k < (u.page p).slot_count)
    go true l e = let z : ◌≡◌ {A = ℕ} 0 1 = cc in absurd (omega arith)
    go false l e = by l (fresh (u.page p)) refl e

module _ (u : SegView) where
  -- the slot and the bytes of an id to which nothing is done, on a page in use
  pub slot_stays : (i : ℕ) → lost (u.page (page_no i)) ≡ false → slot_no i < (u.page (page_no i)).slot_count → deed u (page_no i) (slot_no i) ≡ Stays
      → slot_on (seg_after u) i ≡ slot_on u i
  unfolding seg_after
  slot_stays i l h d =
      ap (λ (v : View). v.at (slot_no i)) (after_used u (page_no i) (slot_no i) l h) ∙ mended_at u (page_no i) (slot_no i)
      ∙ ap (λ (x : Deed). slot_done x (slot_on u i)) d

  pub bytes_stay : (i : ℕ) → lost (u.page (page_no i)) ≡ false → slot_no i < (u.page (page_no i)).slot_count → deed u (page_no i) (slot_no i) ≡ Stays
      → bytes_on (seg_after u) i ≡ bytes_on u i
  unfolding seg_after
  bytes_stay i l h d =
      ap (λ (v : View). v.bytes (slot_no i)) (after_used u (page_no i) (slot_no i) l h) ∙ mended_bytes u (page_no i) (slot_no i)
      ∙ ap (λ (x : Deed). bytes_done x (bytes_on u i)) d

  pub slot_now : (i : ℕ) → lost (u.page (page_no i)) ≡ false → slot_no i < (u.page (page_no i)).slot_count
      → slot_on (seg_after u) i ≡ slot_done (deed_by u (page_no i) (slot_no i) (slot_on u i)) (slot_on u i)
  unfolding seg_after deed
  slot_now i l h = ap (λ (v : View). v.at (slot_no i)) (after_used u (page_no i) (slot_no i) l h) ∙ mended_at u (page_no i) (slot_no i)

  -- both ends of a kept redirect stay
  pub redirect_kept : (i t : ℕ) → KeptRedirect u i t → deed u (page_no i) (slot_no i) ≡ Stays
  unfolding deed
  redirect_kept i t k = redirect_stays u (page_no i) (slot_no i) (slot_on u i) t k.is (ap (λ (x : ℕ). holds u x t) (id_of_lem i) ∙ holds_in u i t k.holds)

  pub target_kept : (i t : ℕ) → KeptRedirect u i t → deed u (page_no t) (slot_no t) ≡ Stays
  unfolding deed
  target_kept i t k =
      target_stays u (page_no t) (slot_no t) (slot_on u t) k.holds.target k.holds.keeps (ap (named u) (id_of_lem t) ∙ named_in u i t k)

module _ (u : SegView) (shown : (p : ℕ) → p < u.pages → Shown (u.page p)) where
  after_page : (i : ℕ) → ((seg_after u).page (page_no i)).at (slot_no i) ≡ (page_after u (page_no i)).at (slot_no i)
  unfolding seg_after
  after_page i = refl

  -- where a redirect is left, it was one and holds its target
  pub left_redirect : (i t : ℕ) → page_no i < u.pages → slot_on (seg_after u) i ≡ Redirect t → KeptRedirect u i t
  left_redirect i t l e =
      let w = taken_used u (page_no i) (slot_no i) (shown (page_no i) l) (ap is_free (sym (after_page i) ∙ e)) in
      let r = redirect_after u (page_no i) (slot_no i) (slot_on u i) t (sym (slot_now u i w.0 w.1) ∙ e) in
      record { below = l; whole = w.0; is = r.0; holds = holds_is u i t (ap (λ (x : ℕ). holds u x t) (sym (id_of_lem i)) ∙ r.1) }

  pub left_target : (t : ℕ) → page_no t < u.pages → is_target (slot_on (seg_after u) t) ≡ true → KeptRedirect u (back_id u t) t
  left_target t l e =
      let w = taken_used u (page_no t) (slot_no t) (shown (page_no t) l)
      (target_taken ((page_after u (page_no t)).at (slot_no t)) (ap is_target (sym (after_page t)) ∙ e)) in
      let r = target_after u (page_no t) (slot_no t) (slot_on u t) (ap is_target (sym (slot_now u t w.0 w.1)) ∙ e) in
      named_is u t (ap (named u) (sym (id_of_lem t)) ∙ r.2)

  -- the slot of a redirect lies below the count
  pub counted : (i t : ℕ) → KeptRedirect u i t → slot_no i < (u.page (page_no i)).slot_count
  counted i t k = go (dec_lt (slot_no i) (u.page (page_no i)).slot_count)
    where
      go : Dec (slot_no i < (u.page (page_no i)).slot_count) → slot_no i < (u.page (page_no i)).slot_count
      go (yes l) = l
      go (no l) = let a = (shown (page_no i) k.below).past (slot_no i) (omega arith) in let b = k.is in let z : ◌≡◌ {A = ℕ} 0 1 = cc in absurd (omega arith)

  same_pages : (seg_after u).pages ≡ u.pages
  unfolding seg_after
  same_pages = refl

  pub after_paired : Paired (seg_after u)
  after_paired =
      record {
        redirects = λ i t l e.
            let k = left_redirect i t (omega (arith, same_pages)) e in
            let h = k.holds in
            let b = (keeps_is (u.page (page_no t)) (slot_no t) h.keeps).below in
            record {
              below = omega (arith, same_pages, h.below);
              other = h.other;
              target = ap is_target (slot_stays u t h.whole b (target_kept u i t k)) ∙ h.target;
              back = ap (λ (z : List ℕ). be (take 8 z)) (bytes_stay u t h.whole b (target_kept u i t k)) ∙ h.back;
            };
        targets = λ t l e.
            let k = left_target t (omega (arith, same_pages)) e in
            let b = counted (back_id u t) t k in
            record {
              by = back_id u t;
              below = omega (arith, same_pages, k.below);
              names = slot_stays u (back_id u t) k.whole b (redirect_kept u (back_id u t) t k) ∙ k.is;
            };
      }
