-- Which entries the whole scan's list has: one for each slot that holds a record. In a sound segment no id is there twice, each is a root's with the
-- bytes that a read by it gives, and each root's is there.
use Rattle.std.specs.Prelude.{ℕ, zero, suc, ◌+◌, ◌≤◌, ◌<◌, ◌≡◌, Bool, cond, List, [], ◌∷◌, ◌++◌, ◌≢◌}
use Rattle.std.proofs.Math.Path.{refl}
use Rattle.std.proofs.Common.{sym, ap, ◌∙◌, subst, inl, inr, ⊎_elim, arith}
use Rattle.std.proofs.Math.Bool.{true}
use Rattle.store.specs.Numbers.{id_of, page_no, slot_no, In}
use Rattle.store.specs.Slots.{is_target, is_record}
use Rattle.store.specs.Page.{View}
use Rattle.store.specs.Segment.{SegView, seg_view, Read, read_step}
use Rattle.store.specs.Records.{Entry, entry_of, entries_from, page_entries, pages_entries, entries, OnceEach}
use Rattle.store.specs.SoundSegment.{slot_on, back_id, Root, Rooted, SoundSegment}
use Rattle.store.proofs.Laws.Cases.{by_test, never, eq_or_ne}
use Rattle.store.proofs.Laws.Numbers.{in_either, in_left, in_right}
use Rattle.store.proofs.Laws.Compactify.{record_taken}
use Rattle.store.proofs.Laws.Stays.{counted, id_of_lem}
use Rattle.store.proofs.Laws.SoundSegment.{seen_sound, seen_pages}
use Rattle.store.proofs.Laws.Scan.{inside, here, back_root, record_reads}
use Rattle.store.specs.declared.Slot.{Slot}
use Rattle.store.specs.declared.Slot.TheVariants.{Ordinary, Free, Redirect, Target}

-- ---- an entry of the list has its slot, and each slot with a record its entry

record OnSlots (v : View) (p k n : ℕ) (x : Entry) : Type 0 where
  slot : ℕ
  low : k ≤ slot
  below : slot < n
  holds : is_record (v.at slot) ≡ true
  is : x ≡ entry_of v p slot

slots_place : (m : ℕ) (v : View) (p k : ℕ) (x : Entry) → In x (entries_from m v p k) → OnSlots v p k (k + m) x
slots_place zero v p k x = λ h. absurd h
slots_place (suc m) v p k x =
    by_test (λ (es : List Entry). In x es → OnSlots v p k (k + suc m) x) (is_record (v.at k)) (entry_of v p k ∷ entries_from m v p (k + 1))
    (entries_from m v p (k + 1))
    (λ e h. ⊎_elim (λ q. record { slot = k; low = omega arith; below = omega arith; holds = e; is = q }) (λ q. later (slots_place m v p (k + 1) x q)) h)
    (λ e q. later (slots_place m v p (k + 1) x q))
  where
    later : OnSlots v p (k + 1) (k + 1 + m) x → OnSlots v p k (k + suc m) x
    later o = record { slot = o.slot; low = omega arith; below = omega arith; holds = o.holds; is = o.is }

place_slots : (m : ℕ) (v : View) (p k j : ℕ) → k ≤ j → j < k + m → is_record (v.at j) ≡ true → In (entry_of v p j) (entries_from m v p k)
place_slots zero v p k j a b r = absurd (omega arith)
place_slots (suc m) v p k j a b r =
    by_test (In (entry_of v p j)) (is_record (v.at k)) (entry_of v p k ∷ entries_from m v p (k + 1)) (entries_from m v p (k + 1))
    (λ e. ⊎_elim (λ q. inl (ap (entry_of v p) q)) (λ q. inr (place_slots m v p (k + 1) j (omega arith) (omega arith) r)) (eq_or_ne j k))
    (λ e. ⊎_elim (λ q. never (ap (λ (n : ℕ). is_record (v.at n)) (sym q) ∙ r) e) (λ q. place_slots m v p (k + 1) j (omega arith) (omega arith) r)
    (eq_or_ne j k))

-- the entry is that of a slot with a record, on one of the pages from p on below n
pub record Stands (u : SegView) (p n : ℕ) (x : Entry) : Type 0 where
  pub page : ℕ
  pub slot : ℕ
  pub low : p ≤ page
  pub below : page < n
  pub counted : slot < (u.page page).slot_count
  pub holds : is_record ((u.page page).at slot) ≡ true
  pub is : x ≡ entry_of (u.page page) page slot

pub entry_slot : (u : SegView) (m p : ℕ) (x : Entry) → In x (pages_entries m u p) → Stands u p (p + m) x
entry_slot u zero p x h = absurd h
entry_slot u (suc m) p x h =
    ⊎_elim now (λ q. later (entry_slot u m (p + 1) x q)) (in_either x (page_entries (u.page p) p) (pages_entries m u (p + 1)) h)
  where
    now : In x (page_entries (u.page p) p) → Stands u p (p + suc m) x
    now q =
        let o = slots_place (u.page p).slot_count (u.page p) p 0 x q in
        record { page = p; slot = o.slot; low = omega arith; below = omega arith; counted = omega arith; holds = o.holds; is = o.is }

    later : Stands u (p + 1) (p + 1 + m) x → Stands u p (p + suc m) x
    later o = record { page = o.page; slot = o.slot; low = omega arith; below = omega arith; counted = o.counted; holds = o.holds; is = o.is }

pub slot_entry : (u : SegView) (m p q j : ℕ) → p ≤ q → q < p + m → j < (u.page q).slot_count → is_record ((u.page q).at j) ≡ true
    → In (entry_of (u.page q) q j) (pages_entries m u p)
slot_entry u zero p q j a b c r = absurd (omega arith)
slot_entry u (suc m) p q j a b c r =
    let x : Entry = entry_of (u.page q) q j in
    ⊎_elim
    (λ e. in_left x (page_entries (u.page p) p) (pages_entries m u (p + 1))
    (subst (λ (n : ℕ). In x (page_entries (u.page n) n)) e (place_slots (u.page q).slot_count (u.page q) q 0 j (omega arith) (omega arith) r)))
    (λ e. in_right x (page_entries (u.page p) p) (pages_entries m u (p + 1)) (slot_entry u m (p + 1) q j (omega arith) (omega arith) c r)) (eq_or_ne q p)

-- two lists that share no id
once_append : (l m : List Entry) → OnceEach l → OnceEach m → ((x y : Entry) → In x l → In y m → y.id ≢ x.id) → OnceEach (l ++ m)
once_append [] m a b d = b
once_append (e ∷ l) m a b d = (
  λ x h. ⊎_elim (λ y. a.0 x y) (λ y. d e x (inl refl) y) (in_either x l m h),
  once_append l m a.1 b (λ x y p q. d x y (inr p) q),
)

-- ---- in a sound segment

-- where the record of id i lies: in its own slot, or in that which its redirect names
home_by : ℕ → Slot → ℕ
home_by i (Ordinary o l) = i
home_by i Free = i
home_by i (Redirect t) = t
home_by i (Target o l) = i

abbrev home : SegView → ℕ → ℕ
home u i = home_by i (slot_on u i)

module _ (s v : List ℕ) (h : SoundSegment s v) where
  abbrev u : SegView
  u = seg_view s

  -- what an entry is listed under
  record Under (p j i : ℕ) : Type 0 where
    rooted : Rooted s i
    home : home (seg_view s) i ≡ id_of p j

  at_root : (p j i : ℕ) (x : Slot) → slot_on u i ≡ x → page_no i < u.pages → Root x → home_by i x ≡ id_of p j → Under p j i
  at_root p j i x e l r f = record {
    rooted = record { below = subst (λ (n : ℕ). page_no i < n) (seen_pages s) l; root = subst Root (sym e) r };
    home = ap (home_by i) e ∙ f;
  }

  under : (p j : ℕ) → p < u.pages → j < (u.page p).slot_count → is_record ((u.page p).at j) ≡ true → Under p j (entry_of (u.page p) p j).id
  unfolding home_by
  under p j l c r = go ((u.page p).at j) refl r
    where
      go : (x : Slot) → (u.page p).at j ≡ x → is_record x ≡ true → Under p j (entry_of (u.page p) p j).id
      go (Ordinary o k) e q = rw e (at_root p j (id_of p j) (Ordinary o k) (here s v h p j l c ∙ e) (inside s v h p j l c) tt refl)
      go Free e q = never q refl
      go (Redirect t) e q = never q refl
      go (Target o k) e q =
          let b = back_root s v h p j l c o k e in
          rw e (at_root p j _ (Redirect (id_of p j)) b.1 b.0 tt refl)

  -- ---- no id twice: an id tells where its record lies

  small : (p j : ℕ) → j < (u.page p).slot_count → j < 65536
  small p j c = omega (arith, ((seen_sound s v h).sounds p).few)

  slots_once : (p : ℕ) → p < u.pages → (m k : ℕ) → k + m ≤ (u.page p).slot_count → OnceEach (entries_from m (u.page p) p k)
  slots_once p l zero k f = tt
  slots_once p l (suc m) k f =
      by_test OnceEach (is_record ((u.page p).at k)) (entry_of (u.page p) p k ∷ entries_from m (u.page p) p (k + 1)) (entries_from m (u.page p) p (k + 1))
      (λ e. (
        λ x i q.
            let o = slots_place m (u.page p) p (k + 1) x i in
            let a = (under p o.slot l (omega arith) o.holds).home in
            let b = (under p k l (omega arith) e).home in
            omega (arith, ap (home u) (ap (λ (y : Entry). y.id) (sym o.is) ∙ q)),
        slots_once p l m (k + 1) (omega arith),
      ))
      (λ e. slots_once p l m (k + 1) (omega arith))

  pages_once : (m p : ℕ) → p + m ≤ u.pages → OnceEach (pages_entries m u p)
  pages_once zero p f = tt
  pages_once (suc m) p f =
      once_append (page_entries (u.page p) p) (pages_entries m u (p + 1)) (slots_once p (omega arith) (u.page p).slot_count 0 (omega arith))
      (pages_once m (p + 1) (omega arith))
      (λ x y a b q.
      let o = slots_place (u.page p).slot_count (u.page p) p 0 x a in
      let r = entry_slot u m (p + 1) y b in
      let c = (under p o.slot (omega arith) (omega arith) o.holds).home in
      let d = (under r.page r.slot (omega arith) r.counted r.holds).home in
      let g = ap (λ (z : Entry). home u z.id) (sym r.is) in
      let k = ap (λ (z : Entry). home u z.id) (sym o.is) in
      omega (arith, ap (home u) q, small p o.slot (omega arith), small r.page r.slot r.counted))

  pub entries_once : OnceEach (entries u)
  entries_once = pages_once u.pages 0 (omega arith)

  -- ---- of roots, and of each root

  -- what is listed stands under a root, with the bytes that a read by it gives
  pub entry_read : (x : Entry) → In x (entries u) → Rooted s x.id × ((read_step s x.id).bytes ≡ x.bytes)
  entry_read x i =
      let o = entry_slot u u.pages 0 x i in
      let l : o.page < u.pages = omega arith in
      subst (λ (y : Entry). Rooted s y.id × ((read_step s y.id).bytes ≡ y.bytes)) (sym o.is) (
        (under o.page o.slot l o.counted o.holds).rooted,
        ap (λ (r : Read). r.bytes) (record_reads s v h o.page o.slot l o.counted ((u.page o.page).at o.slot) refl o.holds refl),
      )

  -- an entry under this id
  pub record Listed (i : ℕ) : Type 0 where
    pub entry : Entry
    pub listed : In entry (entries u)
    pub is : entry.id ≡ i

  pub root_listed : (i : ℕ) → Rooted s i → Listed i
  root_listed i r = go (slot_on u i) refl r.root
    where
      l : page_no i < u.pages
      l = subst (λ (n : ℕ). page_no i < n) (sym (seen_pages s)) r.below

      -- of the record in the slot of id t
      at_slot : (t : ℕ) → page_no t < u.pages → is_record (slot_on u t) ≡ true
          → cond (is_target (slot_on u t)) (back_id u t) (id_of (page_no t) (slot_no t)) ≡ i
          → Listed i
      at_slot t b e f = record {
        entry = entry_of (u.page (page_no t)) (page_no t) (slot_no t);
        listed = slot_entry u u.pages 0 (page_no t) (slot_no t) (omega arith) (omega arith)
            (counted (u.page (page_no t)) ((seen_sound s v h).sounds (page_no t)) (slot_no t) (record_taken (slot_on u t) e)) e;
        is = f;
      }

      target_record : (x : Slot) → is_target x ≡ true → is_record x ≡ true
      target_record (Ordinary o k) e = refl
      target_record Free e = e
      target_record (Redirect t) e = e
      target_record (Target o k) e = refl

      go : (x : Slot) → slot_on u i ≡ x → Root x → Listed i
      go (Ordinary o k) e q = at_slot i l (ap is_record e) (ap (λ (x : Slot). cond (is_target x) (back_id u i) (id_of (page_no i) (slot_no i))) e ∙ id_of_lem i)
      go Free e q = absurd q
      go (Redirect t) e q =
          let p = h.pairs.redirects i t l e in
          at_slot t p.below (target_record (slot_on u t) p.target)
          (ap (λ (b : Bool). cond b (back_id u t) (id_of (page_no t) (slot_no t))) p.target ∙ p.back)
      go (Target o k) e q = absurd q
