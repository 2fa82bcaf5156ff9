-- Redirects and targets stay paired: over maps from ids to entries and bytes, where at most three ids change.
use Rattle.std.specs.Prelude.{ℕ, ◌<◌, ◌≡◌, refl, Bool, true, false, cond, List, [], ◌⊎◌, ◌≢◌, take, drop}
use Rattle.std.proofs.Common.{sym, ap, ◌∙◌, subst, inl, inr, ⊎_elim, arith}
use Rattle.std.proofs.Math.Decide.{ℕ_discrete}
use Rattle.store.specs.Numbers.{be, upd, page_no}
use Rattle.store.proofs.Laws.Slots.{tag}
use Rattle.store.specs.Slots.{is_target}
use Rattle.store.specs.Segment.{SegView, Read, no_read}
use Rattle.store.proofs.Laws.Views.{upd_same, upd_other}
use Rattle.store.specs.SoundSegment.{slot_on, bytes_on, back_id, Root, NamedBy, Paired}
use Rattle.store.specs.declared.Slot.{Slot}
use Rattle.store.specs.declared.Slot.TheVariants.{Ordinary, Free, Redirect, Target}

-- what pairing asks of the id i with entry x
abbrev pub PairOk : ℕ → (ℕ → Slot) → (ℕ → List ℕ) → ℕ → Slot → Type 0
PairOk n T B i (Ordinary o l) = Unit {0}
PairOk n T B i Free = Unit {0}
PairOk n T B i (Redirect t) = (page_no t < n) × (page_no t ≢ page_no i) × (is_target (T t) ≡ true) × (be (take 8 (B t)) ≡ i)
PairOk n T B i (Target o l) = (page_no (be (take 8 (B i))) < n) × (T (be (take 8 (B i))) ≡ Redirect i)

abbrev pub Pairs : ℕ → (ℕ → Slot) → (ℕ → List ℕ) → Type 0
Pairs n T B = (i : ℕ) → page_no i < n → PairOk n T B i (T i)

-- ---- the same as the paper's words

pub tag_target : (x : Slot) → is_target (tag x) ≡ is_target x
tag_target (Ordinary o l) = refl
tag_target Free = refl
tag_target (Redirect i) = refl
tag_target (Target o l) = refl

pub tag_redirect : (x : Slot) (t : ℕ) → tag x ≡ Redirect t → x ≡ Redirect t
tag_redirect (Ordinary o l) t e = let z : ◌≡◌ {A = ℕ} 0 1 = cc in absurd (omega arith)
tag_redirect Free t e = let z : ◌≡◌ {A = ℕ} 0 1 = cc in absurd (omega arith)
tag_redirect (Redirect i) t e = e
tag_redirect (Target o l) t e = let z : ◌≡◌ {A = ℕ} 0 1 = cc in absurd (omega arith)

abbrev pub tag_on : SegView → ℕ → Slot
tag_on u i = tag (slot_on u i)

pub paired_pairs : (u : SegView) → Paired u → Pairs u.pages (tag_on u) (bytes_on u)
paired_pairs u h i l = go (slot_on u i) refl
  where
    go : (x : Slot) → slot_on u i ≡ x → PairOk u.pages (tag_on u) (bytes_on u) i (tag x)
    go (Ordinary o k) e = tt
    go Free e = tt
    go (Redirect t) e =
        let r = h.redirects i t l e in
        (r.below, r.other, tag_target (slot_on u t) ∙ r.target, r.back)
    go (Target o k) e =
        let t = h.targets i l (ap is_target e) in
        let r = h.redirects t.by i t.below t.names in
        (rw r.back t.below, rw r.back (ap tag t.names))

pub pairs_paired : (u : SegView) → Pairs u.pages (tag_on u) (bytes_on u) → Paired u
pairs_paired u h =
    record {
      redirects = λ i t l e.
          let r : PairOk u.pages (tag_on u) (bytes_on u) i (Redirect t) = subst (PairOk u.pages (tag_on u) (bytes_on u) i) (ap tag e) (h i l) in
          record { below = r.0; other = r.1; target = sym (tag_target (slot_on u t)) ∙ r.2; back = r.3 };
      targets = λ t l e. by t (slot_on u t) e (h t l);
    }
  where
    by : (t : ℕ) (x : Slot) → is_target x ≡ true → PairOk u.pages (tag_on u) (bytes_on u) t (tag x) → NamedBy u t
    by t (Ordinary o k) e h = let z : ◌≡◌ {A = ℕ} 0 1 = cc in absurd (omega arith)
    by t Free e h = let z : ◌≡◌ {A = ℕ} 0 1 = cc in absurd (omega arith)
    by t (Redirect i) e h = let z : ◌≡◌ {A = ℕ} 0 1 = cc in absurd (omega arith)
    by t (Target o k) e h = record { by = back_id u t; below = h.0; names = tag_redirect (slot_on u (back_id u t)) t h.1 }

-- ---- what a read by id i gives: the answer's number and the bytes

abbrev pub look : (ℕ → List ℕ) → ℕ → Slot → Read
look B i (Ordinary o l) = record { answer = 0; bytes = B i }
look B i Free = no_read 5
look B i (Redirect t) = record { answer = 0; bytes = drop 8 (B t) }
look B i (Target o l) = record { answer = 0; bytes = drop 8 (B i) }

-- entries without their offsets tell the same
pub tag_root : (x : Slot) → (Root x → Root (tag x)) × (Root (tag x) → Root x)
tag_root (Ordinary o l) = (λ r. r, λ r. r)
tag_root Free = (λ r. r, λ r. r)
tag_root (Redirect t) = (λ r. r, λ r. r)
tag_root (Target o l) = (λ r. r, λ r. r)

pub root_looks : (B : ℕ → List ℕ) (i : ℕ) (x : Slot) → Root x → (look B i x).answer ≡ 0
root_looks B i (Ordinary o l) r = refl
root_looks B i Free r = absurd r
root_looks B i (Redirect t) r = refl
root_looks B i (Target o l) r = absurd r

pub look_whole : (B : ℕ → List ℕ) (i : ℕ) (x : Slot) → (look B i x).answer ≢ 4
look_whole B i (Ordinary o l) = λ e. omega arith
look_whole B i Free = λ e. omega arith
look_whole B i (Redirect t) = λ e. omega arith
look_whole B i (Target o l) = λ e. omega arith

-- an id that reads 0 and is not a target's own is a root's
pub look_root : (B : ℕ → List ℕ) (i : ℕ) (x : Slot) → is_target x ≡ false → (look B i x).answer ≡ 0 → Root x
look_root B i (Ordinary o l) f e = tt
look_root B i Free f e = absurd (omega arith)
look_root B i (Redirect t) f e = tt
look_root B i (Target o l) f e = let z : ◌≡◌ {A = ℕ} 0 1 = cc in absurd (omega arith)

root_target : (x : Slot) → is_target x ≡ true → Root x → ⊥
root_target (Ordinary o l) e r = let z : ◌≡◌ {A = ℕ} 0 1 = cc in absurd (omega arith)
root_target Free e r = r
root_target (Redirect t) e r = let z : ◌≡◌ {A = ℕ} 0 1 = cc in absurd (omega arith)
root_target (Target o l) e r = r

-- the book of rows: what id i stands for, where a target's own id stands for nothing
abbrev pub row_at : (ℕ → List ℕ) → ℕ → Slot → Read
row_at B i x = cond (is_target x) (no_read 5) (look B i x)

-- it is a root's if its row reads 0
pub row_root : (B : ℕ → List ℕ) (i : ℕ) (x : Slot) → (Root x → (row_at B i x).answer ≡ 0) × ((row_at B i x).answer ≡ 0 → Root x)
row_root B i (Ordinary o l) = (λ r. refl, λ e. tt)
row_root B i Free = (λ r. absurd r, λ e. absurd (omega arith))
row_root B i (Redirect t) = (λ r. refl, λ e. tt)
row_root B i (Target o l) = (λ r. absurd r, λ e. absurd (omega arith))

row_target : (B : ℕ → List ℕ) (i : ℕ) (x : Slot) → is_target x ≡ true → row_at B i x ≡ no_read 5
row_target B i x e = ap (λ (b : Bool). cond b (no_read 5) (look B i x)) e

row_free : (B : ℕ → List ℕ) (i : ℕ) (x : Slot) → x ≡ Free → row_at B i x ≡ no_read 5
row_free B i x e = ap (row_at B i) e

-- pairs stay; the id d reads as w; every other root reads as before; no other row of the book changes
pub record Moves (n : ℕ) (T : ℕ → Slot) (B : ℕ → List ℕ) (T' : ℕ → Slot) (B' : ℕ → List ℕ) (d : ℕ) (w : Read) : Type 0 where
  pub pairs : Pairs n T' B'
  pub own : look B' d (T' d) ≡ w
  pub others : (j : ℕ) → page_no j < n → j ≢ d → Root (T j) → (T' j ≡ T j) × (look B' j (T' j) ≡ look B j (T j))
  pub plain : is_target (T' d) ≡ false
  pub rows : (j : ℕ) → page_no j < n → j ≢ d → row_at B' j (T' j) ≡ row_at B j (T j)

pub moves_by : (n : ℕ) (T : ℕ → Slot) (B : ℕ → List ℕ) (T₁ T₂ : ℕ → Slot) (B₁ B₂ : ℕ → List ℕ) (d : ℕ) (w : Read) → T₂ ≡ T₁ → B₂ ≡ B₁
    → Moves n T B T₁ B₁ d w → Moves n T B T₂ B₂ d w
moves_by n T B T₁ T₂ B₁ B₂ d w e f h = subst (λ (X : ℕ → Slot). Moves n T B X B₂ d w) (sym e) (subst (λ (Y : ℕ → List ℕ). Moves n T B T₁ Y d w) (sym f) h)

-- ---- at most three ids change, each with its partner

module _ (n : ℕ) (T T' : ℕ → Slot) (B B' : ℕ → List ℕ) (a b c : ℕ) (old : Pairs n T B)
    (same : (i : ℕ) → i ≢ a → i ≢ b → i ≢ c → (T' i ≡ T i) × (B' i ≡ B i)) where
  abbrev pub In : ℕ → Type 0
  In i = (i ≡ a) ⊎ ((i ≡ b) ⊎ (i ≡ c))

  -- the partner of x is among them
  abbrev pub Closed : ℕ → Slot → Type 0
  Closed x (Ordinary o l) = Unit {0}
  Closed x Free = Unit {0}
  Closed x (Redirect t) = In t
  Closed x (Target o l) = In (be (take 8 (B x)))

  closed_target : (x : ℕ) (y : Slot) → is_target y ≡ true → Closed x y → In (be (take 8 (B x)))
  closed_target x (Ordinary o l) e h = let z : ◌≡◌ {A = ℕ} 0 1 = cc in absurd (omega arith)
  closed_target x Free e h = let z : ◌≡◌ {A = ℕ} 0 1 = cc in absurd (omega arith)
  closed_target x (Redirect t) e h = let z : ◌≡◌ {A = ℕ} 0 1 = cc in absurd (omega arith)
  closed_target x (Target o l) e h = h

  module _ (ca : Closed a (T a)) (cb : Closed b (T b)) (cc' : Closed c (T c)) where
    closed : (x : ℕ) → In x → Closed x (T x)
    closed x (inl e) = rw e ca
    closed x (inr (inl e)) = rw e cb
    closed x (inr (inr e)) = rw e cc'

    stays : (x : ℕ) → (In x → ⊥) → (T' x ≡ T x) × (B' x ≡ B x)
    stays x f = same x (λ e. f (inl e)) (λ e. f (inr (inl e))) (λ e. f (inr (inr e)))

    -- a read by any other id is the same
    pub looks_kept : (j : ℕ) → page_no j < n → (In j → ⊥) → (T' j ≡ T j) × (look B' j (T' j) ≡ look B j (T j))
    looks_kept j l f = ((stays j f).0, ap (look B' j) (stays j f).0 ∙ go (T j) (old j l))
      where
        go : (x : Slot) → PairOk n T B j x → look B' j x ≡ look B j x
        go (Ordinary o k) h = ap (λ (z : List ℕ). look (λ m. z) j (Ordinary o k)) (stays j f).1
        go Free h = refl
        go (Redirect t) h =
            let g = stays t (λ m. f (rw h.3 at (closed_target t (T t) h.2 (closed t m)))) in
            ap (λ (z : List ℕ). look (λ m. z) j (Redirect t)) g.1
        go (Target o k) h = ap (λ (z : List ℕ). look (λ m. z) j (Target o k)) (stays j f).1

    pub rows_kept : (j : ℕ) → page_no j < n → (In j → ⊥) → row_at B' j (T' j) ≡ row_at B j (T j)
    rows_kept j l f =
        let h = looks_kept j l f in
        ap (λ (x : Slot). cond (is_target x) (no_read 5) (look B' j (T' j))) h.0 ∙ ap (λ (r : Read). cond (is_target (T j)) (no_read 5) r) h.1

  pub pairs_kept : Closed a (T a) → Closed b (T b) → Closed c (T c)
      → PairOk n T' B' a (T' a) → PairOk n T' B' b (T' b) → PairOk n T' B' c (T' c) → Pairs n T' B'
  pairs_kept ca cb cc' pa pb pc i l = by (ℕ_discrete i a) (ℕ_discrete i b) (ℕ_discrete i c)
    where
      go : (In i → ⊥) → (x : Slot) → T i ≡ x → PairOk n T B i x → PairOk n T' B' i x
      go f (Ordinary o k) e h = tt
      go f Free e h = tt
      go f (Redirect t) e h =
          let g = stays ca cb cc' t (λ m. f (rw h.3 at (closed_target t (T t) h.2 (closed ca cb cc' t m)))) in
          (h.0, h.1, ap is_target g.0 ∙ h.2, ap (λ (z : List ℕ). be (take 8 z)) g.1 ∙ h.3)
      go f (Target o k) e h =
          let r : ℕ = be (take 8 (B i)) in
          let g = stays ca cb cc' r (λ m. f (subst (λ (y : Slot). Closed r y) h.1 (closed ca cb cc' r m))) in
          let q : be (take 8 (B' i)) ≡ r = ap (λ (z : List ℕ). be (take 8 z)) (stays ca cb cc' i f).1 in
          (rw q h.0, rw q (g.0 ∙ h.1))

      by : Dec (i ≡ a) → Dec (i ≡ b) → Dec (i ≡ c) → PairOk n T' B' i (T' i)
      by (yes e) y z = rw e pa
      by (no x) (yes e) z = rw e pb
      by (no x) (no y) (yes e) = rw e pc
      by (no x) (no y) (no z) =
          let f : In i → ⊥ = λ m. ⊎_elim x (⊎_elim y z) m in
          rw (stays ca cb cc' i f).0 (go f (T i) refl (old i l))

-- ---- the calls' cases

abbrev pub Plain : Slot → Type 0
Plain (Ordinary o l) = Unit {0}
Plain Free = Unit {0}
Plain (Redirect t) = ⊥
Plain (Target o l) = ⊥

module _ (n : ℕ) (T : ℕ → Slot) (B : ℕ → List ℕ) (old : Pairs n T B) where
  plain_closed : (T' : ℕ → Slot) (B' : ℕ → List ℕ) (a b c : ℕ) (same : (i : ℕ) → i ≢ a → i ≢ b → i ≢ c → (T' i ≡ T i) × (B' i ≡ B i))
      → (x : ℕ) (y : Slot) → Plain y → Closed n T T' B B' a b c old same x y
  plain_closed T' B' a b c same x (Ordinary o l) p = tt
  plain_closed T' B' a b c same x Free p = tt
  plain_closed T' B' a b c same x (Redirect t) p = absurd p
  plain_closed T' B' a b c same x (Target o l) p = absurd p

  target_closed : (T' : ℕ → Slot) (B' : ℕ → List ℕ) (a b c : ℕ) (same : (i : ℕ) → i ≢ a → i ≢ b → i ≢ c → (T' i ≡ T i) × (B' i ≡ B i))
      → (x : ℕ) (y : Slot) → is_target y ≡ true → In n T T' B B' a b c old same (be (take 8 (B x))) → Closed n T T' B B' a b c old same x y
  target_closed T' B' a b c same x (Ordinary o l) e h = tt
  target_closed T' B' a b c same x Free e h = tt
  target_closed T' B' a b c same x (Redirect t) e h = let z : ◌≡◌ {A = ℕ} 0 1 = cc in absurd (omega arith)
  target_closed T' B' a b c same x (Target o l) e h = h

  plain_target : (y : Slot) → Plain y → is_target y ≡ false
  plain_target (Ordinary o l) p = refl
  plain_target Free p = refl
  plain_target (Redirect t) p = refl
  plain_target (Target o l) p = absurd p

  plain_ok : (T' : ℕ → Slot) (B' : ℕ → List ℕ) (x : ℕ) (y : Slot) → Plain y → PairOk n T' B' x y
  plain_ok T' B' x (Ordinary o l) p = tt
  plain_ok T' B' x Free p = tt
  plain_ok T' B' x (Redirect t) p = absurd p
  plain_ok T' B' x (Target o l) p = absurd p

  -- one id, of no pair before or after
  pub pairs_one : (a : ℕ) (x : Slot) (bs : List ℕ) (w : Read) → Plain (T a) → Plain x → look (λ m. bs) a x ≡ w → Moves n T B (upd T a x) (upd B a bs) a w
  pairs_one a x bs w p q r =
      record {
        pairs = pairs_kept n T T' B B' a a a old same c c c k k k;
        own = ap (look B' a) (upd_same T a x) ∙ plain_look x q ∙ r;
        others = λ j l ne g. looks_kept n T T' B B' a a a old same c c c j l (λ m. ⊎_elim ne (⊎_elim ne ne) m);
        plain = ap is_target (upd_same T a x) ∙ plain_target x q;
        rows = λ j l ne. rows_kept n T T' B B' a a a old same c c c j l (λ m. ⊎_elim ne (⊎_elim ne ne) m);
      }
    where
      plain_look : (y : Slot) → Plain y → look (upd B a bs) a y ≡ look (λ m. bs) a y
      plain_look (Ordinary o l) h = ap (λ (z : List ℕ). look (λ m. z) a (Ordinary o l)) (upd_same B a bs)
      plain_look Free h = refl
      plain_look (Redirect t) h = absurd h
      plain_look (Target o l) h = absurd h

      T' : ℕ → Slot
      T' = upd T a x

      B' : ℕ → List ℕ
      B' = upd B a bs

      same : (i : ℕ) → i ≢ a → i ≢ a → i ≢ a → (T' i ≡ T i) × (B' i ≡ B i)
      same i f g h = (upd_other T a x i f, upd_other B a bs i f)

      c : Closed n T T' B B' a a a old same a (T a)
      c = plain_closed T' B' a a a same a (T a) p

      k : PairOk n T' B' a (T' a)
      k = plain_ok T' B' a (T' a) (subst Plain (sym (upd_same T a x)) q)

  not_free : (q : ℕ) → T q ≡ Free → (j : ℕ) → Root (T j) → j ≢ q
  not_free q f j r e = subst Root f (subst (λ (x : ℕ). Root (T x)) e r)

  -- a target written where it is
  module _ (i t : ℕ) (below : page_no i < n) (redirect : T i ≡ Redirect t) where
    is : PairOk n T B i (Redirect t)
    is = subst (PairOk n T B i) redirect (old i below)

    apart : t ≢ i
    apart e = is.1 (ap page_no e)

    -- another root is not the target
    not_target : (j : ℕ) → Root (T j) → j ≢ t
    not_target j r e = root_target (T t) is.2 (subst (λ (x : ℕ). Root (T x)) e r)

    pub pairs_target : (m : ℕ) (bs : List ℕ) → be (take 8 bs) ≡ i → Moves n T B (upd T t (Target 0 m)) (upd B t bs) i (record { answer = 0; bytes = drop 8 bs })
    pairs_target m bs back =
        record {
          pairs = pairs_kept n T T' B B' t i i old same ct ci ci kt ki ki;
          own = ap (look B' i) i' ∙ ap (λ (z : List ℕ). look (λ m. z) i (Redirect t)) (upd_same B t bs);
          others = λ j l ne g. looks_kept n T T' B B' t i i old same ct ci ci j l (λ m. ⊎_elim (not_target j g) (⊎_elim ne ne) m);
          plain = ap is_target i';
          rows = λ j l ne. row j l ne (ℕ_discrete j t);
        }
      where
        T' : ℕ → Slot
        T' = upd T t (Target 0 m)

        B' : ℕ → List ℕ
        B' = upd B t bs

        same : (j : ℕ) → j ≢ t → j ≢ i → j ≢ i → (T' j ≡ T j) × (B' j ≡ B j)
        same j f g h = (upd_other T t (Target 0 m) j f, upd_other B t bs j f)

        ct : Closed n T T' B B' t i i old same t (T t)
        ct = target_closed T' B' t i i same t (T t) is.2 (inr (inl is.3))

        ci : Closed n T T' B B' t i i old same i (T i)
        ci = rw redirect (inl refl)

        b' : be (take 8 (B' t)) ≡ i
        b' = ap (λ (z : List ℕ). be (take 8 z)) (upd_same B t bs) ∙ back

        i' : T' i ≡ Redirect t
        i' = upd_other T t (Target 0 m) i (λ e. apart (sym e)) ∙ redirect

        row : (j : ℕ) → page_no j < n → j ≢ i → Dec (j ≡ t) → row_at B' j (T' j) ≡ row_at B j (T j)
        row j l ne (yes e) =
            rw e (row_target B' t (T' t) (ap is_target (upd_same T t (Target 0 m))) ∙ sym (row_target B t (T t) is.2))
        row j l ne (no f) = rows_kept n T T' B B' t i i old same ct ci ci j l (λ m. ⊎_elim f (⊎_elim ne ne) m)

        kt : PairOk n T' B' t (T' t)
        kt = subst (PairOk n T' B' t) (sym (upd_same T t (Target 0 m))) (subst (λ (r : ℕ). page_no r < n) (sym b') below, ap T' b' ∙ i')

        ki : PairOk n T' B' i (T' i)
        ki = subst (PairOk n T' B' i) (sym i') (is.0, is.1, ap is_target (upd_same T t (Target 0 m)), b')

    -- both are gone, or the root is ordinary again
    pub pairs_home : (x : Slot) (bs : List ℕ) (w : Read) → Plain x → look (λ m. bs) i x ≡ w → Moves n T B (upd (upd T i x) t Free) (upd (upd B i bs) t []) i w
    pairs_home x bs w p r =
        record {
          pairs = pairs_kept n T T' B B' i t t old same ci ct ct ki kt kt;
          own = ap (look B' i) x' ∙ plain_look x p ∙ r;
          others = λ j l ne g. looks_kept n T T' B B' i t t old same ci ct ct j l (λ m. ⊎_elim ne (⊎_elim (not_target j g) (not_target j g)) m);
          plain = ap is_target x' ∙ plain_target x p;
          rows = λ j l ne. row j l ne (ℕ_discrete j t);
        }
      where
        x' : upd (upd T i x) t Free i ≡ x
        x' = upd_other (upd T i x) t Free i (λ e. apart (sym e)) ∙ upd_same T i x

        plain_look : (y : Slot) → Plain y → look (upd (upd B i bs) t []) i y ≡ look (λ m. bs) i y
        plain_look (Ordinary o l) h =
            ap (λ (z : List ℕ). look (λ m. z) i (Ordinary o l)) (upd_other (upd B i bs) t [] i (λ e. apart (sym e)) ∙ upd_same B i bs)
        plain_look Free h = refl
        plain_look (Redirect t) h = absurd h
        plain_look (Target o l) h = absurd h

        T' : ℕ → Slot
        T' = upd (upd T i x) t Free

        B' : ℕ → List ℕ
        B' = upd (upd B i bs) t []

        same : (j : ℕ) → j ≢ i → j ≢ t → j ≢ t → (T' j ≡ T j) × (B' j ≡ B j)
        same j f g h = (upd_other (upd T i x) t Free j g ∙ upd_other T i x j f, upd_other (upd B i bs) t [] j g ∙ upd_other B i bs j f)

        ci : Closed n T T' B B' i t t old same i (T i)
        ci = rw redirect (inr (inl refl))

        ct : Closed n T T' B B' i t t old same t (T t)
        ct = target_closed T' B' i t t same t (T t) is.2 (inl is.3)

        row : (j : ℕ) → page_no j < n → j ≢ i → Dec (j ≡ t) → row_at B' j (T' j) ≡ row_at B j (T j)
        row j l ne (yes e) = rw e (row_free B' t (T' t) (upd_same (upd T i x) t Free) ∙ sym (row_target B t (T t) is.2))
        row j l ne (no f) = rows_kept n T T' B B' i t t old same ci ct ct j l (λ m. ⊎_elim ne (⊎_elim f f) m)

        ki : PairOk n T' B' i (T' i)
        ki = plain_ok T' B' i (T' i) (subst Plain (sym (upd_other (upd T i x) t Free i (λ e. apart (sym e)) ∙ upd_same T i x)) p)

        kt : PairOk n T' B' t (T' t)
        kt = plain_ok T' B' t (T' t) (subst Plain (sym (upd_same (upd T i x) t Free)) tt)

    -- the second forwarding
    pub pairs_again : (q m : ℕ) (bs : List ℕ) → page_no q < n → page_no q ≢ page_no i → q ≢ t → T q ≡ Free → be (take 8 bs) ≡ i
        → Moves n T B (upd (upd (upd T i (Redirect q)) t Free) q (Target 0 m)) (upd (upd (upd B i []) t []) q bs) i (record { answer = 0; bytes = drop 8 bs })
    pairs_again q m bs l o u free back =
        record {
          pairs = pairs_kept n T T' B B' i t q old same ci ct cq ki kt kq;
          own = ap (look B' i) i' ∙ ap (λ (z : List ℕ). look (λ m. z) i (Redirect q)) (upd_same (upd (upd B i []) t []) q bs);
          others = λ j k ne g. looks_kept n T T' B B' i t q old same ci ct cq j k (λ m. ⊎_elim ne (⊎_elim (not_target j g) (not_free q free j g)) m);
          plain = ap is_target i';
          rows = λ j k ne. row j k ne (ℕ_discrete j t) (ℕ_discrete j q);
        }
      where
        p : Plain (T q)
        p = subst Plain (sym free) tt

        qi : q ≢ i
        qi e = o (ap page_no e)

        T' : ℕ → Slot
        T' = upd (upd (upd T i (Redirect q)) t Free) q (Target 0 m)

        B' : ℕ → List ℕ
        B' = upd (upd (upd B i []) t []) q bs

        same : (j : ℕ) → j ≢ i → j ≢ t → j ≢ q → (T' j ≡ T j) × (B' j ≡ B j)
        same j f g h = (
          upd_other (upd (upd T i (Redirect q)) t Free) q (Target 0 m) j h ∙ upd_other (upd T i (Redirect q)) t Free j g ∙ upd_other T i (Redirect q) j f,
          upd_other (upd (upd B i []) t []) q bs j h ∙ upd_other (upd B i []) t [] j g ∙ upd_other B i [] j f,
        )

        ci : Closed n T T' B B' i t q old same i (T i)
        ci = rw redirect (inr (inl refl))

        ct : Closed n T T' B B' i t q old same t (T t)
        ct = target_closed T' B' i t q same t (T t) is.2 (inl is.3)

        cq : Closed n T T' B B' i t q old same q (T q)
        cq = plain_closed T' B' i t q same q (T q) p

        b' : be (take 8 (B' q)) ≡ i
        b' = ap (λ (z : List ℕ). be (take 8 z)) (upd_same (upd (upd B i []) t []) q bs) ∙ back

        i' : T' i ≡ Redirect q
        i' = upd_other (upd (upd T i (Redirect q)) t Free) q (Target 0 m) i (λ e. qi (sym e))
            ∙ upd_other (upd T i (Redirect q)) t Free i (λ e. apart (sym e)) ∙ upd_same T i (Redirect q)

        q' : T' q ≡ Target 0 m
        q' = upd_same (upd (upd T i (Redirect q)) t Free) q (Target 0 m)

        ki : PairOk n T' B' i (T' i)
        ki = subst (PairOk n T' B' i) (sym i') (l, o, ap is_target q', b')

        t' : T' t ≡ Free
        t' = upd_other (upd (upd T i (Redirect q)) t Free) q (Target 0 m) t (λ e. u (sym e)) ∙ upd_same (upd T i (Redirect q)) t Free

        row : (j : ℕ) → page_no j < n → j ≢ i → Dec (j ≡ t) → Dec (j ≡ q) → row_at B' j (T' j) ≡ row_at B j (T j)
        row j k ne (yes e) f = rw e (row_free B' t (T' t) t' ∙ sym (row_target B t (T t) is.2))
        row j k ne (no e) (yes f) = rw f (row_target B' q (T' q) (ap is_target q') ∙ sym (row_free B q (T q) free))
        row j k ne (no e) (no f) = rows_kept n T T' B B' i t q old same ci ct cq j k (λ m. ⊎_elim ne (⊎_elim e f) m)

        kt : PairOk n T' B' t (T' t)
        kt = plain_ok T' B' t (T' t) (subst Plain
            (sym (upd_other (upd (upd T i (Redirect q)) t Free) q (Target 0 m) t (λ e. u (sym e)) ∙ upd_same (upd T i (Redirect q)) t Free)) tt)

        kq : PairOk n T' B' q (T' q)
        kq = subst (PairOk n T' B' q) (sym q') (subst (λ (r : ℕ). page_no r < n) (sym b') below, ap T' b' ∙ i')

  -- the first forwarding
  pub pairs_forward : (i q m : ℕ) (bs : List ℕ) → page_no i < n → page_no q < n → page_no q ≢ page_no i → Plain (T i) → T q ≡ Free → be (take 8 bs) ≡ i
      → Moves n T B (upd (upd T i (Redirect q)) q (Target 0 m)) (upd (upd B i []) q bs) i (record { answer = 0; bytes = drop 8 bs })
  pairs_forward i q m bs below l o pi free back =
      record {
        pairs = pairs_kept n T T' B B' i q q old same ci cq cq ki kq kq;
        own = ap (look B' i) i' ∙ ap (λ (z : List ℕ). look (λ m. z) i (Redirect q)) (upd_same (upd B i []) q bs);
        others = λ j k ne g. looks_kept n T T' B B' i q q old same ci cq cq j k (λ m. ⊎_elim ne (⊎_elim (not_free q free j g) (not_free q free j g)) m);
        plain = ap is_target i';
        rows = λ j k ne. row j k ne (ℕ_discrete j q);
      }
    where
      p : Plain (T q)
      p = subst Plain (sym free) tt

      qi : q ≢ i
      qi e = o (ap page_no e)

      T' : ℕ → Slot
      T' = upd (upd T i (Redirect q)) q (Target 0 m)

      B' : ℕ → List ℕ
      B' = upd (upd B i []) q bs

      same : (j : ℕ) → j ≢ i → j ≢ q → j ≢ q → (T' j ≡ T j) × (B' j ≡ B j)
      same j f g h = (
        upd_other (upd T i (Redirect q)) q (Target 0 m) j g ∙ upd_other T i (Redirect q) j f,
        upd_other (upd B i []) q bs j g ∙ upd_other B i [] j f,
      )

      ci : Closed n T T' B B' i q q old same i (T i)
      ci = plain_closed T' B' i q q same i (T i) pi

      cq : Closed n T T' B B' i q q old same q (T q)
      cq = plain_closed T' B' i q q same q (T q) p

      b' : be (take 8 (B' q)) ≡ i
      b' = ap (λ (z : List ℕ). be (take 8 z)) (upd_same (upd B i []) q bs) ∙ back

      i' : T' i ≡ Redirect q
      i' = upd_other (upd T i (Redirect q)) q (Target 0 m) i (λ e. qi (sym e)) ∙ upd_same T i (Redirect q)

      q' : T' q ≡ Target 0 m
      q' = upd_same (upd T i (Redirect q)) q (Target 0 m)

      row : (j : ℕ) → page_no j < n → j ≢ i → Dec (j ≡ q) → row_at B' j (T' j) ≡ row_at B j (T j)
      row j k ne (yes f) = rw f (row_target B' q (T' q) (ap is_target q') ∙ sym (row_free B q (T q) free))
      row j k ne (no f) = rows_kept n T T' B B' i q q old same ci cq cq j k (λ m. ⊎_elim ne (⊎_elim f f) m)

      ki : PairOk n T' B' i (T' i)
      ki = subst (PairOk n T' B' i) (sym i') (l, o, ap is_target q', b')

      kq : PairOk n T' B' q (T' q)
      kq = subst (PairOk n T' B' q) (sym q') (subst (λ (r : ℕ). page_no r < n) (sym b') below, ap T' b' ∙ i')
