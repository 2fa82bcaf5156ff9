-- Laws of the class table: an arm of it, its bounds, and that more used bytes have no lower class.
use Rattle.std.specs.Prelude.{ℕ, zero, suc, ◌+◌, ◌≤◌, ◌≡◌, refl, Bool, true, false, cond, List, [], ◌∷◌, T, leb, ltb, length, get_or, take}
use Rattle.std.proofs.Common.{◌∙◌, sym, zero-add, not-suc-le-zero, le_of_suc-le-suc, arith, leb→le, ltb→lt, le-leb, leb-true, leb-false}
use Rattle.std.proofs.lemmas.Bool.{lt-leb}
use Rattle.store.specs.Inventory.{borders, class_in, class_of}

abbrev pub both : Bool → Bool → Bool
both true b = b
both false b = false

both_left : (a b : Bool) → T (both a b) → T a
both_left true b t = tt
both_left false b t = t

both_right : (a b : Bool) → T (both a b) → T b
both_right true b t = t
both_right false b t = absurd t

-- ---- an arm: x is at least m, the first k borders are below m, and x is not above border k

abbrev pub all_lt : ℕ → List ℕ → Bool
all_lt m [] = true
all_lt m (b ∷ bs) = both (ltb b m) (all_lt m bs)

band : (bs : List ℕ) (c x m k : ℕ) → m ≤ x → T (all_lt m (take k bs)) → k ≤ length bs → x ≤ get_or bs k x → class_in c bs x ≡ k + c
band [] c x m zero l t h u = sym (zero-add c)
band [] c x m (suc k) l t h u = absurd (not-suc-le-zero h)
band (b ∷ bs) c x m zero l t h u = rw (le-leb x b u) (sym (zero-add c))
band (b ∷ bs) c x m (suc k) l t h u =
    rw (lt-leb x b (omega (arith, ltb→lt b m (both_left (ltb b m) _ t))))
    (band bs (suc c) x m k l (both_right (ltb b m) _ t) (le_of_suc-le-suc h) u ∙ omega arith)

pub arm : (k m : ℕ) → T (all_lt m (take k borders)) → T (leb k 14) → (x : ℕ) → m ≤ x → x ≤ get_or borders k x → k + 1 ≡ class_of x
unfolding class_of
arm k m t h x l u = sym (band borders 1 x m k l t (leb→le k 14 h) u)

-- ---- bounds; more used bytes, no lower class

in_low : (bs : List ℕ) (c x : ℕ) → c ≤ class_in c bs x
in_low [] c x = omega arith
in_low (b ∷ bs) c x = go (leb x b) (in_low bs (suc c) x)
  where
    go : (t : Bool) → suc c ≤ class_in (suc c) bs x → c ≤ cond t c (class_in (suc c) bs x)
    go true h = omega arith
    go false h = omega arith

in_top : (bs : List ℕ) (c x : ℕ) → class_in c bs x ≤ c + length bs
in_top [] c x = omega arith
in_top (b ∷ bs) c x = go (leb x b) (in_top bs (suc c) x)
  where
    go : (t : Bool) → class_in (suc c) bs x ≤ suc c + length bs → cond t c (class_in (suc c) bs x) ≤ c + suc (length bs)
    go true h = omega arith
    go false h = omega arith

pub class_low : (x : ℕ) → 1 ≤ class_of x
unfolding class_of
class_low x = in_low borders 1 x

pub class_top : (x : ℕ) → class_of x ≤ 15
unfolding class_of
class_top x = in_top borders 1 x

in_mono : (bs : List ℕ) (c x y : ℕ) → x ≤ y → class_in c bs x ≤ class_in c bs y
in_mono [] c x y l = omega arith
in_mono (b ∷ bs) c x y l = go (leb x b) refl (leb y b) refl (in_mono bs (suc c) x y l) (in_low bs (suc c) y)
  where
    go : (p : Bool) → leb x b ≡ p → (q : Bool) → leb y b ≡ q → class_in (suc c) bs x ≤ class_in (suc c) bs y → suc c ≤ class_in (suc c) bs y
        → cond p c (class_in (suc c) bs x) ≤ cond q c (class_in (suc c) bs y)
    go true e true f h k = omega arith
    go true e false f h k = omega arith
    go false e true f h k = omega (arith, leb-false x b e, leb-true y b f)
    go false e false f h k = h

pub class_mono : (x y : ℕ) → x ≤ y → class_of x ≤ class_of y
unfolding class_of
class_mono x y l = in_mono borders 1 x y l
