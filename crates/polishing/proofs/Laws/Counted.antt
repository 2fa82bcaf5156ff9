-- How many numbers of a run are in a set: of two runs, of a longer one, of a window and of both sides. And what the windows so far tell of the rule.
use Rattle.std.specs.Prelude.{ℕ, ◌+◌, ◌-◌, ◌*◌, ◌≤◌, ◌<◌, ◌≡◌, Bool, true, ◌&&◌, leb}
use Rattle.std.proofs.Math.Path.{refl, ap}
use Rattle.std.proofs.Common.{sym, ap₂, ◌∙◌, ⊎_elim, le-leb, lt-ltb, le-ltb}
use native.Mathlib.Omega.{arith}
use Rattle.std.specs.Int.Count.{ones}
use Rattle.store.specs.Numbers.{sum, one}
use Rattle.store.proofs.Laws.Cases.{lt_or_le, tests}
use Rattle.store.proofs.Laws.SoundPage.{and_both, and_in}
use Rattle.store.proofs.Laws.Views.{sum_ext, sum_few, sum_join}
use Rattle.polishing.specs.Polishing.{counted, met, demands_of, word}
use Rattle.polishing.specs.Words.{mounted, turned, met_by, Says, WithWindow}
use Rattle.polishing.proofs.Laws.Bits.{ones_word}
use Rattle.polishing.specs.declared.rule.Demands.{Demands}
use Rattle.polishing.specs.declared.rule.Counts.{Counts}

-- ---- runs

module _ (w : ℕ → Bool) (a : ℕ) where
  counted_is : (n : ℕ) → counted w a n ≡ sum n (λ j. one (w (a + j)))
  unfolding counted
  counted_is n = refl

  counted_none : counted w a 0 ≡ 0
  unfolding counted
  counted_none = refl

  counted_few : (n : ℕ) → counted w a n ≤ n
  unfolding counted
  counted_few n = sum_few n (λ j. w (a + j))

  -- two runs, one behind the other
  counted_join : (n m : ℕ) → counted w a (n + m) ≡ counted w a n + counted w (a + n) m
  unfolding counted
  counted_join n m =
      sum_join n m (λ j. one (w (a + j)))
      ∙ ap (λ (x : ℕ). sum n (λ j. one (w (a + j))) + x)
      (sum_ext m (λ j. one (w (a + (n + j)))) (λ j. one (w (a + n + j))) (λ j l. let e : a + (n + j) ≡ a + n + j = omega arith in ap (λ (x : ℕ). one (w x)) e))

  -- the same, up to l and from b on
  pub counted_on : (n m l b : ℕ) → l ≡ n + m → b ≡ a + n → counted w a l ≡ counted w a n + counted w b m
  counted_on n m l b p q = ap (counted w a) p ∙ counted_join n m ∙ ap (λ (x : ℕ). counted w a n + counted w x m) (sym q)

  -- a longer run has as many or more
  counted_up : (n m : ℕ) → n ≤ m → counted w a n ≤ counted w a m
  counted_up n m h = let e : m ≡ n + (m - n) = omega arith in omega (arith, ap (counted w a) e, counted_join n (m - n))

-- a window's word has a bit for each
window_ones : (w : ℕ → Bool) (i : ℕ) → ones (word w i) ≡ counted w (64 * i) 64
window_ones w i = ones_word w i ∙ sym (counted_is w (64 * i) 64)

-- both sides together are all
pub counted_sides : (w : ℕ → Bool) → counted w 0 65536 ≡ mounted w + turned w
counted_sides w = counted_join w 0 32768 32768

-- ---- the rule rises with both counts

-- `more` (Laws.Rule) as the code has it, by two counts
met_up : (d : Demands) (a b x y : ℕ) → a ≤ x → b ≤ y → met_by d a b ≡ true → met_by d x y ≡ true
met_up d a b x y h k e =
    let p = and_both (leb d.all (a + b)) (leb d.mounted a && leb d.turned b) e in
    let q = and_both (leb d.mounted a) (leb d.turned b) p.1 in
    and_in (leb d.all (x + y)) (leb d.mounted x && leb d.turned y) (le-leb d.all (x + y) (omega tests))
    (and_in (leb d.mounted x) (leb d.turned y) (le-leb d.mounted x (omega tests)) (le-leb d.turned y (omega tests)))

-- ---- window by window

-- how many numbers of the windows below w lie on each side
abbrev low : ℕ → ℕ
low w = 64 * w - (64 * w - 32768)

abbrev high : ℕ → ℕ
high w = 64 * w - 32768

-- c counts the windows below w
pub record CountsTo (f : ℕ → Bool) (w : ℕ) (c : Counts) : Type 0 where
  pub below : w ≤ 1024
  pub mounted : c.mounted ≡ counted f 0 (low w)
  pub turned : c.turned ≡ counted f 32768 (high w)

module _ (f : ℕ → Bool) where
  pub counts_none : (c : Counts) → (c.mounted ≡ 0) × (c.turned ≡ 0) → CountsTo f 0 c
  counts_none c e = record { below = omega arith; mounted = e.0 ∙ sym (counted_none f 0); turned = e.1 ∙ sym (counted_none f 32768) }

  module _ (w : ℕ) (c : Counts) (h : CountsTo f w c) where
    pub counts_few : (c.mounted ≤ 32768) × (c.turned ≤ 32768)
    counts_few = (omega (arith, counted_few f 0 (low w)), omega (arith, counted_few f 32768 (high w)))

    -- a window more: its numbers lie on one side
    pub counts_next : w < 1024 → (x : ℕ) → x ≡ word f w → (r : Counts) → WithWindow c w (ones x) r → CountsTo f (w + 1) r
    counts_next l x e r g = ⊎_elim mount turn (lt_or_le w 512)
      where
        n : ones x ≡ counted f (64 * w) 64
        n = ap ones e ∙ window_ones f w

        mount : w < 512 → CountsTo f (w + 1) r
        mount p =
            let m = rw (lt-ltb w 512 p) at g.mounted in
            let t = rw (lt-ltb w 512 p) at g.turned in
            let k : high (w + 1) ≡ high w = omega arith in
            let o = counted_on f 0 (low w) 64 (low (w + 1)) (64 * w) (omega arith) (omega arith) in
            record { below = omega arith; mounted = omega (arith, n); turned = omega (arith, ap (counted f 32768) k) }

        turn : 512 ≤ w → CountsTo f (w + 1) r
        turn p =
            let m = rw (le-ltb w 512 p) at g.mounted in
            let t = rw (le-ltb w 512 p) at g.turned in
            let k : low (w + 1) ≡ low w = omega arith in
            let o = counted_on f 32768 (high w) 64 (high (w + 1)) (64 * w) (omega arith) (omega arith) in
            record { below = omega arith; mounted = omega (arith, ap (counted f 0) k); turned = omega (arith, n) }

    -- a yes so far is a yes
    pub counts_met : (e : ℕ) (d : Demands) → Says e d → met_by d c.mounted c.turned ≡ true → met f (demands_of e) ≡ true
    counts_met e d s m =
        let a = counted_up f 0 (low w) 32768 (omega arith) in
        let b = counted_up f 32768 (high w) 32768 (omega arith) in
        s f ∙ met_up d c.mounted c.turned (mounted f) (turned f) (omega arith) (omega arith) m

    -- all windows
    pub counts_all : 1024 ≤ w → (e : ℕ) (d : Demands) → Says e d → met_by d c.mounted c.turned ≡ met f (demands_of e)
    counts_all l e d s =
        let p : low w ≡ 32768 = omega arith in
        let q : high w ≡ 32768 = omega arith in
        ap₂ (met_by d) (h.mounted ∙ ap (counted f 0) p) (h.turned ∙ ap (counted f 32768) q) ∙ sym (s f)
