-- The fill report: what its figures come to, and how they are added.
use Rattle.std.specs.Prelude.{ℕ, zero, suc, ◌+◌, ◌-◌, ◌*◌, ◌/◌, ◌%◌, ◌^◌, ◌≤◌, ◌<◌, ◌≡◌, refl, Bool, true, false, cond, not, ◌&&◌, get_or, eqb, ltb}
use Rattle.std.proofs.Common.{sym, ◌∙◌, subst, arith, add-zero, add_assoc, length-append, ltb-true, ltb-false, lt-ltb, eq-eqb, ne_eqb}
use Rattle.std.proofs.Math.Path.{ap}
use mathlib.Core.List.{List, [], ◌∷◌, ◌++◌, map}
use Rattle.std.proofs.Math.Decide.{ℕ_discrete, dec_lt}
use Rattle.std.proofs.Math.ListN.{length}
use Rattle.store.specs.Numbers.{zeros, sum, all, one}
use Rattle.store.specs.Slots.{len, is_target}
use Rattle.store.specs.Page.{View, view, fresh, sound}
use Rattle.store.specs.PageSteps.{opened}
use Rattle.store.specs.Inventory.{class_of}
use Rattle.store.specs.Refusals.{DONE, SIZE, DAMAGED, TALLY}
use Rattle.store.specs.Segment.{SegView, seg_view, page_of, size_ok}
use Rattle.store.specs.SoundSegment.{nibble_of, PagesSound}
use Rattle.store.specs.Report.{fresh_of, slots_of, bytes_in, bytes_of, forwarded_of, free_of, of_class, meanings, over, figures_to, figures, added, all_fit}
use Rattle.store.specs.Report.{Report, report, all_sound, report_step}
use Rattle.store.specs.ReportTold.{class_at, AddsUp, ClassesAddUp, Damage, sum_at, Passes, tally_after, AllDone}
use Rattle.store.specs.ReportTold.{counted, totals, Permuted, nil, keep, swap, then}
use Rattle.store.proofs.Laws.Cases.{by_test, never, false_by}
use Rattle.store.specs.Laws.Views.{Sound}
use Rattle.store.proofs.Laws.Views.{sum_ext, sum_zero, sum_add, sum_turn, sum_join}
use Rattle.store.proofs.Laws.Classes.{class_low, class_top, class_mono}
use Rattle.store.proofs.Laws.SoundPage.{sound_none, sound_test, and_both, and_in, all_at, all_in, fresh_none}
use Rattle.store.proofs.Laws.Segments.{page_first, page_second}
use Rattle.store.proofs.Laws.SoundSegment.{sized, right_size, open_sound, seen_page, seen_pages}

-- ---- the sum law of a page

-- the lengths of n slots are their record bytes and 8 for each target
split : (v : View) (n : ℕ) → ((k : ℕ) → is_target (v.at k) ≡ true → 8 ≤ len (v.at k))
    → sum n (λ k. len (v.at k)) ≡ sum n (bytes_in v) + 8 * sum n (λ k. one (is_target (v.at k)))
split v zero h = omega arith
split v (suc n) h = omega (arith, one_slot (is_target (v.at n)) refl, split v n h)
  where
    one_slot : (b : Bool) → is_target (v.at n) ≡ b → len (v.at n) ≡ cond b (len (v.at n) - 8) (len (v.at n)) + 8 * one b
    one_slot true e = omega (arith, h n e)
    one_slot false e = omega arith

abbrev pub used_of : View → ℕ
used_of v = one (not (fresh v))

page_sums : (v : View) → Sound v → 12 * used_of v + 8 * slots_of v + bytes_of v + 8 * forwarded_of v + free_of v ≡ 16384 * used_of v
page_sums v s = go (fresh v) refl
  where
    none : v.slot_count ≡ 0 → (f : ℕ → ℕ) → sum v.slot_count f ≡ 0
    none z f = sum_zero v.slot_count f (λ k l. absurd (omega arith))

    go : (b : Bool) → fresh v ≡ b → 12 * one (not b) + 8 * slots_of v + bytes_of v + 8 * forwarded_of v + cond b 0 v.free_space ≡ 16384 * one (not b)
    go true e = let z = fresh_none v e in omega (arith, none z (bytes_in v), none z (λ k. one (is_target (v.at k))))
    go false e = omega (arith, s.sums, split v v.slot_count s.targets)

-- ---- of a segment

-- five sums that agree at each number agree
five : (n : ℕ) (a b c d e : ℕ → ℕ) → ((p : ℕ) → 12 * a p + 8 * b p + c p + 8 * d p + e p ≡ 16384 * a p)
    → 12 * sum n a + 8 * sum n b + sum n c + 8 * sum n d + sum n e ≡ 16384 * sum n a
five zero a b c d e h = omega arith
five (suc n) a b c d e h = omega (arith, h n, five n a b c d e h)

segment_sums : (u : SegView) (n : ℕ) → ((p : ℕ) → Sound (u.page p))
    → 12 * over u n used_of + 8 * over u n slots_of + over u n bytes_of + 8 * over u n forwarded_of + over u n free_of ≡ 16384 * over u n used_of
segment_sums u n h =
    five n (λ p. used_of (u.page p)) (λ p. slots_of (u.page p)) (λ p. bytes_of (u.page p)) (λ p. forwarded_of (u.page p)) (λ p. free_of (u.page p))
    (λ p. page_sums (u.page p) (h p))

-- pages in use and fresh ones are all pages
used_and_fresh : (u : SegView) (n : ℕ) → over u n used_of + over u n fresh_of ≡ n
used_and_fresh u zero = refl
used_and_fresh u (suc n) = omega (arith, both (fresh (u.page n)), used_and_fresh u n)
  where
    both : (b : Bool) → one (not b) + one b ≡ 1
    both true = refl
    both false = refl

pub pages_all : (n : ℕ) → sum n (λ p. 1) ≡ n
pages_all zero = refl
pages_all (suc n) = omega (arith, pages_all n)

pub figures_sum : (u : SegView) → ((p : ℕ) → Sound (u.page p)) → AddsUp (figures u)
unfolding figures_to
figures_sum u h =
    let n = u.pages in
    record { fresh = omega (arith, used_and_fresh u n, pages_all n); sums = omega (arith, segment_sums u n h, used_and_fresh u n, pages_all n) }

-- ---- classes

-- one class of m is k
class_one : (m k : ℕ) → k < m → sum m (λ c. one (eqb k c)) ≡ 1
class_one zero k l = absurd (omega arith)
class_one (suc m) k l = go (class_one m k) (ℕ_discrete k m)
  where
    go : (k < m → sum m (λ c. one (eqb k c)) ≡ 1) → Dec (k ≡ m) → one (eqb k m) + sum m (λ c. one (eqb k c)) ≡ 1
    go ih (yes e) =
        rw (eq-eqb k m e) (omega (arith, sum_zero m (λ c. one (eqb k c)) (λ c h. ap one (ne_eqb k c (λ (q : k ≡ c). absurd (omega arith))))))
    go ih (no n) = rw (ne_eqb k m n) (omega (arith, ih (omega arith)))

nibble_small : (v : View) → nibble_of v < 16
nibble_small v = by_test (λ (c : ℕ). c < 16) (fresh v) 0 (class_of (16372 - v.free_space)) (λ e. omega arith)
    (λ e. omega (arith, class_top (16372 - v.free_space)))

class_fresh : (v : View) → of_class 0 v ≡ fresh_of v
class_fresh v = go (fresh v)
  where
    c : ℕ
    c = class_of (16372 - v.free_space)

    go : (b : Bool) → one (eqb (cond b 0 c) 0) ≡ one b
    go true = refl
    go false = ap one (ne_eqb c 0 (λ (q : c ≡ 0). absurd (omega (arith, class_low (16372 - v.free_space)))))

-- a page in use has a slot, which takes 8 bytes
class_used : (v : View) → Sound v → of_class 1 v ≡ 0
unfolding class_of
class_used v s = go (fresh v) refl
  where
    c : ℕ
    c = class_of (16372 - v.free_space)

    some : fresh v ≡ false → 1 ≤ v.slot_count
    some e = by_count (ℕ_discrete v.slot_count 0)
      where
        by_count : Dec (v.slot_count ≡ 0) → 1 ≤ v.slot_count
        by_count (yes z) = never (sym (sound_none v z) ∙ sound_test v s) e
        by_count (no n) = omega arith

    go : (b : Bool) → fresh v ≡ b → one (eqb (cond b 0 c) 1) ≡ 0
    go true e = refl
    go false e = ap one (ne_eqb c 1 (λ (q : c ≡ 1). absurd (omega (arith, class_mono 1 (16372 - v.free_space) (omega (arith, some e, s.sums))))))

pub figures_used : (u : SegView) → ((p : ℕ) → Sound (u.page p)) → class_at 1 (figures u) ≡ 0
unfolding figures_to
figures_used u h = sum_zero u.pages (λ p. of_class 1 (u.page p)) (λ p l. class_used (u.page p) (h p))

pub figures_classes : (u : SegView) → ClassesAddUp (figures u)
unfolding figures_to
figures_classes u =
    let n = u.pages in
    record {
      all = sum_turn 16 n (λ c p. of_class c (u.page p)) ∙ sum_ext n (λ p. sum 16 (λ c. of_class c (u.page p))) (λ p. 1)
          (λ p l. class_one 16 (nibble_of (u.page p)) (nibble_small (u.page p)));
      fresh = sum_ext n (λ p. of_class 0 (u.page p)) (λ p. fresh_of (u.page p)) (λ p l. class_fresh (u.page p));
    }

-- ---- figures added

pub get_d_added : (t x : List ℕ) (j : ℕ) → j < length t → get_or (added t x) j 0 ≡ get_or t j 0 + get_or x j 0
get_d_added [] x j l = absurd (omega arith)
get_d_added (a ∷ t) [] j l = omega arith
get_d_added (a ∷ t) (b ∷ x) zero l = refl
get_d_added (a ∷ t) (b ∷ x) (suc j) l = get_d_added t x j (omega arith)

module _ (t x : List ℕ) (long : length t ≡ 23) where
  pub added_sum : AddsUp t → AddsUp x → AddsUp (added t x)
  added_sum a b =
      let pages = get_d_added t x 0 (omega arith) in
      let fresh = get_d_added t x 1 (omega arith) in
      let slots = get_d_added t x 2 (omega arith) in
      let bytes = get_d_added t x 4 (omega arith) in
      let forwarded = get_d_added t x 5 (omega arith) in
      let free = get_d_added t x 6 (omega arith) in
      record { fresh = omega arith; sums = omega arith }

  pub added_classes : ClassesAddUp t → ClassesAddUp x → ClassesAddUp (added t x)
  added_classes a b =
      record {
        all =
            sum_ext 16 (λ c. class_at c (added t x)) (λ c. class_at c t + class_at c x) (λ c l. get_d_added t x (7 + c) (omega arith))
            ∙ sum_add 16 (λ c. class_at c t) (λ c. class_at c x) ∙ omega (arith, a.all, b.all, get_d_added t x 0 (omega arith));
        fresh = omega (arith, get_d_added t x 7 (omega arith), get_d_added t x 1 (omega arith), a.fresh, b.fresh);
      }

pub length_added : (t x : List ℕ) → length (added t x) ≡ length t
length_added [] x = refl
length_added (a ∷ t) [] = refl
length_added (a ∷ t) (b ∷ x) = ap suc (length_added t x)

pub length_figures : (u : SegView) → length (figures u) ≡ 23
unfolding figures_to
length_figures u = refl

-- ---- which figures fit

pub fits_at : (t : List ℕ) → all_fit t ≡ true → (j : ℕ) → get_or t j 0 < 2 ^ 64
fits_at [] e j = omega arith
fits_at (a ∷ t) e zero = ltb-true a (2 ^ 64) (and_both (ltb a (2 ^ 64)) (all_fit t) e).0
fits_at (a ∷ t) e (suc j) = fits_at t (and_both (ltb a (2 ^ 64)) (all_fit t) e).1 j

pub fits_in : (t : List ℕ) → ((j : ℕ) → j < length t → get_or t j 0 < 2 ^ 64) → all_fit t ≡ true
fits_in [] h = refl
fits_in (a ∷ t) h =
    and_in (ltb a (2 ^ 64)) (all_fit t) (lt-ltb a (2 ^ 64) (h 0 (omega arith))) (fits_in t (λ j l. h (suc j) (omega arith)))

fits_not : (t : List ℕ) → all_fit t ≡ false → (j : ℕ) × (j < length t) × (2 ^ 64 ≤ get_or t j 0)
fits_not [] e = never refl e
fits_not (a ∷ t) e = go (fits_not t) (ltb a (2 ^ 64)) refl e
  where
    go : (all_fit t ≡ false → (j : ℕ) × (j < length t) × (2 ^ 64 ≤ get_or t j 0)) → (b : Bool) → ltb a (2 ^ 64) ≡ b → (b && all_fit t) ≡ false
        → (j : ℕ) × (j < suc (length t)) × (2 ^ 64 ≤ get_or (a ∷ t) j 0)
    go ih true q f = let r = ih f in (suc r.0, omega arith, r.2)
    go ih false q f = (0, omega arith, ltb-false a (2 ^ 64) q)

-- ---- which pages are sound

all_not : (n : ℕ) (f : ℕ → Bool) → all n f ≡ false → (j : ℕ) × (j < n) × (f j ≡ false)
all_not zero f e = never refl e
all_not (suc n) f e = go (all_not n f) (f n) refl e
  where
    go : (all n f ≡ false → (j : ℕ) × (j < n) × (f j ≡ false)) → (b : Bool) → f n ≡ b → (b && all n f) ≡ false → (j : ℕ) × (j < suc n) × (f j ≡ false)
    go ih true q g = let r = ih g in (r.0, omega arith, r.2)
    go ih false q g = (n, omega arith, q)

module _ (s : List ℕ) where
  -- what is seen of a page is sound if the page is
  pub seen_same : (p : ℕ) → sound ((seg_view s).page p) ≡ sound (view (page_of s p))
  seen_same p = ap sound (seen_page s p) ∙ open_sound (view (page_of s p))

  pub each_sound : all_sound (seg_view s) ≡ true → PagesSound s
  each_sound e p l = sym (seen_same p) ∙ all_at (seg_view s).pages (λ q. sound ((seg_view s).page q)) e p (omega (arith, seen_pages s))

  pub sound_each : PagesSound s → all_sound (seg_view s) ≡ true
  sound_each h = all_in (seg_view s).pages (λ q. sound ((seg_view s).page q)) (λ p l. seen_same p ∙ h p (omega (arith, seen_pages s)))

  pub damage : all_sound (seg_view s) ≡ false → Damage s
  damage e =
      let r = all_not (seg_view s).pages (λ q. sound ((seg_view s).page q)) e in
      record { on = r.0; below = omega (arith, seen_pages s); unsound = sym (seen_same r.0) ∙ r.2 }

  pub damaged : Damage s → all_sound (seg_view s) ≡ false
  damaged d = false_by (all_sound (seg_view s)) (λ e. never (each_sound e d.on d.below) d.unsound)

-- ---- what a call answers and leaves

module _ (s t : List ℕ) where
  abbrev pub after : List ℕ
  after = added t (figures (seg_view s))

  pub on_size : size_ok s ≡ false → report_step s t ≡ report SIZE t
  unfolding report_step
  on_size e = rw e

  pub on_damage : size_ok s ≡ true → all_sound (seg_view s) ≡ false → report_step s t ≡ report DAMAGED t
  unfolding report_step
  on_damage e f = rw (e, f)

  pub on_tally : size_ok s ≡ true → all_sound (seg_view s) ≡ true → all_fit after ≡ false → report_step s t ≡ report TALLY t
  unfolding report_step
  on_tally e f g = rw (e, f, g)

  pub on_done : size_ok s ≡ true → all_sound (seg_view s) ≡ true → all_fit after ≡ true → report_step s t ≡ report DONE after
  unfolding report_step
  on_done e f g = rw (e, f, g)

  -- a property of what is left, from each of the four with its tests
  pub by_report : (P : Report → Type 0) → (size_ok s ≡ false → P (report SIZE t))
      → (size_ok s ≡ true → all_sound (seg_view s) ≡ false → P (report DAMAGED t))
      → (size_ok s ≡ true → all_sound (seg_view s) ≡ true → all_fit after ≡ false → P (report TALLY t))
      → (size_ok s ≡ true → all_sound (seg_view s) ≡ true → all_fit after ≡ true → P (report DONE after)) → P (report_step s t)
  by_report P a b c d = go (size_ok s) refl (all_sound (seg_view s)) refl (all_fit after) refl
    where
      go : (x : Bool) → size_ok s ≡ x → (y : Bool) → all_sound (seg_view s) ≡ y → (z : Bool) → all_fit after ≡ z → P (report_step s t)
      go false e y f z g = rw (on_size e) (a e)
      go true e false f z g = rw (on_damage e f) (b e f)
      go true e true f false g = rw (on_tally e f g) (c e f g)
      go true e true f true g = rw (on_done e f g) (d e f g)

  module _ (long : length t ≡ 23) where
    as_long : length after ≡ 23
    as_long = length_added t (figures (seg_view s)) ∙ long

    pub after_at : (j : ℕ) → j < 23 → get_or after j 0 ≡ sum_at s t j
    after_at j l = get_d_added t (figures (seg_view s)) j (omega arith)

    pub all_fits : all_fit after ≡ true → (j : ℕ) → j < 23 → sum_at s t j < 2 ^ 64
    all_fits e j l = omega (arith, after_at j l, fits_at after e j)

    pub fits_all : ((j : ℕ) → j < 23 → sum_at s t j < 2 ^ 64) → all_fit after ≡ true
    fits_all h = fits_in after (λ j l. let m : j < 23 = omega (arith, as_long) in omega (arith, after_at j m, h j m))

    pub not_all : all_fit after ≡ false → Passes s t
    not_all e =
        let r = fits_not after e in
        let m : r.0 < 23 = omega (arith, as_long) in
        record { figure = r.0; of = m; past = omega (arith, after_at r.0 m) }

    pub all_not_fit : Passes s t → all_fit after ≡ false
    all_not_fit p = false_by (all_fit after) (λ e. omega (arith, all_fits e p.figure p.of))

-- ---- calls one after the other

added_zeros : (t : List ℕ) (n : ℕ) → added t (zeros n) ≡ t
added_zeros [] n = refl
added_zeros (a ∷ t) zero = refl
added_zeros (a ∷ t) (suc n) = λ i. add-zero a i ∷ added_zeros t n i

pub added_assoc : (t x y : List ℕ) → length x ≡ length y → added (added t x) y ≡ added t (added x y)
added_assoc [] x y e = refl
added_assoc (a ∷ t) [] [] e = refl
added_assoc (a ∷ t) [] (c ∷ y) e = absurd (omega arith)
added_assoc (a ∷ t) (b ∷ x) [] e = refl
added_assoc (a ∷ t) (b ∷ x) (c ∷ y) e = λ i. add_assoc a b c i ∷ added_assoc t x y (omega arith) i

added_swap : (t x y : List ℕ) → added (added t x) y ≡ added (added t y) x
added_swap [] x y = refl
added_swap (a ∷ t) [] [] = refl
added_swap (a ∷ t) [] (c ∷ y) = refl
added_swap (a ∷ t) (b ∷ x) [] = refl
added_swap (a ∷ t) (b ∷ x) (c ∷ y) = let e : a + b + c ≡ a + c + b = omega arith in λ i. e i ∷ added_swap t x y i

-- figures only rise
pub fits_less : (t x : List ℕ) → all_fit (added t x) ≡ true → all_fit t ≡ true
fits_less [] x e = refl
fits_less (a ∷ t) [] e = e
fits_less (a ∷ t) (b ∷ x) e =
    let r = and_both (ltb (a + b) (2 ^ 64)) (all_fit (added t x)) e in
    and_in (ltb a (2 ^ 64)) (all_fit t) (lt-ltb a (2 ^ 64) (omega (arith, ltb-true (a + b) (2 ^ 64) r.0))) (fits_less t x r.1)

length_totals : (ss : List (List ℕ)) → length (totals ss) ≡ 23
length_totals [] = refl
length_totals (s ∷ ss) = length_added (figures (seg_view s)) (totals ss) ∙ length_figures (seg_view s)

-- a run of any calls: those that are refused add nothing
pub run_adds : (ss : List (List ℕ)) (t : List ℕ) → tally_after ss t ≡ added t (totals (counted ss t))
run_adds [] t = sym (added_zeros t 23)
run_adds (s ∷ ss) t =
    by_report s t
    (λ (r : Report). tally_after ss r.tally ≡ added t (totals (cond (eqb r.answer DONE) (s ∷ counted ss r.tally) (counted ss r.tally))))
    (λ e. run_adds ss t) (λ e f. run_adds ss t) (λ e f g. run_adds ss t)
    (λ e f g.
    run_adds ss (after s t)
    ∙ added_assoc t (figures (seg_view s)) (totals (counted ss (after s t))) (length_figures (seg_view s) ∙ sym (length_totals (counted ss (after s t)))))

pub all_counted : (ss : List (List ℕ)) (t : List ℕ) → AllDone ss t → counted ss t ≡ ss
all_counted [] t d = refl
all_counted (s ∷ ss) t d = rw (eq-eqb (report_step s t).answer DONE d.0) (ap (λ (r : List (List ℕ)). s ∷ r) (all_counted ss (report_step s t).tally d.1))

-- what an answer 0 tells
pub record Done (s t : List ℕ) : Type 0 where
  pub size : size_ok s ≡ true
  pub pages : all_sound (seg_view s) ≡ true
  pub fits : all_fit (after s t) ≡ true

pub done_tells : (s t : List ℕ) → (report_step s t).answer ≡ DONE → Done s t
done_tells s t =
    by_report s t (λ (r : Report). r.answer ≡ DONE → Done s t) (λ e z. absurd (omega arith)) (λ e f z. absurd (omega arith))
    (λ e f g z. absurd (omega arith)) (λ e f g z. record { size = e; pages = f; fits = g })

pub tells_done : (s t : List ℕ) → Done s t → report_step s t ≡ report DONE (after s t)
tells_done s t d = on_done s t d.size d.pages d.fits

-- two calls the other way round
module _ (a b t : List ℕ) (d : (report_step a t).answer ≡ DONE) (e : (report_step b (report_step a t).tally).answer ≡ DONE) where
  first : report_step a t ≡ report DONE (after a t)
  first = tells_done a t (done_tells a t d)

  second : Done b (after a t)
  second = subst (λ (r : Report). Done b r.tally) first (done_tells b (report_step a t).tally e)

  both_fit : all_fit (after a (after b t)) ≡ true
  both_fit = ap all_fit (added_swap t (figures (seg_view b)) (figures (seg_view a))) ∙ second.fits

  other_first : report_step b t ≡ report DONE (after b t)
  other_first = tells_done b t (record { size = second.size; pages = second.pages; fits = fits_less (after b t) (figures (seg_view a)) both_fit })

  other_second : report_step a (after b t) ≡ report DONE (after a (after b t))
  other_second = let f = done_tells a t d in tells_done a (after b t) (record { size = f.size; pages = f.pages; fits = both_fit })

  pub swapped_first : (report_step b t).answer ≡ DONE
  swapped_first = ap (λ (r : Report). r.answer) other_first

  pub swapped_second : (report_step a (report_step b t).tally).answer ≡ DONE
  swapped_second = rw other_first (ap (λ (r : Report). r.answer) other_second)

  pub swapped_same : (report_step a (report_step b t).tally).tally ≡ (report_step b (report_step a t).tally).tally
  swapped_same =
      (λ i. (report_step a (other_first i).tally).tally) ∙ ap (λ (r : Report). r.tally) other_second
      ∙ added_swap t (figures (seg_view b)) (figures (seg_view a))
      ∙ sym ((λ i. (report_step b (first i).tally).tally) ∙ ap (λ (r : Report). r.tally) (tells_done b (after a t) second))

pub permuted : {ss rs : List (List ℕ)} → Permuted ss rs → (t : List ℕ) → AllDone ss t → AllDone rs t × (tally_after rs t ≡ tally_after ss t)
permuted nil t d = (d, refl)
permuted (keep {s = s} p) t d = let r = permuted p (report_step s t).tally d.1 in ((d.0, r.0), r.1)
permuted (swap {s = a} {r = b} {ss = ss}) t d =
    let same = swapped_same a b t d.0 d.1.0 in
    ((swapped_first a b t d.0 d.1.0, (swapped_second a b t d.0 d.1.0, subst (AllDone ss) (sym same) d.1.1)), ap (tally_after ss) same)
permuted (then p q) t d = let x = permuted p t d in let y = permuted q t x.0 in (y.0, y.1 ∙ x.1)

-- ---- a segment's first pages and its last

-- figures over the pages of u are those over the pages of v and of w, one by one
over_both : (u v w : SegView) (n m : ℕ) → ((p : ℕ) → p < n → u.page p ≡ v.page p) → ((p : ℕ) → p < m → u.page (n + p) ≡ w.page p) → (f : View → ℕ)
    → over u (n + m) f ≡ over v n f + over w m f
over_both u v w n m a b f =
    let x = sum_ext n (λ p. f (u.page p)) (λ p. f (v.page p)) (λ p l. ap f (a p l)) in
    let y = sum_ext m (λ p. f (u.page (n + p))) (λ p. f (w.page p)) (λ p l. ap f (b p l)) in
    omega (arith, sum_join n m (λ p. f (u.page p)))

map_both : (f g h : (View → ℕ) → ℕ) → ((x : View → ℕ) → f x ≡ g x + h x) → (xs : List (View → ℕ)) → map f xs ≡ added (map g xs) (map h xs)
map_both f g h e [] = refl
map_both f g h e (x ∷ xs) = λ i. e x i ∷ map_both f g h e xs i

module _ (s r : List ℕ) (a : length s % 16384 ≡ 0) (b : length r % 16384 ≡ 0) where
  pub first_page : (p : ℕ) → p < length s / 16384 → page_of (s ++ r) p ≡ page_of s p
  first_page p l = page_first s r p (omega arith)

  pub last_page : (p : ℕ) → page_of (s ++ r) (length s / 16384 + p) ≡ page_of r p
  last_page p = page_second s r (length s / 16384) p (omega arith)

  pub page_sum : length (s ++ r) / 16384 ≡ length s / 16384 + length r / 16384
  page_sum = omega (arith, length-append s r)

  pub joined_figures : figures (seg_view (s ++ r)) ≡ added (figures (seg_view s)) (figures (seg_view r))
  unfolding figures_to seg_view
  joined_figures =
      let n = length s / 16384 in
      let m = length r / 16384 in
      ap (λ (k : ℕ). map (over (seg_view (s ++ r)) k) meanings) page_sum
      ∙ map_both (over (seg_view (s ++ r)) (n + m)) (over (seg_view s) n) (over (seg_view r) m)
      (over_both (seg_view (s ++ r)) (seg_view s) (seg_view r) n m (λ p l. ap (λ (q : List ℕ). opened (view q)) (first_page p l))
      (λ p l. ap (λ (q : List ℕ). opened (view q)) (last_page p))) meanings

  pub both_after : (t : List ℕ) → after (s ++ r) t ≡ after r (after s t)
  both_after t =
      ap (added t) joined_figures
      ∙ sym (added_assoc t (figures (seg_view s)) (figures (seg_view r)) (length_figures (seg_view s) ∙ sym (length_figures (seg_view r))))

  -- the one call answers 0 exactly if the two do
  pub done_parts : (t : List ℕ) → Done (s ++ r) t → Done s t × Done r (after s t)
  done_parts t d =
      let few = (sized (s ++ r) d.size).few in
      let h = each_sound (s ++ r) d.pages in
      let fits : all_fit (after r (after s t)) ≡ true = ap all_fit (sym (both_after t)) ∙ d.fits in (
        record {
          size = right_size s a (omega (arith, page_sum));
          pages = sound_each s (λ p l. ap (λ (q : List ℕ). sound (view q)) (sym (first_page p l)) ∙ h p (omega (arith, page_sum)));
          fits = fits_less (after s t) (figures (seg_view r)) fits;
        },
        record {
          size = right_size r b (omega (arith, page_sum));
          pages = sound_each r (λ p l. ap (λ (q : List ℕ). sound (view q)) (sym (last_page p)) ∙ h (length s / 16384 + p) (omega (arith, page_sum)));
          fits = fits;
        },
      )

  pub parts_done : (t : List ℕ) → length s / 16384 + length r / 16384 ≤ 32527 → Done s t → Done r (after s t) → Done (s ++ r) t
  parts_done t few d e =
      record {
        size = right_size (s ++ r) (omega (arith, length-append s r)) (omega (arith, page_sum));
        pages = sound_each (s ++ r) (λ p l. each p l (dec_lt p (length s / 16384)));
        fits = ap all_fit (both_after t) ∙ e.fits;
      }
    where
      each : (p : ℕ) → p < length (s ++ r) / 16384 → Dec (p < length s / 16384) → sound (view (page_of (s ++ r) p)) ≡ true
      each p l (yes h) = ap (λ (q : List ℕ). sound (view q)) (first_page p h) ∙ each_sound s d.pages p h
      each p l (no h) =
          let n = length s / 16384 in
          let k : p ≡ n + (p - n) = omega arith in
          ap (λ (q : ℕ). sound (view (page_of (s ++ r) q))) k
          ∙ ap (λ (q : List ℕ). sound (view q)) (last_page (p - n)) ∙ each_sound r e.pages (p - n) (omega (arith, page_sum))
