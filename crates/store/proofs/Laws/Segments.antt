-- A segment: what is seen after a call's steps, and demand 3 over every plan.
use Rattle.std.specs.Prelude.{ℕ, ◌+◌, ◌-◌, ◌*◌, ◌/◌, ◌%◌, ◌≤◌, ◌<◌, ◌≡◌, refl, Bool}
use Rattle.std.specs.Prelude.{true, false, cond, not, ◌&&◌, List, [], ◌∷◌, ◌++◌, ◌⊎◌, ◌≢◌, length}
use Rattle.std.specs.Prelude.{take, drop, eqb, leb}
use Rattle.std.proofs.Math.Path.{sym, ap}
use Rattle.std.proofs.Common.{◌∙◌, inl, inr, arith, length-take, length-drop, eq-eqb, ne_eqb}
use Rattle.std.proofs.Math.Decide.{ℕ_discrete, dec_lt}
use Rattle.std.proofs.lemmas.List.{take-append-le, drop-append-le}
use Rattle.std.proofs.Math.Seq.{drop-append-add}
use Rattle.store.specs.Numbers.{cut, put, upd}
use Rattle.store.specs.Page.{View, view, fresh, sound}
use Rattle.store.specs.PageSteps.{initialised, opened, run, plan}
use Rattle.store.specs.Segment.{SegView, seg_view, page_of, OnPage, Out, result, carried, carried_on, step, refuse_if, size_ok, inv_ok}
use Rattle.store.proofs.Laws.Numbers.{length_put, cut_apart, cut_same, lent}
use borrow.Rule.Slice.PartMut.{put_mid, mid_of}
use Rattle.store.proofs.Laws.Cases.{by_test}
use Rattle.store.specs.Laws.Views.{Sound}
use Rattle.store.proofs.Laws.SoundPage.{sound_test, sound_init}
use Rattle.store.proofs.Laws.Exact.{Exact, length_run}

-- ---- a page written, and the others

pub length_page : (s : List ℕ) (p : ℕ) → p * 16384 + 16384 ≤ length s → length (page_of s p) ≡ 16384
length_page s p h = simp (length-take, length-drop) (omega arith)

-- of one segment and another behind it: a page of the first, and of the second
pub page_first : (s r : List ℕ) (p : ℕ) → p * 16384 + 16384 ≤ length s → page_of (s ++ r) p ≡ page_of s p
page_first s r p h =
    ap (take 16384) (drop-append-le (p * 16384) s r (omega arith))
    ∙ take-append-le 16384 (drop (p * 16384) s) r (simp length-drop (omega arith))

pub page_second : (s r : List ℕ) (n p : ℕ) → length s ≡ n * 16384 → page_of (s ++ r) (n + p) ≡ page_of r p
page_second s r n p h =
    let e : (n + p) * 16384 ≡ length s + p * 16384 = omega arith in
    ap (λ (i : ℕ). cut (s ++ r) i 16384) e ∙ ap (take 16384) (drop-append-add s r (p * 16384))

module _ (s : List ℕ) (p : ℕ) (q : List ℕ) (whole : length q ≡ 16384) where
  pub page_same : p * 16384 + 16384 ≤ length s → page_of (put s (p * 16384) q) p ≡ q
  page_same h = cut_same s (p * 16384) q 16384 whole h

  pub page_other : (r : ℕ) → r ≢ p → page_of (put s (p * 16384) q) r ≡ page_of s r
  page_other r n = cut_apart s (p * 16384) q (r * 16384) 16384 (λ a b. side (dec_lt r p))
    where
      side : Dec (r < p) → (r * 16384 + 16384 ≤ p * 16384) ⊎ (p * 16384 + length q ≤ r * 16384)
      side (yes l) = inl (omega arith)
      side (no l) = inr (omega arith)

-- ---- what is seen after the steps of a plan

abbrev pub settled_on : OnPage → SegView → SegView
settled_on e s = record { pages = s.pages; page = upd s.page e.on (opened e.plan.after) }

abbrev pub settled : List OnPage → SegView → SegView
settled [] s = s
settled (e ∷ es) s = settled es (settled_on e s)

pub record ExactOn (s : List ℕ) (e : OnPage) : Type 0 where
  pub inside : e.on * 16384 + 16384 ≤ length s
  pub exact : Exact (page_of s e.on) e.plan

abbrev pub AllExact : List ℕ → List OnPage → Type 0
AllExact s [] = Unit {0}
AllExact s (e ∷ es) = ExactOn s e × AllExact (carried_on e s) es

pub carried_on_lem : (s : List ℕ) (e : OnPage) → ExactOn s e → seg_view (carried_on e s) ≡ settled_on e (seg_view s)
unfolding seg_view
carried_on_lem s e x = λ i. record { pages = same_length i / 16384; page = λ r. each r (ℕ_discrete r e.on) i }
  where
    q : List ℕ
    q = run e.plan.edits (page_of s e.on)

    whole : length q ≡ 16384
    whole = length_run e.plan.edits (page_of s e.on) ∙ length_page s e.on x.inside

    same_length : length (carried_on e s) ≡ length s
    same_length = length_put s (e.on * 16384) q

    each : (r : ℕ) → Dec (r ≡ e.on)
        → opened (view (page_of (carried_on e s) r)) ≡ upd (λ (t : ℕ). opened (view (page_of s t))) e.on (opened e.plan.after) r
    each r (yes d) = rw (eq-eqb r e.on d)
        (rw d (ap (λ (l : List ℕ). opened (view l)) (page_same s e.on q whole x.inside) ∙ ap opened x.exact.seen))
    each r (no n) = rw (ne_eqb r e.on n) (ap (λ (l : List ℕ). opened (view l)) (page_other s e.on q whole r n))

pub carried_seen : (es : List OnPage) (s : List ℕ) → AllExact s es → seg_view (carried es s) ≡ settled es (seg_view s)
carried_seen [] s x = refl
carried_seen (e ∷ es) s x = carried_seen es (carried_on e s) x.1 ∙ ap (settled es) (carried_on_lem s e x.0)

-- steps on different pages do not meet
pub exact_skip : (s : List ℕ) (e f : OnPage) → ExactOn s e → ExactOn s f → f.on ≢ e.on → ExactOn (carried_on e s) f
exact_skip s e f x y n =
    let q : List ℕ = run e.plan.edits (page_of s e.on) in
    let whole : length q ≡ 16384 = length_run e.plan.edits (page_of s e.on) ∙ length_page s e.on x.inside in
    record { inside = rw length_put y.inside; exact = rw (page_other s e.on q whole f.on n) y.exact }

pub two_exact : (s : List ℕ) (e f : OnPage) → ExactOn s e → ExactOn s f → f.on ≢ e.on → AllExact s (e ∷ f ∷ [])
two_exact s e f x y n = (x, (exact_skip s e f x y n, tt))

pub three_exact : (s : List ℕ) (e f g : OnPage) → ExactOn s e → ExactOn s f → ExactOn s g → f.on ≢ e.on → g.on ≢ e.on → g.on ≢ f.on
    → AllExact s (e ∷ f ∷ g ∷ [])
three_exact s e f g x y z n m o =
    let y' = exact_skip s e f x y n in
    (x, (y', (exact_skip (carried_on e s) f g y' (exact_skip s e g x z m) o, tt)))

-- ---- demand 3, over every plan: two segments as long as one another, of which the same is seen

-- what a call plans, its size test included
abbrev pub planned : (SegView → Out) → List ℕ → List ℕ → Out
planned plan v s = refuse_if (not (size_ok s && inv_ok v)) v 1 (plan (seg_view s))

module _ (s t : List ℕ) (v : List ℕ) (plan : SegView → Out) (long : length s ≡ length t) (alike : seg_view s ≡ seg_view t) where
  same_plan : planned plan v s ≡ planned plan v t
  same_plan = λ i. refuse_if (not ((eqb (long i % 16384) 0 && leb (long i / 16384) 32527) && inv_ok v)) v 1 (plan (alike i))

  -- equal answers, ids and inventories
  pub same_answer : (step s v (plan (seg_view s))).answer ≡ (step t v (plan (seg_view t))).answer
  unfolding result
  same_answer = ap (λ (o : Out). o.answer) same_plan

  pub same_id : (step s v (plan (seg_view s))).id ≡ (step t v (plan (seg_view t))).id
  unfolding result
  same_id = ap (λ (o : Out). o.id) same_plan

  pub same_inv_lem : (step s v (plan (seg_view s))).inv ≡ (step t v (plan (seg_view t))).inv
  unfolding result
  same_inv_lem = ap (λ (o : Out). o.inv) same_plan

  -- and the two are left alike
  pub left_alike : AllExact s (planned plan v s).steps → AllExact t (planned plan v t).steps
      → seg_view (step s v (plan (seg_view s))).seg ≡ seg_view (step t v (plan (seg_view t))).seg
  unfolding result
  left_alike x y =
      carried_seen (planned plan v s).steps s x
      ∙ (λ i. settled (same_plan i).steps (alike i))
      ∙ sym (carried_seen (planned plan v t).steps t y)

-- ---- pages stay sound

abbrev pub AllSound : SegView → Type 0
AllSound s = (p : ℕ) → sound (s.page p) ≡ true

opened_sound : (v : View) → Sound v → sound (opened v) ≡ true
opened_sound v s = go (fresh v)
  where
    go : (b : Bool) → sound (cond b initialised v) ≡ true
    go true = sound_test initialised sound_init
    go false = sound_test v s

-- each of them that was
pub settled_sound : (es : List OnPage) (s : List ℕ) (u : SegView) → AllExact s es → (p : ℕ) → sound (u.page p) ≡ true → sound ((settled es u).page p) ≡ true
settled_sound [] s u x p h = h
settled_sound (e ∷ es) s u x p h =
    settled_sound es (carried_on e s) (settled_on e u) x.1 p
    (by_test (λ (v : View). sound v ≡ true) (eqb p e.on) (opened e.plan.after) (u.page p)
    (λ z. opened_sound e.plan.after x.0.exact.sound) (λ z. h))

-- ---- one page lent on from the segment's middle: from p * 16384 to (p + 1) * 16384

pub lent_part_lem : (s : List ℕ) (p : ℕ) → cut s (p * 16384) ((p + 1) * 16384 - p * 16384) ≡ page_of s p
lent_part_lem s p = let e : (p + 1) * 16384 - p * 16384 ≡ 16384 = omega arith in ap (cut s (p * 16384)) e

-- to a function that leaves f of it
pub lent_page : (s : List ℕ) (p : ℕ) (f : List ℕ → List ℕ) → ((q : List ℕ) → length (f q) ≡ length q) → (out : List ℕ) → p * 16384 + 16384 ≤ length s
    → out ≡ f (mid_of (p * 16384) ((p + 1) * 16384 - p * 16384) s)
    → put_mid (p * 16384) ((p + 1) * 16384 - p * 16384) s out ≡ put s (p * 16384) (f (page_of s p))
lent_page s p f keeps out h e =
    let g : out ≡ f (page_of s p) = e ∙ ap f (lent_part_lem s p) in
    let l : length out ≡ (p + 1) * 16384 - p * 16384 = ap length g ∙ keeps (page_of s p) ∙ length_page s p h ∙ omega arith in
    lent s (p * 16384) ((p + 1) * 16384) out (omega arith) (omega arith) l ∙ ap (put s (p * 16384)) g
