-- Demand 3 in its literal words: two segments that differ in bytes without meaning alone give equal results, and are left so in the same sense:
-- header bytes, entry bytes and record bytes.
use Rattle.std.specs.Prelude.{ℕ, zero, suc, ◌+◌, ◌*◌, ◌/◌, ◌%◌, ◌≤◌, ◌<◌, ◌≡◌, refl, Bool, true, false, cond, ◌&&◌, get_or, eqb, ltb, leb}
use Rattle.std.proofs.Math.Path.{sym}
use Rattle.std.proofs.Common.{ap, ◌∙◌, subst, inl, inr, ⊎_elim, arith, le-ltb}
use mathlib.Core.List.{List, [], ◌∷◌}
use Rattle.std.proofs.Math.Decide.{ℕ_discrete, dec_lt}
use Rattle.std.proofs.Math.ListN.{length}
use Rattle.store.specs.Numbers.{cut, put, be}
use Rattle.store.specs.Slots.{off, slot_bytes, slot_of}
use Rattle.store.specs.Page.{View, view, count, slot_at, bytes_at, fresh}
use Rattle.store.specs.PageSteps.{initialised, opened, Edit, head, move, commit, fill, apply, run, Plan, head_bytes, put_head, put_slot, put_bytes, plan}
use Rattle.store.specs.Segment.{SegView, seg_view, page_of, OnPage, Out, result, carried, carried_on, step, size_ok, Read}
use Rattle.store.proofs.Laws.Numbers.{length_put, cut_same, cut_take}
use Rattle.store.proofs.Laws.SoundPage.{used_not_fresh, fresh_none}
use Rattle.store.proofs.Laws.Exact.{length_apply, length_run}
use Rattle.store.proofs.Laws.Segments.{AllExact, length_page, page_same, page_other, carried_on_lem}
use Rattle.store.proofs.Laws.Calls.{by_test}
use Rattle.store.proofs.Laws.Changes.{Writes, Headed}
use Rattle.store.proofs.Laws.Plans.{Exacting}
use Rattle.store.specs.Alike.{AlikePage, both_fresh, both_used, Alike, AlikeByKind}
use Rattle.store.specs.SoundSegment.{SoundSegment}
use Rattle.store.proofs.Laws.Stays.{StepOk, AllSteps}
use Rattle.store.proofs.Laws.SoundSegment.{page_past, seen_sound, seen_page, Sized, sized, Staying}
use Rattle.store.specs.declared.Slot.TheVariants.{Free}

-- ---- the same edits on two pages: a part that is equal stays equal, and one that is written becomes so

tail : List ℕ → List ℕ
tail [] = []
tail (x ∷ l) = l

pub cut_both : (p q : List ℕ) → length p ≡ length q → (i : ℕ) (vs : List ℕ) (j m : ℕ) → cut p j m ≡ cut q j m → cut (put p i vs) j m ≡ cut (put q i vs) j m
unfolding tail
cut_both [] [] l i vs j m e = refl
cut_both [] (y ∷ q) l i vs j m e = absurd (omega arith)
cut_both (x ∷ p) [] l i vs j m e = absurd (omega arith)
cut_both (x ∷ p) (y ∷ q) l zero [] j m e = e
cut_both (x ∷ p) (y ∷ q) l (suc i) vs (suc j) m e = cut_both p q (omega arith) i vs j m e
cut_both (x ∷ p) (y ∷ q) l zero (v ∷ vs) (suc j) m e = cut_both p q (omega arith) zero vs j m e
cut_both (x ∷ p) (y ∷ q) l (suc i) vs zero zero e = refl
cut_both (x ∷ p) (y ∷ q) l zero (v ∷ vs) zero zero e = refl
cut_both (x ∷ p) (y ∷ q) l (suc i) vs zero (suc m) e =
    let a : x ≡ y = ap (λ (r : List ℕ). get_or r 0 0) e in
    let b = cut_both p q (omega arith) i vs zero m (ap tail e) in
    λ z. a z ∷ b z
cut_both (x ∷ p) (y ∷ q) l zero (v ∷ vs) zero (suc m) e =
    let b = cut_both p q (omega arith) zero vs zero m (ap tail e) in
    λ z. v ∷ b z

module _ (j m : ℕ) where
  apply_both : (e : Edit) (p q : List ℕ) → length p ≡ length q → cut p j m ≡ cut q j m → cut (apply e p) j m ≡ cut (apply e q) j m
  unfolding apply
  apply_both (head v) p q l h = cut_both p q l 0 (head_bytes v) j m h
  apply_both (move k v) p q l h =
      cut_both (put_slot k v p) (put_slot k v q)
      (length_put p (12 + 8 * k) (slot_bytes (v.at k)) ∙ l ∙ sym (length_put q (12 + 8 * k) (slot_bytes (v.at k)))) (off (v.at k))
      (v.bytes k) j m
      (cut_both p q l (12 + 8 * k) (slot_bytes (v.at k)) j m h)
  apply_both (commit k v) p q l h =
      let lh : length (put_head v p) ≡ length (put_head v q) = length_put p 0 (head_bytes v) ∙ l ∙ sym (length_put q 0 (head_bytes v)) in
      let ls : length (put_slot k v (put_head v p)) ≡ length (put_slot k v (put_head v q)) =
      length_put (put_head v p) (12 + 8 * k) (slot_bytes (v.at k)) ∙ lh ∙ sym (length_put (put_head v q) (12 + 8 * k) (slot_bytes (v.at k))) in
      cut_both (put_slot k v (put_head v p)) (put_slot k v (put_head v q)) ls (off (v.at k)) (v.bytes k) j m
      (cut_both (put_head v p) (put_head v q) lh (12 + 8 * k) (slot_bytes (v.at k)) j m (cut_both p q l 0 (head_bytes v) j m h))
  apply_both (fill k v) p q l h = cut_both p q l (off (v.at k)) (v.bytes k) j m h

  same_lengths : (e : Edit) (p q : List ℕ) → length p ≡ length q → length (apply e p) ≡ length (apply e q)
  same_lengths e p q l = length_apply e p ∙ l ∙ sym (length_apply e q)

  run_both : (es : List Edit) (p q : List ℕ) → length p ≡ length q → cut p j m ≡ cut q j m → cut (run es p) j m ≡ cut (run es q) j m
  run_both [] p q l h = h
  run_both (e ∷ es) p q l h = run_both es (apply e p) (apply e q) (same_lengths e p q l) (apply_both e p q l h)

-- a slot's entry that is written
module _ (j : ℕ) (few : j < 2046) where
  entry_both : (k : ℕ) (v : View) (p q : List ℕ) → length p ≡ 16384 → length q ≡ 16384 → j ≡ k
      → cut (put_bytes k v (put_slot k v p)) (12 + 8 * j) 8 ≡ cut (put_bytes k v (put_slot k v q)) (12 + 8 * j) 8
  entry_both k v p q a b e =
      cut_both (put_slot k v p) (put_slot k v q)
      (length_put p (12 + 8 * k) (slot_bytes (v.at k)) ∙ a ∙ sym (length_put q (12 + 8 * k) (slot_bytes (v.at k)) ∙ b)) (off (v.at k))
      (v.bytes k) (12 + 8 * j) 8
      (rw e (cut_same p (12 + 8 * k) (slot_bytes (v.at k)) 8 refl (omega arith) ∙ sym (cut_same q (12 + 8 * k) (slot_bytes (v.at k)) 8 refl (omega arith))))

  run_written : (es : List Edit) (p q : List ℕ) → length p ≡ 16384 → length q ≡ 16384 → Writes j es
      → cut (run es p) (12 + 8 * j) 8 ≡ cut (run es q) (12 + 8 * j) 8
  unfolding apply
  run_written [] p q a b w = absurd w
  run_written (head v ∷ es) p q a b w = run_written es (apply (head v) p) (apply (head v) q) (length_apply (head v) p ∙ a) (length_apply (head v) q ∙ b) w
  run_written (fill k v ∷ es) p q a b w =
      run_written es (apply (fill k v) p) (apply (fill k v) q) (length_apply (fill k v) p ∙ a) (length_apply (fill k v) q ∙ b) w
  run_written (move k v ∷ es) p q a b (inl e) =
      run_both (12 + 8 * j) 8 es (apply (move k v) p) (apply (move k v) q) (length_apply (move k v) p ∙ a ∙ sym (length_apply (move k v) q ∙ b))
      (entry_both k v p q a b e)
  run_written (move k v ∷ es) p q a b (inr w) =
      run_written es (apply (move k v) p) (apply (move k v) q) (length_apply (move k v) p ∙ a) (length_apply (move k v) q ∙ b) w
  run_written (commit k v ∷ es) p q a b (inl e) =
      run_both (12 + 8 * j) 8 es (apply (commit k v) p) (apply (commit k v) q) (length_apply (commit k v) p ∙ a ∙ sym (length_apply (commit k v) q ∙ b))
      (entry_both k v (put_head v p) (put_head v q) (length_put p 0 (head_bytes v) ∙ a) (length_put q 0 (head_bytes v) ∙ b) e)
  run_written (commit k v ∷ es) p q a b (inr w) =
      run_written es (apply (commit k v) p) (apply (commit k v) q) (length_apply (commit k v) p ∙ a) (length_apply (commit k v) q ∙ b) w

-- the header, written
head_both : (v : View) (p q : List ℕ) → length p ≡ 16384 → length q ≡ 16384 → cut (put_head v p) 0 12 ≡ cut (put_head v q) 0 12
head_both v p q a b = cut_same p 0 (head_bytes v) 12 refl (omega arith) ∙ sym (cut_same q 0 (head_bytes v) 12 refl (omega arith))

run_headed : (es : List Edit) (p q : List ℕ) → length p ≡ 16384 → length q ≡ 16384 → Headed es → cut (run es p) 0 12 ≡ cut (run es q) 0 12
unfolding apply
run_headed [] p q a b w = absurd w
run_headed (head v ∷ es) p q a b w =
    run_both 0 12 es (apply (head v) p) (apply (head v) q) (length_apply (head v) p ∙ a ∙ sym (length_apply (head v) q ∙ b)) (head_both v p q a b)
run_headed (move k v ∷ es) p q a b w = run_headed es (apply (move k v) p) (apply (move k v) q) (length_apply (move k v) p ∙ a) (length_apply (move k v) q ∙ b) w
run_headed (fill k v ∷ es) p q a b w = run_headed es (apply (fill k v) p) (apply (fill k v) q) (length_apply (fill k v) p ∙ a) (length_apply (fill k v) q ∙ b) w
run_headed (commit k v ∷ es) p q a b w =
    let c : cut (apply (commit k v) p) 0 12 ≡ cut (apply (commit k v) q) 0 12 =
    apply_both 0 12 (move k v) (put_head v p) (put_head v q) (length_put p 0 (head_bytes v) ∙ a ∙ sym (length_put q 0 (head_bytes v) ∙ b))
    (head_both v p q a b) in
    run_both 0 12 es (apply (commit k v) p) (apply (commit k v) q) (length_apply (commit k v) p ∙ a ∙ sym (length_apply (commit k v) q ∙ b)) c

-- ---- one step on two pages

opened_count : (p : List ℕ) → (opened (view p)).slot_count ≡ count p
unfolding view
opened_count p = by_test (λ w. w.slot_count ≡ count p) (fresh (view p)) initialised (view p) (λ e. sym (fresh_none (view p) e)) (λ e. refl)

view_count : (p : List ℕ) (v : View) → view p ≡ v → count p ≡ v.slot_count
unfolding view
view_count p v e = ap (λ (w : View). w.slot_count) e

view_bytes : (p : List ℕ) (v : View) → view p ≡ v → (k : ℕ) → bytes_at p k ≡ v.bytes k
unfolding view
view_bytes p v e k = ap (λ (w : View). w.bytes k) e

-- a page that shows a slot is not fresh
in_use : (p : List ℕ) (v : View) → view p ≡ v → 0 < v.slot_count → fresh (view p) ≡ false
in_use p v e l = ap fresh e ∙ used_not_fresh v (λ z. omega arith)

fresh_count : (p : List ℕ) → fresh (view p) ≡ true → count p ≡ 0
unfolding view
fresh_count p e = fresh_none (view p) e

header_like : (p q : List ℕ) → AlikePage p q → 0 < count p → cut p 0 12 ≡ cut q 0 12
header_like p q (both_fresh a b) l = absurd (omega (arith, fresh_count p a))
header_like p q (both_used a b c d e) l = c

entry_like : (p q : List ℕ) → AlikePage p q → (k : ℕ) → k < count p → cut p (12 + 8 * k) 8 ≡ cut q (12 + 8 * k) 8
entry_like p q (both_fresh a b) k l = absurd (omega (arith, fresh_count p a))
entry_like p q (both_used a b c d e) k l = d k l

step_like : (p q : List ℕ) (a : Plan) → length p ≡ 16384 → length q ≡ 16384 → view (run a.edits p) ≡ a.after → view (run a.edits q) ≡ a.after
    → a.after.slot_count ≤ 2046
    → StepOk (opened (view p)) a → AlikePage p q → AlikePage (run a.edits p) (run a.edits q)
step_like p q a lp lq ep eq few ok like =
    let cp = view_count (run a.edits p) a.after ep in
    both_used (in_use (run a.edits p) a.after ep ok.used) (in_use (run a.edits q) a.after eq ok.used)
    (⊎_elim (λ l. run_both 0 12 a.edits p q (lp ∙ sym lq) (header_like p q like (omega (arith, opened_count p))))
    (λ w. run_headed a.edits p q lp lq w) ok.header)
    (λ k l.
    ⊎_elim (λ m. run_both (12 + 8 * k) 8 a.edits p q (lp ∙ sym lq) (entry_like p q like k (omega (arith, opened_count p))))
    (λ w. run_written k (omega arith) a.edits p q lp lq w)
    (ok.writes k (omega arith)))
    (λ k l. view_bytes (run a.edits p) a.after ep k ∙ sym (view_bytes (run a.edits q) a.after eq k))

-- ---- all steps of a call

carried_like : (es : List OnPage) (s t : List ℕ) → AllExact s es → AllExact t es → AllSteps (seg_view s) es → Alike s t → Alike (carried es s) (carried es t)
carried_like [] s t x y k h = h
carried_like (e ∷ es) s t x y k h =
    carried_like es (carried_on e s) (carried_on e t) x.1 y.1 (subst (λ (u : SegView). AllSteps u es) (sym (carried_on_lem s e x.0)) k.1) once
  where
    qs : List ℕ
    qs = run e.plan.edits (page_of s e.on)

    qt : List ℕ
    qt = run e.plan.edits (page_of t e.on)

    ls : length qs ≡ 16384
    ls = length_run e.plan.edits (page_of s e.on) ∙ length_page s e.on x.0.inside

    lt : length qt ≡ 16384
    lt = length_run e.plan.edits (page_of t e.on) ∙ length_page t e.on y.0.inside

    long : length (carried_on e s) ≡ length s
    long = length_put s (e.on * 16384) qs

    each : (p : ℕ) → p < length s / 16384 → Dec (p ≡ e.on) → AlikePage (page_of (carried_on e s) p) (page_of (carried_on e t) p)
    each p l (yes d) =
        rw (d, page_same s e.on qs ls x.0.inside, page_same t e.on qt lt y.0.inside)
        (step_like (page_of s e.on) (page_of t e.on) e.plan (length_page s e.on x.0.inside) (length_page t e.on y.0.inside)
        x.0.exact.seen y.0.exact.seen
        x.0.exact.sound.few (subst (λ (w : View). StepOk w e.plan) (seen_page s e.on) k.0) (h.pages e.on (omega arith)))
    each p l (no n) = rw (page_other s e.on qs ls p n, page_other t e.on qt lt p n) (h.pages p l)

    once : Alike (carried_on e s) (carried_on e t)
    once = record { long = long ∙ h.long ∙ sym (length_put t (e.on * 16384) qt); pages = λ p l. each p (omega (arith, long)) (ℕ_discrete p e.on) }

-- ---- alike in the words is alike to the eye

pub part_like : (p q : List ℕ) (j m : ℕ) → j + m ≤ 12 → cut p 0 12 ≡ cut q 0 12 → cut p j m ≡ cut q j m
part_like p q j m h e = sym (cut_take p 12 j m h) ∙ ap (λ (l : List ℕ). cut l j m) e ∙ cut_take q 12 j m h

-- equal entries are seen as equal, and so is all that is past the count
slot_like : (p q : List ℕ) → count p ≡ count q → ((k : ℕ) → k < count p → cut p (12 + 8 * k) 8 ≡ cut q (12 + 8 * k) 8) → (k : ℕ) → slot_at p k ≡ slot_at q k
slot_like p q n d k = go (dec_lt k (count p))
  where
    go : Dec (k < count p) → slot_at p k ≡ slot_at q k
    go (yes l) = λ i. cond (ltb k (n i)) (slot_of (be (d k l i))) Free
    go (no l) = rw (le-ltb k (count p) (omega arith), le-ltb k (count q) (omega arith))

page_seen : (p q : List ℕ) → AlikePage p q → opened (view p) ≡ opened (view q)
unfolding view
page_seen p q (both_fresh a b) = rw (a, b)
page_seen p q (both_used a b c d e) =
    let n : count p ≡ count q = ap be (part_like p q 0 2 (omega arith) c) in
    let f : be (cut p 2 2) ≡ be (cut q 2 2) = ap be (part_like p q 2 2 (omega arith) c) in
    let g : be (cut p 4 4) ≡ be (cut q 4 4) = ap be (part_like p q 4 4 (omega arith) c) in
    let r : be (cut p 8 4) ≡ be (cut q 8 4) = ap be (part_like p q 8 4 (omega arith) c) in
    ap opened
    (λ i. record {
      slot_count = n i;
      first_free = f i;
      data_start = g i;
      free_space = r i;
      at = λ k. slot_like p q n d k i;
      bytes = λ k. bytes n k (dec_lt k (count p)) i;
    })
  where
    none : (r : List ℕ) (k : ℕ) → count r ≤ k → bytes_at r k ≡ []
    none r k h = rw (le-ltb k (count r) h)

    bytes : count p ≡ count q → (k : ℕ) → Dec (k < count p) → bytes_at p k ≡ bytes_at q k
    bytes n k (yes l) = e k l
    bytes n k (no l) = none p k (omega arith) ∙ sym (none q k (omega arith))

pub alike_seen : (s t : List ℕ) → Sized s → Alike s t → AlikeByKind s t
unfolding seg_view view
alike_seen s t z h =
    record { long = h.long; seen = λ i. record { pages = h.long i / 16384; page = λ p. each p (dec_lt p (length s / 16384)) i } }
  where
    whole : length t % 16384 ≡ 0
    whole = ap (λ (n : ℕ). n % 16384) (sym h.long) ∙ z.whole

    past : length t / 16384 ≡ length s / 16384
    past = ap (λ (n : ℕ). n / 16384) (sym h.long)

    each : (p : ℕ) → Dec (p < length s / 16384) → opened (view (page_of s p)) ≡ opened (view (page_of t p))
    each p (yes l) = page_seen (page_of s p) (page_of t p) (h.pages p l)
    each p (no l) =
        page_seen (page_of s p) (page_of t p)
        (both_fresh (ap (λ (q : List ℕ). fresh (view q)) (page_past s p (omega arith) z.whole))
        (ap (λ (q : List ℕ). fresh (view q)) (page_past t p (omega (arith, past)) whole)))

module _ (s t : List ℕ) (l : Alike s t) where
  size_like : (b : Bool) → size_ok s ≡ b → size_ok t ≡ b
  size_like b e = ap (λ (n : ℕ). eqb (n % 16384) 0 && leb (n / 16384) 32527) (sym l.long) ∙ e

  -- a property of both, from their being seen alike and from neither's size being right
  pub by_size : (P : Type 0) → (AlikeByKind s t → P) → (size_ok s ≡ false → size_ok t ≡ false → P) → P
  by_size P f g = go (size_ok s) refl
    where
      go : (b : Bool) → size_ok s ≡ b → P
      go true e = f (alike_seen s t (sized s e) l)
      go false e = g e (size_like false e)

-- ---- one plan, on two segments that are alike

pub plan_like : (plan : SegView → Out) (w : SegView → Read) (s t v : List ℕ) → Exacting plan → Staying plan w v → SoundSegment s v → Alike s t
    → Alike (step s v (plan (seg_view s))).seg (step t v (plan (seg_view t))).seg
unfolding result
plan_like plan w s t v x k h l =
    let z = sized s h.whole in
    let a = alike_seen s t z l in
    let wt : size_ok t ≡ true = size_like s t l true h.whole in
    rw (h.whole, wt, h.page)
    (subst (λ (u : SegView). Alike (carried (plan (seg_view s)).steps s) (carried (plan u).steps t)) a.seen
    (carried_like (plan (seg_view s)).steps s t (x s z.few)
    (subst (λ (u : SegView). AllExact t (plan u).steps) (sym a.seen) (x t (sized t wt).few)) (k s (seen_sound s v h)).steps l))
