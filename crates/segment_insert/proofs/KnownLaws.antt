-- The pages that a call remembers: one more that was found sound, and all of them after a row has gone in.
use Prim.Native.Nat.{ℕ, ◌+◌, ◌<◌}
use mathlib.Core.Path.{◌≡◌, refl, sym, ap, subst, ◌∙◌}
use mathlib.Core.Bool.{true}
use mathlib.Core.List.{List}
use native.Mathlib.Omega.{arith}
use native.Mathlib.Decide.{ℕ_discrete}
use lib.ListN.{length, get_or, set, length-set}
use lib.Seq.{get_or-set_same, get_or-set_other}
use Rattle.store.specs.Page.{sound}
use Rattle.store.specs.PageSteps.{Alloc, no_room, got, allocate}
use Rattle.store.specs.Segment.{SegView, seg_view, OnPage, Out, Result, result, carried, taken, inserted}
use Rattle.store.proofs.Laws.Plans.{length_carried}
use Rattle.store.proofs.Laws.Segments.{AllExact, carried_seen, settled_sound}
use Rattle.store.specs.Laws.Lent.{SoundOn}
use Rattle.std.proofs.Common.{Some}
use Rattle.segment_insert.specs.Words.{named_on, KnownSound}
use Rattle.segment_insert.proofs.Placed.{took_place}

-- ---- one more

pub more_known : (s ks : List ℕ) → KnownSound s ks → (j p : ℕ) → j < 16 → SoundOn s p → KnownSound s (set ks j (p + 1))
more_known s ks k j p l h = record { long = length-set ks j (p + 1) ∙ k.long; sound = λ i q e. each i q e (ℕ_discrete i j) }
  where
    each : (i q : ℕ) → get_or (set ks j (p + 1)) i 0 ≡ q + 1 → Dec (i ≡ j) → SoundOn s q
    each i q e (yes d) =
        let here : get_or (set ks j (p + 1)) i 0 ≡ p + 1 =
        ap (λ (m : ℕ). get_or (set ks j (p + 1)) m 0) d ∙ get_or-set_same ks j (p + 1) 0 (omega (arith, k.long)) in
        let same : p ≡ q = omega arith in
        subst (SoundOn s) same h
    each i q e (no d) = k.sound i q (sym (get_or-set_other ks j i (p + 1) 0 d) ∙ e)

-- ---- after a row: its own page is left sound, and the others as they were

module _ (s v bs : List ℕ) (p : ℕ) (h : SoundOn s p) where
  abbrev place : Alloc
  place = allocate ((seg_view s).page p) (length bs)

  abbrev planned : Alloc → Out
  planned x = inserted (seg_view s) v bs (taken p x)

  is_planned : named_on s v bs (Some p) ≡ result s (planned place)
  is_planned = rw h.sound refl

  exact : (x : Alloc) → place ≡ x → AllExact s (planned x).steps
  exact no_room e = tt
  exact (got k a) e = ((took_place s v bs p h k a e _ refl).exact, tt)

  pub still_known : (t : List ℕ) → t ≡ (named_on s v bs (Some p)).seg → (ks : List ℕ) → KnownSound s ks → KnownSound t ks
  unfolding result
  still_known t e ks k = record {
    long = k.long;
    sound = λ j q f. record { whole = omega (arith, long, (k.sound j q f).whole); sound = stays q (k.sound j q f).sound };
  }
    where
      es : List OnPage
      es = (planned place).steps

      is : t ≡ carried es s
      is = e ∙ ap (λ (x : Result). x.seg) is_planned

      long : length t ≡ length s
      long = ap length is ∙ length_carried es s

      stays : (q : ℕ) → sound ((seg_view s).page q) ≡ true → sound ((seg_view t).page q) ≡ true
      stays q f =
          let x = exact place refl in
          ap (λ (l : List ℕ). sound ((seg_view l).page q)) is ∙ ap (λ (u : SegView). sound (u.page q)) (carried_seen es s x)
          ∙ settled_sound es s (seg_view s) x q f
