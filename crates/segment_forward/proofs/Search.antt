-- The search for a new target's page: what the code answered is what the plan says.
use Prim.Native.Nat.{ℕ, ◌+◌, ◌*◌, ◌/◌, ◌≤◌, ◌<◌}
use mathlib.Core.Path.{◌≡◌, refl, sym, ap, ◌∙◌}
use mathlib.Core.Bool.{Bool, true, false, ◌||◌}
use mathlib.Core.List.{List, ◌++◌}
use mathlib.Core.Logic.{◌≢◌}
use native.Mathlib.Omega.{arith}
use lib.ListN.{length}
use lib.Dec.{eqb}
use borrow.Author.Tests.{eq-eqb, ne_eqb}
use Rattle.store.specs.Numbers.{put, to_be, id_of, page_no}
use Rattle.store.specs.Page.{sound}
use Rattle.store.specs.PageSteps.{Plan, Alloc, no_room, got, allocate}
use Rattle.store.specs.Inventory.{found_in}
use Rattle.store.specs.Segment.{seg_view, page_of, Result, result, taken, find, find_on}
use Rattle.store.specs.Answers.{outcome}
use Rattle.store.specs.Laws.Lent.{Within, SoundOn}
use Rattle.store.proofs.Laws.Calls.{named_within, named_tells}
use Rattle.store.proofs.Laws.SoundSegment.{seen_pages}
use Rattle.std.specs.Prelude.{Option, Some, None, Ok, Err}
use Rattle.store.specs.declared.Refusal.TheVariants.{Damaged, Full, Stale}
use Rattle.slotted_page.specs.Words.{page_after, place_at, place_of, target_at}
use Rattle.segment_steps.proofs.After.{got_at, got_none, no_room_same, place_made}
use Rattle.segment_forward.specs.Words.{root_or_old, new_target}

-- ---- the page that the inventory names, and the slot that the page gives

module _ (s : List ℕ) (p : ℕ) (h : SoundOn s p) (m k : ℕ) where
  pub got_small : (a : Plan) → allocate ((seg_view s).page p) m ≡ got k a → k < 65536
  got_small a e = let o = place_made s p h m k a e in omega (arith, o.1, o.0.sound.few)

  pub slot_small : (o : ℕ) → place_of (allocate ((seg_view s).page p) m) ≡ place_at k o → k < 65536
  slot_small o e = let x = got_at (allocate ((seg_view s).page p) m) k o e in got_small x.to x.is

module _ (s v : List ℕ) (n p : ℕ) (named : found_in v (length s / 16384) (n + 16) ≡ Some p) where
  pub named_fits : Within s p
  named_fits = named_within s v (n + 16) p named

  pub named_short : n ≤ 16356
  named_short = omega (arith, (named_tells v (length s / 16384) (n + 16) p named).most)

-- ---- 7, 4 (new page), 8, or the new target's id

module _ (s v : List ℕ) (i n : ℕ) (bs : List ℕ) (ex : ℕ → Bool) where
  abbrev pub placing : Result
  placing = result s (new_target v i bs (find found_in (seg_view s) v (n + 8) ex))

  by_named : (m : Option ℕ) → found_in v (length s / 16384) (n + 16) ≡ m → result s (new_target v i bs (find_on (seg_view s) (n + 8) ex m)) ≡ placing
  unfolding find
  by_named m e =
      let d : n + 8 + 8 ≡ n + 16 = omega arith in
      let g : found_in v (seg_view s).pages (n + 8 + 8) ≡ m = ap (λ (k : ℕ). found_in v k (n + 8 + 8)) (seen_pages s)
      ∙ ap (found_in v (length s / 16384)) d ∙ e in
      sym (rw g)

  pub place_full : found_in v (length s / 16384) (n + 16) ≡ None → outcome (Err Full) s v ≡ placing
  unfolding result
  place_full e = by_named None e

  module _ (p : ℕ) (named : found_in v (length s / 16384) (n + 16) ≡ Some p) where
    pub place_damaged : sound ((seg_view s).page p) ≡ false → outcome (Err Damaged) s v ≡ placing
    unfolding result
    place_damaged e = at_page ∙ by_named (Some p) named
      where
        at_page : outcome (Err Damaged) s v ≡ result s (new_target v i bs (find_on (seg_view s) (n + 8) ex (Some p)))
        at_page = rw e

    module _ (ok : sound ((seg_view s).page p) ≡ true) where
      pub place_excluded : ex p ≡ true → outcome (Err Stale) s v ≡ placing
      unfolding result
      place_excluded e = at_page ∙ by_named (Some p) named
        where
          at_page : outcome (Err Stale) s v ≡ result s (new_target v i bs (find_on (seg_view s) (n + 8) ex (Some p)))
          at_page = rw (ok, e)

      -- t is what the page step left, and it answered with no place or with slot k
      module _ (away : ex p ≡ false) (t : List ℕ)
          (et : t ≡ put s (p * 16384) (page_after (target_at (allocate ((seg_view s).page p) (n + 8)) (to_be 8 i ++ bs)) (page_of s p))) where
        by_place : (x : Alloc) → allocate ((seg_view s).page p) (n + 8) ≡ x → result s (new_target v i bs (taken p x)) ≡ placing
        by_place x e = sym at_page ∙ by_named (Some p) named
          where
            at_page : result s (new_target v i bs (find_on (seg_view s) (n + 8) ex (Some p))) ≡ result s (new_target v i bs (taken p x))
            at_page = rw (ok, away, e)

        pub place_no_room : place_of (allocate ((seg_view s).page p) (n + 8)) ≡ None → outcome (Err Stale) t v ≡ placing
        unfolding result
        place_no_room e =
            let x = got_none (allocate ((seg_view s).page p) (n + 8)) e in
            ap (λ (l : List ℕ). outcome (Err Stale) l v) (no_room_same s p (named_fits s v n p named) t (n + 8) x (to_be 8 i ++ bs) et) ∙ by_place no_room x

        pub place_taken : (k o : ℕ) → place_of (allocate ((seg_view s).page p) (n + 8)) ≡ place_at k o → outcome (Ok (id_of p k)) t v ≡ placing
        unfolding result
        place_taken k o e =
            let x = got_at (allocate ((seg_view s).page p) (n + 8)) k o e in
            let h = et ∙ ap (λ (a : Alloc). put s (p * 16384) (page_after (target_at a (to_be 8 i ++ bs)) (page_of s p))) x.is in
            ap (λ (l : List ℕ). outcome (Ok (id_of p k)) l v) h ∙ by_place (got k x.to) x.is

-- ---- the pages excluded

module _ (i t p : ℕ) where
  pub is_root_lem : p ≡ page_no i → root_or_old i t p ≡ true
  is_root_lem e = rw (eq-eqb p (page_no i) e)

  pub is_old : p ≡ page_no t → root_or_old i t p ≡ true
  is_old e = go (eqb p (page_no i)) (eqb p (page_no t)) (eq-eqb p (page_no t) e)
    where
      go : (a b : Bool) → b ≡ true → (a || b) ≡ true
      go true b h = refl
      go false b h = h

  pub is_other : p ≢ page_no i → p ≢ page_no t → root_or_old i t p ≡ false
  is_other a b = rw (ne_eqb p (page_no i) a, ne_eqb p (page_no t) b)

-- the first forwarding has no old target
pub root_alone : (i : ℕ) → root_or_old i i ≡ (λ p. eqb p (page_no i))
root_alone i = λ z p. once (eqb p (page_no i)) z
  where
    once : (b : Bool) → (b || b) ≡ b
    once true = refl
    once false = refl
