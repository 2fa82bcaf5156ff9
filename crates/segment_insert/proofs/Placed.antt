-- Insert and allocate: what the code did is what the plan says.
use Prim.Native.Nat.{ℕ, ◌+◌, ◌-◌, ◌*◌, ◌/◌, ◌^◌, ◌≤◌, ◌<◌}
use mathlib.Core.Path.{◌≡◌, refl, sym, ap, subst, ◌∙◌}
use mathlib.Core.Bool.{Bool, true, false, cond, ◌&&◌}
use mathlib.Core.List.{List}
use native.Mathlib.Omega.{arith}
use lib.ListN.{length, length-replicate}
use lib.Dec.{ltb}
use borrow.Author.Tests.{le-ltb, lt-ltb}
use borrow.Rule.Slice.PartMut.{put_mid}
use Rattle.store.specs.Numbers.{put, id_of, zeros}
use Rattle.store.specs.Page.{view, sound}
use Rattle.store.specs.PageSteps.{Plan, filled, Alloc, no_room, got, allocate}
use Rattle.store.specs.Refusals.{DONE, LONG}
use Rattle.store.specs.Inventory.{Room, found_in, update}
use Rattle.store.specs.Segment.{seg_view, page_of, size_ok, inv_ok, Out, OnPage, on, refuse, result, step, find, insert_plan, insert_step}
use Rattle.store.specs.Segment.{allocate_step}
use Rattle.store.specs.Answers.{outcome, given_place, allotted}
use Rattle.store.proofs.Laws.Segments.{length_page}
use Rattle.store.proofs.Laws.Relocate.{fill_exact}
use Rattle.store.specs.Laws.Lent.{Within, SoundOn}
use Rattle.store.proofs.Laws.Calls.{named_within}
use Rattle.store.specs.declared.Place.{Place}
use Rattle.std.proofs.Common.{Option, Some, None, Ok, Err}
use Rattle.std.specs.Option.{ok_or}
use Rattle.store.specs.declared.Refusal.TheVariants.{Size, Long, Damaged, Full, Stale}
use Rattle.slotted_page.specs.Words.{page_after, place_at, place_of, filled_at, Inside, PastEntry}
use Rattle.slotted_page.proofs.FillLaws.{given_is}
use Rattle.segment_steps.specs.Words.{Sizes, allocated_on}
use Rattle.segment_steps.proofs.After.{sizes_room, Took, took_length, left_own, left_room, left_update, GotAt, got_at, got_none, place_made, small_id}
use Rattle.segment_steps.proofs.After.{no_room_same}
use Rattle.segment_steps.proofs.Written.{lent_part}
use Rattle.segment_steps.proofs.Written.{bare_whole, none_written, bytes_written}
use Rattle.segment_insert.specs.Words.{named_on, PageFor}

module _ (s v bs : List ℕ) where
  -- ---- before a page is named: 1, 3 and 7

  pub row_size : (size_ok s && inv_ok v) ≡ false → outcome (Err Size) s v ≡ insert_step s v bs
  unfolding insert_step result
  row_size e = rw e

  module _ (ok : (size_ok s && inv_ok v) ≡ true) where
    pub row_long : 16364 < length bs → outcome (Err Long) s v ≡ insert_step s v bs
    unfolding insert_step insert_plan result
    row_long l = rw (ok, lt-ltb 16364 (length bs) l)

    row_named : length bs ≤ 16364 → (m : Option ℕ) → found_in v (length s / 16384) (length bs + 8) ≡ m → named_on s v bs m ≡ insert_step s v bs
    unfolding insert_step insert_plan find seg_view
    row_named short m e = sym (rw (ok, le-ltb 16364 (length bs) short, e))

  on_none : outcome (Err Full) s v ≡ named_on s v bs None
  unfolding result
  on_none = refl

  -- ---- on the page named: 4, then 8 or done

  module _ (p : ℕ) where
    pub on_damaged : sound ((seg_view s).page p) ≡ false → PageFor s v bs (Ok p) → outcome (Err Damaged) s v ≡ insert_step s v bs
    unfolding result
    on_damaged e h =
        let is : outcome (Err Damaged) s v ≡ named_on s v bs (Some p) = rw e in
        is ∙ h.2

    module _ (h : SoundOn s p) where
      on_stale : (t : List ℕ) → t ≡ s → allocate ((seg_view s).page p) (length bs) ≡ no_room → outcome (Err Stale) t v ≡ named_on s v bs (Some p)
      unfolding result
      on_stale t same none = rw (same, h.sound, none)

      -- the place is slot k, and t is what was left with the bytes there
      module _ (k : ℕ) (a : Plan) (way : allocate ((seg_view s).page p) (length bs) ≡ got k a) (t : List ℕ)
          (et : t ≡ put s (p * 16384) (page_after (filled_at (allocate ((seg_view s).page p) (length bs)) bs) (page_of s p))) where
        pub took_place : Took s (on p (filled a k bs)) t
        took_place =
            let o = place_made s p h (length bs) k a way in
            record {
              exact = record {
                inside = h.whole;
                exact = fill_exact (page_of s p) a (length_page s p h.whole) o.0 k o.1 o.2 bs (sym o.3);
              };
              is = et ∙ ap (λ (x : Alloc). put s (p * 16384) (page_after (filled_at x bs) (page_of s p))) way;
            }

        on_done : (w : List ℕ) → w ≡ update v (length t / 16384) p (view (page_of t p)).free_space
            → outcome (Ok (id_of p k)) t w ≡ named_on s v bs (Some p)
        unfolding result
        on_done w ew =
            let g = on p (filled a k bs) in
            let told = left_update s t p g.plan.after (left_own s g t took_place) (took_length s g t took_place) v w ew in
            rw (h.sound, way) (λ i. record { answer = DONE; id = id_of p k; seg = took_place.is i; inv = told i })

-- ---- what the code does on the page named, whichever row it writes

-- `segment_steps::allocate_on`, asked for n bytes on page p, answered r and left t
abbrev pub Asked : List ℕ → ℕ → ℕ → Option Place → List ℕ → Type 0
Asked s p n r t =
    (t ≡ allocated_on s p (allocate ((seg_view s).page p) n)) × (given_place r ≡ allotted (allocate ((seg_view s).page p) n)) × Inside r n × PastEntry r

-- the bytes stand in their place: the inventory may be told, the id is a number that the code can hold, and the call ends as its plan says
pub record Wrote (s v bs : List ℕ) (p k : ℕ) (t : List ℕ) : Type 0 where
  pub tells : Room v (length t / 16384) × ((Within t p) × ((view (page_of t p)).free_space ≤ 16372))
  pub small : id_of p k < 2 ^ 62
  pub done : (w : List ℕ) → w ≡ update v (length t / 16384) p (view (page_of t p)).free_space
      → outcome (Ok (id_of p k)) t w ≡ named_on s v bs (Some p)

module _ (s v bs : List ℕ) (p : ℕ) (h : SoundOn s p) (r : Option Place) (t : List ℕ) (asked : Asked s p (length bs) r t) where
  place_is : (x : Option Place) → r ≡ x → place_of (allocate ((seg_view s).page p) (length bs)) ≡ x
  place_is x e = sym (given_is r (allocate ((seg_view s).page p) (length bs)) asked.1) ∙ e

  -- there is none: 8
  pub no_place_lem : r ≡ None → outcome (Err Stale) t v ≡ named_on s v bs (Some p)
  no_place_lem e =
      let none = got_none (allocate ((seg_view s).page p) (length bs)) (place_is None e) in
      on_stale s v bs p h t
      (no_room_same s p h.whole t (length bs) none bs (none_written s p h (length bs) t asked.0 (place_is None e) bs).1) none

  module _ (k o : ℕ) (e : r ≡ place_at k o) where
    -- there is one: the bytes have room from its offset on, and `out` is the page with them there
    pub place_inside : o + length bs ≤ length (lent_part s p h (length bs) t asked.0)
    place_inside = omega (arith, subst (λ (x : Option Place). Inside x (length bs)) e asked.2, bare_whole s p h (length bs) t asked.0)

    pub wrote : Sizes s v → (out : List ℕ) → out ≡ put (lent_part s p h (length bs) t asked.0) o bs
        → Wrote s v bs p k (put_mid (p * 16384) ((p + 1) * 16384 - p * 16384) t out)
    wrote z out eo =
        let n : ℕ = length bs in
        let way : GotAt (allocate ((seg_view s).page p) n) k = got_at (allocate ((seg_view s).page p) n) k o (place_is (place_at k o) e) in
        let u : List ℕ = put_mid (p * 16384) ((p + 1) * 16384 - p * 16384) t out in
        let eu = bytes_written s p h n t asked.0 k o (place_is (place_at k o) e) bs refl out eo in
        let g : OnPage = on p (filled way.to k bs) in
        let took : Took s g u = took_place s v bs p h k way.to way.is u eu in
        let l = took_length s g u took in
        record {
          tells = (sizes_room s v u v z l refl, (omega (arith, l, h.whole), left_room u p g.plan.after (left_own s g u took)));
          small = small_id s p h n k way.to way.is z.few;
          done = on_done s v bs p h k way.to way.is u eu;
        }

-- ---- what the inventory answered for a row

pub row_page : (s v bs : List ℕ) → (size_ok s && inv_ok v) ≡ true → length bs ≤ 16364 → (m : Option ℕ)
    → m ≡ found_in v (length s / 16384) (length bs + 8) → PageFor s v bs (ok_or m Full)
row_page s v bs ok short None e = on_none s v bs ∙ row_named s v bs ok short None (sym e)
row_page s v bs ok short (Some p) e = (named_within s v (length bs + 8) p (sym e), short, row_named s v bs ok short (Some p) (sym e))

-- ---- a record of zeros

-- a refusal that is asked for once more
refuse_twice : (b : Bool) (x y : Out) → cond b x (cond b x y) ≡ cond b x y
refuse_twice true x y = refl
refuse_twice false x y = refl

pub allocate_is : (s v : List ℕ) (n : ℕ) → insert_step s v (zeros n) ≡ allocate_step s v n
unfolding insert_step allocate_step insert_plan
allocate_is s v n =
    ap (step s v) (sym (rw (length-replicate {A = ℕ} n 0) (refuse_twice (ltb 16364 n) (refuse v LONG) _)))
