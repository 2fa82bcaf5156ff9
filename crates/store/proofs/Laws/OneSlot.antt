-- One slot's entry and record are replaced: the law that relocate, erase for a redirect, a new target and a write share.
use Rattle.std.specs.Prelude.{ℕ, ◌+◌, ◌-◌, ◌*◌, ◌^◌, ◌≤◌, ◌<◌, ◌≡◌, true, false, cond, ◌≢◌, length, eqb}
use Rattle.std.proofs.Math.Path.{refl}
use Rattle.std.proofs.Common.{sym, ap, ◌∙◌, inl, arith, le-ltb, lt-ltb}
use mathlib.Core.List.{List, [], ◌∷◌}
use Rattle.std.proofs.Math.Decide.{dec_lt}
use Rattle.store.specs.Numbers.{upd, sum}
use Rattle.store.specs.Slots.{off, len, is_free, is_target, is_record, placed}
use Rattle.store.specs.Page.{View, view}
use Rattle.store.specs.PageSteps.{with_slot, with_head, commit, Plan, run, make_room, gap, is_new, cost, compactify, allocated, room_for, allocating}
use Rattle.store.specs.PageSteps.{redirected, parked, erase_for_redirect, moved_under, move_under, plan}
use Rattle.store.proofs.Laws.Cases.{by_test}
use Rattle.store.specs.Laws.Slots.{Codable}
use Rattle.store.specs.Laws.Edits.{Apart}
use Rattle.store.proofs.Laws.Edits.{Shows, shows_view}
use Rattle.store.specs.Laws.Views.{Sound}
use Rattle.store.proofs.Laws.Views.{upd_elim, upd_other, upd_same, upd_apart, upd_lens, sum_swap, start_up, start_end, start_low}
use Rattle.store.proofs.Laws.Exact.{Right, Exact, exact_commit, exact_then, exact_right, right_stay, place_exact}
use Rattle.store.proofs.Laws.Compactify.{Kept, compact_exact, compact_keeps, compact_gap, placed_is}
use Rattle.store.specs.declared.Slot.{Slot}
use Rattle.store.specs.declared.Slot.TheVariants.{Free, Redirect}

-- what must hold of the new entry x of slot k, with data start d and free space r
pub record Suits (v : View) (k : ℕ) (x : Slot) (d r : ℕ) : Type 0 where
  pub inside : k < v.slot_count
  pub was : is_free (v.at k) ≡ false
  pub is : is_free x ≡ false
  pub codable : Codable x
  pub target : is_target x ≡ true → 8 ≤ len x
  pub apart : (j : ℕ) → j ≢ k → Apart x (v.at j)
  pub high : off x + len x ≤ 16384
  pub dir : 12 + 8 * v.slot_count ≤ d
  pub top : d ≤ 16384
  pub others : (j : ℕ) → j ≢ k → 0 < len (v.at j) → d ≤ off (v.at j)
  pub own : 0 < len x → d ≤ off x
  pub free_space : r + len x ≡ v.free_space + len (v.at k)

module _ (v : View) (s : Sound v) (k : ℕ) (x : Slot) (d r : ℕ) (h : Suits v k x d r) (bs : List ℕ) (l : length bs ≡ len x) where
  pub slot_sound : Sound (with_slot (with_head v v.slot_count v.first_free d r) k x bs)
  slot_sound =
      record {
        few = s.few;
        first≤ = s.first≤;
        first_is_free = upd_other v.at k x v.first_free first_not ∙ s.first_is_free;
        lower = upd_elim v.at k x (λ j z. j < v.first_free → is_free z ≡ false) (λ q. h.is) (λ j n. s.lower j);
        dir = h.dir;
        start≤ = h.top;
        low = upd_elim v.at k x (λ j z. 0 < len z → d ≤ off z) h.own h.others;
        high = upd_elim v.at k x (λ j z. off z + len z ≤ 16384) h.high (λ j n. s.high j);
        apart = upd_apart v.at k x h.apart s.apart;
        targets = upd_elim v.at k x (λ j z. is_target z ≡ true → 8 ≤ len z) h.target (λ j n. s.targets j);
        sums = omega (arith, sums_move, s.sums, h.free_space);
        codable = upd_elim v.at k x (λ j z. Codable z) h.codable (λ j n. s.codable j);
        past = upd_elim v.at k x (λ j z. v.slot_count ≤ j → z ≡ Free) (λ q. absurd (omega (arith, h.inside))) (λ j n. s.past j);
        lens = upd_lens v.at v.bytes k x bs l s.lens;
        in_use = inl (omega (arith, h.inside));
      }
    where
      first_not : v.first_free ≢ k
      first_not e =
          let a : is_free (v.at k) ≡ true = ap (λ (j : ℕ). is_free (v.at j)) (sym e) ∙ ap is_free s.first_is_free in
          let b = h.was in
          let z : ◌≡◌ {A = ℕ} 0 1 = cc in omega arith

      sums_move : sum v.slot_count (λ j. len (upd v.at k x j)) + len (v.at k) ≡ sum v.slot_count (λ j. len (v.at j)) + len x
      sums_move =
          let a = sum_swap v.slot_count (λ j. len (upd v.at k x j)) (λ j. len (v.at j)) k h.inside (λ j n. ap len (upd_other v.at k x j n)) in
          let b : len (upd v.at k x k) ≡ len x = ap len (upd_same v.at k x) in
          omega arith

  pub slot_exact : (p : List ℕ) → Shows p v
      → Exact p (plan (commit k (with_slot (with_head v v.slot_count v.first_free d r) k x bs) ∷ [])
      (with_slot (with_head v v.slot_count v.first_free d r) k x bs))
  slot_exact p shows =
      let t = slot_sound in
      exact_commit p v k (with_slot (with_head v v.slot_count v.first_free d r) k x bs) shows t
      (λ j q. omega (arith, t.low j q, t.dir, h.inside))
      (record { at = upd_other v.at k x; bytes = upd_other v.bytes k bs; below = λ j n q. q })

-- ---- a slot becomes a redirect: for good, or while its record has no place

redirect_suits : (v : View) (k id d : ℕ) → k < v.slot_count → is_free (v.at k) ≡ false → id < 2 ^ 62 → 12 + 8 * v.slot_count ≤ d → d ≤ 16384
    → ((j : ℕ) → j ≢ k → 0 < len (v.at j) → d ≤ off (v.at j)) → Suits v k (Redirect id) d (v.free_space + len (v.at k))
redirect_suits v k id d inside was small dir top others =
    record {
      inside = inside;
      was = was;
      is = refl;
      codable = small;
      target = λ e. let z : ◌≡◌ {A = ℕ} 0 1 = cc in omega arith;
      apart = λ j n a. absurd (omega arith);
      high = omega arith;
      dir = dir;
      top = top;
      others = others;
      own = λ a. absurd (omega arith);
      free_space = omega arith;
    }

pub park_suits : (v : View) → Sound v → (k : ℕ) → k < v.slot_count → is_free (v.at k) ≡ false
    → Suits v k (Redirect 0) (parked v k).data_start (parked v k).free_space
park_suits v s k inside was = redirect_suits v k 0 v.data_start inside was (omega arith) s.dir s.start≤ (λ j q a. s.low j a)

module _ (v : View) (s : Sound v) (k : ℕ) (inside : k < v.slot_count) (was : is_free (v.at k) ≡ false) (id : ℕ) (small : id < 2 ^ 62) where
  pub redirect_exact : (p : List ℕ) → Shows p v → Exact p (erase_for_redirect v k id)
  unfolding erase_for_redirect
  redirect_exact p shows = slot_exact v s k (Redirect id) (redirected v k id).data_start (redirected v k id).free_space
      (redirect_suits v k id (redirected v k id).data_start inside was small (omega (arith, s.dir, start_up v s k inside was))
      (start_end v s k inside was) (start_low v s k inside was)) [] refl p shows

-- ---- room is made, if it has to be

pub record MakesRoom (p : List ℕ) (v : View) (need : ℕ) (a : Plan) : Type 0 where
  pub right : Right p a
  pub kept : Kept v a.after
  pub gap : need ≤ gap a.after

pub made_roomy : (p : List ℕ) (v : View) (need : ℕ) → Shows p v → (gap v < need → view p ≡ v) → Sound v → need ≤ v.free_space
    → MakesRoom p v need (make_room v need)
made_roomy p v need shows full s r = go (dec_lt (gap v) need)
  where
    go : Dec (gap v < need) → MakesRoom p v need (make_room v need)
    go (yes l) =
        rw (lt-ltb (gap v) need l)
        (record {
          right = exact_right p (compactify v) shows.whole (compact_exact p v shows.whole (full l) s);
          kept = compact_keeps v s;
          gap = omega (arith, compact_gap v s);
        })
    go (no l) =
        let g : need ≤ gap v = omega arith in
        rw (le-ltb (gap v) need g)
        (record {
          right = right_stay p v shows s;
          kept = record {
            slot_count = refl;
            first_free = refl;
            free_space = refl;
            bytes = λ j. refl;
            lens = λ j. refl;
            kinds = λ j. refl;
            tags = λ j. refl;
          };
          gap = g;
        })

-- ---- allocate

pub cost_most : (v : View) (n : ℕ) → (cost v n ≤ n + 8) × (n ≤ cost v n)
cost_most v n = by_test (λ c. (c ≤ n + 8) × (n ≤ c)) (is_new v) (n + 8) n (λ e. (omega arith, omega arith)) (λ e. (omega arith, omega arith))

pub same_cost : (v w : View) (n : ℕ) → Kept v w → cost w n ≡ cost v n
same_cost v w n k = λ i. cond (eqb (k.first_free i) (k.slot_count i)) (n + 8) n

-- the room that is made holds the record and its slot
module _ (p : List ℕ) (v : View) (n : ℕ) (shows : Shows p v) (full : gap v < cost v n → view p ≡ v) (s : Sound v) (r : cost v n ≤ v.free_space) where
  pub roomed : MakesRoom p v (cost (room_for v n).after n) (room_for v n)
  roomed =
      let most = cost_most v n in
      let m : MakesRoom p v _ (room_for v n) = made_roomy p v _ shows (λ l. full (omega arith)) s (omega arith) in
      record { right = m.right; kept = m.kept; gap = omega (arith, same_cost v (room_for v n).after n m.kept, m.gap) }

  pub alloc_exact : Exact p (allocating v n)
  alloc_exact =
      let w : View = (room_for v n).after in
      exact_then p (room_for v n) (λ u. plan (commit u.first_free (allocated u n) ∷ []) (allocated u n))
      (place_exact (run (room_for v n).edits p) w roomed.right.shown roomed.right.sound n
      (omega (arith, roomed.kept.free_space, same_cost v w n roomed.kept)) roomed.gap)

-- ---- a record moved under data start, into a slot that holds none

module _ (v : View) (s : Sound v) (k : ℕ) (inside : k < v.slot_count) (was : is_free (v.at k) ≡ false) (none : len (v.at k) ≡ 0)
    (k0 : Slot) (kind : is_record k0 ≡ true) (n : ℕ) (target : is_target k0 ≡ true → 8 ≤ n) (room : n ≤ v.free_space) (fits : n ≤ gap v) where
  drop_suits : Suits v k (placed k0 (v.data_start - n) n) (moved_under v k k0 n []).data_start (moved_under v k k0 n []).free_space
  drop_suits =
      let i = placed_is k0 (v.data_start - n) n kind in
      let le : n ≤ v.data_start = omega arith in
      record {
        inside = inside;
        was = was;
        is = i.free;
        codable = i.codable (omega (arith, s.start≤)) (omega (arith, s.start≤));
        target = λ e. rw i.len (target (sym i.target ∙ e));
        apart = λ j q a b. rw (i.off, i.len) (inl (omega (arith, s.low j b)));
        high = rw (i.off, i.len) (omega (arith, s.start≤));
        dir = omega (arith, s.dir);
        top = omega (arith, s.start≤);
        others = λ j q a. omega (arith, s.low j a);
        own = λ a. rw i.off (omega arith);
        free_space = rw i.len (omega arith);
      }

-- what the move needs of the view before room is made
module _ (p : List ℕ) (v : View) (whole : length p ≡ 16384) (seen : view p ≡ v) (s : Sound v) (k : ℕ) (inside : k < v.slot_count)
    (was : is_free (v.at k) ≡ false)
    (none : len (v.at k) ≡ 0) (k0 : Slot) (kind : is_record k0 ≡ true) (n : ℕ) (target : is_target k0 ≡ true
    → 8 ≤ n) (room : n ≤ v.free_space) (bs : List ℕ) (size : length bs ≡ n) where
  pub under_exact : Exact p (move_under v k k0 n bs)
  under_exact =
      let m = made_roomy p v n (shows_view p v whole seen) (λ l. seen) s room in
      let w : View = (make_room v n).after in
      let i = placed_is k0 (w.data_start - n) n kind in
      exact_then p (make_room v n) (λ u. plan (commit k (moved_under u k k0 n bs) ∷ []) (moved_under u k k0 n bs))
      (slot_exact w m.right.sound k (placed k0 (w.data_start - n) n) (moved_under w k k0 n bs).data_start (moved_under w k k0 n bs).free_space
      (drop_suits w m.right.sound k (omega (arith, m.kept.slot_count)) (m.kept.kinds k ∙ was) (m.kept.lens k ∙ none) k0 kind n target
      (omega (arith, m.kept.free_space)) m.gap)
      bs (size ∙ sym i.len) (run (make_room v n).edits p) m.right.shown)
