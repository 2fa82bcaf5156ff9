-- Relocate, and a write in place.
use Rattle.std.specs.Prelude.{ℕ, ◌+◌, ◌-◌, ◌≤◌, ◌<◌, ◌≡◌, true, false, cond, List, [], ◌∷◌, ◌⊎◌, length, take, ltb}
use Rattle.std.proofs.Math.Path.{refl}
use Rattle.std.proofs.Common.{sym, ap, ◌∙◌, inl, inr, arith, length-take, le-ltb, lt-ltb, eq-eqb, ne_eqb}
use Rattle.std.proofs.Math.Decide.{ℕ_discrete, dec_lt}
use Rattle.std.proofs.lemmas.List.{length-replicate}
use Rattle.store.specs.Numbers.{zeros, fit}
use Rattle.store.specs.Slots.{off, len, is_free, is_target, is_record, placed}
use Rattle.store.specs.Page.{View, view}
use Rattle.store.specs.PageSteps.{with_slot, commit, fill, move, Plan, and_then, run, make_room, parked, move_under, shrunk, resized, relocate_by}
use Rattle.store.specs.PageSteps.{relocate, Relocated, refused, moved, filled, plan}
use Rattle.store.proofs.Laws.Fit.{length_fit}
use Rattle.store.specs.Laws.Slots.{Codable}
use Rattle.store.proofs.Laws.Edits.{Only, shows_view, under_view, fill_view, move_view, entry_of}
use Rattle.store.specs.Laws.Views.{Sound}
use Rattle.store.proofs.Laws.Views.{sound_fits, upd_same, upd_other}
use Rattle.store.proofs.Laws.Exact.{Exact, exact_then, length_run}
use Rattle.store.proofs.Laws.Compactify.{placed_is}
use Rattle.store.proofs.Laws.OneSlot.{Suits, park_suits, slot_sound, slot_exact, under_exact, made_roomy}
use Rattle.store.specs.declared.Slot.{Slot}
use Rattle.store.specs.declared.Slot.TheVariants.{Ordinary, Free, Redirect, Target}

-- what a relocate that is carried out leaves
pub record Moved (p : List ℕ) (v : View) (k n : ℕ) (a : Plan) : Type 0 where
  pub exact : Exact p a
  pub size : len (a.after.at k) ≡ n
  pub inside : k < a.after.slot_count
  pub free : is_free (a.after.at k) ≡ false

abbrev pub Answered : List ℕ → View → ℕ → ℕ → Relocated → Type 0
Answered p v k n refused = Unit {0}
Answered p v k n (moved a) = Moved p v k n a

module _ (p : List ℕ) (v : View) (whole : length p ≡ 16384) (seen : view p ≡ v) (s : Sound v) (k : ℕ) (inside : k < v.slot_count) where
  -- smaller: the length only
  module _ (n : ℕ) (kind : is_record (v.at k) ≡ true) (free : is_free (v.at k) ≡ false) (less : n < len (v.at k)) (target : is_target (v.at k) ≡ true
      → 8 ≤ n) where
    shrink_suits : Suits v k (placed (v.at k) (off (v.at k)) n) (shrunk v k n).data_start (shrunk v k n).free_space
    shrink_suits =
        let i = placed_is (v.at k) (off (v.at k)) n kind in
        record {
          inside = inside;
          was = free;
          is = i.free;
          codable = i.codable (omega (arith, s.high k)) (omega (arith, s.high k));
          target = λ e. rw i.len (target (sym i.target ∙ e));
          apart = λ j q a b. rw (i.off, i.len) (side j (s.apart k j (λ e. q (sym e)) (omega arith) b));
          high = rw (i.off, i.len) (omega (arith, s.high k));
          dir = s.dir;
          top = s.start≤;
          others = λ j q a. s.low j a;
          own = λ a. rw i.off (s.low k (omega arith));
          free_space = rw i.len (omega arith);
        }
      where
        side : (j : ℕ) → (off (v.at k) + len (v.at k) ≤ off (v.at j)) ⊎ (off (v.at j) + len (v.at j) ≤ off (v.at k))
            → (off (v.at k) + n ≤ off (v.at j)) ⊎ (off (v.at j) + len (v.at j) ≤ off (v.at k))
        side j (inl a) = inl (omega arith)
        side j (inr b) = inr b

    shrink_moved : Moved p v k n (plan (commit k (shrunk v k n) ∷ []) (shrunk v k n))
    shrink_moved =
        let i = placed_is (v.at k) (off (v.at k)) n kind in
        let e : length (take n (v.bytes k)) ≡ n = length-take n (v.bytes k) ∙ omega (arith, s.lens k) in
        record {
          exact = slot_exact v s k (placed (v.at k) (off (v.at k)) n) (shrunk v k n).data_start (shrunk v k n).free_space shrink_suits
              (take n (v.bytes k)) (e ∙ sym i.len) p (shows_view p v whole seen);
          size = ap len (upd_same v.at k (placed (v.at k) (off (v.at k)) n)) ∙ i.len;
          inside = inside;
          free = ap is_free (upd_same v.at k (placed (v.at k) (off (v.at k)) n)) ∙ i.free;
        }

  -- parked: the page that room is made on
  module _ (free : is_free (v.at k) ≡ false) where
    pub park_exact : Exact p (plan (commit k (parked v k) ∷ []) (parked v k))
    park_exact = slot_exact v s k (Redirect 0) (parked v k).data_start (parked v k).free_space (park_suits v s k inside free) [] refl p
        (shows_view p v whole seen)

  -- larger: parked, and put under data start
  module _ (n : ℕ) (kind : is_record (v.at k) ≡ true) (free : is_free (v.at k) ≡ false) (more : len (v.at k) < n)
      (room : n - len (v.at k) ≤ v.free_space) where
    grow_moved : Moved p v k n (and_then (plan (commit k (parked v k) ∷ []) (parked v k)) (λ w. move_under w k (v.at k) n (fit n (v.bytes k))))
    grow_moved =
        let x = park_exact free in
        let q : List ℕ = run (commit k (parked v k) ∷ []) p in
        let e : (parked v k).at k ≡ Redirect 0 = upd_same v.at k (Redirect 0) in
        record {
          exact =
              exact_then p (plan (commit k (parked v k) ∷ []) (parked v k)) (λ w. move_under w k (v.at k) n (fit n (v.bytes k)))
              (under_exact q (parked v k) (length_run (commit k (parked v k) ∷ []) p ∙ whole) x.seen x.sound k inside (ap is_free e) (ap len e)
              (v.at k) kind n
              (λ t. omega (arith, s.targets k t)) (omega arith) (fit n (v.bytes k)) (length_fit n (v.bytes k)));
          size = let w : View = (make_room (parked v k) n).after in
              ap len (upd_same w.at k (placed (v.at k) (w.data_start - n) n)) ∙ (placed_is (v.at k) (w.data_start - n) n kind).len;
          inside = omega (
            arith,
            (made_roomy q (parked v k) n (shows_view q (parked v k) (length_run (commit k (parked v k) ∷ []) p ∙ whole) x.seen)
                (λ l. x.seen) x.sound (omega arith)).kept.slot_count,
          );
          free = let w : View = (make_room (parked v k) n).after in
              ap is_free (upd_same w.at k (placed (v.at k) (w.data_start - n) n)) ∙ (placed_is (v.at k) (w.data_start - n) n kind).free;
        }

  resized_answer : (n : ℕ) → is_record (v.at k) ≡ true → is_free (v.at k) ≡ false → (is_target (v.at k) ≡ true → 8 ≤ n) → Answered p v k n (resized v k n)
  resized_answer n kind free target = go (ℕ_discrete n (len (v.at k))) (dec_lt n (len (v.at k))) (dec_lt v.free_space (n - len (v.at k)))
    where
      go : Dec (n ≡ len (v.at k)) → Dec (n < len (v.at k)) → Dec (v.free_space < n - len (v.at k)) → Answered p v k n (resized v k n)
      go (yes e) a b = rw (eq-eqb n (len (v.at k)) e) (record { exact = record { seen = seen; sound = s }; size = sym e; inside = inside; free = free })
      go (no e) (yes a) b = rw (ne_eqb n (len (v.at k)) e, lt-ltb n (len (v.at k)) a) (shrink_moved n kind free a target)
      go (no e) (no a) (yes b) =
          let c : len (v.at k) ≤ n = omega arith in
          rw (ne_eqb n (len (v.at k)) e, le-ltb n (len (v.at k)) c, lt-ltb v.free_space (n - len (v.at k)) b) tt
      go (no e) (no a) (no b) =
          let c : len (v.at k) ≤ n = omega arith in
          let d : n - len (v.at k) ≤ v.free_space = omega arith in
          rw (ne_eqb n (len (v.at k)) e, le-ltb n (len (v.at k)) c, le-ltb v.free_space (n - len (v.at k)) d) (grow_moved n kind free (omega arith) d)

  -- from a redirect
  home_answer : (n i : ℕ) → v.at k ≡ Redirect i → Answered p v k n (cond (ltb v.free_space n) refused (moved (move_under v k (Ordinary 0 0) n (zeros n))))
  home_answer n i e = go (dec_lt v.free_space n)
    where
      go : Dec (v.free_space < n) → Answered p v k n (cond (ltb v.free_space n) refused (moved (move_under v k (Ordinary 0 0) n (zeros n))))
      go (yes b) = rw (lt-ltb v.free_space n b) tt
      go (no b) =
          let d : n ≤ v.free_space = omega arith in
          let w : View = (make_room v n).after in
          rw (le-ltb v.free_space n d)
          (record {
            exact = under_exact p v whole seen s k inside (ap is_free e) (ap len e) (Ordinary 0 0) refl n (λ t. let z : ◌≡◌ {A = ℕ} 0 1 = cc in
                omega arith) d (zeros n) (length-replicate n 0);
            size = ap len (upd_same w.at k (Ordinary (w.data_start - n) n));
            inside = omega (arith, (made_roomy p v n (shows_view p v whole seen) (λ l. seen) s d).kept.slot_count);
            free = ap is_free (upd_same w.at k (Ordinary (w.data_start - n) n));
          })

  pub relocate_answer : (n : ℕ) → (is_target (v.at k) ≡ true → 8 ≤ n) → Answered p v k n (relocate v k n)
  unfolding relocate
  relocate_answer n target = go (v.at k) refl
    where
      go : (x : Slot) → v.at k ≡ x → Answered p v k n (relocate_by x v k n)
      go (Ordinary o l) e = resized_answer n (ap is_record e) (ap is_free e) target
      go Free e = tt
      go (Redirect i) e = home_answer n i e
      go (Target o l) e = resized_answer n (ap is_record e) (ap is_free e) target

-- ---- a record's bytes written where it stands

module _ (p : List ℕ) (a : Plan) (whole : length p ≡ 16384) (x : Exact p a) (k : ℕ) (inside : k < a.after.slot_count)
    (free : is_free (a.after.at k) ≡ false) where
  keep_suits : Suits a.after k (a.after.at k) a.after.data_start a.after.free_space
  keep_suits =
      let s = x.sound in
      record {
        inside = inside;
        was = free;
        is = free;
        codable = s.codable k;
        target = s.targets k;
        apart = λ j n. s.apart k j (λ e. n (sym e));
        high = s.high k;
        dir = s.dir;
        top = s.start≤;
        others = λ j n. s.low j;
        own = s.low k;
        free_space = refl;
      }

  pub fill_exact : (bs : List ℕ) → length bs ≡ len (a.after.at k) → Exact p (filled a k bs)
  fill_exact bs size =
      let v = a.after in
      let w : View = with_slot v k (v.at k) bs in
      let q : List ℕ = run a.edits p in
      let long : length q ≡ 16384 = length_run a.edits p ∙ whole in
      let t = slot_sound v x.sound k (v.at k) v.data_start v.free_space keep_suits bs size in
      let only : Only v k w = record { at = upd_other v.at k (v.at k); bytes = upd_other v.bytes k bs; below = λ j n h. h } in
      let shows = shows_view q v long x.seen in
      let none : Only v v.slot_count v = record { at = λ j n. refl; bytes = λ j n. refl; below = λ j n h. h } in
      exact_then p a (λ u. plan (fill k (with_slot u k (u.at k) bs) ∷ []) (with_slot u k (u.at k) bs))
      (record {
        seen = fill_view q k w (sound_fits w t) (under_view q v k w long x.seen only refl refl refl refl)
            (λ h. entry_of q v v.slot_count v shows none k (omega arith) h ∙ sym (upd_same v.at k (v.at k)));
        sound = t;
      })

  -- its entry and bytes replaced, at the same place
  module _ (y : Slot) (place : off y ≡ off (a.after.at k)) (extent : len y ≡ len (a.after.at k)) (is : is_free y ≡ false) (bits : Codable y)
      (long : is_target y ≡ true → 8 ≤ len y)
      (bs : List ℕ) (size : length bs ≡ len y) where
    retype_suits : Suits a.after k y a.after.data_start a.after.free_space
    retype_suits =
        let s = x.sound in
        record {
          inside = inside;
          was = free;
          is = is;
          codable = bits;
          target = long;
          apart = λ j n. rw (place, extent) (s.apart k j (λ e. n (sym e)));
          high = rw (place, extent) (s.high k);
          dir = s.dir;
          top = s.start≤;
          others = λ j n. s.low j;
          own = rw (place, extent) (s.low k);
          free_space = ap (λ (m : ℕ). a.after.free_space + m) extent;
        }

    pub retype_exact : Exact (run a.edits p) (plan (move k (with_slot a.after k y bs) ∷ []) (with_slot a.after k y bs))
    retype_exact =
        let v = a.after in
        let w : View = with_slot v k y bs in
        let q : List ℕ = run a.edits p in
        let l : length q ≡ 16384 = length_run a.edits p ∙ whole in
        let t = slot_sound v x.sound k y v.data_start v.free_space retype_suits bs size in
        let only : Only v k w = record { at = upd_other v.at k y; bytes = upd_other v.bytes k bs; below = λ j n h. h } in
        record {
          seen = move_view q k w (sound_fits w t) (under_view q v k w l x.seen only refl refl refl refl) (λ j h. omega (arith, t.low j h, t.dir, inside));
          sound = t;
        }
