-- Each page step leaves what its plan says is seen, and a sound page.
use Rattle.std.specs.Prelude.{ℕ, ◌+◌, ◌-◌, ◌*◌, ◌≤◌, ◌<◌, ◌≡◌, refl, false, List, [], ◌∷◌, ◌++◌, length}
use Rattle.std.proofs.Common.{ap, ◌∙◌}
use native.Mathlib.Omega.{arith}
use Rattle.store.specs.Numbers.{zeros}
use Rattle.store.specs.Slots.{off, len, is_free, slot_bytes}
use Rattle.store.specs.Page.{View, view}
use Rattle.store.specs.PageSteps.{Edit, head, move, commit, fill, apply, run, put_head, put_slot, head_bytes, Plan, stay, and_then, gap, cost}
use Rattle.store.specs.PageSteps.{erased, allocated, plan, erase}
use Rattle.store.proofs.Laws.Numbers.{length_put}
use Rattle.store.proofs.Laws.Edits.{Clear, Only, Shows, shows_view, commit_view}
use Rattle.store.specs.Laws.Views.{Sound}
use Rattle.store.proofs.Laws.Views.{sound_fits, upd_elim, upd_other, erase_sound, alloc_sound, numbers}
use Rattle.store.specs.declared.Slot.TheVariants.{Ordinary, Free}

pub length_apply : (e : Edit) (p : List ℕ) → length (apply e p) ≡ length p
unfolding apply
length_apply (head v) p = length_put p 0 (head_bytes v)
length_apply (move k v) p = length_put (put_slot k v p) (off (v.at k)) (v.bytes k) ∙ length_put p (12 + 8 * k) (slot_bytes (v.at k))
length_apply (commit k v) p =
    length_put (put_slot k v (put_head v p)) (off (v.at k)) (v.bytes k)
    ∙ length_put (put_head v p) (12 + 8 * k) (slot_bytes (v.at k)) ∙ length_put p 0 (head_bytes v)
length_apply (fill k v) p = length_put p (off (v.at k)) (v.bytes k)

pub length_run : (es : List Edit) (p : List ℕ) → length (run es p) ≡ length p
length_run [] p = refl
length_run (e ∷ es) p = length_run es (apply e p) ∙ length_apply e p

pub run_append : (es fs : List Edit) (p : List ℕ) → run (es ++ fs) p ≡ run fs (run es p)
run_append [] fs p = refl
run_append (e ∷ es) fs p = run_append es fs (apply e p)

-- the plan's edits, written on p, leave a page that shows what the plan says, and that is sound
pub record Right (p : List ℕ) (a : Plan) : Type 0 where
  pub shown : Shows (run a.edits p) a.after
  pub sound : Sound a.after

pub right_stay : (p : List ℕ) (v : View) → Shows p v → Sound v → Right p (stay v)
right_stay p v h s = record { shown = h; sound = s }

-- the same, where all that is seen is what the plan says
pub record Exact (p : List ℕ) (a : Plan) : Type 0 where
  pub seen : view (run a.edits p) ≡ a.after
  pub sound : Sound a.after

pub exact_right : (p : List ℕ) (a : Plan) → length p ≡ 16384 → Exact p a → Right p a
exact_right p a h e = record { shown = shows_view (run a.edits p) a.after (length_run a.edits p ∙ h) e.seen; sound = e.sound }

pub exact_then : (p : List ℕ) (a : Plan) (f : View → Plan) → Exact (run a.edits p) (f a.after) → Exact p (and_then a f)
exact_then p a f g = record { seen = ap view (run_append a.edits (f a.after).edits p) ∙ g.seen; sound = g.sound }

-- one commit of a sound view
pub exact_commit : (p : List ℕ) (u : View) (k : ℕ) (v : View) → Shows p u → Sound v → Clear k v → Only u k v → Exact p (plan (commit k v ∷ []) (v))
exact_commit p u k v h s c o = record { seen = commit_view p u k v h (sound_fits v s) c o; sound = s }

-- ---- erase

module _ (p : List ℕ) (u : View) (shows : Shows p u) (s : Sound u) (k : ℕ) (inside : k < u.slot_count) (taken : is_free (u.at k) ≡ false) where
  pub erase_exact : Exact p (erase u k)
  unfolding erase
  erase_exact =
      exact_commit p u k (erased u k) shows (erase_sound u s k inside taken)
      (upd_elim u.at k Free (λ j x. 0 < len x → 12 + 8 * k + 8 ≤ off x) (λ h. absurd (omega arith)) (λ j n h. omega (arith, s.low j h, s.dir)))
      (record { at = upd_other u.at k Free; bytes = upd_other u.bytes k []; below = λ j n h. omega arith })

-- ---- allocate, where nothing has to move

module _ (p : List ℕ) (u : View) (shows : Shows p u) (s : Sound u) (n : ℕ) (room : cost u n ≤ u.free_space) (fit : cost u n ≤ gap u) where
  pub place_exact : Exact p (plan (commit u.first_free (allocated u n) ∷ []) (allocated u n))
  place_exact =
      let m = numbers u s n room fit in
      let t = alloc_sound u s n room fit in
      exact_commit p u u.first_free (allocated u n) shows t
      (λ j h. omega (arith, t.low j h, t.dir, m.inside))
      (record {
        at = upd_other u.at u.first_free (Ordinary (u.data_start - n) n);
        bytes = upd_other u.bytes u.first_free (zeros n);
        below = m.others;
      })
