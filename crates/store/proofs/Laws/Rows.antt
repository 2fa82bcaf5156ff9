-- From a sound segment: what a read gives after a call that is carried out, by the answer's id and by every other root.
use Rattle.std.specs.Prelude.{ℕ, ◌/◌, ◌<◌, ◌≡◌, refl, List, ◌≢◌, length}
use Rattle.std.proofs.Common.{sym, ap, ◌∙◌, subst}
use Rattle.store.specs.PageSteps.{plan}
use Rattle.store.specs.Numbers.{page_no}
use Rattle.store.proofs.Laws.Roots.{root_entry}
use Rattle.store.proofs.Laws.Slots.{tag}
use Rattle.store.specs.Segment.{SegView, seg_view, Out, Result, result, carried, step, Read, read_by, read_plan, read_step}
use Rattle.store.proofs.Laws.SoundPage.{sound_test}
use Rattle.store.proofs.Laws.Segments.{AllExact, settled}
use Rattle.store.proofs.Laws.Plans.{Exacting, plan_of, called_plan, call_exacting}
use Rattle.store.specs.Calls.{Call, called}
use Rattle.store.specs.SoundSegment.{slot_on, bytes_on, Root, Rooted, SoundSegment}
use Rattle.store.proofs.Laws.Pairs.{tag_on, look, tag_root, look_root, row_root}
use Rattle.store.proofs.Laws.Stays.{Stays, points_back_lem}
use Rattle.store.proofs.Laws.SoundSegment.{seen_sound, seen_pages, sized, stays_right, after_seen, page_count, Staying, row_of, call_staying}
use Rattle.store.specs.declared.Slot.{Slot}
use Rattle.store.specs.declared.Slot.TheVariants.{Ordinary, Free, Redirect, Target}

-- ---- a read of a sound segment

module _ (s v : List ℕ) (h : SoundSegment s v) where
  -- by its slot
  pub read_by_lem : (i : ℕ) → page_no i < (seg_view s).pages → read_step s i ≡ read_by (seg_view s) i (slot_on (seg_view s) i)
  unfolding read_step read_plan
  read_by_lem i l = rw (h.whole, root_entry (seg_view s) i l (sound_test ((seg_view s).page (page_no i)) ((seen_sound s v h).sounds (page_no i))))

  -- a redirect leads to its target
  pub by_look : (i : ℕ) → page_no i < (seg_view s).pages → read_by (seg_view s) i (slot_on (seg_view s) i) ≡ look (bytes_on (seg_view s)) i
      (tag_on (seg_view s) i)
  by_look i l = go (slot_on (seg_view s) i) refl
    where
      go : (x : Slot) → slot_on (seg_view s) i ≡ x → read_by (seg_view s) i x ≡ look (bytes_on (seg_view s)) i (tag x)
      go (Ordinary o k) q = refl
      go Free q = refl
      go (Redirect t) q =
          rw (points_back_lem (seg_view s) v (seen_sound s v h) i t l q)
      go (Target o k) q = refl

  pub read_look : (i : ℕ) → page_no i < length s / 16384 → read_step s i ≡ look (bytes_on (seg_view s)) i (tag_on (seg_view s) i)
  read_look i l = let m : page_no i < (seg_view s).pages = subst (λ (n : ℕ). page_no i < n) (sym (seen_pages s)) l in read_by_lem i m ∙ by_look i m

-- ---- once over the plan

-- w is what the answer's id reads as; each other root reads as before, its entry but for the offset as it was; and no id is made a root's but
-- the answer's
pub record Rows (s : List ℕ) (w : Read) (r : Result) : Type 0 where
  pub own : r.answer ≡ 0 → read_step r.seg r.id ≡ w
  pub rooted : r.answer ≡ 0 → w.answer ≡ 0 → Rooted r.seg r.id
  pub others : (j : ℕ) → Rooted s j → (r.answer ≡ 0 → j ≢ r.id) → Rooted r.seg j × (read_step r.seg j ≡ read_step s j)
  pub tags : (j : ℕ) → Rooted s j → (r.answer ≡ 0 → j ≢ r.id) → tag_on (seg_view r.seg) j ≡ tag_on (seg_view s) j
  pub made : (j : ℕ) → Rooted r.seg j → (r.answer ≡ 0 → j ≢ r.id) → Rooted s j

module _ (s v : List ℕ) (h : SoundSegment s v) (o : Out) (x : AllExact s o.steps) (w : Read) (k : Stays (seg_view s) v w o) where
  abbrev left : SegView
  left = settled o.steps (seg_view s)

  look_after : (j : ℕ) → page_no j < length s / 16384 → read_step (carried o.steps s) j ≡ look (bytes_on left) j (tag_on left j)
  look_after j l =
      read_look (carried o.steps s) o.inv (stays_right s v h o x w k) j (subst (λ (n : ℕ). page_no j < n) (page_count s v h o x w k) l)
      ∙ ap (λ (u : SegView). look (bytes_on u) j (tag_on u j)) (after_seen s v h o x w k)

  -- a root of what is left
  rooted_after : (j : ℕ) → page_no j < length s / 16384 → Root (tag_on left j) → Rooted (carried o.steps s) j
  rooted_after j l r =
      record {
        below = subst (λ (m : ℕ). page_no j < m) (page_count s v h o x w k) l;
        root = subst (λ (u : SegView). Root (slot_on u j)) (sym (after_seen s v h o x w k)) ((tag_root (slot_on left j)).1 r);
      }

  rows_out : Rows s w (record { answer = o.answer; id = o.id; seg = carried o.steps s; inv = o.inv })
  rows_out =
      record {
        own = λ e. look_after o.id (below e) ∙ k.own e;
        rooted = λ e f. rooted_after o.id (below e)
            (look_root (bytes_on left) o.id (tag_on left o.id) (k.plain e) (ap (λ (r : Read). r.answer) (k.own e) ∙ f));
        others = λ j r n.
            let y = k.others j (seen r.below) n ((tag_root (slot_on (seg_view s) j)).0 r.root) in (
              rooted_after j r.below (subst Root (sym y.0) ((tag_root (slot_on (seg_view s) j)).0 r.root)),
              look_after j r.below ∙ y.1 ∙ sym (read_look s v h j r.below),
            );
        tags = λ j r n.
            ap (λ (u : SegView). tag_on u j) (after_seen s v h o x w k)
            ∙ (k.others j (seen r.below) n ((tag_root (slot_on (seg_view s) j)).0 r.root)).0;
        made = λ j r n.
            let l : page_no j < length s / 16384 = subst (λ (m : ℕ). page_no j < m) (sym (page_count s v h o x w k)) r.below in
            let z : Root (slot_on left j) = subst (λ (u : SegView). Root (slot_on u j)) (after_seen s v h o x w k) r.root in
            let a = (row_root (bytes_on left) j (tag_on left j)).0 ((tag_root (slot_on left j)).0 z) in
            let b = (row_root (bytes_on (seg_view s)) j (tag_on (seg_view s) j)).1 (ap (λ (d : Read). d.answer) (sym (k.rows j (seen l) n)) ∙ a) in
            record { below = l; root = (tag_root (slot_on (seg_view s) j)).1 b };
      }
    where
      below : o.answer ≡ 0 → page_no o.id < length s / 16384
      below e = subst (λ (n : ℕ). page_no o.id < n) (seen_pages s) (k.below e)

      seen : {j : ℕ} → j < length s / 16384 → j < (seg_view s).pages
      seen {j} l = subst (λ (m : ℕ). j < m) (sym (seen_pages s)) l

plan_rows : (plan : SegView → Out) (w : SegView → Read) (s v : List ℕ) → Exacting plan → Staying plan w v → SoundSegment s v
    → Rows s (w (seg_view s)) (step s v (plan (seg_view s)))
unfolding result
plan_rows plan w s v x k h =
    let z = sized s h.whole in
    rw (h.whole, h.page) (rows_out s v h (plan (seg_view s)) (x s z.few) (w (seg_view s)) (k s (seen_sound s v h)))

pub call_rows : (c : Call) (s v : List ℕ) → SoundSegment s v → Rows s (row_of c (seg_view s)) (called c s v)
call_rows c s v h =
    subst (Rows s (row_of c (seg_view s))) (sym (called_plan c s v)) (plan_rows (plan_of c v) (row_of c) s v (call_exacting c v) (call_staying c v) h)
