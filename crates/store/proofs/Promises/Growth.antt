-- How a store grows: a sound segment of n pages with k pages of zeros behind it, n + k at most 32,527, is sound with the same inventory. An id
-- of the n pages reads as before, whatever the answer, and one of the k pages reads 5.
use Rattle.std.specs.Prelude.{ℕ, ◌+◌, ◌*◌, ◌/◌, ◌%◌, ◌≤◌, ◌<◌, ◌≡◌, List, ◌++◌}
use Rattle.std.proofs.Math.Path.{sym, subst}
use Rattle.std.proofs.Common.{ap, ◌∙◌, arith}
use Rattle.std.proofs.Math.ListN.{length}
use Rattle.store.specs.Numbers.{zeros, page_no}
use Rattle.store.specs.Page.{view, sound}
use Rattle.store.specs.Inventory.{Truth}
use Rattle.store.specs.Refusals.{NONE}
use Rattle.store.specs.Segment.{SegView, seg_view, page_of, no_read, read_step}
use Rattle.store.specs.SoundSegment.{bytes_on, Paired, classes, SoundSegment}
use Rattle.store.proofs.Laws.Slots.{tag}
use Rattle.store.proofs.Laws.SoundPage.{sound_test}
use Rattle.store.proofs.Laws.Pairs.{tag_on, look}
use Rattle.store.proofs.Laws.SoundSegment.{right_size, seen_sound, sound_closed}
use Rattle.store.proofs.Laws.Rows.{read_look}
use Rattle.store.proofs.Laws.Grown.{grown, long, whole, page_count, grown_seen, free_past, more_paired, more_classes, more_lowest}
use Rattle.store.specs.declared.Slot.{Slot}

module _ (s v : List ℕ) (h : SoundSegment s v) (k : ℕ) (few : length s / 16384 + k ≤ 32527) where
  pub grown_sound : SoundSegment (s ++ zeros (k * 16384)) v
  unfolding seg_view
  grown_sound =
      let a : length (grown s k) % 16384 ≡ 0 = omega (arith, long s k, whole s v h) in
      let b : length (grown s k) / 16384 ≤ 32527 = omega (arith, page_count s v h k) in
      record {
        whole = right_size (grown s k) a b;
        page = h.page;
        pages = λ p l. sound_closed (view (page_of (grown s k) p))
            (ap (λ (u : SegView). sound (u.page p)) (grown_seen s v h k) ∙ sound_test ((seg_view s).page p) ((seen_sound s v h).sounds p));
        pairs = subst Paired (sym (grown_seen s v h k)) (more_paired s v h k);
        inventory = subst (λ (u : SegView). Truth (classes u) u.pages v) (sym (grown_seen s v h k))
            (record {
              nibbles = λ j l. h.inventory.nibbles j l ∙ sym (more_classes s v h k j);
              entries = λ c l. more_lowest s v h k c _ (h.inventory.entries c l);
            });
      }

  look_grown : (i : ℕ) → page_no i < length s / 16384 + k → read_step (grown s k) i ≡ look (bytes_on (seg_view s)) i (tag_on (seg_view s) i)
  look_grown i l =
      read_look (grown s k) v grown_sound i (omega (arith, page_count s v h k))
      ∙ ap (λ (u : SegView). look (bytes_on u) i (tag_on u i)) (grown_seen s v h k)

  pub grown_reads : (i : ℕ) → page_no i < length s / 16384 → read_step (s ++ zeros (k * 16384)) i ≡ read_step s i
  grown_reads i l = look_grown i (omega arith) ∙ sym (read_look s v h i l)

  pub grown_free : (i : ℕ) → length s / 16384 ≤ page_no i → page_no i < length s / 16384 + k → read_step (s ++ zeros (k * 16384)) i ≡ no_read NONE
  grown_free i l m = look_grown i m ∙ ap (λ (x : Slot). look (bytes_on (seg_view s)) i (tag x)) (free_past s v h i l)
