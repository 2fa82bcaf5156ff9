-- What an export answers and leaves, by its tests.
use Rattle.std.specs.Prelude.{ℕ, ◌≤◌, ◌<◌, ◌≡◌, refl, Bool, true, false, List, ◌⊎◌, length}
use Rattle.std.proofs.Common.{sym, subst, inl, inr}
use borrow.Author.Tests.{lt-ltb, le-ltb}
use Rattle.store.specs.Numbers.{put}
use Rattle.store.specs.Refusals.{DONE, SIZE, DAMAGED, ROOM}
use Rattle.store.specs.Segment.{seg_view, size_ok}
use Rattle.store.specs.Records.{records, scan_all}
use Rattle.store.specs.Report.{all_sound}
use Rattle.store.specs.SoundSegment.{PagesSound}
use Rattle.store.specs.ReportTold.{Damage}
use Rattle.store.proofs.Laws.Cases.{lt_or_le}
use Rattle.store.proofs.Laws.Report.{each_sound, sound_each, damage, damaged}
use Rattle.exchange.specs.Exchange.{passed_over, no_export, export_step, Export}
use Rattle.exchange.specs.Words.{segment_file}
use Rattle.exchange.specs.FileTold.{file_in, with_numbers}

module _ (s place : List ℕ) where
  pub on_size : size_ok s ≡ false → export_step s place ≡ no_export SIZE place
  unfolding export_step
  on_size e = rw e

  module _ (size : size_ok s ≡ true) where
    pub on_damage : all_sound (seg_view s) ≡ false → export_step s place ≡ no_export DAMAGED place
    unfolding export_step
    on_damage e = rw (size, e)

    module _ (sounds : all_sound (seg_view s) ≡ true) where
      pub on_room : length place < length (segment_file (seg_view s)) → export_step s place
          ≡ record { answer = ROOM; length = length (segment_file (seg_view s)); passed = passed_over (records (seg_view s)); place = place }
      unfolding export_step
      on_room l = rw (size, sounds, lt-ltb (length place) (length (segment_file (seg_view s))) l)

      pub on_done : length (segment_file (seg_view s)) ≤ length place → export_step s place
          ≡ record {
            answer = DONE;
            length = length (segment_file (seg_view s));
            passed = passed_over (records (seg_view s));
            place = put place 0 (segment_file (seg_view s));
          }
      unfolding export_step
      on_done l = rw (size, sounds, le-ltb (length place) (length (segment_file (seg_view s))) l)

-- ---- the same in the promises' words

module _ (s p : List ℕ) where
  module _ (size : size_ok s ≡ true) where
    pub at_damage : Damage s → export_step s p ≡ no_export DAMAGED p
    at_damage d = on_damage s p size (damaged s d)

    module _ (pages : PagesSound s) where
      pub at_room : length p < length (file_in s) → export_step s p ≡ with_numbers ROOM s p
      unfolding scan_all
      at_room = on_room s p size (sound_each s pages)

      pub at_done : length (file_in s) ≤ length p → export_step s p ≡ with_numbers DONE s (put p 0 (file_in s))
      unfolding scan_all
      at_done = on_done s p size (sound_each s pages)

  -- a property of what is left, from each of the four
  pub by_export : (P : Export → Type 0) → (size_ok s ≡ false → P (no_export SIZE p)) → (size_ok s ≡ true → Damage s → P (no_export DAMAGED p))
      → (size_ok s ≡ true → PagesSound s → length p < length (file_in s) → P (with_numbers ROOM s p))
      → (size_ok s ≡ true → PagesSound s → length (file_in s) ≤ length p → P (with_numbers DONE s (put p 0 (file_in s)))) → P (export_step s p)
  by_export P a b c d = go (size_ok s) refl (all_sound (seg_view s)) refl (lt_or_le (length p) (length (file_in s)))
    where
      go : (x : Bool) → size_ok s ≡ x → (y : Bool) → all_sound (seg_view s) ≡ y → (length p < length (file_in s)) ⊎ (length (file_in s) ≤ length p)
          → P (export_step s p)
      go false e y f z = subst P (sym (on_size s p e)) (a e)
      go true e false f z = subst P (sym (at_damage e (damage s f))) (b e (damage s f))
      go true e true f (inl l) = subst P (sym (at_room e (each_sound s f) l)) (c e (each_sound s f) l)
      go true e true f (inr l) = subst P (sym (at_done e (each_sound s f) l)) (d e (each_sound s f) l)
