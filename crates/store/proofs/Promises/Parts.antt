-- The part of the lent segment that a read or a scan's step answers has the record's bytes: for all bytes, damaged ones too.
use Rattle.std.specs.Prelude.{ℕ, ◌≡◌, refl, List}
use Rattle.store.specs.Numbers.{page_no, slot_no}
use Rattle.store.specs.Segment.{seg_view, size_ok, no_read, read_by, read_plan, read_step, held, locate_step}
use Rattle.store.specs.Scan.{scan_step}
use Rattle.store.proofs.Laws.Roots.{by_root_lem}
use Rattle.store.proofs.Laws.Calls.{by_test}
use Rattle.store.proofs.Laws.Parts.{Holds, high, slot_holds, Shown, record_part}
use Rattle.store.proofs.Laws.Scan.{scan_each}

pub part_read : (s : List ℕ) (i : ℕ) → held s (locate_step s i).part ≡ (read_step s i).bytes
unfolding locate_step read_step read_plan
part_read s i =
    by_test (Holds s i) (size_ok s) (read_plan (seg_view s) i) (no_read 1)
    (λ z. by_root_lem (Holds s i) (seg_view s) i no_read (read_by (seg_view s) i) (λ l. refl) (λ l u. refl)
    (λ l u. slot_holds s i (((seg_view s).page (page_no i)).at (slot_no i)) refl (high s i (page_no i) (slot_no i) l u)))
    (λ z. refl)

pub scan_part : (s : List ℕ) (p k : ℕ) → held s (scan_step s p k).part ≡ (scan_step s p k).bytes
scan_part s = scan_each (Shown s) s (λ p k. refl) refl (λ p k e. refl) (λ p j e. refl) (λ p j l c r g. record_part s p j g)
