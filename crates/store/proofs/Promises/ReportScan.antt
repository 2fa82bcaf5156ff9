-- Fill report, "By the scan: records is the length of the whole scan's list, record bytes the sum of its lengths." The records of every segment,
-- sound or damaged; the record bytes where its size is right and its pages are sound, so that each record lies within its page. That the scan's
-- steps give that list: Promises/Scan `scan_all_lem`.
use Rattle.std.specs.Prelude.{ℕ, ◌≡◌, true, List, map, length}
use Rattle.store.specs.Segment.{seg_view, size_ok}
use Rattle.store.specs.SoundSegment.{PagesSound}
use Rattle.store.specs.ManyRows.{total}
use Rattle.store.specs.Records.{Entry, scan_all}
use Rattle.store.specs.Report.{figures, figures_to}
use Rattle.store.specs.ReportTold.{records_in, record_bytes_in}
use Rattle.store.proofs.Laws.SoundSegment.{pages_sound}
use Rattle.store.proofs.Laws.ReportScan.{records_listed, bytes_listed}

pub records_by_scan : (s : List ℕ) → records_in (figures (seg_view s)) ≡ length (scan_all s)
unfolding figures_to scan_all
records_by_scan s = records_listed (seg_view s)

pub bytes_by_scan : (s : List ℕ) → size_ok s ≡ true → PagesSound s
    → record_bytes_in (figures (seg_view s)) ≡ total (map (λ (e : Entry). length e.bytes) (scan_all s))
unfolding figures_to scan_all
bytes_by_scan s e h = bytes_listed (seg_view s) (pages_sound s e h)
