-- A scan that holds its segment and its position.
use Rattle.store.specs.Scan.{Scanned}
use Rattle.segment_scan.specs.declared.held.Scan.{Scan}

-- the same segment, at the position after what was found
abbrev pub moved_to : Scan → Scanned → Scan
moved_to h d = record { segment = h.segment; page = d.page; slot = d.slot }
