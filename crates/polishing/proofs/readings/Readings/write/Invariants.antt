use mathlib.Core.Path.{◌≡◌}
use lib.ListN.{length, drop}
use Rattle.store.specs.Numbers.{put}
use Rattle.polishing.specs.Polishing.{whole_in, words}
use Rattle.polishing.proofs.readings.Readings.write.Given as goal

abbrev pub invariant-loop-w : goal.invariant-loop-w
invariant-loop-w l =
    (length l.place ≡ length l.initial.place)
    × (let ws = words (whole_in l.self.segment.now l.self.mirror l.self.rows) in put l.place l.w (drop l.w ws) ≡ put l.initial.place 0 ws)
