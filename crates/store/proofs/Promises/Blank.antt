-- Bytes all zero are a sound segment and its inventory: what calls can start from, so that the promises about sound segments speak of something.
use Rattle.std.specs.Prelude.{ℕ, ◌*◌, ◌≤◌, ◌≡◌, []}
use Rattle.std.proofs.Common.{arith}
use Rattle.store.specs.Numbers.{zeros}
use Rattle.store.specs.Records.{scan_all}
use Rattle.store.specs.SoundSegment.{SoundSegment}
use Rattle.store.proofs.Laws.Blank.{none_sound, zeros_empty}
use Rattle.store.proofs.Promises.Growth.{grown_sound}

pub blank_sound : (n : ℕ) → n ≤ 32527 → SoundSegment (zeros (n * 16384)) (zeros 16384)
blank_sound n few = grown_sound [] (zeros 16384) none_sound n (omega arith)

-- whose scan lists nothing
pub blank_list : (n : ℕ) → scan_all (zeros n) ≡ []
unfolding scan_all
blank_list n = zeros_empty n
