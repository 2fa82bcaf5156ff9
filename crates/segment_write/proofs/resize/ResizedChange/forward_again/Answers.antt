use Rattle.segment_write.proofs.Stored.{target_sound, target_skip}
use Rattle.segment_write.proofs.resize.ResizedChange.forward_again.Goals as goal

pub save_record-n-requires : goal.save_record-n-requires
save_record-n-requires c =
    let a = c.args in
    let back = c.requires.follows.back in
    record { sound_on = target_sound a.segment.now a.id a.t back; skip_bound = target_skip a.segment.now a.id a.t back }
