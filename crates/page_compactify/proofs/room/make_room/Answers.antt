use native.Mathlib.Omega.{arith}
use Rattle.page_compactify.proofs.RoomLaws.{room_made}
use Rattle.page_compactify.proofs.room.make_room.Goals as goal

pub returns-then-gap-n : goal.returns-then-gap-n
returns-then-gap-n c =
    let w = c.compactify in
    room_made c.args.page.now c.args.n w.result c.told-page c.requires.0 w.new.page c.requires.1 (omega arith) w.ensures.0 w.ensures.1
