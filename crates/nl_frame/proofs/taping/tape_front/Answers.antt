use Rattle.nl_frame.proofs.Common.{◌+◌, length, arith, room_on}
use Rattle.nl_frame.proofs.taping.tape_front.Goals as goal

pub tape_frame-counts-requires-clause-room : goal.tape_frame-counts-requires-clause-room
tape_frame-counts-requires-clause-room c =
    let a = c.args in
    let is = c.in_ok-frame.ensures in
    room_on a.room a.count (length a.left.now) a.count (16 + length c.in_ok-frame.frame.payload.now) (length a.out.now) (omega (arith, is.inside, is.within)) c.requires.room
