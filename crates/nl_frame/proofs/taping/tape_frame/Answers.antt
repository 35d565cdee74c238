use Rattle.nl_frame.proofs.Common.{◌≡◌, ◌+◌, length, sym, ap, subst, ◌∙◌, arith, ℕ, length-set, Event, HasRoom, room_on}
use Rattle.nl_frame.proofs.taping.tape_frame.Goals as goal

pub put_in-requires : goal.put_in-requires
put_in-requires c = let a = c.args in room_on a.room a.count (16 + length a.frame.now.payload.now) a.count 4 (length a.out.now) (omega arith) c.requires.room

pub tape_body-requires-clause-room : goal.tape_body-requires-clause-room
tape_body-requires-clause-room c =
    let a = c.args in
    let size : length a.out.now ≡ length c.put_in.new.out = sym (ap (length {A = Event}) c.put_in.ensures ∙ length-set a.out.now a.count _) in
    room_on a.room a.count (16 + length a.frame.now.payload.now) (a.count + 1) (length a.frame.now.payload.now) (length c.put_in.new.out) (omega arith) (subst (λ (n : ℕ). HasRoom a.room a.count (16 + length a.frame.now.payload.now) n) size c.requires.room)
