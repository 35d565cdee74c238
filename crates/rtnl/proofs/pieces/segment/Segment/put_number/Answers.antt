use Rattle.std.proofs.Common.{ap, arith, decimal, drop, length, length-append, length-drop, rules}
use Rattle.rtnl.proofs.Digits.{twenty_digits}
use Rattle.rtnl.proofs.pieces.segment.Segment.put_number.Goals as goal

pub write_digits-self-inside-requires : goal.write_digits-self-inside-requires
write_digits-self-inside-requires c =
    let short = twenty_digits c.args.number c.ranges.number.fits in
    let held = ap length c.self.view_is in
    (omega (arith, short, held, length-drop c.self.inside.start c.self.inside.buffer, c.self.invariant, c.requires), search rules)

pub returns-clause-len : goal.returns-clause-len
returns-clause-len c =
    let short = twenty_digits c.args.number c.ranges.number.fits in
    let held = ap length c.self.view_is in
    let long = length-append (decimal c.args.number) (drop c.self.inside.start c.self.inside.buffer) in
    rw c.write_digits-self-inside.ensures.written (omega (arith, short, held, long))
