use Rattle.std.proofs.Common.{◌≤◌, ap, arith, decimal, drop, length, length-append, length-drop, rules}
use Rattle.std.proofs.lemmas.Fmt.{length-decimal-le}
use Rattle.rtnl.proofs.pieces.segment.Segment.put_u16.Goals as goal

pub write_digits-self-inside-requires : goal.write_digits-self-inside-requires
write_digits-self-inside-requires c =
    let small = c.ranges.number.fits in
    let short : length (decimal c.args.number) ≤ 5 = length-decimal-le 5 c.args.number (omega arith) (omega (arith, small)) (omega (arith, small)) in
    let held = ap length c.self.view_is in
    (omega (arith, short, held, length-drop c.self.inside.start c.self.inside.buffer, c.self.invariant, c.requires), search rules)

pub returns-clause-len : goal.returns-clause-len
returns-clause-len c =
    let small = c.ranges.number.fits in
    let short : length (decimal c.args.number) ≤ 5 = length-decimal-le 5 c.args.number (omega arith) (omega (arith, small)) (omega (arith, small)) in
    let held = ap length c.self.view_is in
    let long = length-append (decimal c.args.number) (drop c.self.inside.start c.self.inside.buffer) in
    rw c.write_digits-self-inside.ensures.written (omega (arith, short, held, long))
