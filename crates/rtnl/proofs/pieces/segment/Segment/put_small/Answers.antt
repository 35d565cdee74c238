use Rattle.std.proofs.Common.{◌≤◌, ◌++◌, arith, decimal, length, length-append}
use Rattle.std.proofs.lemmas.Fmt.{length-decimal-le}
use Rattle.rtnl.proofs.pieces.segment.Segment.put_small.Goals as goal

pub returns-clause-len : goal.returns-clause-len
returns-clause-len c =
    let digits = decimal c.args.number in
    let small = c.ranges.number.fits in
    let short : length digits ≤ 3 = length-decimal-le 3 c.args.number (omega arith) (omega (arith, small)) (omega (arith, small)) in
    rw c.put_field.ensures.text (omega (arith, short, length-append c.args.words.now (digits ++ c.args.self.now), length-append digits c.args.self.now))
