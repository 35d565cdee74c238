use Rattle.std.proofs.Common.{IsTrue}
use Rattle.rtnl.proofs.Headings.{bytes_of_digits}
use Rattle.rtnl.proofs.recordings.heading.number_of.Goals as goal

pub returns-else-is_digits : goal.returns-else-is_digits
returns-else-is_digits c h =
    let digits = bytes_of_digits c.args.word.now h.0.1 in
    let yes : IsTrue c.is_digits.result = c.is_digits.ensures.1 (h.0.0, digits) in
    let no = c.if-is_digits.false in
    cc
