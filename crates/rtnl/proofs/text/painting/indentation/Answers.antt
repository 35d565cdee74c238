use Rattle.std.proofs.Common.{sym, arith, rules}
use Rattle.rtnl.proofs.Common.{prefix_len_is, is_space}
use Rattle.rtnl.proofs.text.painting.indentation.Goals as goal

pub returns-else-line-length-eq32-clause-value : goal.returns-else-line-length-eq32-clause-value
returns-else-line-length-eq32-clause-value c =
    let l = c.loop-length in
    sym (prefix_len_is is_space c.args.line.now l.length 0 l.invariant.within l.invariant.blanks (λ below. search rules))

pub returns-after-loop-length-clause-value : goal.returns-after-loop-length-clause-value
returns-after-loop-length-clause-value c =
    let l = c.loop-length in
    sym (prefix_len_is is_space c.args.line.now l.length 0 l.invariant.within l.invariant.blanks (λ below. absurd (omega arith)))
