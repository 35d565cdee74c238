use Rattle.rtnl.proofs.Common.{sym, is_blank}
use Rattle.rtnl.proofs.Reading.{filter_none}
use Rattle.rtnl.proofs.recordings.lines.read_line.Goals as goal

pub returns-then-not-has_blank : goal.returns-then-not-has_blank
returns-then-not-has_blank c =
    rw (sym (c.if-begins_comment.ensures), filter_none is_blank c.args.line.now (sym (c.if-not-has_blank.ensures))) c.read_digits.ensures
