use Rattle.rtnl.specs.ByteRows.{Views, is_accepted, viewed_text}
use Rattle.rtnl.proofs.Common.{coloured_text, Answers, datagram_json, datagram_text, is_accepted as is_accepted_answer}
use Rattle.rtnl.proofs.FollowedLines.{as_printed}
use Rattle.rtnl.proofs.laws.follow_is_show.Goals as goal

pub returns-clause-text : goal.returns-clause-text
returns-clause-text g c = λ b. as_printed (Answers b) (datagram_text b.shape.order) is_accepted_answer g.B.FollowListener.heard g.B.FollowListener.is_ended

pub returns-clause-coloured : goal.returns-clause-coloured
returns-clause-coloured g c = λ b. as_printed (Answers b) (coloured_text b.shape.order) is_accepted_answer g.B.FollowListener.heard g.B.FollowListener.is_ended

pub returns-clause-json : goal.returns-clause-json
returns-clause-json g c = λ b. as_printed (Answers b) (datagram_json b.shape.order) is_accepted_answer g.B.FollowListener.heard g.B.FollowListener.is_ended

pub returns-clause-bytes : goal.returns-clause-bytes
returns-clause-bytes g c = λ f b. as_printed (Views b) (viewed_text f b.shape.order) is_accepted g.B.FollowListener.heard g.B.FollowListener.is_ended
