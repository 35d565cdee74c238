use Rattle.rtnl_c.specs.Streams.{on_none, feeds}
use Rattle.rtnl_c.proofs.Streams.{keeps}
use Rattle.rtnl_c.proofs.stream.rtnlc_stream_feed.Goals as goal

pub returns-in_default : goal.returns-in_default
returns-in_default c = rw (c.untaken.ensures) (on_none c.in_default.ensures)

pub returns : goal.returns
returns c =
    let t = c.feed-fed in
    rw (c.to_state.ensures, c.by_stream.ensures)
    (feeds c.in-Some.stream t.new.self c.in-Some.ensures t.new.out t.result t.ensures.step t.ensures.every (keeps t.new.self t.ensures.possible))
