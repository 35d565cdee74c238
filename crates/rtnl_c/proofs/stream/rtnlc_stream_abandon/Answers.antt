use Rattle.rtnl_c.specs.Streams.{on_none, abandons}
use Rattle.rtnl_c.proofs.Streams.{keeps}
use Rattle.rtnl_c.proofs.stream.rtnlc_stream_abandon.Goals as goal

pub returns-in_default : goal.returns-in_default
returns-in_default c = on_none c.in_default.ensures

pub returns : goal.returns
returns c =
    let t = c.abandon-abandoned in
    rw (c.to_state.ensures, c.abandon_code.ensures) (abandons c.in-Some.stream t.new.self c.in-Some.ensures t.result t.ensures.step (keeps t.new.self t.ensures.possible))
