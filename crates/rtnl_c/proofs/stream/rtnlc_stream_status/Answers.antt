use Rattle.rtnl_c.specs.Streams.{on_none, tells}
use Rattle.rtnl_c.proofs.stream.rtnlc_stream_status.Goals as goal

pub returns-in-Some : goal.returns-in-Some
returns-in-Some c = rw (c.of_stream.ensures) (tells c.in-Some.stream c.in-Some.ensures)

pub returns-in-None : goal.returns-in-None
returns-in-None c = rw (c.none.ensures) (on_none c.in-None.ensures)
