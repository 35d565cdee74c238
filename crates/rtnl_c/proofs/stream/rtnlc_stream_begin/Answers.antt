use Rattle.std.proofs.Common.{◌≤◌, length, sym, ◌∙◌, arith}
use Rattle.nl_dump.specs.Request.{dump_of, request_of}
use Rattle.rtnl_c.specs.Streams.{on_none, of_none, lacks, begins}
use Rattle.rtnl_c.proofs.Streams.{keeps}
use Rattle.rtnl_c.proofs.stream.rtnlc_stream_begin.Goals as goal

pub returns-in_default : goal.returns-in_default
returns-in_default c = rw (c.none.ensures) (on_none c.in_default.ensures)

pub returns-in_default-family_of : goal.returns-in_default-family_of
returns-in_default-family_of c = rw (c.none-in_default-family_of.ensures) (of_none c.in-Some.stream c.in-Some.ensures (sym c.family_of.ensures ∙ c.in_default-family_of.is))

pub returns-then-out-len : goal.returns-then-out-len
returns-then-out-len c =
    let s = c.in-Some.stream in
    lacks s c.in-Some.ensures c.in-Some-family_of.kind (sym c.family_of.ensures ∙ c.in-Some-family_of.is) c.request_len-len.result (c.request_len-len.ensures.request s.limits.shape.order) c.if-out-len.true

pub returns : goal.returns
returns c =
    let s = c.in-Some.stream in
    let b = c.begin_dump-begun in
    let t = b.new.stream in
    let room : c.request_len-len.result ≤ length c.args.out.now = c.if-out-len.false in
    let fits : length (request_of s.limits.shape.order (dump_of c.in-Some-family_of.kind c.args.family c.args.seq c.args.port)) ≤ length c.args.out.now = omega (arith, room, c.request_len-len.ensures.request s.limits.shape.order) in
    rw (c.to_state.ensures)
    (begins s t c.in-Some.ensures c.in-Some-family_of.kind (sym c.family_of.ensures ∙ c.in-Some-family_of.is) fits b.new.out b.result b.ensures (keeps t b.ensures.2))
