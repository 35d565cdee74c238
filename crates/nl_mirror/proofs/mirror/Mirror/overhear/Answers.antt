use Rattle.nl_mirror.proofs.Common.{subst, message_view, Mirrored, OthersHear}
use Rattle.nl_mirror.proofs.Fives.{mirrored, settings, covers_both, covers_first, covers_second, IsFirst, kind_first, memory_first, others}
use Rattle.nl_mirror.proofs.mirror.Mirror.overhear.Goals as goal

pub returns-clause-heard : goal.returns-clause-heard
returns-clause-heard c =
    let m = c.self.inside in
    let v = message_view c.args.message.now in
    let links = c.overhear-links in
    let addrs = c.overhear-addrs in
    let routes = c.overhear-routes in
    let neighs = c.overhear-neighs in
    let rules = c.overhear-rules in
    let one : IsFirst neighs.result rules.result c.both.result = (c.both.ensures.first, c.both.ensures.second) in
    let two : IsFirst routes.result c.both.result c.both-2.result = (c.both-2.ensures.first, c.both-2.ensures.second) in
    let three : IsFirst addrs.result c.both-2.result c.both-3.result = (c.both-3.ensures.first, c.both-3.ensures.second) in
    let four : IsFirst links.result c.both-3.result c.both-4.result = (c.both-4.ensures.first, c.both-4.ensures.second) in
    let last = c.both-4.result in
    let of_three = covers_second links.result c.both-3.result last links.ensures.memory four in
    let of_two = covers_both c.both-2.result c.both-3.result last (covers_second addrs.result c.both-2.result c.both-3.result addrs.ensures.memory three) of_three in
    let of_one = covers_both c.both.result c.both-2.result last (covers_second routes.result c.both.result c.both-2.result routes.ensures.memory two) of_two in
    subst (λ (f : Mirrored). OthersHear last f v (mirrored (settings m.limits m.last) links.new.self addrs.new.self routes.new.self neighs.new.self rules.new.self)) c.self.view_is
    (others (settings m.limits m.last) m.links links.new.self m.addrs addrs.new.self m.routes routes.new.self m.neighs neighs.new.self m.rules rules.new.self v
    links.result addrs.result routes.result neighs.result rules.result last
    (covers_first links.result c.both-3.result last four)
    (covers_both addrs.result c.both-3.result last (covers_first addrs.result c.both-2.result c.both-3.result three) of_three)
    (covers_both routes.result c.both-2.result last (covers_first routes.result c.both.result c.both-2.result two) of_two)
    (covers_both neighs.result c.both.result last (covers_first neighs.result rules.result c.both.result one) of_one)
    (covers_both rules.result c.both.result last (covers_second neighs.result rules.result c.both.result neighs.ensures.memory one) of_one)
    links.ensures.heard addrs.ensures.heard routes.ensures.heard neighs.ensures.heard rules.ensures.heard)

pub returns-clause-memory : goal.returns-clause-memory
returns-clause-memory c =
    memory_first c.overhear-links.result c.both-3.result c.both-4.result c.overhear-links.ensures.memory
    (memory_first c.overhear-addrs.result c.both-2.result c.both-3.result c.overhear-addrs.ensures.memory
    (memory_first c.overhear-routes.result c.both.result c.both-2.result c.overhear-routes.ensures.memory
    (memory_first c.overhear-neighs.result c.overhear-rules.result c.both.result c.overhear-neighs.ensures.memory c.overhear-rules.ensures.memory
    (c.both.ensures.first, c.both.ensures.second))
    (c.both-2.ensures.first, c.both-2.ensures.second))
    (c.both-3.ensures.first, c.both-3.ensures.second))
    (c.both-4.ensures.first, c.both-4.ensures.second)

pub returns-clause-ends : goal.returns-clause-ends
returns-clause-ends c =
    let v = message_view c.args.message.now in
    kind_first v c.overhear-links.result c.both-3.result c.both-4.result c.overhear-links.ensures.ends
    (kind_first v c.overhear-addrs.result c.both-2.result c.both-3.result c.overhear-addrs.ensures.ends
    (kind_first v c.overhear-routes.result c.both.result c.both-2.result c.overhear-routes.ensures.ends
    (kind_first v c.overhear-neighs.result c.overhear-rules.result c.both.result c.overhear-neighs.ensures.ends c.overhear-rules.ensures.ends
    (c.both.ensures.first, c.both.ensures.second))
    (c.both-2.ensures.first, c.both-2.ensures.second))
    (c.both-3.ensures.first, c.both-3.ensures.second))
    (c.both-4.ensures.first, c.both-4.ensures.second)
