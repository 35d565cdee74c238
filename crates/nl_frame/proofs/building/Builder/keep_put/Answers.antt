use Rattle.nl_frame.proofs.Common.{◌≡◌, arith, ap, Parts}
use Rattle.nl_frame.proofs.Opens.{are_open_more}
use Rattle.nl_frame.proofs.building.Builder.keep_put.Goals as goal

pub invariant_of-self : goal.invariant_of-self
invariant_of-self c =
    let i = c.self.inside in
    let p = c.args.self.now in
    let len : i.len ≡ p.len = ap (λ (x : Parts). x.len) c.self.view_is in
    let limit : i.limits.datagram ≡ p.bounds.datagram = ap (λ (x : Parts). x.bounds.datagram) c.self.view_is in
    (omega (arith, c.requires.limit, limit), are_open_more _ _ _ _ (omega (arith, c.requires.grows, len)) c.self.invariant.1)
