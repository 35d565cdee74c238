use Rattle.nl_frame.proofs.Common.{◌∙◌, ap, ℤ, w32, to_z-of_z, over}
use Rattle.nl_frame.specs.Building.{Built, close, no_flags, put, put_hop}
use Rattle.nl_frame.proofs.Kept.{hop_puts, where_ok}
use Rattle.nl_frame.proofs.building.Builder.put_hop_by_parts.Goals as goal

pub returns-clause-built : goal.returns-clause-built
returns-clause-built c =
    c.close.ensures.built
    ∙ ap close c.put_bytes.ensures.built
    ∙ ap (λ (b : Built). close (put b c.args.number no_flags c.args.bytes.now)) c.open_hop.ensures.built
    ∙ ap (λ (j : ℤ). put_hop (over c.args.self.now c.args.out.now) c.args.flags c.args.hops j c.args.number c.args.bytes.now) (to_z-of_z w32 c.args.ifindex c.ranges.ifindex)

pub returns-clause-puts : goal.returns-clause-puts
returns-clause-puts c =
    where_ok _ _ _ c.close.ensures.answer (λ none d L h. hop_puts (over c.args.self.now c.args.out.now) _ d c.args.flags c.args.hops c.args.ifindex c.args.number c.args.bytes.now c.ranges.ifindex (returns-clause-built c) none h)
