use Rattle.nl_attr.proofs.Common.{ap, ◌∙◌, opening_rest, hops_go_on, list_spot}
use Rattle.nl_attr.proofs.Lemmas.Filling.{opens_list, opens_hops, opens_in_hops, fills_list, fills_hops, opens_next}
use Rattle.nl_attr.proofs.stack.read_on.Goals.{in-Attrs+in_ok-inner-in-Attrs+in-Ends+in_ok-keep_attr-in-Ends, in-Hops+in_ok-hops-in-Hops+in-Ends-read_hops+in_ok-keep_attr-in-Ends-read_hops}
use Rattle.nl_attr.proofs.stack.read_on.Goals as goal

pub returns-in-Opens-read_hops-clause-outcome : goal.returns-in-Opens-read_hops-clause-outcome
returns-in-Opens-read_hops-clause-outcome c =
    let S = c.args.shape in
    let o = c.items.invariant in
    let hops = c.in_ok-hops-in-Hops.hops in
    let second = opening_rest S c.in-Opens-read_hops.inner c.in-Opens-read_hops.second in
    let waits = hops_go_on S c.read_hops.new.region c.in-Opens-read_hops.head in
    let e = opens_in_hops o c.read_hops.new.visits second waits hops (opens_hops o hops c.in-Hops.is c.in_ok-hops-in-Hops.ensures.rest) c.in-Opens-read_hops.ensures.goes in
    rw e (rw c.waits_for-waits.ensures at c.read_nested-in-Opens-read_hops.ensures.outcome)

pub returns-in-Ends-read_attrs-clause-outcome : goal.returns-in-Ends-read_attrs-clause-outcome
returns-in-Ends-read_attrs-clause-outcome c =
    let o = c.items.invariant in
    elim c.match-opening.branch [
      | in-Attrs+in_ok-inner-in-Attrs+in-Ends+in_ok-keep_attr-in-Ends w ↦
          rw (w.visits-is, w.region-is) (fills_list o w.read_attrs.new.visits w.in_ok-inner-in-Attrs.inner w.read_attrs.new.region.list w.keep_attr.new.list (opens_list o w.in-Attrs.ctx w.in_ok-inner-in-Attrs.inner w.in-Attrs.is w.in_ok-inner-in-Attrs.ensures.rest) w.in-Ends.ensures.goes w.in_ok-keep_attr-in-Ends.ensures)
          ∙ c.in-Ends-read_attrs.ensures.goes
      | in-Hops+in_ok-hops-in-Hops+in-Ends-read_hops+in_ok-keep_attr-in-Ends-read_hops w ↦
          rw (w.visits-is, w.region-is) (fills_hops o w.read_hops.new.visits w.in_ok-hops-in-Hops.hops w.read_hops.new.region.list w.keep_attr-in-Ends-read_hops.new.list (opens_hops o w.in_ok-hops-in-Hops.hops w.in-Hops.is w.in_ok-hops-in-Hops.ensures.rest) w.in-Ends-read_hops.ensures.goes w.in_ok-keep_attr-in-Ends-read_hops.ensures)
          ∙ c.in-Ends-read_attrs.ensures.goes
    ]

pub items-preserved : goal.items-preserved
items-preserved c =
    let S = c.args.shape in
    let o = c.items.invariant in
    elim c.match-opening.branch [
      | in-Attrs+in_ok-inner-in-Attrs+in-Ends+in_ok-keep_attr-in-Ends w ↦
          opens_next o c.match-opening.visits c.match-opening.region c.read_attrs-in-items.new.region c.in-Opens-read_attrs.opening c.read_attrs-in-items.new.visits
          (rw (w.visits-is, w.region-is) (fills_list o w.read_attrs.new.visits w.in_ok-inner-in-Attrs.inner w.read_attrs.new.region.list w.keep_attr.new.list (opens_list o w.in-Attrs.ctx w.in_ok-inner-in-Attrs.inner w.in-Attrs.is w.in_ok-inner-in-Attrs.ensures.rest) w.in-Ends.ensures.goes w.in_ok-keep_attr-in-Ends.ensures))
          (ap list_spot w.region-is) c.in-Opens-read_attrs.ensures.goes c.in-Opens-read_attrs.ensures.moves
      | in-Hops+in_ok-hops-in-Hops+in-Ends-read_hops+in_ok-keep_attr-in-Ends-read_hops w ↦
          opens_next o c.match-opening.visits c.match-opening.region c.read_attrs-in-items.new.region c.in-Opens-read_attrs.opening c.read_attrs-in-items.new.visits
          (rw (w.visits-is, w.region-is) (fills_hops o w.read_hops.new.visits w.in_ok-hops-in-Hops.hops w.read_hops.new.region.list w.keep_attr-in-Ends-read_hops.new.list (opens_hops o w.in_ok-hops-in-Hops.hops w.in-Hops.is w.in_ok-hops-in-Hops.ensures.rest) w.in-Ends-read_hops.ensures.goes w.in_ok-keep_attr-in-Ends-read_hops.ensures))
          (ap list_spot w.region-is) c.in-Opens-read_attrs.ensures.goes c.in-Opens-read_attrs.ensures.moves
    ]
