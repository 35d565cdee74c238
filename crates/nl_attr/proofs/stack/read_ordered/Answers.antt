use Rattle.nl_attr.proofs.Common.{◌≡◌, ◌≤◌, ◌+◌, ◌-◌, ◌*◌, length, arith, rules, ap, attrs_view, Outcome, items_of_region, Items, list_rest, opening_rest, region_at}
use Rattle.nl_attr.proofs.Lemmas.First.{read_bound}
use Rattle.nl_attr.proofs.Lemmas.Nested.{most_fit, fails_within, same_visits, done_visits}
use Rattle.nl_attr.proofs.stack.read_ordered.Goals.{In_ok-list}
use Rattle.nl_attr.proofs.stack.read_ordered.Goals as goal

-- nothing is read yet: the visits that are left have the bound of the whole
few : (c : In_ok-list) → c.args.visits.now + (list_rest c.args.shape (region_at c.over-walk.result c.in_ok-list.list c.args.base c.args.level c.args.ctx)).1 ≤ (c.args.shape.depth - c.args.level + 1) * length c.args.bytes.now
few c =
    let S = c.args.shape in
    let whole : list_rest S (region_at c.over-walk.result c.in_ok-list.list c.args.base c.args.level c.args.ctx) ≡ items_of_region S c.args.ctx c.args.level c.args.base c.args.bytes.now = search rules in
    omega (arith, c.requires.none, ap (λ (o : Outcome Items). o.1) whole, read_bound S c.args.ctx c.args.level c.args.base c.args.bytes.now)

pub read_walk-requires-clause-room : goal.read_walk-requires-clause-room
read_walk-requires-clause-room c =
    omega (arith, few (goal.at.read_walk-requires-clause-room c).In_ok-list, most_fit c.args.shape c.args.level c.args.bytes.now c.requires.limit c.requires.size)

pub read_on-requires-clause-room : goal.read_on-requires-clause-room
read_on-requires-clause-room c =
    let S = c.args.shape in
    let r = region_at c.read_walk.new.walk c.read_walk.new.list c.args.base c.args.level c.args.ctx in
    omega (arith, few (goal.at.read_on-requires-clause-room c).In_ok-list, most_fit S c.args.level c.args.bytes.now c.requires.limit c.requires.size, same_visits _ _ _ (opening_rest S r c.in-Opens.opening) c.in-Opens.ensures.goes)

pub returns-in-Ends-clause-bound : goal.returns-in-Ends-clause-bound
returns-in-Ends-clause-bound c =
    omega (arith, few (goal.at.returns-in-Ends-clause-bound c).In_ok-list, done_visits _ c.read_walk.new.visits _ (attrs_view c.read_walk.new.list.items) c.in-Ends.ensures.goes)

pub returns-in-Opens-clause-bound : goal.returns-in-Opens-clause-bound
returns-in-Opens-clause-bound c =
    let S = c.args.shape in
    let r = region_at c.read_walk.new.walk c.read_walk.new.list c.args.base c.args.level c.args.ctx in
    omega (arith, few (goal.at.returns-in-Opens-clause-bound c).In_ok-list, same_visits _ _ _ (opening_rest S r c.in-Opens.opening) c.in-Opens.ensures.goes, c.read_on.ensures.bound)

pub returns-in-Fails-clause-bound : goal.returns-in-Fails-clause-bound
returns-in-Fails-clause-bound c =
    omega (arith, few (goal.at.returns-in-Fails-clause-bound c).In_ok-list, fails_within _ c.read_walk.new.visits _ c.in-Fails.error c.in-Fails.ensures.goes)
