use Rattle.rtnl_c.proofs.Common.{item_of, table_at}
use Rattle.nl_route.specs.declared.family.Family.TheVariants.{Link, Addr, Route, Neigh, Rule}
use Rattle.rtnl_c.proofs.Mirrors.{entry_held}
use Rattle.rtnl_c.proofs.Seen.{puts_seen}
use Rattle.rtnl_c.proofs.mirrored.put_entry.Goals as goal

pub returns-in-Link : goal.returns-in-Link
returns-in-Link c = puts_seen Link c.links.result.now c.args.index (λ k. table_at k c.args.mirror.now) (entry_held (item_of Link) c.args.mirror.now.links Link c.links.result.now c.links.ensures.table c.links.ensures.order c.args.index) c.args.kind c.in-Link.is c.put_message.ensures

pub returns-in-Addr : goal.returns-in-Addr
returns-in-Addr c = puts_seen Addr c.addrs.result.now c.args.index (λ k. table_at k c.args.mirror.now) (entry_held (item_of Addr) c.args.mirror.now.addrs Addr c.addrs.result.now c.addrs.ensures.table c.addrs.ensures.order c.args.index) c.args.kind c.in-Addr.is c.put_message-in-Addr.ensures

pub returns-in-Route : goal.returns-in-Route
returns-in-Route c = puts_seen Route c.routes.result.now c.args.index (λ k. table_at k c.args.mirror.now) (entry_held (item_of Route) c.args.mirror.now.routes Route c.routes.result.now c.routes.ensures.table c.routes.ensures.order c.args.index) c.args.kind c.in-Route.is c.put_message-in-Route.ensures

pub returns-in-Neigh : goal.returns-in-Neigh
returns-in-Neigh c = puts_seen Neigh c.neighs.result.now c.args.index (λ k. table_at k c.args.mirror.now) (entry_held (item_of Neigh) c.args.mirror.now.neighs Neigh c.neighs.result.now c.neighs.ensures.table c.neighs.ensures.order c.args.index) c.args.kind c.in-Neigh.is c.put_message-in-Neigh.ensures

pub returns-in-Rule : goal.returns-in-Rule
returns-in-Rule c = puts_seen Rule c.rules.result.now c.args.index (λ k. table_at k c.args.mirror.now) (entry_held (item_of Rule) c.args.mirror.now.rules Rule c.rules.result.now c.rules.ensures.table c.rules.ensures.order c.args.index) c.args.kind c.in-Rule.is c.put_message-in-Rule.ensures
