use Rattle.rtnl_c.proofs.Common.{ap, item_of, seen}
use Rattle.nl_route.specs.declared.family.Family.TheVariants.{Link, Addr, Route, Neigh, Rule}
use Rattle.nl_dump.specs.View.{table_at}
use Rattle.rtnl_c.specs.Entries.{entry_bytes}
use Rattle.rtnl_c.proofs.Seen.{puts_seen}
use Rattle.rtnl_c.proofs.tables.put_entry.Goals as goal

pub returns-in-Link : goal.returns-in-Link
returns-in-Link c = puts_seen Link c.links.result.now c.args.index (λ k. table_at k c.args.session.now.tables) (ap (λ t. entry_bytes c.args.index Link (seen (item_of Link) t)) c.links.ensures) c.args.kind c.in-Link.is c.put_message.ensures

pub returns-in-Addr : goal.returns-in-Addr
returns-in-Addr c = puts_seen Addr c.addrs.result.now c.args.index (λ k. table_at k c.args.session.now.tables) (ap (λ t. entry_bytes c.args.index Addr (seen (item_of Addr) t)) c.addrs.ensures) c.args.kind c.in-Addr.is c.put_message-in-Addr.ensures

pub returns-in-Route : goal.returns-in-Route
returns-in-Route c = puts_seen Route c.routes.result.now c.args.index (λ k. table_at k c.args.session.now.tables) (ap (λ t. entry_bytes c.args.index Route (seen (item_of Route) t)) c.routes.ensures) c.args.kind c.in-Route.is c.put_message-in-Route.ensures

pub returns-in-Neigh : goal.returns-in-Neigh
returns-in-Neigh c = puts_seen Neigh c.neighs.result.now c.args.index (λ k. table_at k c.args.session.now.tables) (ap (λ t. entry_bytes c.args.index Neigh (seen (item_of Neigh) t)) c.neighs.ensures) c.args.kind c.in-Neigh.is c.put_message-in-Neigh.ensures

pub returns-in-Rule : goal.returns-in-Rule
returns-in-Rule c = puts_seen Rule c.rules.result.now c.args.index (λ k. table_at k c.args.session.now.tables) (ap (λ t. entry_bytes c.args.index Rule (seen (item_of Rule) t)) c.rules.ensures) c.args.kind c.in-Rule.is c.put_message-in-Rule.ensures
