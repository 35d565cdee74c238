use Rattle.std.proofs.Common.{rules}
use Rattle.nl_route.proofs.Known.{head_read}
use Rattle.nl_route.proofs.Families.{link_known}
use Rattle.nl_route.proofs.ifinfomsg.LinkHead.read_ordered.Goals as goal

pub returns : goal.returns
returns c = head_read link_known c.args.order c.args.bytes.now _ c.fits-bytes c.told-bytes (search rules)
