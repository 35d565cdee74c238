use Rattle.rtnl_c.proofs.Common.{◌-◌, length, order_in}
use Rattle.rtnl_c.proofs.Finding.{Keeps}
use Rattle.rtnl_c.proofs.find.rtnlc_find.Given as goal

abbrev pub invariant-loop-found : goal.invariant-loop-found
invariant-loop-found l = Keeps (order_in l.big) l.bytes l.number l.fn.place l.found

abbrev pub decreases-loop-found : goal.decreases-loop-found
decreases-loop-found l = length l.bytes - l.found.place
