use Rattle.rtnl_c.proofs.Keeping.{puts_ordered}
use Rattle.rtnl_c.proofs.building.rtnlc_builder_put_u64.Goals as goal

pub returns : goal.returns
returns c = puts_ordered c.args.kind c.args.value 8 c.order.result c.u64_bytes.ensures c.put_bytes.ensures c.order.ensures
