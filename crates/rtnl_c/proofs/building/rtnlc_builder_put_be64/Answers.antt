use Rattle.nl_attr.specs.declared.order.Order.TheVariants.{Big}
use Rattle.rtnl_c.proofs.Keeping.{puts_number}
use Rattle.rtnl_c.proofs.building.rtnlc_builder_put_be64.Goals as goal

pub returns : goal.returns
returns c = puts_number c.args.kind c.args.value 8 Big c.u64_bytes.ensures c.put_bytes.ensures
