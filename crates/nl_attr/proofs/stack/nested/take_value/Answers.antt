use Rattle.nl_attr.proofs.Common.{map, item, attr_view, value_view, items_left}
use Rattle.nl_attr.proofs.Lemmas.Loop.{collected}
use Rattle.nl_attr.proofs.stack.nested.take_value.Goals as goal

pub returns-clause-rest : goal.returns-clause-rest
returns-clause-rest c = λ S.
    collected (map attr_view c.args.waits.region.list.items) (map attr_view c.keep_attr.new.list.items) (item c.args.waits.number c.args.waits.flags (value_view c.args.value)) (items_left S c.args.waits.region) c.in_ok-keep_attr.ensures
