use Rattle.rtnl.specs.MessagesJson.{attr_front, flags_json}
use Rattle.rtnl.proofs.Fronts.{front_behind}
use Rattle.rtnl.proofs.json_lines.tree.put_front.Goals as goal

pub returns-clause-text : goal.returns-clause-text
unfolding attr_front flags_json
returns-clause-text c =
    rw (c.put_short.ensures.text, c.put-2.ensures.text, c.put_name.ensures.text, c.put.ensures.text, c.put_flags.ensures.text)
    (front_behind c.args.name.now c.args.number c.args.flags.nested c.args.flags.net c.args.piece.now)
