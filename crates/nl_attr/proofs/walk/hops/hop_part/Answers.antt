use Rattle.std.proofs.Common.{◌∙◌, w32, rules}
use Rattle.nl_attr.proofs.Lemmas.Reading.{payload_is}
use Rattle.std.proofs.lemmas.Int.{to_z-of_z}
use Rattle.nl_attr.proofs.walk.hops.hop_part.Goals as goal

pub returns : goal.returns
returns c =
    record { flags = search rules; hops = search rules; ifindex = to_z-of_z w32 c.ifindex_at.result (search rules) ∙ c.ifindex_at.ensures; place = search rules; span = search rules; rest = payload_is c.args.order 8 2 c.args.len c.args.left.now c.requires.sound.2 c.requires.sound.3 }
