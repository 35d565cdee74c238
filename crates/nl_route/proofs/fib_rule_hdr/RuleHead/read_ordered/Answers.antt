use Rattle.std.proofs.Common.{◌≡◌, drop, arith}
use Rattle.std.proofs.lemmas.Grind.{common_steps}
use Rattle.nl_attr.specs.Numbers.{number_of}
use Rattle.nl_route.proofs.Known.{head_read}
use Rattle.nl_route.proofs.Families.{rule_known}
use Rattle.nl_route.proofs.fib_rule_hdr.RuleHead.read_ordered.Goals as goal

pub returns : goal.returns
returns c =
    let flags : c.read_u32.result ≡ number_of c.args.order 4 (drop 8 c.args.bytes.now) = grind (arith, common_steps) in
    head_read rule_known c.args.order c.args.bytes.now _ c.fits-bytes c.told-bytes (rw flags)
