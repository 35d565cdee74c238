use Rattle.std.proofs.Common.{rules, ◌∙◌, ap, ℕ, option_map, sym}
use Rattle.std.specs.Global.{Vec}
use Rattle.rtnl_c.proofs.Telling.{puts_so, puts_none}
use Rattle.rtnl_c.proofs.hearing.put_before.Goals as goal

pub returns-in-Ok-Some : goal.returns-in-Ok-Some
returns-in-Ok-Some c =
    let found = sym (ap (option_map (λ (v : Vec ℕ). v.items)) c.in-Ok-Some.field-0-is) ∙ (rw (c.in-Ok-Some.is) at c.entry_before.ensures) in
    puts_so _ c.in-Ok-Some.bytes.items c.args.out.now c.lay.new.out c.len-in-Ok-Some.result found (search rules) (search rules) (search rules)

pub returns-in_default : goal.returns-in_default
returns-in_default c = puts_none _ c.args.out.now

pub returns-then-is_empty : goal.returns-then-is_empty
returns-then-is_empty c = puts_none _ c.args.out.now
