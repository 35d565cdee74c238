use Rattle.std.proofs.Common.{Option, subst}
use Rattle.nl_dump.specs.View.{View}
use Rattle.rtnl_c.specs.Sessions.{Abandoned, AbandonsOne}
use Rattle.rtnl_c.proofs.session.rtnlc_session_abandon.Goals as goal

pub returns-in-Some : goal.returns-in-Some
returns-in-Some c =
    let t = c.abandon-answer in let after = t.new.session in
    subst (λ (o : Option View). Abandoned o t.result c.of.result.session) c.in-Some.ensures.taken
    (after, subst (λ (v : View). AbandonsOne v t.result after) c.deref_mut.ensures.value t.ensures, c.of.ensures)
