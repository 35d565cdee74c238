use Rattle.std.proofs.lemmas.Result.{IfOk-weaker}
use Rattle.rtnl.proofs.Mirrors.{five_texts}
use Rattle.rtnl.proofs.runs.mirroring.push_each_table_state.Goals as goal

pub returns : goal.returns
returns g c =
    IfOk-weaker c.push_table_state-5.result _ _
    (λ _ last. five_texts _ _ _ _ _ _ _ _ _ _ _ c.in_ok-push_table_state.ensures c.in_ok-push_table_state-2.ensures c.in_ok-push_table_state-3.ensures c.in_ok-push_table_state-4.ensures last) c.push_table_state-5.ensures
