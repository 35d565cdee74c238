use Rattle.std.proofs.lemmas.Result.{IfOk-weaker}
use Rattle.rtnl.proofs.Mirrors.{five_texts}
use Rattle.rtnl.proofs.runs.mirroring.push_tables.Goals as goal

pub returns : goal.returns
returns g c =
    IfOk-weaker c.push_shown_table-5.result _ _
    (λ _ last. five_texts _ _ _ _ _ _ _ _ _ _ _ c.in_ok-push_shown_table.ensures c.in_ok-push_shown_table-2.ensures c.in_ok-push_shown_table-3.ensures c.in_ok-push_shown_table-4.ensures last) c.push_shown_table-5.ensures
