use Rattle.rtnl.proofs.Common.{◌∙◌, ap, sym, IfOk-weaker}
use Rattle.rtnl.specs.Json.{◌⊕◌, fields_tokens}
use Rattle.rtnl.specs.Shown.{refusal_fields}
use Rattle.rtnl.proofs.json_lines.datagram.push_refusal.Goals as goal

pub returns-in-TooLarge-clause-fields : goal.returns-in-TooLarge-clause-fields
unfolding refusal_fields
returns-in-TooLarge-clause-fields c =
    IfOk-weaker c.text.result _ _ (λ _ written. written ∙ ap (λ e. c.args.line.now ⊕ fields_tokens (refusal_fields e)) (sym c.in-TooLarge.is)) c.text.ensures
