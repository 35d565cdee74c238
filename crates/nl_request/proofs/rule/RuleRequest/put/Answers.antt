use Rattle.nl_request.proofs.Common.{ap, ◌∙◌, refl, Order, any, request, with_message, over, order_of}
use Rattle.nl_route.specs.declared.family.Family.TheVariants as family
use Rattle.nl_route.specs.declared.fib_rule_hdr.RuleHead.{RuleHead}
use Rattle.nl_request.specs.Rule.{rule_head, rule_parts, rule_message}
use Rattle.nl_request.proofs.Puts.{request_holds, on_ok}
use Rattle.nl_request.proofs.Fits.{rule_fits}
use Rattle.nl_request.proofs.Runs.{Puts, request_run}
use Rattle.nl_request.proofs.rule.RuleRequest.put.Goals as goal

pub returns-clause-built : goal.returns-clause-built
returns-clause-built c =
    let b = over c.args.builder.now c.args.out.now in
    let r = c.args.self.now in
    let op = c.args.operation in
    let ps = rule_parts r c.order-order.result in
    let filled = over c.put_u32-5.new.builder c.put_u32-5.new.out in
    let puts : Puts (over c.begin.new.self c.begin.new.out) ps filled = (
      over c.put_prefix.new.builder c.put_prefix.new.out,
      c.put_prefix.ensures.built,
      (
        over c.put_prefix-2.new.builder c.put_prefix-2.new.out,
        c.put_prefix-2.ensures.built,
        (
          over c.put_u32.new.builder c.put_u32.new.out,
          c.put_u32.ensures.built,
          (
            over c.put_u32-2.new.builder c.put_u32-2.new.out,
            c.put_u32-2.ensures.built,
            (
              over c.put_text.new.builder c.put_text.new.out,
              c.put_text.ensures.built,
              (
                over c.put_text-2.new.builder c.put_text-2.new.out,
                c.put_text-2.ensures.built,
                (
                  over c.put_table.new.builder c.put_table.new.out,
                  c.put_table.ensures.built,
                  (
                    over c.put_u32-3.new.builder c.put_u32-3.new.out,
                    c.put_u32-3.ensures.built,
                    (over c.put_u32-4.new.builder c.put_u32-4.new.out, c.put_u32-4.ensures.built, (filled, c.put_u32-5.ensures.built, refl)),
                  ),
                ),
              ),
            ),
          ),
        ),
      ),
    ) in
    request_run b (over c.begin.new.self c.begin.new.out) filled (over c.end.new.self c.end.new.out) op _ _ c.args.seq (any family.Rule c.head.result) ps c.begin.ensures.built puts c.end.ensures.built c.type_of-kind.ensures c.flags.ensures
    ∙ ap (λ (h : RuleHead). with_message b (request op c.args.seq (any family.Rule h) ps)) c.head.ensures
    ∙ ap (λ (o : Order). with_message b (rule_message r op c.args.seq o)) c.order-order.ensures

pub returns-clause-puts : goal.returns-clause-puts
returns-clause-puts c =
    let b = over c.args.builder.now c.args.out.now in
    let r = c.args.self.now in
    on_ok c.end.result c.end.new.self.refusal c.end.ensures.answer (λ none.
    request_holds c.args.operation c.args.seq (any family.Rule (rule_head r)) (rule_parts r (order_of b)) (rule_fits r (order_of b)) b (over c.begin.new.self c.begin.new.out) (over c.end.new.self c.end.new.out) c.type_of-kind.ensures c.flags.ensures (ap (any family.Rule) c.head.ensures) c.begin.result c.begin.ensures.built c.begin.ensures.answer c.begin.ensures.puts (returns-clause-built c) none)
