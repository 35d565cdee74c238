use Rattle.nl_request.proofs.Common.{ap, ◌∙◌, refl, Order, any, request, with_message, over, order_of}
use Rattle.nl_route.specs.declared.family.Family.TheVariants as family
use Rattle.nl_route.specs.declared.ifaddrmsg.AddrHead.{AddrHead}
use Rattle.nl_request.specs.Addr.{addr_head, addr_parts, addr_message}
use Rattle.nl_request.proofs.Puts.{request_holds, on_ok}
use Rattle.nl_request.proofs.Fits.{addr_fits}
use Rattle.nl_request.proofs.Runs.{Puts, request_run}
use Rattle.nl_request.proofs.addr.AddrRequest.put.Goals as goal

pub returns-clause-built : goal.returns-clause-built
returns-clause-built c =
    let b = over c.args.builder.now c.args.out.now in
    let r = c.args.self.now in
    let op = c.args.operation in
    let ps = addr_parts r c.order-order.result in
    let filled = over c.put_lifetimes.new.builder c.put_lifetimes.new.out in
    let puts : Puts (over c.begin.new.self c.begin.new.out) ps filled = (
      over c.put_bytes.new.self c.put_bytes.new.out,
      c.put_bytes.ensures.built,
      (
        over c.put_bytes-2.new.builder c.put_bytes-2.new.out,
        c.put_bytes-2.ensures.built,
        (
          over c.put_bytes-3.new.builder c.put_bytes-3.new.out,
          c.put_bytes-3.ensures.built,
          (
            over c.put_text.new.builder c.put_text.new.out,
            c.put_text.ensures.built,
            (
              over c.put_flags.new.builder c.put_flags.new.out,
              c.put_flags.ensures.built,
              (
                over c.put_own.new.builder c.put_own.new.out,
                c.put_own.ensures.built,
                (filled, c.put_lifetimes.ensures.built, refl),
              ),
            ),
          ),
        ),
      ),
    ) in
    request_run b (over c.begin.new.self c.begin.new.out) filled (over c.end.new.self c.end.new.out) op _ _ c.args.seq (any family.Addr c.head.result) ps c.begin.ensures.built puts c.end.ensures.built c.type_of-kind.ensures c.flags.ensures
    ∙ ap (λ (h : AddrHead). with_message b (request op c.args.seq (any family.Addr h) ps)) c.head.ensures
    ∙ ap (λ (o : Order). with_message b (addr_message r op c.args.seq o)) c.order-order.ensures

pub returns-clause-puts : goal.returns-clause-puts
returns-clause-puts c =
    let b = over c.args.builder.now c.args.out.now in
    let r = c.args.self.now in
    on_ok c.end.result c.end.new.self.refusal c.end.ensures.answer (λ none.
    request_holds c.args.operation c.args.seq (any family.Addr (addr_head r)) (addr_parts r (order_of b)) (addr_fits r (order_of b)) b (over c.begin.new.self c.begin.new.out) (over c.end.new.self c.end.new.out) c.type_of-kind.ensures c.flags.ensures (ap (any family.Addr) c.head.ensures) c.begin.result c.begin.ensures.built c.begin.ensures.answer c.begin.ensures.puts (returns-clause-built c) none)
