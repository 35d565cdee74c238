use Rattle.nl_dump.proofs.Common.{arith, ap, length, ◌∙◌, sym, length-take-le, written, header_fields}
use Rattle.nl_route.proofs.Fields.{length-written}
use Rattle.nl_frame.specs.declared.header.Header.{Header}
use Rattle.nl_dump.proofs.Requests.{request_put}
use Rattle.nl_dump.proofs.dump.Dump.write_request.Goals as goal

pub copy_from_slice-requires : goal.copy_from_slice-requires
copy_from_slice-requires c =
    length-take-le 16 c.args.out.now (omega arith)
    ∙ sym (ap length c.bytes.ensures ∙ length-written c.args.order (header_fields c.request_header.result))

pub returns : goal.returns
returns c =
    request_put c.args.order c.args.self.now c.copy_from_slice.new.self c.args.out.now c.fill.new.self c.requires
    (c.copy_from_slice.ensures.after ∙ c.bytes.ensures ∙ ap (λ (h : Header). written c.args.order (header_fields h)) c.request_header.ensures) (c.fill.ensures.after (λ y e. e))
