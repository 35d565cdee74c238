use Rattle.rtnl.proofs.Common.{◌∙◌, ap, json_tokens}
use Rattle.nl_values.specs.Numbers.{integer_of}
use Rattle.rtnl.specs.Json.{◌⊕◌, signed}
use Rattle.rtnl.proofs.Payloads.{others_fit, piece_written, pieces_written}
use Rattle.rtnl.proofs.json_lines.data.leaves.push_numbers.Goals as goal

pub loop-index-preserved : goal.loop-index-preserved
loop-index-preserved c =
    let so_far = c.loop-index.invariant in
    let size = c.size-size.result in
    let n = c.count_in-index-end.result in
    let i = c.loop-index._index in
    let bs = c.loop-index.left.now in
    let rest = c.bytes_from-left.result.now in
    let step = c.in_ok-push_integer.ensures ∙ ap (λ z. c.loop-index.line ⊕ json_tokens (signed z)) c.integer.ensures in (
      piece_written (λ piece. signed (integer_of c.args.number c.args.order piece)) size n i bs c.bytes_up_to.result.now rest c.loop-index.line c.push_integer.new.line _
          c.bytes_up_to.ensures c.bytes_from-left.ensures c.loop-index-test.true step so_far.0,
      others_fit size n i bs rest c.bytes_from-left.ensures c.loop-index-test.true so_far.1,
      so_far.2,
    )

pub returns : goal.returns
returns c =
    pieces_written (λ piece. signed (integer_of c.args.number c.args.order piece)) c.size-size.result c.count_in-index-end.result c.loop-index._index c.loop-index.left.now
    c.loop-index.line _ c.loop-index-test.false c.loop-index.invariant.0
