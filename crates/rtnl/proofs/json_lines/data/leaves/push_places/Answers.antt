use Rattle.rtnl.proofs.Common.{◌∙◌, ◌∷◌, [], ap, refl, json_tokens}
use Rattle.json.specs.Token.{key}
use Rattle.nl_values.specs.Known.{name_of}
use Rattle.rtnl.specs.Data.{place_name}
use Rattle.nl_values.specs.Numbers.{integer_of}
use Rattle.rtnl.specs.Json.{◌⊕◌, signed}
use Rattle.rtnl.proofs.Payloads.{counter_written, counters_written, others_fit}
use Rattle.rtnl.proofs.json_lines.data.leaves.push_places.Goals as goal

pub loop-place-preserved : goal.loop-place-preserved
loop-place-preserved c =
    let so_far = c.loop-place.invariant in
    let size = c.size-size.result in
    let n = c.count_in-place-end.result in
    let i = c.loop-place.place in
    let bs = c.loop-place.left.now in
    let rest = c.bytes_from-left.result.now in
    let named = c.loop-place.line ⊕ (key (place_name i (name_of c.args.names i)) ∷ []) in
    let step = c.in_ok-push_place.ensures ∙ ap (λ z. named ⊕ json_tokens (signed z)) c.integer-value.ensures in (
      counter_written c.args.names (λ piece. signed (integer_of c.args.number c.args.order piece)) size n i bs c.bytes_up_to.result.now rest
          c.loop-place.line named c.push_place.new.line _
          c.bytes_up_to.ensures c.bytes_from-left.ensures c.loop-place-test.true refl step so_far.0,
      others_fit size n i bs rest c.bytes_from-left.ensures c.loop-place-test.true so_far.1,
      so_far.2,
    )

pub returns : goal.returns
returns c =
    counters_written c.args.names (λ piece. signed (integer_of c.args.number c.args.order piece)) c.size-size.result c.count_in-place-end.result c.loop-place.place c.loop-place.left.now
    c.loop-place.line _ c.loop-place-test.false c.loop-place.invariant.0
