use Rattle.std.proofs.Common.{◌≡◌, ◌++◌, ◌/◌, append_assoc, ap, length, rules, take, ◌∙◌}
use Rattle.std.proofs.lemmas.List.{nil_from_length}
use Rattle.std.specs.Slice.Iter.{chunks_rest}
use Rattle.rtnl.proofs.Decoded.{bad_digits, leads_all, leads_bad, leads_more, slice_decoded, slice_failed}
use Rattle.rtnl.proofs.recordings.lines.push_decoded.Goals as goal

pub returns-then-not-decode-clause-failed : goal.returns-then-not-decode-clause-failed
returns-then-not-decode-clause-failed c =
    let so_far = c.loop-piece.invariant.3 in
    let steps = c.in-Some.ensures.steps in
    let size = rw c.loop-piece.invariant.2 at steps.1.1 in
    let room : length (take (length c.in-Some.piece.now / 2) c.loop-piece.buffer) ≡ length c.in-Some.piece.now / 2 = search (rules, size) in
    let bad = slice_failed _ _ _ c.decode.ensures (search rules) in
    bad_digits c.args.number _ (leads_bad _ so_far.0 _ c.in-Some.piece.now (chunks_rest c.next.new.self) _ so_far.2 steps.1.0 size room bad)

pub loop-piece-preserved : goal.loop-piece-preserved
loop-piece-preserved c =
    let so_far = c.loop-piece.invariant.3 in
    let steps = c.in-Some.ensures.steps in
    let part = c.decode.new.bytes in
    let read = slice_decoded _ _ _ c.decode.ensures (search rules) in (
      search rules,
      tt,
      steps.0 ∙ c.loop-piece.invariant.2,
      (
        so_far.0 ++ part,
        c.in_ok-extend_from_slice.ensures.items ∙ ap (λ bytes. bytes ++ part) so_far.1 ∙ append_assoc c.args.bytes.now.items so_far.0 part,
        leads_more _ so_far.0 _ c.in-Some.piece.now (chunks_rest c.next.new.self) part _ so_far.2 steps.1.0 read,
      ),
    )

pub returns-clause-read : goal.returns-clause-read
returns-clause-read c =
    let so_far = c.loop-piece.invariant.3 in
    (so_far.0, leads_all _ _ _ so_far.2 (nil_from_length _ c.in-None.ensures.steps.1.0), so_far.1)
