use Rattle.std.proofs.Common.{◌≡◌, ◌<◌, ◌+◌, ◌∷◌, [], ◌∙◌, ℕ, List, length, get_or, min, drop, ap, arith, rules}
use Rattle.std.proofs.Math.ListN.{drop_of_length-le}
use Rattle.rtnl.proofs.Common.{drop_more, on_ok_weaker, BytePart, parts_by, unread, row_printed, marks_in, piece_view}
use Rattle.rtnl.specs.declared.bytes.parts.Piece.{Piece}
use Rattle.rtnl.proofs.ByteRows.{has_rows, last_part, leaves, leaves_none, next_part, none_left}
use Rattle.rtnl.proofs.bytes.parts.push_parts.Goals as goal

-- the next piece
next_is : (ps : List Piece) (k : ℕ) (d : Piece) → k < length ps → marks_in (drop k ps) ≡ piece_view (get_or ps k d) ∷ marks_in (drop (k + 1) ps)
next_is ps k d below = ap marks_in (drop_more ps k d below)

pub loop-piece-preserved : goal.loop-piece-preserved
loop-piece-preserved c =
    let a = c.args in
    let l = c.loop-piece in
    let print = row_printed a.how.format a.how.order a.how.number in
    let k = l.piece-index in
    let some : 0 < c.min-size.result = search rules in (
      next_part print _ a.out.now.items l.place l.rest.now l.refusal (marks_in (drop k a.pieces.now)) l.out.items l.invariant.0 _ _ (next_is a.pieces.now k _ c.loop-piece-test.true) c.min-size.result
          (c.min-size.ensures ∙ ap (λ (n : ℕ). min n (length l.rest.now)) c.size_from.ensures) some _ _ _ c.split_at.ensures.front c.split_at.ensures.back c.in_ok-push_part.ensures,
      omega (arith, l.invariant.1, c.split_at.ensures.back_len, c.min-size.ensures),
    )

pub returns-then-is_empty : goal.returns-then-is_empty
returns-then-is_empty c =
    let a = c.args in
    let l = c.loop-piece in
    let print = row_printed a.how.format a.how.order a.how.number in
    let none : length l.rest.now ≡ 0 = search rules in
    let end : drop l.piece-index a.pieces.now ≡ [] = drop_of_length-le a.pieces.now c.loop-piece-test.false in
    let left = parts_by l.place l.rest.now l.refusal (marks_in (drop l.piece-index a.pieces.now)) in
    has_rows print a.start a.bytes.now a.refusal (marks_in a.pieces.now) a.out.now.items l.out.items
    (none_left print _ a.out.now.items left l.out.items l.invariant.0
    (ap (λ (ps : List Piece). parts_by l.place l.rest.now l.refusal (marks_in ps)) end ∙ leaves_none l.place l.rest.now l.refusal none))

pub returns : goal.returns
returns c =
    let a = c.args in
    let l = c.loop-piece in
    let print = row_printed a.how.format a.how.order a.how.number in
    let some : 0 < length l.rest.now = search rules in
    let end : drop l.piece-index a.pieces.now ≡ [] = drop_of_length-le a.pieces.now c.loop-piece-test.false in
    let left = parts_by l.place l.rest.now l.refusal (marks_in (drop l.piece-index a.pieces.now)) in
    let p : BytePart = record { place = l.place; bytes = l.rest.now; label = unread; refusal = l.refusal } in
    on_ok_weaker c.push_part-2.result
    (λ adds.
    has_rows print a.start a.bytes.now a.refusal (marks_in a.pieces.now) a.out.now.items c.push_part-2.new.out.items
    (last_part print _ a.out.now.items left l.out.items l.invariant.0 p c.push_part-2.new.out.items
    (ap (λ (ps : List Piece). parts_by l.place l.rest.now l.refusal (marks_in ps)) end ∙ leaves l.place l.rest.now l.refusal some) adds))
    c.push_part-2.ensures
