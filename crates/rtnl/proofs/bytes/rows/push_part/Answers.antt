use Rattle.std.proofs.Common.{◌≡◌, ◌<◌, ◌++◌, length, min, sym, arith, rules}
use Rattle.rtnl.proofs.Common.{nil_from_length, take-append-drop, row_printed, part_view}
use Rattle.rtnl.proofs.ByteRows.{ends, one_row}
use Rattle.rtnl.proofs.bytes.rows.push_part.Goals as goal

pub loop-rest-preserved : goal.loop-rest-preserved
loop-rest-preserved c =
    let a = c.args in
    let l = c.loop-rest in
    let print = row_printed a.how.format a.how.order a.how.number in
    let front = c.split_at.result.0.now in
    let others = c.split_at.result.1.now in
    let n : length front ≡ c.min.result = c.split_at.ensures.front_len in
    let whole : front ++ others ≡ l.rest.now = rw (c.split_at.ensures.front, c.split_at.ensures.back) (take-append-drop c.min.result l.rest.now) in
    let some : 0 < length l.rest.now = search rules in
    let size : c.min.result ≡ min (length l.rest.now) 16 = c.min.ensures in (
      one_row print (part_view a.part) a.out.now.items l.is_first l.place l.rest.now l.out.items l.invariant.0 front others c.push_row.new.out.items
          (omega (arith, n, some, size)) (omega (arith, n, size)) (sym whole) c.in_ok-push_row.ensures,
      omega (arith, l.invariant.1, n, c.split_at.ensures.back_len, size),
    )

pub returns : goal.returns
returns c =
    let a = c.args in
    let l = c.loop-rest in
    let none : length l.rest.now ≡ 0 = search rules in
    ends (row_printed a.how.format a.how.order a.how.number) (part_view a.part) a.out.now.items l.is_first l.place l.rest.now l.out.items l.invariant.0 (nil_from_length l.rest.now none)
