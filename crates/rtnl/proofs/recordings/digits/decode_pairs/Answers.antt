use Rattle.std.proofs.Common.{◌+◌, ◌*◌, ◌<◌, ◌≡◌, ◌∙◌, arith, max, rules, slice_index}
use Rattle.std.proofs.Math.Nat.{le-max_left, le-max_right}
use Rattle.hex.proofs.Pairs.{decode_done, decode_sized-pairs, decode_step}
use Rattle.rtnl.proofs.Decoded.{pair_of}
use Rattle.rtnl.proofs.recordings.digits.decode_pairs.Goals as goal

pub loop-i-preserved : goal.loop-i-preserved
loop-i-preserved c below =
    let all : c.max-highest.result < 16 = below in
    let first : c.max.result ≡ max c.loop-i.highest c.value-high.result = c.max.ensures in
    let second : c.max-highest.result ≡ max c.max.result c.value-low.result = c.max-highest.ensures in
    let a = le-max_left c.loop-i.highest c.value-high.result in
    let b = le-max_right c.loop-i.highest c.value-high.result in
    let e = le-max_left c.max.result c.value-low.result in
    let f = le-max_right c.max.result c.value-low.result in
    let before : c.loop-i.highest < 16 = omega (arith, all, first, second, a, e) in
    let high : c.value-high.result < 16 = omega (arith, all, first, second, b, e) in
    let low : c.value-low.result < 16 = omega (arith, all, second, f) in
    let pair = pair_of (slice_index c.args.digits.now (2 * c.loop-i.i)) (slice_index c.args.digits.now (2 * c.loop-i.i + 1)) (2 * c.loop-i.i) _ _ high low (c.value-high.ensures high) (c.value-low.ensures low) in
    decode_step c.args.digits.now c.loop-i.bytes c.loop-i.i _ (omega arith) (omega arith) pair (c.loop-i.invariant before)

pub returns : goal.returns
returns c all =
    let below : c.loop-i.highest < 16 = search rules in
    decode_sized-pairs c.args.digits.now _ c.if-digits-ne0.false c.if-digits-bytes.false
    ∙ decode_done c.args.digits.now c.loop-i.bytes c.loop-i.i (omega arith) (omega arith) (c.loop-i.invariant below)
