use Rattle.rtnl.proofs.Common.{ℕ, arith, length-take}
use Rattle.rtnl.proofs.KnownBytes.{at_most_more}
use Rattle.rtnl.proofs.streams.source.read_input.Goals as goal

pub returns-in_err-extend_from_slice-in-Ok-clause-bounded :
    goal.returns-in_err-extend_from_slice-in-Ok-clause-bounded
returns-in_err-extend_from_slice-in-Ok-clause-bounded g c =
    at_most_more _ _ _ _ _ _ _ c.loop-buffer.invariant.given c.in-Ok.ensures.bytes.0 (omega (arith, c.in-Ok.ensures.fits, length-take {A = ℕ}))
