use Rattle.std.proofs.Common.{◌≡◌, drop}
use Rattle.nl_values.specs.Texts.{has_plain}
use Rattle.nl_values.proofs.text.is_free_of_controls.Given as goal

-- what is left is tested behind the byte before it
abbrev pub invariant-loop-byte : goal.invariant-loop-byte
invariant-loop-byte l = has_plain l.before (drop l.byte-index l.bytes) ≡ has_plain 0 l.fn.bytes
