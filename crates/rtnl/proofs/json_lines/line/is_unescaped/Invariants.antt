use Rattle.rtnl.proofs.Common.{◌≡◌, drop, is_unescaped}
use Rattle.rtnl.proofs.json_lines.line.is_unescaped.Given as goal

-- the bytes that are left decide
abbrev pub invariant-loop-byte : goal.invariant-loop-byte
invariant-loop-byte l = is_unescaped (drop l.byte-index l.text) ≡ is_unescaped l.text
