-- A prefix of a request: an address of which the first bits count.
use Rattle.std.specs.Prelude.{ℕ, Option, Some, None}
use Rattle.nl_attr.specs.Tree.{bytes}
use Rattle.nl_request.specs.declared.prefix.Prefix.{Prefix}
use Rattle.nl_request.specs.Parts.{Part}

-- its address, where there is one
abbrev pub prefix_part : ℕ → Option Prefix → Part
prefix_part n None = None
prefix_part n (Some p) = Some (n, bytes p.address.now)

-- how many bits count: none where there is no prefix
abbrev pub prefix_length : Option Prefix → ℕ
prefix_length None = 0
prefix_length (Some p) = p.length
