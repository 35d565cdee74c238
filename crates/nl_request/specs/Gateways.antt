-- The gateway of a next hop: an address of up to 16 bytes, or none.
use Rattle.std.specs.Prelude.{ℕ, List, [], ◌∷◌, take, Some, None}
use Rattle.nl_attr.specs.Tree.{bytes}
use Rattle.nl_route.specs.Route.{RTA_GATEWAY}
use Rattle.nl_request.specs.declared.gateway.Gateway.{Gateway}
use Rattle.nl_request.specs.Parts.{Part}

-- its address: as many of its bytes as its length says
abbrev pub gateway_bytes : Gateway → List ℕ
gateway_bytes g = take g.len g.bytes

-- an attribute of such an address, where it has a byte
abbrev pub gateway_part : List ℕ → Part
gateway_part [] = None
gateway_part (b ∷ bs) = Some (RTA_GATEWAY, bytes (b ∷ bs))
