-- The answer to C of a request.
use Rattle.std.specs.Prelude.{◌≡◌, ℕ, List, Option, Some, None}
use Rattle.nl_attr.specs.declared.order.Order.{Order}
use Rattle.nl_route.specs.declared.family.Family.{Family}
use Rattle.nl_dump.specs.Request.{dump_of, request_of}
use Rattle.rtnl_c.specs.declared.put.Put.{Put}
use Rattle.rtnl_c.specs.Codes.{no_kind}
use Rattle.rtnl_c.specs.Put.{IsPut, not_put}

-- the request of a dump of the family, where it is known
abbrev pub Asks : Option Family → Order → ℕ → ℕ → List ℕ → List ℕ → Put → Type 0
Asks None o family seq old new a = (a ≡ not_put no_kind) × (new ≡ old)
Asks (Some k) o family seq old new a = IsPut (request_of o (dump_of k family seq 0)) old new a
