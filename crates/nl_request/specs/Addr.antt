-- The message of an address's request: ifaddrmsg and attributes of linux/if_addr.h.
use Rattle.std.specs.Prelude.{ℕ, nat_lt, if◌then◌else◌, List, [], ◌∷◌, ◌++◌, Option, Some, None}
use Rattle.std.specs.Borrow.{Bor}
use Rattle.nl_attr.specs.declared.order.Order.{Order}
use Rattle.nl_attr.specs.Numbers.{num}
use Rattle.nl_attr.specs.Tree.{bytes}
use Rattle.nl_route.specs.declared.family.Family.TheVariants as family
use Rattle.nl_route.specs.declared.ifaddrmsg.AddrHead.{AddrHead}
use Rattle.nl_route.specs.Families.{any}
use Rattle.nl_route.specs.Addr.{IFA_ADDRESS, IFA_LOCAL, IFA_LABEL, IFA_BROADCAST, IFA_FLAGS}
use Rattle.nl_frame.specs.Message.{MessageVal}
use Rattle.nl_request.specs.declared.operation.Operation.{Operation}
use Rattle.nl_request.specs.declared.addr.AddrRequest.{AddrRequest}
use Rattle.nl_request.specs.declared.addr.Lifetimes.{Lifetimes}
use Rattle.nl_request.specs.Parts.{Part, bytes_part, text_part, request}

-- ---- the number of an attribute that nl_route has no name for

-- the lifetimes of an address
abbrev pub IFA_CACHEINFO : ℕ
IFA_CACHEINFO = 6

-- ---- the message

-- its head, with the flags where they fit a byte
abbrev pub addr_head : AddrRequest → AddrHead
addr_head r = record {
  family = r.family;
  prefixlen = r.prefix_length;
  flags = if nat_lt r.flags 256 then r.flags else 0;
  scope = r.scope;
  index = r.index;
}

-- the flags that don't fit the head's byte
abbrev pub flags_part : Order → ℕ → Part
flags_part o f = if nat_lt f 256 then None else Some (IFA_FLAGS, bytes (num f 4 o))

-- the local address once more, where there is no other end
abbrev pub own_part : List ℕ → Option (Bor (List ℕ)) → Part
own_part local None = Some (IFA_ADDRESS, bytes local)
own_part local (Some p) = None

-- the lifetimes: ifa_cacheinfo, with the preferred one first, whose two times the kernel sets
abbrev pub lifetimes_part : Order → Option Lifetimes → Part
lifetimes_part o None = None
lifetimes_part o (Some l) = Some (IFA_CACHEINFO, bytes (num l.preferred 4 o ++ num l.valid 4 o ++ num 0 4 o ++ num 0 4 o))

-- its attributes
abbrev pub addr_parts : AddrRequest → Order → List Part
addr_parts r o =
    Some (IFA_LOCAL, bytes r.local.now)
    ∷ bytes_part IFA_ADDRESS r.peer
    ∷ bytes_part IFA_BROADCAST r.broadcast
    ∷ text_part IFA_LABEL r.label
    ∷ flags_part o r.flags
    ∷ own_part r.local.now r.peer
    ∷ lifetimes_part o r.lifetimes
    ∷ []

-- the whole message
abbrev pub addr_message : AddrRequest → Operation → ℕ → Order → MessageVal
addr_message r op seq o = request op seq (any family.Addr (addr_head r)) (addr_parts r o)
