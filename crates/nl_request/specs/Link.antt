-- The message of a link's request: ifinfomsg of linux/rtnetlink.h, and attributes of linux/if_link.h.
use Rattle.std.specs.Prelude.{ℕ, Bool, true, false, List, [], ◌∷◌, Option, Some, None}
use Rattle.nl_attr.specs.Fixed.{IFLA_LINKINFO}
use Rattle.nl_attr.specs.declared.order.Order.{Order}
use Rattle.nl_attr.specs.Tree.{list, bytes}
use Rattle.nl_route.specs.declared.family.Family.TheVariants as family
use Rattle.nl_route.specs.declared.ifinfomsg.LinkHead.{LinkHead}
use Rattle.nl_route.specs.Families.{any}
use Rattle.nl_route.specs.Link.{IFLA_IFNAME, IFLA_MTU, IFLA_MASTER, IFLA_INFO_KIND}
use Rattle.nl_frame.specs.Message.{MessageVal}
use Rattle.nl_request.specs.declared.operation.Operation.{Operation}
use Rattle.nl_request.specs.declared.link.LinkRequest.{LinkRequest}
use Rattle.nl_request.specs.declared.link.LinkInfo.{LinkInfo}
use Rattle.nl_request.specs.Parts.{Part, bytes_part, text_part, number_part, items_of, request}

-- ---- the numbers of its attributes that nl_route has no name for

-- the link-layer address of an interface
abbrev pub IFLA_ADDRESS : ℕ
IFLA_ADDRESS = 1

-- the index of the interface that one lies on
abbrev pub IFLA_LINK : ℕ
IFLA_LINK = 5

-- what else there is to say of a kind
abbrev pub IFLA_INFO_DATA : ℕ
IFLA_INFO_DATA = 2

-- ---- the message

-- IFF_UP, where the request brings it up or down
abbrev pub up_bits : Bool → ℕ
up_bits true = 1
up_bits false = 0

-- the flags that are set, and those that are meant
abbrev pub flags_of_up : Option Bool → ℕ
flags_of_up None = 0
flags_of_up (Some up) = up_bits up

abbrev pub change_of_up : Option Bool → ℕ
change_of_up None = 0
change_of_up (Some up) = 1

-- its head
abbrev pub link_head : LinkRequest → LinkHead
link_head r = record { family = 0; hardware = 0; index = r.index; flags = flags_of_up r.up; change = change_of_up r.up }

-- the kind of a virtual interface, without a zero byte behind it, and what else there is to say of it
abbrev pub info_part : Option LinkInfo → Part
info_part None = None
info_part (Some i) = Some (IFLA_LINKINFO, list (items_of (Some (IFLA_INFO_KIND, bytes i.kind.now) ∷ bytes_part IFLA_INFO_DATA i.«data» ∷ [])))

-- its attributes
abbrev pub link_parts : LinkRequest → Order → List Part
link_parts r o =
    bytes_part IFLA_ADDRESS r.address
    ∷ number_part IFLA_MTU 4 o r.mtu
    ∷ number_part IFLA_MASTER 4 o r.master
    ∷ number_part IFLA_LINK 4 o r.link
    ∷ text_part IFLA_IFNAME r.name
    ∷ info_part r.info
    ∷ []

-- the whole message
abbrev pub link_message : LinkRequest → Operation → ℕ → Order → MessageVal
link_message r op seq o = request op seq (any family.Link (link_head r)) (link_parts r o)
