-- The answer to C of the message, the attribute or the next hop at a place.
use Rattle.std.specs.Prelude.{◌≡◌, ◌+◌, ℕ, List, length, pos, false, Option, Some, None, Result, Ok, Err}
use Rattle.nl_attr.specs.declared.fault.Fault.{Fault}
use Rattle.nl_attr.specs.declared.order.Order.{Order}
use Rattle.nl_attr.specs.declared.walk.attrs.Part.{Part}
use Rattle.nl_attr.specs.declared.walk.hops.HopPart.{HopPart}
use Rattle.nl_attr.specs.Codes.{fault_code}
use Rattle.nl_attr.specs.Walk as Walk
use Rattle.nl_frame.specs.declared.front.Frame.{Frame}
use Rattle.nl_frame.specs.Front as Front
use Rattle.rtnl_c.specs.declared.cursors.AttrAt.{AttrAt}
use Rattle.rtnl_c.specs.declared.cursors.HopAt.{HopAt}
use Rattle.rtnl_c.specs.declared.cursors.MessageAt.{MessageAt}

-- ---- messages

-- no message stands at this place, for this reason
abbrev pub no_message : ℕ → ℕ → MessageAt
no_message place code = record { place = place; next = place; len = 0; seq = 0; port = 0; kind = 0; flags = 0; code = code }

-- the answer to C of what stands there: 255 of nothing, the number of the rule that is broken, or the message
abbrev pub message_found : ℕ → Option (Result Frame Fault) → MessageAt
message_found place None = no_message place 255
message_found place (Some (Err f)) = no_message place (fault_code f)
message_found place (Some (Ok f)) = record {
  place = place;
  next = place + f.span;
  len = length f.payload.now;
  seq = f.header.seq;
  port = f.header.port;
  kind = f.header.kind;
  flags = f.header.flags;
  code = 0;
}

-- this is the answer to C of what stands at a place of these bytes
abbrev pub MessageStands : Order → List ℕ → ℕ → MessageAt → Type 0
MessageStands o bytes place m = (found : Option (Result Frame Fault)) × Front.StandsAt o bytes place found × (m ≡ message_found place found)

-- ---- attributes

-- no attribute stands at this place, for this reason
abbrev pub no_attr : ℕ → ℕ → AttrAt
no_attr place code = record { place = place; next = place; len = 0; number = 0; nested = false; net = false; code = code }

-- the answer to C of what stands there, as for messages
abbrev pub attr_found : ℕ → Option (Result Part Fault) → AttrAt
attr_found place None = no_attr place 255
attr_found place (Some (Err f)) = no_attr place (fault_code f)
attr_found place (Some (Ok p)) = record {
  place = place;
  next = place + p.span;
  len = length p.payload.now;
  number = p.number;
  nested = p.flags.nested;
  net = p.flags.net;
  code = 0;
}

-- this is the answer to C of what stands at a place of these bytes
abbrev pub AttrStands : Order → List ℕ → ℕ → AttrAt → Type 0
AttrStands o bytes place a = (found : Option (Result Part Fault)) × Walk.StandsAt 4 Walk.IsPart o bytes place found × (a ≡ attr_found place found)

-- ---- next hops

-- no next hop stands at this place, for this reason
abbrev pub no_hop : ℕ → ℕ → HopAt
no_hop place code = record { place = place; next = place; len = 0; ifindex = pos 0; flags = 0; hops = 0; code = code }

-- the answer to C of what stands there, as for messages
abbrev pub hop_found : ℕ → Option (Result HopPart Fault) → HopAt
hop_found place None = no_hop place 255
hop_found place (Some (Err f)) = no_hop place (fault_code f)
hop_found place (Some (Ok p)) = record {
  place = place;
  next = place + p.span;
  len = length p.rest.now;
  ifindex = p.ifindex;
  flags = p.flags;
  hops = p.hops;
  code = 0;
}

-- this is the answer to C of what stands at a place of these bytes
abbrev pub HopStands : Order → List ℕ → ℕ → HopAt → Type 0
HopStands o bytes place h = (found : Option (Result HopPart Fault)) × Walk.StandsAt 8 Walk.IsHopPart o bytes place found × (h ≡ hop_found place found)
