-- The events of messages: those of a scan of the datagram whose layout they are, in the order of its heads.
use Rattle.std.specs.Prelude.{◌+◌, ℕ, List, [], ◌∷◌, ◌++◌}
use Rattle.nl_attr.specs.declared.events.Event.{Event}
use Rattle.nl_attr.specs.Numbers.{aligned}
use Rattle.nl_attr.specs.Listed.{items_events}
use Rattle.nl_route.specs.Families.{head_size, family_of}
use Rattle.nl_frame.specs.Message.{BodyVal, object, MessageVal}
use Rattle.nl_frame.specs.Written.{body_len}
use Rattle.nl_frame.specs.HeadOrder.{header_event}

-- the heads of the attributes in a body at a place
abbrev pub body_events : ℕ → BodyVal → List Event
body_events place (object h is) = items_events (place + head_size (family_of h)) 0 is
body_events place b = []

-- each message, then the heads in its body; the next stands behind its padding
abbrev pub messages_events : ℕ → List MessageVal → List Event
messages_events place [] = []
messages_events place (m ∷ ms) =
    header_event place m.kind (aligned (body_len m.body)) ∷ (body_events (place + 16) m.body ++ messages_events (place + aligned (16 + body_len m.body)) ms)
