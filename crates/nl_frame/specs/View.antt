-- What a value of the program stands for.
use Rattle.nl_attr.specs.View.{attrs_view}
use Rattle.nl_route.specs.declared.family.Family.TheVariants as family
use Rattle.nl_route.specs.Families.{any}
use Rattle.nl_frame.specs.declared.body.Body.{Body}
use Rattle.nl_frame.specs.declared.body.Body.TheVariants as body
use Rattle.nl_frame.specs.declared.body.Message.{Message}
use Rattle.nl_frame.specs.Message.{BodyVal, noop, error, done, overrun, object, get, other, MessageVal}

-- the body that a body of the program is
abbrev pub body_view : Body → BodyVal
body_view (body.Noop v) = noop v.items
body_view (body.Error code answered tail) = error code answered tail.items
body_view (body.Done status tail) = done status tail.items
body_view (body.Overrun v) = overrun v.items
body_view (body.Link b) = object (any family.Link b.head) (attrs_view b.attrs.items)
body_view (body.Addr b) = object (any family.Addr b.head) (attrs_view b.attrs.items)
body_view (body.Route b) = object (any family.Route b.head) (attrs_view b.attrs.items)
body_view (body.Neigh b) = object (any family.Neigh b.head) (attrs_view b.attrs.items)
body_view (body.Rule b) = object (any family.Rule b.head) (attrs_view b.attrs.items)
body_view (body.Get n tail) = get n tail.items
body_view (body.Other v) = other v.items

-- the message that one of the program is
abbrev pub message_view : Message → MessageVal
message_view m = record { kind = m.kind; flags = m.flags; seq = m.seq; port = m.port; body = body_view m.body }
