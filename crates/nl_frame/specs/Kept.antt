-- How many bytes messages keep: those of their tails and leaves, 4 for each attribute, 8 for each next hop and 16 for each message.
use Rattle.std.specs.Prelude.{ℕ, ◌+◌, List, [], ◌∷◌, length}
use Rattle.nl_attr.specs.Kept as attr
use Rattle.nl_frame.specs.Message.{BodyVal, noop, error, done, overrun, object, get, other, MessageVal}

-- of a body
abbrev pub body_kept : BodyVal → ℕ
body_kept (noop bs) = length bs
body_kept (error code h tail) = length tail
body_kept (done status tail) = length tail
body_kept (overrun bs) = length bs
body_kept (object h is) = attr.kept is
body_kept (get n tail) = length tail
body_kept (other bs) = length bs

-- of messages
abbrev pub kept : List MessageVal → ℕ
kept [] = 0
kept (m ∷ ms) = 16 + body_kept m.body + kept ms
