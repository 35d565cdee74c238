-- The attributes of a request, each of which is there or not, and the message that they make.
use Rattle.std.specs.Prelude.{ℕ, List, [], ◌∷◌, ◌++◌, Option, Some, None}
use Rattle.std.specs.Borrow.{Bor}
use Rattle.nl_attr.specs.declared.order.Order.{Order}
use Rattle.nl_attr.specs.Numbers.{num}
use Rattle.nl_attr.specs.Tree.{Val, bytes, Items, no_items, item}
use Rattle.nl_route.specs.Families.{AnyHead, family_of}
use Rattle.nl_frame.specs.Message.{MessageVal, object}
use Rattle.nl_frame.specs.Building.{no_flags}
use Rattle.nl_frame.specs.Calls.{Call, calls_of_val}
use Rattle.nl_request.specs.declared.operation.Operation.{Operation}
use Rattle.nl_request.specs.Operations.{flags_of, type_of}

-- an attribute, where there is one: its number, and what it holds
abbrev pub Part : Type 0
Part = Option (ℕ × Val)

-- ---- what an attribute holds

-- bytes, where there are some
abbrev pub bytes_part : ℕ → Option (Bor (List ℕ)) → Part
bytes_part n None = None
bytes_part n (Some b) = Some (n, bytes b.now)

-- a text, and one zero byte behind it
abbrev pub text_part : ℕ → Option (Bor (List ℕ)) → Part
text_part n None = None
text_part n (Some t) = Some (n, bytes (t.now ++ 0 ∷ []))

-- a number, in w bytes
abbrev pub number_part : ℕ → ℕ → Order → Option ℕ → Part
number_part n w o None = None
number_part n w o (Some x) = Some (n, bytes (num x w o))

-- ---- the attributes of a request

-- those that there are, in this order, with neither flag bit
abbrev pub items_of : List Part → Items
items_of [] = no_items
items_of (None ∷ ps) = items_of ps
items_of (Some p ∷ ps) = item p.0 no_flags p.1 (items_of ps)

-- the request's message: of the type and the flags of what it asks for, with this sequence number and port id 0, which is the kernel's; its head; and its attributes
abbrev pub request : Operation → ℕ → AnyHead → List Part → MessageVal
request op seq head ps = record { kind = type_of op (family_of head); flags = flags_of op; seq = seq; port = 0; body = object head (items_of ps) }

-- ---- the calls that put one into a builder

-- none where it isn't there
abbrev pub calls_of_part : Part → List Call
calls_of_part None = []
calls_of_part (Some p) = calls_of_val p.0 no_flags p.1
