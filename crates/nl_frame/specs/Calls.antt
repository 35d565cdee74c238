-- The calls of a builder, and what all of them make together.
use Rattle.std.specs.Prelude.{◌≡◌, ◌<◌, ◌≤◌, ◌+◌, ◌-◌, ◌^◌, ℕ, ℤ, List, [], ◌∷◌, ◌++◌, length, drop, FitsSigned}
use Rattle.std.specs.Int.{w32}
use Rattle.nl_attr.specs.declared.tree.AttrFlags.{AttrFlags}
use Rattle.nl_attr.specs.Tree.{Val, bytes, list, hops, Items, no_items, item, HopItems, no_hops, hop}
use Rattle.nl_route.specs.Fields.{AreRanged}
use Rattle.nl_route.specs.Families.{AnyHead, fields_of}
use Rattle.nl_frame.specs.Form.{form_of}
use Rattle.nl_frame.specs.Message.{BodyVal, object, MessageVal}
use Rattle.nl_frame.specs.Proper.{IsMismatchedBody, IsRangedBody}
use Rattle.nl_frame.specs.Written.{body_written}
use Rattle.nl_frame.specs.Building.{Built, order_of}
use Rattle.nl_frame.specs.Building as building
use Rattle.nl_frame.specs.Draft.{Draft, message, attribute, next_hop}
use Rattle.nl_frame.specs.Draft as draft

-- a message begins, with its type, its flags, its sequence number, its port id and its head; an attribute is put, with its number, its flags and its bytes; one opens; a next hop opens; either is closed; the message ends; a whole message is put, with its type, its flags, its sequence number, its port id and its body
pub data Call : Type 0 where
  begin : ℕ → ℕ → ℕ → ℕ → AnyHead → Call
  put : ℕ → AttrFlags → List ℕ → Call
  open_attr : ℕ → AttrFlags → Call
  open_hop : ℕ → ℕ → ℤ → Call
  close : Call
  end : Call
  put_message : ℕ → ℕ → ℕ → ℕ → BodyVal → Call

-- its numbers are in the ranges of their types, as each number of the program is; and a body is of its message's type
abbrev pub IsCall : Call → Type 0
IsCall (begin kind flags seq port h) = (kind < 2 ^ 16) × (flags < 2 ^ 16) × (seq < 2 ^ 32) × (port < 2 ^ 32) × AreRanged (fields_of h)
IsCall (open_hop f c i) = FitsSigned w32 i
IsCall (put_message kind flags seq port v) = (kind < 2 ^ 16) × (flags < 2 ^ 16) × (seq < 2 ^ 32) × (port < 2 ^ 32) × IsRangedBody v × (IsMismatchedBody v (form_of kind) → ⊥)
IsCall c = Unit {0}

-- what is built after a call
abbrev pub called : Built → Call → Built
called b (begin kind flags seq port h) = building.begin b kind flags seq port h
called b (put n f bs) = building.put b n f bs
called b (open_attr n f) = building.open_attr b n f
called b (open_hop f c i) = building.open_hop b f c i
called b close = building.close b
called b end = building.end b
called b (put_message kind flags seq port v) = building.put_message b kind flags seq port (body_written (order_of b) v)

-- what is put with it
abbrev pub put_by : Draft → Call → Draft
put_by d (begin kind flags seq port h) = draft.open_head d (message kind flags seq port h)
put_by d (put n f bs) = draft.put d n f bs
put_by d (open_attr n f) = draft.open_head d (attribute n f)
put_by d (open_hop f c i) = draft.open_head d (next_hop f c i)
put_by d close = draft.close d
put_by d end = draft.end d
put_by d (put_message kind flags seq port v) = draft.put_message d kind flags seq port v

-- what is built after all of them
abbrev pub run : Built → List Call → Built
run b [] = b
run b (c ∷ cs) = run (called b c) cs

-- what is put with all of them
abbrev pub put_by_all : Draft → List Call → Draft
put_by_all d [] = d
put_by_all d (c ∷ cs) = put_by_all (put_by d c) cs

-- nothing that was accepted is given back; accepted bytes and those behind them are together as many as before, which is as many as the slice has; and those behind them are as they were
pub record KeepsRoom (b c : Built) : Type 0 where
  pub grows : length b.front ≤ length c.front
  pub all : length c.front + length c.free ≡ length b.front + length b.free
  pub behind : c.free ≡ drop (length c.front - length b.front) b.free

-- ---- the calls that put a tree

abbrev mutual
  -- of an attribute with this value: it is put where it holds bytes, else it opens, has what is in it, and is closed
  pub calls_of_val : ℕ → AttrFlags → Val → List Call
  calls_of_val n f (bytes bs) = put n f bs ∷ []
  calls_of_val n f (list is) = open_attr n f ∷ (calls_of_items is ++ (close ∷ []))
  calls_of_val n f (hops hs) = open_attr n f ∷ (calls_of_hops hs ++ (close ∷ []))

  -- of attributes, one behind the other
  pub calls_of_items : Items → List Call
  calls_of_items no_items = []
  calls_of_items (item n f v more) = calls_of_val n f v ++ calls_of_items more

  -- of next hops, one behind the other
  pub calls_of_hops : HopItems → List Call
  calls_of_hops no_hops = []
  calls_of_hops (hop f c i is more) = open_hop f c i ∷ (calls_of_items is ++ (close ∷ calls_of_hops more))

-- of a message with this body: one of a family begins, has its attributes, and ends; another is put whole
abbrev pub calls_of_body : MessageVal → BodyVal → List Call
calls_of_body m (object h is) = begin m.kind m.flags m.seq m.port h ∷ (calls_of_items is ++ (end ∷ []))
calls_of_body m b = put_message m.kind m.flags m.seq m.port b ∷ []

-- of messages, one behind the other
abbrev pub calls_of : List MessageVal → List Call
calls_of [] = []
calls_of (m ∷ ms) = calls_of_body m m.body ++ calls_of ms

-- what is built once a message is put
abbrev pub with_message : Built → MessageVal → Built
with_message b m = run b (calls_of_body m m.body)

-- what was put once it is
abbrev pub and_message : Draft → MessageVal → Draft
and_message d m = record d { ended = d.ended ++ m ∷ [] }
