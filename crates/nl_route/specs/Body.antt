-- A family's body: its head, and attributes in the family's context.
use Rattle.std.specs.Prelude.{◌≡◌, ◌+◌, ◌*◌, ◌≤◌, ◌++◌, ℕ, List, length, take, drop, Result, IfOk, IfErr}
use Rattle.std.specs.Global.{Vec}
use Rattle.nl_attr.specs.declared.fault.ListError.{ListError}
use Rattle.nl_attr.specs.declared.fault.Tally.{Tally}
use Rattle.nl_attr.specs.declared.fault.WriteError.{WriteError}
use Rattle.nl_attr.specs.declared.order.Order.{Order}
use Rattle.nl_attr.specs.declared.tree.Ctx.{Ctx}
use Rattle.nl_attr.specs.Shape.{Shape}
use Rattle.nl_attr.specs.Tree.{Items}
use Rattle.nl_attr.specs.Layout.{Fits}
use Rattle.nl_attr.specs.Heads.{Head, IsFirstFault, start_of}
use Rattle.nl_attr.specs.Reading.{Outcome, map_value, items_of_region}
use Rattle.nl_attr.specs.Kept.{kept as kept_of}
use Rattle.nl_attr.specs.Outcomes.{HasOutcome, IfLayout, VisitsUpTo}
use Rattle.nl_attr.specs.Proper.{IsRefused}
use Rattle.nl_attr.specs.Writes.{Writes}
use Rattle.nl_attr.specs.Written as attrs
use Rattle.nl_route.specs.declared.object.Object.{Object}
use Rattle.nl_route.specs.Fields.{Field, AreFields, written}
use Rattle.nl_route.specs.Views.{attrs_in}

-- the head of the first attribute behind a head of so many bytes
abbrev pub attrs_of : ℕ → Ctx → ℕ → List ℕ → Head
attrs_of size ctx place payload = start_of ctx 0 (place + size) (drop size payload)

module _ (S : Shape) where
  -- the payload begins with a head of so many bytes and these fields, and these attributes fit the rest
  abbrev pub IsObject : ℕ → List Field → Ctx → Items → List ℕ → Type 0
  IsObject size fields ctx is payload = (size ≤ length payload) × AreFields S.order fields (take size payload) × Fits S is (drop size payload) ctx 0

  -- the head and the attributes that are read of it, or the first fault, and the bytes visited
  abbrev pub object_at : {H : Type 0} → ℕ → Ctx → (Order → List ℕ → H) → ℕ → List ℕ → Outcome (H × Items)
  object_at size ctx of place payload = map_value (λ is. (of S.order (take size payload), is)) (items_of_region S ctx 0 (place + size) (drop size payload))

-- what a call answers that reads a body whose head has so many bytes and these fields
pub record ReadsBody {H : Type 0} (S : Shape) (size : ℕ) (ctx : Ctx) (of : Order → List ℕ → H) (fields : H → List Field)
    (place : ℕ) (bytes : List ℕ) (t : Tally (Object H) ListError) : Type 0 where
  -- what is read, or the fault, and the visits are those of a reading from left to right
  pub outcome : HasOutcome (λ b. (b.head, attrs_in b)) t (object_at S size ctx of place bytes)
  -- what is read is the body
  pub fits : IfOk t.result (λ b. IsObject S size (fields b.head) ctx (attrs_in b) bytes)
  -- no other is
  pub only : IfOk t.result (λ b. (h : H) (is : Items) → IsObject S size (fields h) ctx is bytes → (h ≡ b.head) × (is ≡ attrs_in b))
  -- a fault is the one at the least place
  pub first : IfErr t.result (λ e. IfLayout e (λ f. IsFirstFault S (attrs_of size ctx place bytes) f.place f.reason))
  -- then no body is there
  pub none : IfErr t.result (λ e. IfLayout e (λ _. (h : H) (is : Items) → IsObject S size (fields h) ctx is bytes → ⊥))
  -- the visits are those of all heads, or of those up to the fault
  pub visits : VisitsUpTo S (attrs_of size ctx place bytes) (place + length bytes) t.result t.visits
  pub bound : t.visits ≤ (S.depth + 1) * length bytes
  -- what is read keeps no more bytes than there are behind the head
  pub kept : IfOk t.result (λ b. size + kept_of (attrs_in b) ≤ length bytes)

-- the bytes that a body is written as
abbrev pub body_written : Order → List Field → Items → List ℕ
body_written o fields is = written o fields ++ attrs.written o is

-- what a call answers that writes a body: what it writes is this body
abbrev pub WritesBody : Shape → ℕ → List Field → Ctx → Items → Vec ℕ → Vec ℕ → Result (Unit {0}) WriteError → Type 0
WritesBody S size fields ctx is =
    let bytes = body_written S.order fields is in
    Writes (IsRefused is ctx S.depth) (size + attrs.items_len is) bytes (IsObject S size fields ctx is bytes)
