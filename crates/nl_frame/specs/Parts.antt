-- A builder's parts but for its slice, and a message whose head is in bytes.
use Rattle.std.specs.Prelude.{◌≤◌, ◌==◌, ℕ, if◌then◌else◌, List, [], ◌∷◌, length, take, drop, Option, Some, None}
use Rattle.nl_attr.specs.declared.order.Order.{Order}
use Rattle.nl_route.specs.Families.{AnyHead, head_of, head_size}
use Rattle.nl_frame.specs.declared.building.OpenHead.{OpenHead}
use Rattle.nl_frame.specs.declared.building.refusal.BuildError.{BuildError}
use Rattle.nl_frame.specs.declared.building.refusal.BuildError.TheVariants.{Mismatch, StillOpen}
use Rattle.nl_frame.specs.declared.form.Form.{Form}
use Rattle.nl_frame.specs.declared.form.Form.TheVariants as form
use Rattle.nl_frame.specs.Form.{form_of}
use Rattle.nl_frame.specs.Limits.{Bounds, AreLimits}
use Rattle.nl_frame.specs.Building.{Built, AreOpen, begin, or_next, order_of, settled}

-- ---- a builder's parts

-- what a builder is but for its slice: its limits, how many bytes it has accepted, the open heads, the innermost first, and the first refusal
pub record Parts : Type 0 where
  pub bounds : Bounds
  pub len : ℕ
  pub heads : List OpenHead
  pub refusal : Option BuildError

-- the builder of these parts over a slice
abbrev pub over : Parts → List ℕ → Built
over p out = record { bounds = p.bounds; front = take p.len out; free = drop p.len out; heads = p.heads; refusal = p.refusal }

-- of a builder that has accepted nothing
abbrev pub new_parts : Bounds → Parts
new_parts bounds = record { bounds = bounds; len = 0; heads = []; refusal = None }

-- what holds of the parts of each builder
abbrev pub AreParts : Parts → Type 0
AreParts p = AreLimits p.bounds × (p.len ≤ p.bounds.datagram) × AreOpen p.bounds.shape.depth p.len p.heads

-- ---- a message whose head is in bytes

-- the head of a body of this form that is in these bytes, where they are as many as it has
abbrev pub head_by : Order → Form → List ℕ → Option AnyHead
head_by o (form.Object g) bytes = if length bytes == head_size g then Some (head_of o g bytes) else None
head_by o f bytes = None

-- no message begins without a head
abbrev pub no_head_refusal : List OpenHead → BuildError
no_head_refusal [] = Mismatch
no_head_refusal (h ∷ hs) = StillOpen

-- a message begins with a head, where there is one
abbrev pub begin_by : Built → ℕ → ℕ → ℕ → ℕ → Option AnyHead → Built
begin_by b kind flags seq port None = settled b (or_next b.refusal (Some (no_head_refusal b.heads))) b
begin_by b kind flags seq port (Some h) = begin b kind flags seq port h

-- a message begins whose head is in these bytes
abbrev pub begin_bytes : Built → ℕ → ℕ → ℕ → ℕ → List ℕ → Built
begin_bytes b kind flags seq port bytes = begin_by b kind flags seq port (head_by (order_of b) (form_of kind) bytes)
