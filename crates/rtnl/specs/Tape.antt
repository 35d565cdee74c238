-- What is taped of a datagram.
use Rattle.std.specs.Prelude.{◌≡◌, ◌≤◌, ◌<◌, ◌==◌, ◌||◌, if◌then◌else◌, ℕ, List, [], length, Option, Some, None, Result, Ok, Err, IfSome}
use Rattle.nl_attr.specs.declared.events.Event.{Event}
use Rattle.nl_attr.specs.Fixed.{SORT_MESSAGE, SORT_LIST, SORT_HOPS, SORT_NEXT_HOP}
use Rattle.nl_attr.specs.declared.tree.Ctx.{Ctx}
use Rattle.nl_attr.specs.declared.tree.Ctx.TheVariants.{Route, Plain}
use Rattle.nl_attr.specs.Tree.{holds_of}
use Rattle.nl_route.specs.Families.{context_of}
use Rattle.nl_frame.specs.declared.form.Form.{Form}
use Rattle.nl_frame.specs.declared.form.Form.TheVariants as form
use Rattle.nl_frame.specs.declared.scanning.ScanError.{ScanError}
use Rattle.nl_frame.specs.Broken.{IsBrokenHead}
use Rattle.nl_frame.specs.Form.{form_of}
use Rattle.nl_frame.specs.HeadOrder.{events_of}
use Rattle.nl_frame.specs.Heads.{whole}
use Rattle.nl_frame.specs.Limits.{Bounds}
use Rattle.nl_frame.specs.Taped.{IfBroken, read_refusal}
use Rattle.rtnl.specs.Shown.{Answer, refusal_text}
use Rattle.rtnl.specs.Attributes.{inner_context}

-- the refusal in an answer of a scan
abbrev pub refusal_in : {X : Type 0} → Result X ScanError → Option ScanError
refusal_in (Ok x) = None
refusal_in (Err e) = Some e

-- a refusal, or none, is that of an answer
abbrev pub IsRefusalOf : Answer → Option ScanError → Type 0
IsRefusalOf (Ok ms) None = Unit {0}
IsRefusalOf (Ok ms) (Some e) = ⊥
IsRefusalOf (Err r) None = ⊥
IsRefusalOf (Err r) (Some e) = r ≡ read_refusal e

-- the events are those of the heads up to the first fault, in their order; there is none of a datagram above the limit
abbrev pub AreEvents : Bounds → List ℕ → List Event → Type 0
AreEvents b d events = (length d ≤ b.datagram → events ≡ events_of b.shape (whole d)) × (b.datagram < length d → events ≡ [])

-- the head of a refusal is the one that breaks its rule in the datagram
abbrev pub IsAboutItsHead : Bounds → List ℕ → Option ScanError → Type 0
IsAboutItsHead b d o = IfSome o (λ e. IfBroken e (IsBrokenHead b.shape (whole d)))

-- the line of a refusal, or nothing
abbrev pub refusal_line : Option ScanError → List ℕ
refusal_line None = []
refusal_line (Some e) = refusal_text (read_refusal e)

-- the context of the attributes in a body of this form
abbrev pub body_context : Form → Ctx
body_context form.Noop = Plain
body_context form.Error = Plain
body_context form.Done = Plain
body_context form.Overrun = Plain
body_context (form.Object g) = context_of g
body_context form.Get = Plain
body_context form.Other = Plain

-- of the attributes in the item of a head, which stands itself in a context
abbrev pub context_in : Event → Ctx → Ctx
context_in e outer =
    if e.sort == SORT_MESSAGE then body_context (form_of e.number) else (
    if e.sort == SORT_LIST then inner_context (holds_of outer e.number (record { nested = e.nested; net = e.net })) else (
    if (e.sort == SORT_HOPS) || (e.sort == SORT_NEXT_HOP) then Route else Plain))
