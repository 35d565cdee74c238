-- The layout of a datagram: which messages its bytes are (netlink(7), rtnetlink(7)).
use Rattle.std.specs.Prelude.{◌≡◌, ◌<◌, ◌≤◌, ℕ, List, [], ◌∷◌, length, take, drop, Some, None}
use Rattle.nl_attr.specs.Shape.{Shape}
use Rattle.nl_attr.specs.Layout.{IsPiece}
use Rattle.nl_route.specs.Fields.{signed, AreFields}
use Rattle.nl_route.specs.Body.{IsObject}
use Rattle.nl_route.specs.Families.{head_size, context_of, family_of, fields_of}
use Rattle.nl_frame.specs.declared.form.Form.{Form}
use Rattle.nl_frame.specs.declared.form.Form.TheVariants as form
use Rattle.nl_frame.specs.Header.{header_fields}
use Rattle.nl_frame.specs.Form.{form_of}
use Rattle.nl_frame.specs.Message.{BodyVal, noop, error, done, overrun, object, get, other, MessageVal}

module _ (S : Shape) where
  -- a payload of this form is the encoding of this body
  abbrev pub BodyOf : BodyVal → Form → List ℕ → Type 0
  BodyOf (noop bs) f payload = (f ≡ form.Noop) × (payload ≡ bs)
  BodyOf (error code h tail) f payload =
      (f ≡ form.Error) × (20 ≤ length payload)
      × AreFields S.order (signed code ∷ header_fields h) (take 20 payload) × (drop 20 payload ≡ tail)
  BodyOf (done None tail) f payload = (f ≡ form.Done) × (length payload < 4) × (payload ≡ tail)
  BodyOf (done (Some z) tail) f payload = (f ≡ form.Done) × (4 ≤ length payload) × AreFields S.order (signed z ∷ []) (take 4 payload) × (drop 4 payload ≡ tail)
  BodyOf (overrun bs) f payload = (f ≡ form.Overrun) × (payload ≡ bs)
  BodyOf (object h is) f payload = (f ≡ form.Object (family_of h)) × IsObject S (head_size (family_of h)) (fields_of h) (context_of (family_of h)) is payload
  BodyOf (get n tail) f payload = (f ≡ form.Get) × (payload ≡ n ∷ tail)
  BodyOf (other bs) f payload = (f ≡ form.Other) × (payload ≡ bs)

  -- the datagram is the encoding of these messages: of each its header, body and padding
  abbrev pub Layout : List MessageVal → List ℕ → Type 0
  Layout [] d = d ≡ []
  Layout (m ∷ ms) d =
      (it : List ℕ) × (pad : List ℕ) × (rest : List ℕ) × IsPiece S.order 16 4 d it pad rest
      × AreFields S.order (header_fields (record { len = length it; kind = m.kind; flags = m.flags; seq = m.seq; port = m.port })) (take 16 it)
      × BodyOf m.body (form_of m.kind) (drop 16 it) × Layout ms rest
