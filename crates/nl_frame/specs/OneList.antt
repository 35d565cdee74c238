-- The one list of messages that the layout of a datagram gives, written back; and the one body that bytes are.
use Rattle.std.specs.Prelude.{◌≡◌, ◌≤◌, ℕ, List}
use Rattle.nl_frame.specs.Limits.{Bounds}
use Rattle.nl_attr.specs.Shape.{Shape}
use Rattle.nl_frame.specs.declared.form.Form.{Form}
use Rattle.nl_frame.specs.Message.{BodyVal, MessageVal}
use Rattle.nl_frame.specs.Layout.{BodyOf, Layout}
use Rattle.nl_frame.specs.Written.{written, written_len}
use Rattle.nl_frame.specs.Proper.{IsProper}

-- these messages are the datagram's one layout, and are written within the limits as bytes whose one layout they are
pub record IsTheList (b : Bounds) (bytes : List ℕ) (ms : List MessageVal) : Type 0 where
  pub layout : Layout b.shape ms bytes
  pub only : (ns : List MessageVal) → Layout b.shape ns bytes → ns ≡ ms
  pub proper : IsProper ms b.shape.depth
  pub short : written_len ms ≤ b.datagram
  pub again : Layout b.shape ms (written b.shape.order ms)
  pub only_again : (ns : List MessageVal) → Layout b.shape ns (written b.shape.order ms) → ns ≡ ms

-- this body is the one of the form that the bytes are
pub record IsTheBody (S : Shape) (f : Form) (bytes : List ℕ) (v : BodyVal) : Type 0 where
  pub is : BodyOf S v f bytes
  pub only : (w : BodyVal) → BodyOf S w f bytes → w ≡ v
