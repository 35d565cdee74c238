-- What a call answers that scans a datagram.
use Rattle.std.specs.Prelude.{◌≡◌, ◌<◌, ◌≤◌, ◌+◌, ◌*◌, ◌↔◌, ℕ, List, length, Err, IfOk, IfErr}
use Rattle.nl_attr.specs.declared.fault.Tally.{Tally}
use Rattle.nl_frame.specs.declared.scanning.ScanError.{ScanError}
use Rattle.nl_frame.specs.declared.scanning.ScanError.TheVariants.{TooLarge}
use Rattle.nl_frame.specs.Broken.{IsBrokenHead}
use Rattle.nl_frame.specs.Heads.{IsFirstFault, whole}
use Rattle.nl_frame.specs.Layout.{Layout}
use Rattle.nl_frame.specs.Limits.{Bounds}
use Rattle.nl_frame.specs.Message.{MessageVal}
use Rattle.nl_frame.specs.Outcomes.{IfFault, VisitsUpTo}
use Rattle.nl_frame.specs.Reading.{messages_of}
use Rattle.nl_frame.specs.Taped.{HasEnd, IfBroken, as_read}

-- what was found of a datagram, and the visits
pub record ScansDatagram {X : Type 0} (b : Bounds) (bytes : List ℕ) (t : Tally X ScanError) : Type 0 where
  pub large : t.result ≡ Err TooLarge ↔ b.datagram < length bytes
  -- else whether it is accepted, the fault and the visits are those of a reading
  pub outcome : length bytes ≤ b.datagram → HasEnd t.result t.visits (messages_of b.shape 0 bytes)
  -- where it is accepted some list of messages is the layout
  pub fits : IfOk t.result (λ _. (ms : List MessageVal) × Layout b.shape ms bytes)
  -- a fault is the one at the least place
  pub first : IfErr (as_read t.result) (λ e. IfFault e (λ f. IsFirstFault b.shape (whole bytes) f.place f.reason))
  -- and the head that is answered is the one that breaks its rule there
  pub head : IfErr t.result (λ e. IfBroken e (IsBrokenHead b.shape (whole bytes)))
  -- then no list is the layout
  pub none : IfErr (as_read t.result) (λ e. IfFault e (λ _. (ms : List MessageVal) → Layout b.shape ms bytes → ⊥))
  -- the visits are those of all heads, or of those up to the fault
  pub visits : VisitsUpTo b.shape bytes (as_read t.result) t.visits
  pub bound : t.visits ≤ (b.shape.depth + 1) * length bytes
