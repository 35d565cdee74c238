-- The answer to C of a scan.
use Rattle.std.specs.Prelude.{◌<◌, ◌≤◌, ℕ, List, length, Result, Ok, Err}
use Rattle.nl_attr.specs.declared.events.Event.{Event}
use Rattle.nl_attr.specs.declared.fault.Reason.{Reason}
use Rattle.nl_attr.specs.Codes.{reason_code}
use Rattle.nl_attr.specs.HeadOrder.{put_from}
use Rattle.nl_frame.specs.declared.scanning.ScanError.{ScanError}
use Rattle.nl_frame.specs.declared.scanning.ScanError.TheVariants.{TooLarge, Layout as Fails}
use Rattle.nl_frame.specs.Heads.{IsFirstFault, Visits, whole}
use Rattle.nl_frame.specs.Layout.{Layout}
use Rattle.nl_frame.specs.Limits.{Bounds}
use Rattle.nl_frame.specs.Message.{MessageVal}
use Rattle.nl_frame.specs.HeadOrder.{events_of}
use Rattle.rtnl_c.specs.declared.scan.Scanned.{Scanned}
use Rattle.rtnl_c.specs.declared.scan.Taped.{Taped}

-- the place and the code of what a scan answers
abbrev pub refusal_of : Result (Unit {0}) ScanError → ℕ × ℕ
refusal_of (Ok u) = (0, 0)
refusal_of (Err TooLarge) = (0, 6)
refusal_of (Err (Fails b)) = (b.fault.place, reason_code b.fault.reason)

-- refused after so many visits, at this place, with this code
abbrev pub refused : ℕ → ℕ → ℕ → Scanned
refused visits place code = record { visits = visits; place = place; code = code }

-- the same of a scan into a buffer, which counted so many headers
abbrev pub untaped : ℕ → ℕ → ℕ → ℕ → Taped
untaped count visits place code = record { count = count; visits = visits; place = place; code = code }

module _ (b : Bounds) (d : List ℕ) where
  -- what a scan finds: the datagram is too large; or it has a layout, and these are the visits of all headers; or this is its first fault, and these are the
  -- visits up to it
  pub data Scans : Scanned → Type 0 where
    too_large : b.datagram < length d → Scans (refused 0 0 6)
    accepted : length d ≤ b.datagram → (ms : List MessageVal) → Layout b.shape ms d → (v : ℕ) → Visits b.shape (whole d) (length d) v
        → Scans (record { visits = v; place = 0; code = 0 })
    faulty : length d ≤ b.datagram → (place : ℕ) (why : Reason) → IsFirstFault b.shape (whole d) place why → (v : ℕ) → Visits b.shape (whole d) place v
        → Scans (refused v place (reason_code why))

  -- the same; and the events of the headers, up to the fault where there is one, stand in the buffer and are counted
  pub data Tapes (old : List Event) : List Event → Taped → Type 0 where
    too_large : b.datagram < length d → Tapes old old (untaped 0 0 0 6)
    accepted : length d ≤ b.datagram → (ms : List MessageVal) → Layout b.shape ms d → (v : ℕ) → Visits b.shape (whole d) (length d) v
        → Tapes old (put_from 0 (events_of b.shape (whole d)) old) (record { count = length (events_of b.shape (whole d)); visits = v; place = 0; code = 0 })
    faulty : length d ≤ b.datagram → (place : ℕ) (why : Reason) → IsFirstFault b.shape (whole d) place why → (v : ℕ) → Visits b.shape (whole d) place v
        → Tapes old (put_from 0 (events_of b.shape (whole d)) old) (untaped (length (events_of b.shape (whole d))) v place (reason_code why))
