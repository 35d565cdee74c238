-- What a scan of a datagram puts and counts, head by head and at its end.
use Rattle.std.specs.Prelude.{◌≡◌, ◌≤◌, ◌+◌, ◌*◌, IfSome, ℕ, List, length, map, slice_set, Option, Some, None, Result, Ok, Err}
use Rattle.nl_attr.specs.declared.events.Event.{Event}
use Rattle.nl_attr.specs.declared.broken.BrokenHead.{BrokenHead}
use Rattle.nl_attr.specs.declared.taping.Taped.{Taped}
use Rattle.nl_attr.specs.Broken.{fault_in}
use Rattle.nl_attr.specs.Shape.{Shape}
use Rattle.nl_attr.specs.Reading.{Outcome}
use Rattle.nl_attr.specs.Scanned.{without}
use Rattle.nl_attr.specs.HeadOrder.{put_from, fault_of}
use Rattle.nl_attr.specs.declared.fault.Reason.{Reason}
use Rattle.nl_attr.specs.Taped.{found}
use Rattle.nl_frame.specs.declared.front.Frame.{Frame}
use Rattle.nl_frame.specs.declared.taping.TapedFrame.{TapedFrame}
use Rattle.nl_frame.specs.Broken.{IsBrokenIn}
use Rattle.nl_frame.specs.Front.{IsFrame, broken_message}
use Rattle.nl_frame.specs.declared.reading.ReadError.{ReadError}
use Rattle.nl_frame.specs.declared.reading.ReadError.TheVariants as unread
use Rattle.nl_frame.specs.declared.scanning.ScanError.{ScanError}
use Rattle.nl_frame.specs.declared.scanning.ScanError.TheVariants.{TooLarge, Layout}
use Rattle.nl_frame.specs.Heads.{region_in}
use Rattle.nl_frame.specs.HeadOrder.{Trail, region_trail, visits_of, event_of, header_event}

-- the events of these heads stand in the buffer from place `count` on, and are counted
pub record IsTaped (S : Shape) (trail : Trail) (count : ℕ) (old new : List Event) (t : Taped) : Type 0 where
  pub fault : fault_in t.broken ≡ fault_of trail.1
  pub visits : t.visits ≡ visits_of S trail.0
  pub counted : t.count ≡ count + length trail.0
  pub events : new ≡ put_from count (map (event_of S.order) trail.0) old

-- the event of a message's header, and those of the heads in its body behind it
abbrev pub IsFrameTaped : Shape → Frame → ℕ → ℕ → List Event → List Event → Taped → Type 0
IsFrameTaped S f place count old new t =
    IsTaped S (region_trail S (region_in f.form (place + 16) f.payload.now)) (count + 1)
    (slice_set old count (header_event place f.header.kind (length f.payload.now))) new t

-- the message at the front and the heads in its body, up to their first fault, or the rule that its head breaks
abbrev pub TapesFront : Shape → List ℕ → ℕ → ℕ → List Event → List Event → Option BrokenHead → Result TapedFrame Reason → Type 0
TapesFront S left place count old new broken (Ok t) =
    IsFrame S.order left t.frame × IsFrameTaped S t.frame place count old new (found broken t.counts)
    × IfSome broken (IsBrokenIn S (region_in t.frame.form (place + 16) t.frame.payload.now))
    × (t.counts.visits ≤ (S.depth + 1) * length t.frame.payload.now) × (t.counts.count ≤ count + 1 + t.counts.visits)
    × (4 * t.counts.count ≤ 4 * count + 16 + length t.frame.payload.now)
TapesFront S left place count old new broken (Err r) = (broken_message S.order left ≡ Some r) × (new ≡ old)

-- it is refused for the fault of this head, or accepted where there is none
abbrev pub Ends : Option BrokenHead → Result (Unit {0}) ScanError → Type 0
Ends None (Ok u) = Unit {0}
Ends None (Err e) = ⊥
Ends (Some b) (Ok u) = ⊥
Ends (Some b) (Err e) = e ≡ Layout b

-- a head that breaks a rule, and no other refusal
abbrev pub IfBroken : ScanError → (BrokenHead → Type 0) → Type 0
IfBroken TooLarge P = Unit {0}
IfBroken (Layout b) P = P b

-- a refusal of a scan, as reading refuses
abbrev pub read_refusal : ScanError → ReadError
read_refusal TooLarge = unread.TooLarge
read_refusal (Layout b) = unread.Layout b.fault

-- an answer of a scan, as reading answers
abbrev pub as_read : {X : Type 0} → Result X ScanError → Result X ReadError
as_read (Ok x) = Ok x
as_read (Err e) = Err (read_refusal e)

-- whether all is accepted or which fault is met, and the visits, are those of this outcome of a reading
abbrev pub HasEnd : {X Y : Type 0} → Result X ScanError → ℕ → Outcome Y → Type 0
HasEnd (Ok x) v o = without o ≡ (Ok tt, v)
HasEnd (Err TooLarge) v o = ⊥
HasEnd (Err (Layout b)) v o = without o ≡ (Err b.fault, v)
