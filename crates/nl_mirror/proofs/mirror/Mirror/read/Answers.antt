use Rattle.nl_mirror.proofs.Common.{◌≡◌, List, Result, Ok, Err, map, ap, subst, refl, MessageVal, message_view, Mirrored}
use Rattle.std.specs.Global.{Vec}
use Rattle.nl_frame.specs.declared.body.Message.{Message}
use Rattle.nl_frame.specs.declared.reading.ReadError.{ReadError}
use Rattle.nl_frame.specs.Limits.{Bounds}
use Rattle.nl_mirror.specs.Five.{IsRead}
use Rattle.nl_mirror.proofs.Fives.{read_so}
use Rattle.nl_mirror.proofs.mirror.Mirror.read.Goals as goal

pub returns-clause-read : goal.returns-clause-read
returns-clause-read c =
    let read = c.read_datagram in
    subst (λ (b : Bounds). IsRead b c.args.bytes.now read.result.result) (ap (λ (m : Mirrored). m.settings.limits) c.self.view_is)
    (read_so c.self.inside.limits c.args.bytes.now read.result.result read.ensures.fits read.ensures.only read.ensures.first read.ensures.none)
