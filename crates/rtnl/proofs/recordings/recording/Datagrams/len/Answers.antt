use Rattle.std.proofs.Common.{◌≡◌, sym, ap, length, ◌∙◌, rules}
use Rattle.rtnl.proofs.PieceEnds.{length-pieces}
use Rattle.rtnl.proofs.recordings.recording.Datagrams.len.Goals as goal

pub returns : goal.returns
returns c =
    let ends : c.len.result ≡ length c.self.inside.ends.items = search rules in
    ends ∙ sym (length-pieces 0 c.self.inside.bytes.items c.self.inside.ends.items) ∙ ap length c.self.view_is
