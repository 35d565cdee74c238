use Rattle.rtnl.proofs.Common.{◌≡◌, ◌++◌, List, map, message_view, Hearing, HearsAll, answers_text, where_so}
use Rattle.nl_frame.specs.declared.body.Message.{Message}
use Rattle.rtnl.proofs.runs.mirroring.hear_all.Given as goal

-- what was heard so far, and what was written of it
abbrev pub invariant-loop-message : goal.invariant-loop-message
invariant-loop-message g l =
    (done : List Message) × (hs : List Hearing) × (done ++ l.message-iterator.rest.items ≡ l.fn.messages.items)
    × HearsAll l.fn.mirror (map message_view done) hs l.mirror
    × (l.out.items ≡ l.fn.out.items ++ where_so l.settings.changes (answers_text g.F.ReportFormat.report g.F.MirrorFormat.telling l.settings.limits.shape.order l.settings.kind hs))
