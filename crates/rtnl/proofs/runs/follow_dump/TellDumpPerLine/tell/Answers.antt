use Rattle.std.proofs.Common.{rules, ◌≡◌, ◌+◌, ◌++◌, ◌∙◌, Some, Ok, length, map, not, ap, sym, subst}
use Rattle.rtnl.proofs.Common.{message_view, is_done, line_at}
use Rattle.nl_dump.specs.Reading.{StreamRead}
use Rattle.rtnl.specs.Tabled.{bodies_text}
use Rattle.rtnl.proofs.FollowingDump.{gives_items, gives_refusal}
use Rattle.rtnl.proofs.runs.follow_dump.TellDumpPerLine.tell.Goals.{in-Ok+in_ok-push_items-in-Ok, in-Err+in_ok-push_refusal-in-Err}
use Rattle.rtnl.proofs.runs.follow_dump.TellDumpPerLine.tell.Goals as goal

pub returns : goal.returns
returns g c =
    let t = g.F.ReportFormat.report in
    let o = c.args.self.now.order in
    let a = c.args.kept.now in
    let d = c.as_slice.result.now in
    let said = line_at 0 c.args.line.now in
    let has : said ≡ Ok (Some c.read_datagram_of.new.bytes.items) = search rules in
    let is : said ≡ Ok (Some d) = has ∙ ap (λ x. Ok (Some x)) (sym c.as_slice.ensures.value) in
    let old = c.args.out.now.items in
    let goes : not c.is_over.result ≡ not (is_done c.read.new.self.state) = ap not (c.is_over.ensures ∙ ap is_done c.state.ensures) in
    elim c.match-read.branch [
      | in-Ok+in_ok-push_items-in-Ok w ↦
          let r = w.in-Ok.read in
          let step = subst (λ r. StreamRead a.stream d r c.read.new.self) w.in-Ok.is c.read.ensures.step in
          let size : c.match-read.items ≡ a.items + length r.items.items = search rules in
          let text : c.match-read.out.items ≡ old ++ bodies_text (λ m. m.body) t o (a.items + 1) (map message_view r.items.items) = search rules in
          gives_items t o c.args.number said a _ d old c.match-read.out.items is c.match-read.taken (not c.is_over.result) r step size text w.taken-is goes
      | in-Err+in_ok-push_refusal-in-Err w ↦
          let e = w.in-Err.error in
          let step = subst (λ r. StreamRead a.stream d r c.read.new.self) w.in-Err.is c.read.ensures.step in
          let text : c.match-read.out.items ≡ old ++ t.refusal c.args.number e = search rules in
          gives_refusal t o c.args.number said a _ d old c.match-read.out.items is c.match-read.taken (not c.is_over.result) e step w.in_ok-push_refusal-in-Err.ensures.refusal w.items-is text w.taken-is goes
    ]
