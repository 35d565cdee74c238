use Rattle.std.proofs.Common.{◌≡◌, ◌++◌, ◌∙◌, None, ap, rules, subst, sym}
use Rattle.rtnl.proofs.Common.{datagrams, joined, FrontOfInput, OfInput, Prints}
use Rattle.rtnl.proofs.Parts.{joined_more}
use Rattle.rtnl.proofs.Output.{good_said}
use Rattle.rtnl.proofs.runs.run_each.run_each.Goals as goal

pub returns-in_err-give_parts : goal.returns-in_err-give_parts
returns-in_err-give_parts g c =
    let Is = g.E.PerDatagram.finds c.args.each.now in
    let text = g.E.PerDatagram.text c.args.each.now in
    let takes = g.E.PerDatagram.takes in
    let s = c.in_ok-bad_line.ensures.said in
    let good : c.in_ok-bad_line.field-0.bad_line ≡ None = search rules in
    let found = good_said Is text takes (datagrams s.0) c.in_ok-bad_line.field-0 s.2 good in
    let parts : joined c.as_slice.result.now ≡ joined c.in_ok-bad_line.field-0.parts.items ++ c.in_ok-bad_line.field-0.part.items =
    ap joined (c.as_slice.ensures.value ∙ c.in_ok-push.ensures.items) ∙ joined_more c.in_ok-bad_line.field-0.parts.items c.in_ok-bad_line.field-0.part in
    let prints : Prints Is text takes found.0 (joined c.as_slice.result.now) c.in_ok-bad_line.field-0.verdict = subst (λ t. Prints Is text takes found.0 t c.in_ok-bad_line.field-0.verdict) (sym parts) found.2 in
    let part : FrontOfInput (Prints Is text takes) (g.S.Source.remaining c.args.source.now) (g.S.Source.remaining c.say_input.new.source) (g.W.Sink.contents c.args.sink.now) (g.W.Sink.contents c.give_parts.new.sink) =
    (s.0, found.0, joined c.as_slice.result.now, c.in_ok-bad_line.field-0.verdict, s.1, found.1, prints, c.in_err-give_parts.ensures.part) in
    search (rules, part)

pub returns : goal.returns
returns g c =
    let Is = g.E.PerDatagram.finds c.args.each.now in
    let text = g.E.PerDatagram.text c.args.each.now in
    let takes = g.E.PerDatagram.takes in
    let s = c.in_ok-bad_line.ensures.said in
    let good : c.in_ok-bad_line.field-0.bad_line ≡ None = search rules in
    let found = good_said Is text takes (datagrams s.0) c.in_ok-bad_line.field-0 s.2 good in
    let parts : joined c.as_slice.result.now ≡ joined c.in_ok-bad_line.field-0.parts.items ++ c.in_ok-bad_line.field-0.part.items =
    ap joined (c.as_slice.ensures.value ∙ c.in_ok-push.ensures.items) ∙ joined_more c.in_ok-bad_line.field-0.parts.items c.in_ok-bad_line.field-0.part in
    let prints : Prints Is text takes found.0 (joined c.as_slice.result.now) c.in_ok-bad_line.field-0.verdict = subst (λ t. Prints Is text takes found.0 t c.in_ok-bad_line.field-0.verdict) (sym parts) found.2 in
    let said : OfInput (Prints Is text takes) (g.S.Source.remaining c.args.source.now) (g.S.Source.remaining c.say_input.new.source) (g.W.Sink.contents c.args.sink.now) (g.W.Sink.contents c.give_parts.new.sink) c.in_ok-bad_line.field-0.verdict =
    (s.0, found.0, joined c.as_slice.result.now, s.1, found.1, prints, c.in_ok-give_parts.ensures.all) in
    search (rules, said)
