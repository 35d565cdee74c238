use Rattle.nl_attr.proofs.Common.{◌≡◌, ℕ, length, refl, ap, ◌∙◌, kind_of, span_of, flags_of}
use Rattle.nl_attr.proofs.Lemmas.Fronts.{bytes_event_so, rest_so}
use Rattle.nl_attr.proofs.Lemmas.Reading.{payload_is}
use Rattle.nl_attr.proofs.taping.fronts.attr_front.Goals as goal

pub returns : goal.returns
returns c =
    let a = c.args in
    let s = c.requires.sound in
    let body = payload_is a.order 4 2 a.len a.left.now s.2 s.3 in
    let kind : c.kind_at-kind.result ≡ kind_of a.order a.left.now = c.kind_at-kind.ensures in
    let span : c.span_at-span.result ≡ span_of a.order 2 a.left.now = rw (c.span_at-span.ensures, s.2) refl in
    record {
      event = bytes_event_so a.order a.ctx a.level a.place a.left.now _ c.kind_at-kind.result c.flags_in-flags.result (ap (length {A = ℕ}) body) kind c.flags_in-flags.ensures;
      flags = c.flags_in-flags.ensures ∙ ap flags_of kind;
      span = span;
      payload = body;
      rest = rest_so a.ctx a.level a.place a.left.now _ _ span;
    }
