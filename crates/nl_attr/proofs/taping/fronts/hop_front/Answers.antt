use Rattle.nl_attr.proofs.Common.{◌≡◌, ℕ, length, refl, ap, ◌∙◌, span_of}
use Rattle.nl_attr.proofs.Lemmas.Fronts.{hop_event_so, hop_attrs_so, hop_rest_so}
use Rattle.nl_attr.proofs.Lemmas.Reading.{payload_is}
use Rattle.nl_attr.proofs.taping.fronts.hop_front.Goals as goal

pub returns : goal.returns
returns c =
    let a = c.args in
    let s = c.requires.sound in
    let body = payload_is a.order 8 2 a.len a.left.now s.2 s.3 in
    let span : c.span_at-span.result ≡ span_of a.order 2 a.left.now = rw (c.span_at-span.ensures, s.2) refl in
    record {
      event = hop_event_so a.order a.level a.place a.left.now _ (ap (length {A = ℕ}) body);
      span = span;
      attrs = c.inside.ensures ∙ hop_attrs_so a.level a.place _ _ body;
      rest = hop_rest_so a.level a.place a.left.now _ _ span;
    }
