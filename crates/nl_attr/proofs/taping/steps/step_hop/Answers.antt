use Rattle.nl_attr.proofs.Common.{Some, sym, ap, subst, Head, head_of, LeadsTo, hops_start}
use Rattle.nl_attr.specs.declared.taping.steps.Lead.TheVariants as lead
use Rattle.nl_attr.proofs.Lemmas.Fronts.{added, hops_head}
use Rattle.nl_attr.proofs.taping.steps.step_hop.Goals as goal

pub returns-in-Ok : goal.returns-in-Ok
returns-in-Ok c =
    let a = c.args in
    let r = a.region in
    let s = rw c.order-order.ensures at c.in-Ok.ensures in
    let f = rw c.order-order.ensures at c.hop_front-hop.ensures in
    let hop = c.hop_front-hop.result in
    subst (λ (h : Head). LeadsTo a.shape h a.counts.now c.add.new.self a.out.now c.add.new.out (head_of hop.rest) (lead.Opens hop.attrs)) (hops_head r c.requires.parts) (
      c.requires.some,
      s.0,
      ap Some (sym f.attrs),
      f.rest,
      added a.shape (hops_start r.level r.place r.left.now) a.counts.now c.add.new.self a.out.now c.add.new.out hop.event hop.span f.event f.span c.add.ensures.event c.add.ensures.counts,
    )
