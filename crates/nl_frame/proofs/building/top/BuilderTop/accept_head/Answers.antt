use Rattle.std.proofs.Common.{arith}
use Rattle.nl_frame.specs.declared.building.head.FamilyHead.TheVariants.{Link, Addr, Route, Neigh, Rule}
use Rattle.nl_frame.proofs.Opens.{head_accepted, head_ranged}
use Rattle.nl_frame.proofs.building.top.BuilderTop.accept_head.Goals as goal

pub returns-in-Link-match_object : goal.returns-in-Link-match_object
returns-in-Link-match_object c =
    let is = c.in-Link-match_object.is in
    let head = Link c.in-Link-match_object.head in
    record {
      built = λ hs. head_accepted _ _ c.args.head.now head c.order-order.result _ (c.accept.ensures.built hs) c.write_ordered.ensures.bytes c.order-order.ensures is;
      rest = c.accept.ensures.rest;
      grows = omega (arith, c.accept.ensures.grows);
      ranged = head_ranged c.args.head.now head is c.write_ordered.ensures.ranged;
      fits = c.accept.ensures.fits;
    }

pub returns-in-Addr-match_object : goal.returns-in-Addr-match_object
returns-in-Addr-match_object c =
    let is = c.in-Addr-match_object.is in
    let head = Addr c.in-Addr-match_object.head in
    record {
      built = λ hs. head_accepted _ _ c.args.head.now head c.order-order.result _ (c.accept-2.ensures.built hs) c.write_ordered-2.ensures.bytes c.order-order.ensures is;
      rest = c.accept-2.ensures.rest;
      grows = omega (arith, c.accept-2.ensures.grows);
      ranged = head_ranged c.args.head.now head is c.write_ordered-2.ensures.ranged;
      fits = c.accept-2.ensures.fits;
    }

pub returns-in-Route-match_object : goal.returns-in-Route-match_object
returns-in-Route-match_object c =
    let is = c.in-Route-match_object.is in
    let head = Route c.in-Route-match_object.head in
    record {
      built = λ hs. head_accepted _ _ c.args.head.now head c.order-order.result _ (c.accept-3.ensures.built hs) c.write_ordered-3.ensures.bytes c.order-order.ensures is;
      rest = c.accept-3.ensures.rest;
      grows = omega (arith, c.accept-3.ensures.grows);
      ranged = head_ranged c.args.head.now head is c.write_ordered-3.ensures.ranged;
      fits = c.accept-3.ensures.fits;
    }

pub returns-in-Neigh-match_object : goal.returns-in-Neigh-match_object
returns-in-Neigh-match_object c =
    let is = c.in-Neigh-match_object.is in
    let head = Neigh c.in-Neigh-match_object.head in
    record {
      built = λ hs. head_accepted _ _ c.args.head.now head c.order-order.result _ (c.accept-4.ensures.built hs) c.write_ordered-4.ensures.bytes c.order-order.ensures is;
      rest = c.accept-4.ensures.rest;
      grows = omega (arith, c.accept-4.ensures.grows);
      ranged = head_ranged c.args.head.now head is c.write_ordered-4.ensures.ranged;
      fits = c.accept-4.ensures.fits;
    }

pub returns-in-Rule-match_object : goal.returns-in-Rule-match_object
returns-in-Rule-match_object c =
    let is = c.in-Rule-match_object.is in
    let head = Rule c.in-Rule-match_object.head in
    record {
      built = λ hs. head_accepted _ _ c.args.head.now head c.order-order.result _ (c.accept-5.ensures.built hs) c.write_ordered-5.ensures.bytes c.order-order.ensures is;
      rest = c.accept-5.ensures.rest;
      grows = omega (arith, c.accept-5.ensures.grows);
      ranged = head_ranged c.args.head.now head is c.write_ordered-5.ensures.ranged;
      fits = c.accept-5.ensures.fits;
    }
