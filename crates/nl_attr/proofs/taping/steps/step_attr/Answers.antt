use Rattle.nl_attr.proofs.Common.{◌+◌, Some, refl, sym, ap, subst, ◌∙◌, Event, Content, Head, broken_container, inner_in, start_of, head_of, LeadsTo}
use Rattle.nl_attr.specs.declared.taping.steps.Lead.TheVariants as lead
use Rattle.nl_attr.proofs.Lemmas.Fronts.{added, attr_fails, attr_goes, attr_inner, attr_unsound, attrs_head, content_so, event_so, region_inner}
use Rattle.nl_attr.proofs.Lemmas.Taping.{empty, holds_empty, holds_none}
use Rattle.nl_attr.proofs.taping.steps.step_attr.Goals as goal

pub returns-in-Err : goal.returns-in-Err
returns-in-Err c =
    let a = c.args in
    let r = a.region in
    let u = attr_unsound a.shape a.ctx r.level r.place r.left.now c.in-Err.reason a.counts.now a.out.now (rw c.order-order.ensures at c.in-Err.ensures) in
    subst (λ (h : Head). LeadsTo a.shape h a.counts.now a.counts.now a.out.now a.out.now h (lead.Fails c.in-Err.reason)) (attrs_head r a.ctx c.requires.parts) (c.requires.some, refl, u.0, u.1)

pub returns-in-None : goal.returns-in-None
returns-in-None c =
    let a = c.args in
    let r = a.region in
    let s = rw c.order-order.ensures at c.in-Ok.ensures in
    let len = c.in-Ok.len in
    let f = rw c.order-order.ensures at c.attr_front-attr.ensures in
    let attr = c.attr_front-attr.result in
    let held = c.holds-content.result in
    let holds = content_so a.shape.order a.ctx r.left.now _ held attr.flags (ap (λ (e : Event). e.number) f.event) f.flags c.holds-content.ensures in
    let event = event_so a.shape.order a.ctx r.level r.place r.left.now attr.event held c.sort-sort.result f.event holds c.sort-sort.ensures in
    let h = start_of a.ctx r.level r.place r.left.now in
    let adds = added a.shape h a.counts.now c.add.new.self a.out.now c.add.new.out (record attr.event { sort = c.sort-sort.result }) attr.span event f.span c.add.ensures.event c.add.ensures.counts in
    let none = c.in-None.ensures in
    subst (λ (k : Head). LeadsTo a.shape k a.counts.now c.add.new.self a.out.now c.add.new.out (head_of attr.rest) lead.Goes) (attrs_head r a.ctx c.requires.parts) (
      c.requires.some,
      attr_goes a.shape a.ctx r.level r.place r.left.now s.0 held holds len s.2 (ap (λ (x : Content). broken_container a.shape r.level x len) none),
      holds_none a.shape h (attr_inner a.shape a.ctx r.level r.place r.left.now s.0 held holds len s.2 attr.payload.now f.payload ∙ ap (λ (x : Content). inner_in x (r.place + 4) (r.level + 1) attr.payload.now) none),
      f.rest,
      adds,
    )

pub returns-in-Some-container_fault : goal.returns-in-Some-container_fault
returns-in-Some-container_fault c =
    let a = c.args in
    let r = a.region in
    let s = rw c.order-order.ensures at c.in-Ok.ensures in
    let len = c.in-Ok.len in
    let f = rw c.order-order.ensures at c.attr_front-attr.ensures in
    let attr = c.attr_front-attr.result in
    let held = c.holds-content.result in
    let holds = content_so a.shape.order a.ctx r.left.now _ held attr.flags (ap (λ (e : Event). e.number) f.event) f.flags c.holds-content.ensures in
    let event = event_so a.shape.order a.ctx r.level r.place r.left.now attr.event held c.sort-sort.result f.event holds c.sort-sort.ensures in
    let h = start_of a.ctx r.level r.place r.left.now in
    let adds = added a.shape h a.counts.now c.add.new.self a.out.now c.add.new.out (record attr.event { sort = c.sort-sort.result }) attr.span event f.span c.add.ensures.event c.add.ensures.counts in
    let breaks = attr_fails a.shape a.ctx r.level r.place r.left.now s.0 held holds len s.2 c.in-Some-container_fault.reason a.counts.now c.add.new.self a.out.now c.add.new.out (sym c.container_fault.ensures ∙ c.in-Some-container_fault.is) adds in
    subst (λ (k : Head). LeadsTo a.shape k a.counts.now c.add.new.self a.out.now c.add.new.out k (lead.Fails c.in-Some-container_fault.reason)) (attrs_head r a.ctx c.requires.parts) (c.requires.some, refl, breaks.0, breaks.1)

pub returns-then-is_empty : goal.returns-then-is_empty
returns-then-is_empty c =
    let a = c.args in
    let r = a.region in
    let s = rw c.order-order.ensures at c.in-Ok.ensures in
    let len = c.in-Ok.len in
    let f = rw c.order-order.ensures at c.attr_front-attr.ensures in
    let attr = c.attr_front-attr.result in
    let held = c.holds-content.result in
    let holds = content_so a.shape.order a.ctx r.left.now _ held attr.flags (ap (λ (e : Event). e.number) f.event) f.flags c.holds-content.ensures in
    let event = event_so a.shape.order a.ctx r.level r.place r.left.now attr.event held c.sort-sort.result f.event holds c.sort-sort.ensures in
    let h = start_of a.ctx r.level r.place r.left.now in
    let adds = added a.shape h a.counts.now c.add.new.self a.out.now c.add.new.out (record attr.event { sort = c.sort-sort.result }) attr.span event f.span c.add.ensures.event c.add.ensures.counts in
    let payload = attr.payload.now in
    let inner = attr_inner a.shape a.ctx r.level r.place r.left.now s.0 held holds len s.2 payload f.payload ∙ region_inner held c.in-Some.parts (r.place + 4) (r.level + 1) payload c.in-Some.ensures in
    subst (λ (k : Head). LeadsTo a.shape k a.counts.now c.add.new.self a.out.now c.add.new.out (head_of attr.rest) lead.Goes) (attrs_head r a.ctx c.requires.parts) (
      c.requires.some,
      attr_goes a.shape a.ctx r.level r.place r.left.now s.0 held holds len s.2 (sym c.container_fault.ensures ∙ c.in-None-container_fault.is),
      holds_empty a.shape h _ inner (empty payload c.if-is_empty.ensures),
      f.rest,
      adds,
    )

pub returns-else-is_empty : goal.returns-else-is_empty
returns-else-is_empty c =
    let a = c.args in
    let r = a.region in
    let s = rw c.order-order.ensures at c.in-Ok.ensures in
    let len = c.in-Ok.len in
    let f = rw c.order-order.ensures at c.attr_front-attr.ensures in
    let attr = c.attr_front-attr.result in
    let held = c.holds-content.result in
    let holds = content_so a.shape.order a.ctx r.left.now _ held attr.flags (ap (λ (e : Event). e.number) f.event) f.flags c.holds-content.ensures in
    let event = event_so a.shape.order a.ctx r.level r.place r.left.now attr.event held c.sort-sort.result f.event holds c.sort-sort.ensures in
    let h = start_of a.ctx r.level r.place r.left.now in
    let adds = added a.shape h a.counts.now c.add.new.self a.out.now c.add.new.out (record attr.event { sort = c.sort-sort.result }) attr.span event f.span c.add.ensures.event c.add.ensures.counts in
    let payload = attr.payload.now in
    subst (λ (k : Head). LeadsTo a.shape k a.counts.now c.add.new.self a.out.now c.add.new.out (head_of attr.rest) (lead.Opens c.inside.result)) (attrs_head r a.ctx c.requires.parts) (
      c.requires.some,
      attr_goes a.shape a.ctx r.level r.place r.left.now s.0 held holds len s.2 (sym c.container_fault.ensures ∙ c.in-None-container_fault.is),
      attr_inner a.shape a.ctx r.level r.place r.left.now s.0 held holds len s.2 payload f.payload
          ∙ region_inner held c.in-Some.parts (r.place + 4) (r.level + 1) payload c.in-Some.ensures
          ∙ ap Some (sym c.inside.ensures),
      f.rest,
      adds,
    )
