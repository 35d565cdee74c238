use Rattle.nl_mirror.proofs.Common.{IfErr, IfOk, ◌≡◌, is_some, ap, ◌∙◌, subst, Family, body_view, message_view, body_item, Mirrored, is_own, IsShort, IsUpdate, OneHears}
use Rattle.nl_route.specs.declared.family.Family.TheVariants.{Link, Addr, Route, Neigh, Rule}
use Rattle.nl_attr.specs.View.{attrs_view}
use Rattle.nl_route.specs.Families.{any, same_family}
use Rattle.nl_mirror.proofs.Fives.{mirrored, settings, own_link, own_addr, own_route, own_neigh, own_of, own_room, own_rule, update_own}
use Rattle.nl_mirror.proofs.mirror.Mirror.hear_own.Goals as goal

pub returns-in-Link-clause-heard : goal.returns-in-Link-clause-heard
returns-in-Link-clause-heard c =
    let m = c.self.inside in
    let v = message_view c.args.message in
    let is : (k : Family) → is_own k v ≡ same_family k Link = λ k. ap (λ b. is_some (body_item k (body_view b))) c.in-Link.is ∙ own_of k (any Link c.in-Link.field-0.head) (attrs_view c.in-Link.field-0.attrs.items) in
    subst (λ (f : Mirrored). OneHears c.hear.result f v (mirrored (settings m.limits m.last) c.hear.new.self m.addrs m.routes m.neighs m.rules)) c.self.view_is
    (own_link (settings m.limits m.last) m.links c.hear.new.self m.addrs m.addrs m.routes m.routes m.neighs m.neighs m.rules m.rules v c.hear.result is c.hear.ensures.heard)

pub returns-in-Link-clause-update : goal.returns-in-Link-clause-update
returns-in-Link-clause-update c =
    let m = c.self.inside in
    let v = message_view c.args.message in
    let is : (k : Family) → is_own k v ≡ same_family k Link = λ k. ap (λ b. is_some (body_item k (body_view b))) c.in-Link.is ∙ own_of k (any Link c.in-Link.field-0.head) (attrs_view c.in-Link.field-0.attrs.items) in
    subst (λ (f : Mirrored). IfOk c.hear.result (IsUpdate f v)) c.self.view_is
    (update_own c.hear.result Link (mirrored (settings m.limits m.last) m.links m.addrs m.routes m.neighs m.rules) v is c.hear.ensures.update)

pub returns-in-Addr-clause-heard : goal.returns-in-Addr-clause-heard
returns-in-Addr-clause-heard c =
    let m = c.self.inside in
    let v = message_view c.args.message in
    let is : (k : Family) → is_own k v ≡ same_family k Addr = λ k. ap (λ b. is_some (body_item k (body_view b))) c.in-Addr.is ∙ own_of k (any Addr c.in-Addr.field-0.head) (attrs_view c.in-Addr.field-0.attrs.items) in
    subst (λ (f : Mirrored). OneHears c.hear-in-Addr.result f v (mirrored (settings m.limits m.last) m.links c.hear-in-Addr.new.self m.routes m.neighs m.rules)) c.self.view_is
    (own_addr (settings m.limits m.last) m.links m.links m.addrs c.hear-in-Addr.new.self m.routes m.routes m.neighs m.neighs m.rules m.rules v c.hear-in-Addr.result is c.hear-in-Addr.ensures.heard)

pub returns-in-Addr-clause-update : goal.returns-in-Addr-clause-update
returns-in-Addr-clause-update c =
    let m = c.self.inside in
    let v = message_view c.args.message in
    let is : (k : Family) → is_own k v ≡ same_family k Addr = λ k. ap (λ b. is_some (body_item k (body_view b))) c.in-Addr.is ∙ own_of k (any Addr c.in-Addr.field-0.head) (attrs_view c.in-Addr.field-0.attrs.items) in
    subst (λ (f : Mirrored). IfOk c.hear-in-Addr.result (IsUpdate f v)) c.self.view_is
    (update_own c.hear-in-Addr.result Addr (mirrored (settings m.limits m.last) m.links m.addrs m.routes m.neighs m.rules) v is c.hear-in-Addr.ensures.update)

pub returns-in-Route-clause-heard : goal.returns-in-Route-clause-heard
returns-in-Route-clause-heard c =
    let m = c.self.inside in
    let v = message_view c.args.message in
    let is : (k : Family) → is_own k v ≡ same_family k Route = λ k. ap (λ b. is_some (body_item k (body_view b))) c.in-Route.is ∙ own_of k (any Route c.in-Route.field-0.head) (attrs_view c.in-Route.field-0.attrs.items) in
    subst (λ (f : Mirrored). OneHears c.hear-in-Route.result f v (mirrored (settings m.limits m.last) m.links m.addrs c.hear-in-Route.new.self m.neighs m.rules)) c.self.view_is
    (own_route (settings m.limits m.last) m.links m.links m.addrs m.addrs m.routes c.hear-in-Route.new.self m.neighs m.neighs m.rules m.rules v c.hear-in-Route.result is c.hear-in-Route.ensures.heard)

pub returns-in-Route-clause-update : goal.returns-in-Route-clause-update
returns-in-Route-clause-update c =
    let m = c.self.inside in
    let v = message_view c.args.message in
    let is : (k : Family) → is_own k v ≡ same_family k Route = λ k. ap (λ b. is_some (body_item k (body_view b))) c.in-Route.is ∙ own_of k (any Route c.in-Route.field-0.head) (attrs_view c.in-Route.field-0.attrs.items) in
    subst (λ (f : Mirrored). IfOk c.hear-in-Route.result (IsUpdate f v)) c.self.view_is
    (update_own c.hear-in-Route.result Route (mirrored (settings m.limits m.last) m.links m.addrs m.routes m.neighs m.rules) v is c.hear-in-Route.ensures.update)

pub returns-in-Neigh-clause-heard : goal.returns-in-Neigh-clause-heard
returns-in-Neigh-clause-heard c =
    let m = c.self.inside in
    let v = message_view c.args.message in
    let is : (k : Family) → is_own k v ≡ same_family k Neigh = λ k. ap (λ b. is_some (body_item k (body_view b))) c.in-Neigh.is ∙ own_of k (any Neigh c.in-Neigh.field-0.head) (attrs_view c.in-Neigh.field-0.attrs.items) in
    subst (λ (f : Mirrored). OneHears c.hear-in-Neigh.result f v (mirrored (settings m.limits m.last) m.links m.addrs m.routes c.hear-in-Neigh.new.self m.rules)) c.self.view_is
    (own_neigh (settings m.limits m.last) m.links m.links m.addrs m.addrs m.routes m.routes m.neighs c.hear-in-Neigh.new.self m.rules m.rules v c.hear-in-Neigh.result is c.hear-in-Neigh.ensures.heard)

pub returns-in-Neigh-clause-update : goal.returns-in-Neigh-clause-update
returns-in-Neigh-clause-update c =
    let m = c.self.inside in
    let v = message_view c.args.message in
    let is : (k : Family) → is_own k v ≡ same_family k Neigh = λ k. ap (λ b. is_some (body_item k (body_view b))) c.in-Neigh.is ∙ own_of k (any Neigh c.in-Neigh.field-0.head) (attrs_view c.in-Neigh.field-0.attrs.items) in
    subst (λ (f : Mirrored). IfOk c.hear-in-Neigh.result (IsUpdate f v)) c.self.view_is
    (update_own c.hear-in-Neigh.result Neigh (mirrored (settings m.limits m.last) m.links m.addrs m.routes m.neighs m.rules) v is c.hear-in-Neigh.ensures.update)

pub returns-in-Rule-clause-heard : goal.returns-in-Rule-clause-heard
returns-in-Rule-clause-heard c =
    let m = c.self.inside in
    let v = message_view c.args.message in
    let is : (k : Family) → is_own k v ≡ same_family k Rule = λ k. ap (λ b. is_some (body_item k (body_view b))) c.in-Rule.is ∙ own_of k (any Rule c.in-Rule.field-0.head) (attrs_view c.in-Rule.field-0.attrs.items) in
    subst (λ (f : Mirrored). OneHears c.hear-in-Rule.result f v (mirrored (settings m.limits m.last) m.links m.addrs m.routes m.neighs c.hear-in-Rule.new.self)) c.self.view_is
    (own_rule (settings m.limits m.last) m.links m.links m.addrs m.addrs m.routes m.routes m.neighs m.neighs m.rules c.hear-in-Rule.new.self v c.hear-in-Rule.result is c.hear-in-Rule.ensures.heard)

pub returns-in-Rule-clause-update : goal.returns-in-Rule-clause-update
returns-in-Rule-clause-update c =
    let m = c.self.inside in
    let v = message_view c.args.message in
    let is : (k : Family) → is_own k v ≡ same_family k Rule = λ k. ap (λ b. is_some (body_item k (body_view b))) c.in-Rule.is ∙ own_of k (any Rule c.in-Rule.field-0.head) (attrs_view c.in-Rule.field-0.attrs.items) in
    subst (λ (f : Mirrored). IfOk c.hear-in-Rule.result (IsUpdate f v)) c.self.view_is
    (update_own c.hear-in-Rule.result Rule (mirrored (settings m.limits m.last) m.links m.addrs m.routes m.neighs m.rules) v is c.hear-in-Rule.ensures.update)

pub returns-in-Link-clause-room : goal.returns-in-Link-clause-room
returns-in-Link-clause-room c =
    let m = c.self.inside in
    let v = message_view c.args.message in
    let is : (k : Family) → is_own k v ≡ same_family k Link = λ k. ap (λ b. is_some (body_item k (body_view b))) c.in-Link.is ∙ own_of k (any Link c.in-Link.field-0.head) (attrs_view c.in-Link.field-0.attrs.items) in
    subst (λ (f : Mirrored). IfErr c.hear.result (IsShort f v)) c.self.view_is
    (own_room c.hear.result Link (mirrored (settings m.limits m.last) m.links m.addrs m.routes m.neighs m.rules) v is c.hear.ensures.room c.hear.ensures.memory)

pub returns-in-Addr-clause-room : goal.returns-in-Addr-clause-room
returns-in-Addr-clause-room c =
    let m = c.self.inside in
    let v = message_view c.args.message in
    let is : (k : Family) → is_own k v ≡ same_family k Addr = λ k. ap (λ b. is_some (body_item k (body_view b))) c.in-Addr.is ∙ own_of k (any Addr c.in-Addr.field-0.head) (attrs_view c.in-Addr.field-0.attrs.items) in
    subst (λ (f : Mirrored). IfErr c.hear-in-Addr.result (IsShort f v)) c.self.view_is
    (own_room c.hear-in-Addr.result Addr (mirrored (settings m.limits m.last) m.links m.addrs m.routes m.neighs m.rules) v is c.hear-in-Addr.ensures.room c.hear-in-Addr.ensures.memory)

pub returns-in-Route-clause-room : goal.returns-in-Route-clause-room
returns-in-Route-clause-room c =
    let m = c.self.inside in
    let v = message_view c.args.message in
    let is : (k : Family) → is_own k v ≡ same_family k Route = λ k. ap (λ b. is_some (body_item k (body_view b))) c.in-Route.is ∙ own_of k (any Route c.in-Route.field-0.head) (attrs_view c.in-Route.field-0.attrs.items) in
    subst (λ (f : Mirrored). IfErr c.hear-in-Route.result (IsShort f v)) c.self.view_is
    (own_room c.hear-in-Route.result Route (mirrored (settings m.limits m.last) m.links m.addrs m.routes m.neighs m.rules) v is c.hear-in-Route.ensures.room c.hear-in-Route.ensures.memory)

pub returns-in-Neigh-clause-room : goal.returns-in-Neigh-clause-room
returns-in-Neigh-clause-room c =
    let m = c.self.inside in
    let v = message_view c.args.message in
    let is : (k : Family) → is_own k v ≡ same_family k Neigh = λ k. ap (λ b. is_some (body_item k (body_view b))) c.in-Neigh.is ∙ own_of k (any Neigh c.in-Neigh.field-0.head) (attrs_view c.in-Neigh.field-0.attrs.items) in
    subst (λ (f : Mirrored). IfErr c.hear-in-Neigh.result (IsShort f v)) c.self.view_is
    (own_room c.hear-in-Neigh.result Neigh (mirrored (settings m.limits m.last) m.links m.addrs m.routes m.neighs m.rules) v is c.hear-in-Neigh.ensures.room c.hear-in-Neigh.ensures.memory)

pub returns-in-Rule-clause-room : goal.returns-in-Rule-clause-room
returns-in-Rule-clause-room c =
    let m = c.self.inside in
    let v = message_view c.args.message in
    let is : (k : Family) → is_own k v ≡ same_family k Rule = λ k. ap (λ b. is_some (body_item k (body_view b))) c.in-Rule.is ∙ own_of k (any Rule c.in-Rule.field-0.head) (attrs_view c.in-Rule.field-0.attrs.items) in
    subst (λ (f : Mirrored). IfErr c.hear-in-Rule.result (IsShort f v)) c.self.view_is
    (own_room c.hear-in-Rule.result Rule (mirrored (settings m.limits m.last) m.links m.addrs m.routes m.neighs m.rules) v is c.hear-in-Rule.ensures.room c.hear-in-Rule.ensures.memory)
