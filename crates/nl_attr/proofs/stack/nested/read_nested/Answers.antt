use Rattle.nl_attr.proofs.Common.{◌≡◌, ◌+◌, suc, List, [], ◌∷◌, ◌++◌, length, arith, rules, ap, subst, length-append, option_to_list, Vec, Attr, attrs_view, opening_rest, list_spot, PutsOn}
use Rattle.nl_attr.specs.declared.stack.nested.Outer.{Outer}
use Rattle.nl_attr.proofs.Lemmas.Nested.{within, has_room, is_low, puts, between_room, fails_outcome, fails_on, fails_visits, opens, ends, ends_all, still, nested_begins, next_moves_work, work_closes, work_opens}
use Rattle.nl_attr.proofs.stack.nested.read_nested.Goals as goal

pub regions-init : goal.regions-init
regions-init c =
    let S = c.args.shape in
    let one : c.push.new.self.items ≡ c.args.outermost ∷ [] = search rules in
    let p = subst (λ (hs : List Outer). PutsOn hs c.in_ok-next.next c.put_on-top.new.stack.items c.put_on-top.result) one c.put_on-top.ensures in
    puts c.open.new.visits (suc (length c.args.region.walk.left) + suc (length c.args.opening.payload.now)) c.in_ok-next.next c.put_on-top.new.stack.items c.put_on-top.result
    (nested_begins S c.args.visits.now c.args.outermost c.args.region (opening_rest S c.args.region c.args.opening) c.requires.lies) c.in_ok-next.ensures.goes c.in_ok-next.ensures.moves p

pub read_attrs-requires-clause-limits : goal.read_attrs-requires-clause-limits
read_attrs-requires-clause-limits c = within c.regions.invariant

pub read_attrs-requires-clause-room : goal.read_attrs-requires-clause-room
read_attrs-requires-clause-room c = omega (arith, has_room c.regions.invariant, c.requires.room)

pub returns-in-None-clause-outcome : goal.returns-in-None-clause-outcome
returns-in-None-clause-outcome c =
    let none : c.regions.stack.items ≡ [] = search rules in
    ends_all c.read_attrs.new.visits (attrs_view c.read_attrs.new.region.list.items) c.regions.invariant none c.in-Ends.ensures.goes

pub returns-in-None-clause-bound : goal.returns-in-None-clause-bound
returns-in-None-clause-bound c = omega (arith, has_room c.regions.invariant, ap (λ o. o.1) c.in-Ends.ensures.goes)

pub close-requires-clause-holds : goal.close-requires-clause-holds
close-requires-clause-holds c =
    (ends c.read_attrs.new.visits (attrs_view c.read_attrs.new.region.list.items) c.pop.new.self.items c.in-Some.outer c.regions.invariant (subst (λ x. c.regions.stack.items ≡ c.pop.new.self.items ++ option_to_list x) c.in-Some.is c.pop.ensures.items) c.in-Ends.ensures.goes).1

pub close-requires-clause-room : goal.close-requires-clause-room
close-requires-clause-room c =
    let b = ends c.read_attrs.new.visits (attrs_view c.read_attrs.new.region.list.items) c.pop.new.self.items c.in-Some.outer c.regions.invariant (subst (λ x. c.regions.stack.items ≡ c.pop.new.self.items ++ option_to_list x) c.in-Some.is c.pop.ensures.items) c.in-Ends.ensures.goes in
    omega (arith, between_room b.0, c.requires.room)

pub put_on-top-requires-in-Some : goal.put_on-top-requires-in-Some
put_on-top-requires-in-Some c =
    let low = is_low c.regions.invariant c.requires.limit in
    let fewer = ap length (subst (λ x. c.regions.stack.items ≡ c.pop.new.self.items ++ option_to_list x) c.in-Some.is c.pop.ensures.items) in
    omega (arith, low, fewer, length-append c.pop.new.self.items (c.in-Some.outer ∷ []))

pub regions-smaller-in-Some : goal.regions-smaller-in-Some
regions-smaller-in-Some c =
    work_closes c.regions.stack.items c.pop.new.self.items c.regions.top c.in-Some.outer c.in_ok-next-in-Some.next c.put_on-top-in-Some.new.stack.items c.put_on-top-in-Some.result (subst (λ x. c.regions.stack.items ≡ c.pop.new.self.items ++ option_to_list x) c.in-Some.is c.pop.ensures.items) c.put_on-top-in-Some.ensures (next_moves_work _ _ _ c.in_ok-next-in-Some.next c.in_ok-next-in-Some.ensures.moves)

pub regions-preserved-in-Some : goal.regions-preserved-in-Some
regions-preserved-in-Some c =
    let b = ends c.read_attrs.new.visits (attrs_view c.read_attrs.new.region.list.items) c.pop.new.self.items c.in-Some.outer c.regions.invariant (subst (λ x. c.regions.stack.items ≡ c.pop.new.self.items ++ option_to_list x) c.in-Some.is c.pop.ensures.items) c.in-Ends.ensures.goes in
    puts c.close.new.visits _ c.in_ok-next-in-Some.next c.put_on-top-in-Some.new.stack.items c.put_on-top-in-Some.result b.0 c.in_ok-next-in-Some.ensures.goes c.in_ok-next-in-Some.ensures.moves c.put_on-top-in-Some.ensures

pub returns-in_err-next-in-Some-clause-outcome : goal.returns-in_err-next-in-Some-clause-outcome
returns-in_err-next-in-Some-clause-outcome c =
    let b = ends c.read_attrs.new.visits (attrs_view c.read_attrs.new.region.list.items) c.pop.new.self.items c.in-Some.outer c.regions.invariant (subst (λ x. c.regions.stack.items ≡ c.pop.new.self.items ++ option_to_list x) c.in-Some.is c.pop.ensures.items) c.in-Ends.ensures.goes in
    fails_on (λ (v : Vec Attr). attrs_view v.items) c.close.new.visits c.from_residual-in_err-next-in-Some.result c.in_err-next-in-Some.field-0.0 c.from_residual-in_err-next-in-Some.ensures.1 b.0 c.in_err-next-in-Some.ensures.goes

pub returns-in_err-next-in-Some-clause-bound : goal.returns-in_err-next-in-Some-clause-bound
returns-in_err-next-in-Some-clause-bound c =
    let b = ends c.read_attrs.new.visits (attrs_view c.read_attrs.new.region.list.items) c.pop.new.self.items c.in-Some.outer c.regions.invariant (subst (λ x. c.regions.stack.items ≡ c.pop.new.self.items ++ option_to_list x) c.in-Some.is c.pop.ensures.items) c.in-Ends.ensures.goes in
    fails_visits c.close.new.visits c.in_err-next-in-Some.field-0.0 b.0 c.in_err-next-in-Some.ensures.goes

pub open-requires-in-Opens-clause-room : goal.open-requires-in-Opens-clause-room
open-requires-in-Opens-clause-room c =
    let r = c.read_attrs.new.region in
    let b = opens c.read_attrs.new.visits (opening_rest c.args.shape r c.in-Opens.opening) (list_spot r) c.regions.invariant c.in-Opens.ensures.goes c.in-Opens.ensures.moves.0 in
    omega (arith, between_room b, c.requires.room)

pub put_on-top-requires-in-Opens : goal.put_on-top-requires-in-Opens
put_on-top-requires-in-Opens c = is_low c.regions.invariant c.requires.limit

pub regions-smaller : goal.regions-smaller
regions-smaller c =
    work_opens c.regions.stack.items c.regions.top (length c.read_attrs.new.region.walk.left) (length c.in-Opens.opening.payload.now) c.in_ok-next-in-Opens.next c.put_on-top-in-Opens.new.stack.items c.put_on-top-in-Opens.result c.in-Opens.ensures.moves.2 c.put_on-top-in-Opens.ensures (next_moves_work _ _ _ c.in_ok-next-in-Opens.next c.in_ok-next-in-Opens.ensures.moves)

pub regions-preserved : goal.regions-preserved
regions-preserved c =
    let r = c.read_attrs.new.region in
    let b = opens c.read_attrs.new.visits (opening_rest c.args.shape r c.in-Opens.opening) (list_spot r) c.regions.invariant c.in-Opens.ensures.goes c.in-Opens.ensures.moves.0 in
    puts c.open-in-Opens.new.visits _ c.in_ok-next-in-Opens.next c.put_on-top-in-Opens.new.stack.items c.put_on-top-in-Opens.result b c.in_ok-next-in-Opens.ensures.goes c.in_ok-next-in-Opens.ensures.moves c.put_on-top-in-Opens.ensures

pub returns-in_err-next-in-Opens-clause-outcome : goal.returns-in_err-next-in-Opens-clause-outcome
returns-in_err-next-in-Opens-clause-outcome c =
    let r = c.read_attrs.new.region in
    let b = opens c.read_attrs.new.visits (opening_rest c.args.shape r c.in-Opens.opening) (list_spot r) c.regions.invariant c.in-Opens.ensures.goes c.in-Opens.ensures.moves.0 in
    fails_on (λ (v : Vec Attr). attrs_view v.items) c.open-in-Opens.new.visits c.from_residual-in_err-next-in-Opens.result c.in_err-next-in-Opens.field-0.0 c.from_residual-in_err-next-in-Opens.ensures.1 b c.in_err-next-in-Opens.ensures.goes

pub returns-in_err-next-in-Opens-clause-bound : goal.returns-in_err-next-in-Opens-clause-bound
returns-in_err-next-in-Opens-clause-bound c =
    let r = c.read_attrs.new.region in
    let b = opens c.read_attrs.new.visits (opening_rest c.args.shape r c.in-Opens.opening) (list_spot r) c.regions.invariant c.in-Opens.ensures.goes c.in-Opens.ensures.moves.0 in
    fails_visits c.open-in-Opens.new.visits c.in_err-next-in-Opens.field-0.0 b c.in_err-next-in-Opens.ensures.goes

pub returns-in-Fails-clause-outcome : goal.returns-in-Fails-clause-outcome
returns-in-Fails-clause-outcome c =
    fails_outcome (λ (v : Vec Attr). attrs_view v.items) c.read_attrs.new.visits c.in-Fails.error (still c.regions.invariant) c.in-Fails.ensures.goes

pub returns-in-Fails-clause-bound : goal.returns-in-Fails-clause-bound
returns-in-Fails-clause-bound c = fails_visits c.read_attrs.new.visits c.in-Fails.error (still c.regions.invariant) c.in-Fails.ensures.goes
