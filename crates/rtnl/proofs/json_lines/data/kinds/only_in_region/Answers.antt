use Rattle.rtnl.specs.Data.{payloads}
use Rattle.rtnl.proofs.Common.{◌++◌, ◌∙◌, ap, sym, subst, refl, Some}
use Rattle.nl_attr.specs.Walk.{GivesPart}
use Rattle.rtnl.proofs.Payloads.{first_found, found, none_follows, part_differs, part_faulty, part_matches, part_missing, two_found}
use Rattle.rtnl.proofs.json_lines.data.kinds.only_in_region.Goals as goal

pub returns-then-is_some : goal.returns-then-is_some
returns-then-is_some c =
    let so_far = c.loop-part.invariant in
    let it = c.loop-part.part-iterator in
    let next = c.next.new.self in
    let step = part_matches c.args.order c.args.number it next c.in-Ok.part so_far.0 (subst (λ r. GivesPart it (Some r) next) c.in-Ok.is c.in-Some.ensures.steps) c.if-part-number.true in
    two_found c.loop-part.only _ _ _ (sym c.is_some.ensures ∙ c.if-is_some.true) (sym (ap (λ xs. found c.loop-part.only ++ xs) step.1) ∙ so_far.1)

pub loop-part-preserved-then-part-number : goal.loop-part-preserved-then-part-number
loop-part-preserved-then-part-number c =
    let so_far = c.loop-part.invariant in
    let it = c.loop-part.part-iterator in
    let next = c.next.new.self in
    let step = part_matches c.args.order c.args.number it next c.in-Ok.part so_far.0 (subst (λ r. GivesPart it (Some r) next) c.in-Ok.is c.in-Some.ensures.steps) c.if-part-number.true in
    (step.0, first_found c.loop-part.only _ _ _ (sym c.is_some.ensures ∙ c.if-is_some.false) (sym (ap (λ xs. found c.loop-part.only ++ xs) step.1) ∙ so_far.1))

pub loop-part-preserved : goal.loop-part-preserved
loop-part-preserved c =
    let so_far = c.loop-part.invariant in
    let it = c.loop-part.part-iterator in
    let next = c.next.new.self in
    let step = part_differs c.args.order c.args.number it next c.in-Ok.part so_far.0 (subst (λ r. GivesPart it (Some r) next) c.in-Ok.is c.in-Some.ensures.steps) c.if-part-number.false in
    (step.0, sym (ap (λ xs. found c.loop-part.only ++ xs) step.1) ∙ so_far.1)

pub returns-in-Err : goal.returns-in-Err
returns-in-Err c =
    let so_far = c.loop-part.invariant in
    let it = c.loop-part.part-iterator in
    let next = c.next.new.self in
    let fault = subst (λ r. GivesPart it (Some r) next) c.in-Err.is c.in-Some.ensures.steps in
    ap (λ r. r.now) c.unwrap_or.ensures ∙ none_follows c.loop-part.only _ _ _ (ap (payloads c.args.number) (part_faulty c.args.order it next c.in-Err.field-0 so_far.0 fault)) so_far.1 refl

pub returns : goal.returns
returns c =
    let so_far = c.loop-part.invariant in
    let it = c.loop-part.part-iterator in
    let next = c.next.new.self in
    ap (λ r. r.now) c.unwrap_or-2.ensures ∙ none_follows c.loop-part.only _ _ _ (ap (payloads c.args.number) (part_missing c.args.order it next so_far.0 c.in-None.ensures.steps)) so_far.1 refl
