use Rattle.std.proofs.Common.{◌≡◌, ◌≤◌, ◌+◌, ◌-◌, ◌*◌, ℕ, List, length, take, drop, arith, length-drop, Result, Ok, Err, IfErr, sym, subst, rules}
use Rattle.std.specs.Prelude.{IsOkAnd, MatchResult}
use Rattle.std.proofs.Math.Nat.{mul-le-mul_left}
use Rattle.std.proofs.lemmas.List.{take_all}
use Rattle.nl_attr.specs.declared.fault.ListError.{ListError}
use Rattle.nl_attr.specs.declared.fault.ListError.TheVariants.{Layout, Memory}
use Rattle.nl_attr.specs.declared.tree.Ctx.{Ctx}
use Rattle.nl_attr.specs.Layout.{Fits}
use Rattle.nl_attr.specs.Shape.{Shape, shape_of}
use Rattle.nl_attr.specs.Tree.{Items}
use Rattle.nl_attr.specs.Outcomes.{IfLayout}
use Rattle.nl_attr.specs.Heads.{IsFirstFault}
use Rattle.nl_route.specs.Body.{attrs_of, IsObject}
use Rattle.nl_route.specs.Fields.{Field}
use Rattle.nl_route.proofs.object.Object.read_body_ordered.Goals as goal

-- what follows from a refusal follows from the same one of something else
same_refusal : {X Y E : Type 0} (Is : X → Y → Type 0) (P Q : E → Type 0) (r : Result X E) (s : Result Y E) →
    MatchResult r (λ x. IsOkAnd s (Is x)) (λ e. s ≡ Err e) → ((e : E) → P e → Q e) → IfErr r P → IfErr s Q
same_refusal Is P Q (Ok x) (Ok y) cases f p = tt
same_refusal Is P Q (Ok x) (Err e) cases f p = absurd cases
same_refusal Is P Q (Err e) s cases f p = subst (λ x. IfErr x Q) (sym cases) (f e p)

-- where no list fits what is behind the head, no body is there
no_body : {H : Type 0} (S : Shape) (size : ℕ) (ctx : Ctx) (fields : H → List Field) (bytes : List ℕ) (e : ListError) → IfLayout e (λ _. (is : Items) → Fits S is (drop size bytes) ctx 0 → ⊥)
    → IfLayout e (λ _. (h : H) (is : Items) → IsObject S size (fields h) ctx is bytes → ⊥)
no_body S size ctx fields bytes (Layout f) none = λ h is o. none is o.2
no_body S size ctx fields bytes Memory none = tt

pub returns : goal.returns
returns g c =
    let b : List ℕ = c.args.bytes.now in
    let n : ℕ = g.H.Head.SIZE in
    let e : take (length b - n) (drop n b) ≡ drop n b = take_all (length b - n) (drop n b) (omega (arith, length-drop n b)) in
    let shorter : length (drop n b) ≤ length b = omega (arith, length-drop n b) in
    let levels : c.args.depth - 0 + 1 ≡ c.args.depth + 1 = omega arith in
    let r = rw (c.context.ensures, c.SIZE.ensures, c.SIZE-2.ensures, e) at c.read_list_ordered.ensures in
    let bounded : c.read_list_ordered.result.visits ≤ (c.args.depth + 1) * length (drop n b) = rw levels at r.bound in
    let Is : ListError → Type 0 = λ x. IfLayout x (λ f. IsFirstFault (shape_of c.args.order c.args.depth) (attrs_of n g.H.Head.ctx c.args.base b) f.place f.reason) in
    record {
      outcome = search (rules, r.outcome);
      fits = search (rules, r.fits);
      only = search (rules, r.only);
      first = same_refusal _ Is Is c.read_list_ordered.result.result c.map.result.result c.map.ensures.cases (λ x h. h) r.first;
      none = same_refusal _ _ _ c.read_list_ordered.result.result c.map.result.result c.map.ensures.cases (no_body (shape_of c.args.order c.args.depth) n g.H.Head.ctx g.H.Head.fields b) r.none;
      visits = search (rules, r.visits);
      bound = omega (arith, c.map.ensures.visits, bounded, mul-le-mul_left (c.args.depth + 1) shorter);
      kept = search (rules, r.kept);
    }
