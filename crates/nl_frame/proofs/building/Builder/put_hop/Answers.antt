use Rattle.nl_frame.proofs.Common.{◌≡◌, ℕ, ℤ, to_z, List, Option, None, take, drop, reverse, arith, ap, subst, sym, ◌∙◌, w32, cast_unsigned, to_z-of_z, OpenHead, BuildError, BuilderTop, Built, answer, put_hop, Draft, Holds, Bounds, Parts, over, parts_with}
use Rattle.std.proofs.lemmas.Result.{on_ok_weaker}
use Rattle.nl_frame.specs.Draft as draft
use Rattle.nl_frame.proofs.Kept.{hop_puts, where_ok}
use Rattle.nl_frame.proofs.Opens.{are_open_more}
use Rattle.nl_frame.proofs.building.Builder.put_hop.Goals as goal

pub invariant_of-self : goal.invariant_of-self
invariant_of-self c =
    let i = c.self.inside in
    let p = c.args.self.now in
    let t = c.put_hop.new.self in
    let v = c.as_top-top.ensures.value in
    let had : c.as_top-top.result.len ≡ p.len = ap (λ (x : BuilderTop). x.len) v in
    let len : i.len ≡ p.len = ap (λ (x : Parts). x.len) c.self.view_is in
    let limit : i.limits.datagram ≡ p.bounds.datagram = ap (λ (x : Parts). x.bounds.datagram) c.self.view_is in
    let bounds : t.limits.datagram ≡ p.bounds.datagram = ap (λ (x : BuilderTop). x.limits.datagram) c.put_hop.ensures.rest ∙ ap (λ (x : BuilderTop). x.limits.datagram) v in
    (omega (arith, c.put_hop.ensures.fits.1, bounds, limit), are_open_more _ _ _ _ (omega (arith, c.put_hop.ensures.grows, had, len)) c.self.invariant.1)

pub returns-then-put_hop-clause-built : goal.returns-then-put_hop-clause-built
returns-then-put_hop-clause-built c =
    let i = c.self.inside in
    let p = c.args.self.now in
    let t = c.put_hop.new.self in
    let out = c.put_hop.new.out in
    let v = c.as_top-top.ensures.value in
    let f = c.args.flags in
    let h = c.args.hops in
    let n = c.args.number in
    let bs = c.args.bytes.now in
    let heads : reverse i.heads.items ≡ p.heads = ap (λ (x : Parts). x.heads) c.self.view_is in
    let limits : i.limits ≡ t.limits = ap (λ (x : Parts). x.bounds) c.self.view_is ∙ sym (ap (λ (x : BuilderTop). x.limits) c.put_hop.ensures.rest ∙ ap (λ (x : BuilderTop). x.limits) v) in
    let refusal : i.refusal ≡ t.refusal = ap (λ (x : Parts). x.refusal) c.self.view_is ∙ sym (ap (λ (x : BuilderTop). x.refusal) c.put_hop.ensures.rest ∙ ap (λ (x : BuilderTop). x.refusal) v) in
    let made : Bounds → List OpenHead → Option BuildError → Built = λ l hs r. record { bounds = l; front = take t.len out; free = drop t.len out; heads = hs; refusal = r } in
    let same : made i.limits (reverse i.heads.items) i.refusal ≡ over (parts_with t p.heads) out = ap (λ (l : Bounds). made l (reverse i.heads.items) i.refusal) limits ∙ ap (λ (hs : List OpenHead). made t.limits hs i.refusal) heads ∙ ap (made t.limits p.heads) refusal in
    same
    ∙ c.if-put_hop.ensures.built p.heads (sym (ap (λ (x : BuilderTop). x.head) v))
    ∙ ap (λ (x : BuilderTop). put_hop (over (parts_with x p.heads) c.args.out.now) f h (to_z w32 (cast_unsigned w32 c.args.ifindex)) n bs) v
    ∙ ap (λ (j : ℤ). put_hop (over p c.args.out.now) f h j n bs) (to_z-of_z w32 c.args.ifindex c.ranges.ifindex)

pub returns-then-put_hop-clause-answer : goal.returns-then-put_hop-clause-answer
returns-then-put_hop-clause-answer c =
    let none : c.self.inside.refusal ≡ None = ap (λ (x : Parts). x.refusal) c.self.view_is ∙ sym (ap (λ (x : BuilderTop). x.refusal) c.as_top-top.ensures.value) ∙ c.put_hop.ensures.none c.if-put_hop.true in
    sym (ap answer none)

pub returns-then-put_hop-clause-puts : goal.returns-then-put_hop-clause-puts
returns-then-put_hop-clause-puts c =
    where_ok _ _ _ (returns-then-put_hop-clause-answer c) (λ none d L h. hop_puts (over c.args.self.now c.args.out.now) _ d c.args.flags c.args.hops c.args.ifindex c.args.number c.args.bytes.now c.ranges.ifindex (returns-then-put_hop-clause-built c) none h)

pub returns-clause-puts : goal.returns-clause-puts
returns-clause-puts c =
    let p = c.args.self.now in
    let same = ap (λ (xs : List ℕ). over p xs) c.if-put_hop.ensures.built.1 in
    let index = to_z-of_z w32 c.args.ifindex c.ranges.ifindex in
    let put = λ (d : Draft) (j : ℤ). draft.put_hop d c.args.flags c.args.hops j c.args.number c.args.bytes.now in
    let new = over c.put_hop_by_parts.new.self c.put_hop_by_parts.new.out in
    on_ok_weaker c.put_hop_by_parts.result (λ given d L h. subst (λ (j : ℤ). Holds L new (put d j)) index (given d L (subst (λ (b : Built). Holds L b d) (sym same) h))) c.put_hop_by_parts.ensures.puts
