use Rattle.nl_frame.proofs.Common.{◌≡◌, ◌∷◌, ◌≤◌, ◌+◌, ◌++◌, ℕ, List, [], length, arith, ◌∙◌, ap, sym, None, Ctx, Order, Family, context_of, family_of, fields_of, head_size, length-written, OpenHead, BuilderTop, header_fields, any_head, Built, begin_refusal, grown, header_begun, lacks, levels_in, opened, or_next, order_of, top, over, parts_with}
use Rattle.nl_attr.specs.declared.tree.Content.TheVariants as content
use Rattle.nl_route.specs.Fields as fields
use Rattle.nl_frame.proofs.Opens.{begin_allowed, begins, lacks_after, lacks_less, opened_more}
use Rattle.nl_frame.proofs.Tops.{has_opened, one_more_open}
use Rattle.nl_frame.proofs.building.top.BuilderTop.begin.Goals as goal
use Rattle.nl_frame.proofs.building.top.BuilderTop.begin.Goals.{After-bytes-front, After-accept_head}

-- the call is not refused
goes : (c : After-bytes-front) (hs : List OpenHead) → top hs ≡ c.args.self.now.head → or_next c.args.self.now.refusal (begin_refusal (over (parts_with c.args.self.now hs) c.args.out.now) hs c.args.kind (family_of (any_head c.args.head.now))) ≡ None
goes c hs e =
    let b = over (parts_with c.args.self.now hs) c.args.out.now in
    ap (λ (g : Family). or_next b.refusal (begin_refusal b hs c.args.kind g)) (sym c.family-family.ensures) ∙ sym (c.begin_refusal.ensures.value hs e) ∙ c.in_default.is

-- the header has 16 bytes
sixteen : (c : After-bytes-front) → length c.bytes-front.result ≡ 16
sixteen c = ap (length {A = ℕ}) c.bytes-front.ensures ∙ length-written c.order.result (header_fields (header_begun c.args.kind c.args.flags c.args.seq c.args.port))

room : (c : After-bytes-front) → lacks (over (parts_with c.args.self.now []) c.args.out.now) (16 + head_size (family_of (any_head c.args.head.now))) ≡ None
room c = ap (λ (g : Family). lacks (over (parts_with c.args.self.now []) c.args.out.now) (16 + head_size g)) (sym c.family-family.ensures) ∙ c.in_default.ensures.room

pub open_head-opened-requires-clause-lacks : goal.open_head-opened-requires-clause-lacks
open_head-opened-requires-clause-lacks c =
    let p = (goal.at.open_head-opened-requires-clause-lacks c).After-bytes-front in
    let le : length c.bytes-front.result ≤ 16 + head_size (family_of (any_head c.args.head.now)) = omega (arith, sixteen p) in
    lacks_less (over (parts_with c.args.self.now []) c.args.out.now) _ _ (room p) le

pub accept_head-requires-clause-lacks : goal.accept_head-requires-clause-lacks
accept_head-requires-clause-lacks c =
    let p = (goal.at.accept_head-requires-clause-lacks c).After-bytes-front in
    let b = over (parts_with c.args.self.now []) c.args.out.now in
    let m = head_size (family_of (any_head c.args.head.now)) in
    let all : length c.bytes-front.result + m ≡ 16 + m = ap (λ k. k + m) (sixteen p) in
    ap (λ (x : Built). lacks x m) (c.open_head-opened.ensures.built []) ∙ lacks_after b c.bytes-front.result (content.List c.row.result.context) (16 + m) m (room p) all

-- what is built, whatever heads are open
made : (c : After-accept_head) (hs : List OpenHead) → over (parts_with c.accept_head.new.self (c.open_head-opened.result ∷ hs)) c.accept_head.new.out
    ≡ opened (over (parts_with c.args.self.now hs) c.args.out.now) (content.List c.row.result.context) (c.bytes-front.result ++ fields.written c.args.self.now.limits.shape.order (fields_of (any_head c.args.head.now)))
made c hs =
    let b = over (parts_with c.args.self.now hs) c.args.out.now in
    let head = any_head c.args.head.now in
    let tail = fields.written (order_of b) (fields_of head) in
    c.accept_head.ensures.built (c.open_head-opened.result ∷ hs) ∙ ap (λ (x : Built). grown x (fields.written (order_of x) (fields_of head))) (c.open_head-opened.ensures.built hs)
    ∙ opened_more b (content.List c.row.result.context) c.bytes-front.result tail

pub returns-clause-built : goal.returns-clause-built
returns-clause-built c = λ hs e.
    let p = (goal.at.returns-clause-built c).After-bytes-front in
    let q = (goal.at.returns-clause-built c).After-accept_head in
    let b = over (parts_with c.args.self.now hs) c.args.out.now in
    let head = any_head c.args.head.now in
    let front = c.bytes-front.result in
    let tail = fields.written (order_of b) (fields_of head) in
    let ctx : c.row.result.context ≡ context_of (family_of head) = c.row.ensures.context ∙ ap context_of c.family-family.ensures in
    let is = c.bytes-front.ensures ∙ ap (λ (x : Order). fields.written x (header_fields (header_begun c.args.kind c.args.flags c.args.seq c.args.port))) c.order.ensures in
    begins b _ c.args.kind c.args.flags c.args.seq c.args.port head (goes p hs e)
    (made q hs ∙ ap (λ (x : Ctx). opened b (content.List x) (front ++ tail)) ctx ∙ ap (λ (xs : List ℕ). opened b (content.List (context_of (family_of head))) (xs ++ tail)) is)

pub returns-clause-inside : goal.returns-clause-inside
returns-clause-inside c = λ hs e o.
    let p = (goal.at.returns-clause-inside c).After-bytes-front in
    let start = ap (λ (x : OpenHead). x.start) c.open_head-opened.ensures.value in
    let which = ap (λ (x : OpenHead). levels_in x.content) c.open_head-opened.ensures.value in
    let none = ap (length {A = OpenHead}) (begin_allowed (over (parts_with c.args.self.now hs) c.args.out.now) c.args.kind (family_of (any_head c.args.head.now)) (goes p hs e)).0 in
    let grows = c.open_head-opened.ensures.grows in
    let more = c.accept_head.ensures.grows in
    one_more_open _ _ _ c.open_head-opened.result hs (omega (arith, start, grows, more, sixteen p)) (omega (arith, none, which)) (omega (arith, grows, more)) o

pub returns-clause-opens : goal.returns-clause-opens
returns-clause-opens c =
    let q = (goal.at.returns-clause-opens c).After-accept_head in
    let rest = c.accept_head.ensures.rest ∙ ap (λ (t : BuilderTop). record t { len = c.accept_head.new.self.len }) c.open_head-opened.ensures.rest in
    has_opened _ _ _ _ c.open_head-opened.result (content.List c.row.result.context) _ c.requires.fits c.accept_head.ensures.fits (made q []) rest c.in_default.ensures.first
